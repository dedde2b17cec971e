use Rattle.std.proofs.Common.{◌≡◌, ◌*◌, refl, ap, ◌∙◌, arith, rules}
use Rattle.std.proofs.lemmas.Nat.{ones-le}
use Rattle.fsck.specs.Sets.{member, counted}
use Rattle.fsck.proofs.WordBits.{counted-word_more}
use Rattle.fsck.proofs.block_set.BlockSet.count.Goals as goal

pub loop-word-init : goal.loop-word-init
unfolding counted
loop-word-init c = (omega arith, refl)

pub overflow_cast-n : goal.overflow_cast-n
overflow_cast-n c = grind (arith, ones-le 64)

pub overflow_add-n : goal.overflow_add-n
overflow_add-n c = grind (arith, ones-le 64)

pub loop-word-preserved : goal.loop-word-preserved
loop-word-preserved c = (grind (arith, ones-le 64), omega (arith, counted-word_more c.args.self.now c.loop-word.word-index (search rules)))

pub returns : goal.returns
returns c =
    let all : 64 * c.loop-word.word-index ≡ 256 = omega arith in
    c.loop-word.invariant.1 ∙ ap (counted (member c.args.self.now) 0) all
