use Rattle.std.proofs.Common.{◌≡◌, ◌*◌, ◌≤◌}
use Rattle.fsck.specs.Sets.{member, counted}
use Rattle.fsck.proofs.block_set.BlockSet.count.Given as goal

abbrev pub invariant-loop-word : goal.invariant-loop-word
invariant-loop-word l = (l.n ≤ 64 * l.word-index) × (l.n ≡ counted (member l.self) 0 (64 * l.word-index))
