use Rattle.std.proofs.Common.{◌||◌, eqb, get_or, ap, ◌∙◌}
use Rattle.fsck.specs.Sets.{member}
use Rattle.fsck.proofs.Judging.{has-take_more}
use Rattle.fsck.proofs.usage.insert_all.Goals as goal

pub loop-b-preserved : goal.loop-b-preserved
loop-b-preserved c k =
    let bs = c.args.blocks.now in
    let i = c.loop-b.b-index in
    c.insert.ensures k ∙ ap (λ t. eqb k (get_or bs i 0) || t) (c.loop-b.invariant k) ∙ has-take_more bs i k (member c.args.set.now k) c.loop-b-test.true
