use Rattle.std.proofs.Common.{eqb, ap, ◌∙◌}
use Rattle.std.proofs.lemmas.Nat.{and_mask}
use Rattle.fsck.specs.Sets.{member}
use Rattle.fsck.proofs.block_set.BlockSet.contains.Goals as goal

pub returns : goal.returns
unfolding member
returns c = ap (λ x. eqb x 1) (and_mask _ 1) ∙ ap (member c.args.self.now) c.from-b.ensures
