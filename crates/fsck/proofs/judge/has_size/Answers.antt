use Rattle.std.proofs.Common.{arith}
use Rattle.std.proofs.lemmas.Bool.Decides.{nat_tests}
use Rattle.fsck.specs.Blocks.{size}
use Rattle.fsck.specs.Sound.{size_ok}
use Rattle.fsck.proofs.judge.has_size.Goals as goal

pub returns-then-disk-eq0 : goal.returns-then-disk-eq0
unfolding size_ok size
returns-then-disk-eq0 c = grind (arith, nat_tests, c.contains.ensures)

pub returns-else-disk-eq0 : goal.returns-else-disk-eq0
unfolding size_ok size
returns-else-disk-eq0 c = grind (arith, nat_tests)
