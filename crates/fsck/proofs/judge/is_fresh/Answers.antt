use Rattle.std.proofs.Common.{arith}
use Rattle.std.proofs.lemmas.Bool.Decides.{nat_tests}
use Rattle.fsck.specs.Sound.{block_ok}
use Rattle.fsck.proofs.judge.is_fresh.Goals as goal

pub returns-then-contains : goal.returns-then-contains
unfolding block_ok
returns-then-contains c = grind (arith, nat_tests)

pub returns-else-contains : goal.returns-else-contains
unfolding block_ok
returns-else-contains c = grind (arith, nat_tests)
