use Rattle.std.proofs.Common.{arith}
use Rattle.layout.specs.Entries.{needs}
use Rattle.layout.proofs.disk.Disk.blocks_needed.Goals as goal

pub returns : goal.returns
unfolding needs
returns c = record { value = omega arith; fewest = record { enough = omega arith; least = λ m h. omega arith } }
