use Rattle.std.proofs.Common.{◌≡◌, ℕ}
use Rattle.fsck.specs.Sets.{member}
use Rattle.fsck.specs.Blocks.{blocks_to, has}
use Rattle.fsck.proofs.usage.blocks_in_use.Given as goal

abbrev pub invariant-loop-part : goal.invariant-loop-part
invariant-loop-part l = (k : ℕ) → member l.set k ≡ has (blocks_to l.disk l.part-index) k
