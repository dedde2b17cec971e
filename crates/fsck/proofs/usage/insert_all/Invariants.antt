use Rattle.std.proofs.Common.{◌≡◌, ℕ, ◌||◌, take}
use Rattle.fsck.specs.Sets.{member}
use Rattle.fsck.specs.Blocks.{has}
use Rattle.fsck.proofs.usage.insert_all.Given as goal

abbrev pub invariant-loop-b : goal.invariant-loop-b
invariant-loop-b l = (k : ℕ) → member l.set k ≡ (has (take l.b-index l.blocks) k || member l.initial.set k)
