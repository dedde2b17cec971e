use Rattle.std.proofs.Common.{◌≡◌, ℕ, true}
use Rattle.fsck.specs.Sets.{member}
use Rattle.fsck.specs.Blocks.{blocks_to, has}
use Rattle.fsck.specs.Sound.{sound_to}
use Rattle.fsck.proofs.judge.first_fault.Given as goal

abbrev pub invariant-loop-i : goal.invariant-loop-i
invariant-loop-i l = (sound_to l.disk l.i ≡ true) × ((k : ℕ) → member l.taken k ≡ has (blocks_to l.disk l.i) k)
