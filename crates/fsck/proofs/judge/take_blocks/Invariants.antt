use Rattle.std.proofs.Common.{◌≡◌, ℕ, ◌||◌, take, drop}
use Rattle.fsck.specs.Sets.{member}
use Rattle.fsck.specs.Blocks.{has}
use Rattle.fsck.specs.Sound.{blocks_ok}
use Rattle.fsck.proofs.judge.take_blocks.Given as goal

abbrev pub invariant-loop-b : goal.invariant-loop-b
invariant-loop-b l =
    (blocks_ok l.size (member l.taken) (drop l.b-index l.blocks) ≡ blocks_ok l.size (member l.initial.taken) l.blocks)
    × ((k : ℕ) → member l.taken k ≡ (has (take l.b-index l.blocks) k || member l.initial.taken k))
