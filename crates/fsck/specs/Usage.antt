-- What the number of blocks in use says of a sound disk. Assumes nothing.
use Rattle.std.specs.Prelude.{◌≡◌, ℕ, ◌-◌, true, List, length}
use Rattle.fsck.specs.Sets.{counted}
use Rattle.fsck.specs.Blocks.{size, blocks_to, in_use, free}
use Rattle.fsck.specs.Sound.{sound}

-- of a sound disk: n is the number of blocks in use, it is how many the files in use need in all, and the blocks from 8 on that are not free are those
pub record Counts (d : List ℕ) (n : ℕ) : Type 0 where
  pub in_use_count : sound d ≡ true → n ≡ counted (in_use d) 0 256
  pub needed : sound d ≡ true → n ≡ length (blocks_to d 16)
  pub free_count : sound d ≡ true → length (free d) ≡ size d - 8 - n
