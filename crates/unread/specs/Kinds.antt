-- The same places in the subject's words: five kinds of them. Assumes nothing.
use Rattle.std.specs.Prelude.{◌≡◌, ℕ, ◌+◌, ◌*◌, ◌<◌, ◌≤◌, false, List}
use Rattle.layout.specs.Entries.{needs}
use Rattle.layout.specs.Files.{entry_at}
use Rattle.fsck.specs.Blocks.{size, in_use}
use Rattle.fsck.specs.Rules.{Used, Place, block_of}

pub data Unread (d : List ℕ) (k : ℕ) : Type 0 where
  -- bytes 30 and 31 of an entry
  last_two : (i j : ℕ) → i < 16 → 30 ≤ j → j < 32 → k ≡ 32 * i + j → Unread d k
  -- any byte but the first of an entry that isn't in use
  not_in_use : (i j : ℕ) → i < 16 → (entry_at d i).used ≡ false → 1 ≤ j → j < 32 → k ≡ 32 * i + j → Unread d k
  -- a block number that a file in use doesn't need
  not_needed : (i m : ℕ) → i < 16 → Used d i → needs (entry_at d i).len ≤ m → m < 16 → k ≡ 32 * i + (14 + m) → Unread d k
  -- a byte past a file's end in its last block
  past_end : (i m j : ℕ) → Place d 16 i m → j < 64 → (entry_at d i).len ≤ 64 * m + j → k ≡ 64 * block_of d i m + j → Unread d k
  -- any byte of a block from 8 on that no entry in use has
  in_free_block : (b j : ℕ) → 8 ≤ b → b < size d → in_use d b ≡ false → j < 64 → k ≡ 64 * b + j → Unread d k
