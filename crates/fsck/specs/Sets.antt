-- Sets of blocks, as bits of four words. Assumes nothing.
use Rattle.std.specs.Prelude.{ℕ, zero, suc, ◌+◌, ◌/◌, ◌%◌, ◌^◌, Bool, cond, ◌==◌, slice_index}
use Rattle.fsck.specs.declared.block_set.BlockSet.{BlockSet}

-- bit k of a word
abbrev pub bit : ℕ → ℕ → Bool
bit w k = w / 2 ^ k % 2 == 1

-- block b is in the set: bit b % 64 of word b / 64
unfoldable pub member : BlockSet → ℕ → Bool
member s b = bit (slice_index s.words (b / 64)) (b % 64)

-- how many of the n numbers from i on pass a test
unfoldable pub counted : (ℕ → Bool) → ℕ → ℕ → ℕ
counted p i zero = 0
counted p i (suc n) = cond (p i) 1 0 + counted p (suc i) n
