-- Whether a disk is sound, computed, and the first entry at which it isn't. Assumes nothing.
use Rattle.std.specs.Prelude.{ℕ, zero, suc, ◌*◌, Bool, true, cond, not, ◌&&◌, ◌||◌, List, [], ◌∷◌, length, Some, None, Option, ◌==◌, nat_le, nat_lt, slice_index}
use Rattle.layout.specs.Entries.{blocks_of}
use Rattle.layout.specs.Files.{entry_bytes, entry_at, find}
use Rattle.fsck.specs.Blocks.{size, blocks_to, has}

-- whole blocks, 9 to 250 of them
unfoldable pub size_ok : List ℕ → Bool
size_ok d = length d == 64 * size d && (nat_le 9 (size d) && nat_le (size d) 250)

-- the block is from 8 on, below n, and not seen before
unfoldable pub block_ok : ℕ → (ℕ → Bool) → ℕ → Bool
block_ok n seen b = nat_le 8 b && (nat_lt b n && not (seen b))

-- each of the blocks is, and is then seen
unfoldable pub blocks_ok : ℕ → (ℕ → Bool) → List ℕ → Bool
blocks_ok n seen [] = true
blocks_ok n seen (b ∷ bs) = block_ok n seen b && blocks_ok n (λ k. (k == b) || seen k) bs

-- entry i has no fault, judged against those before it
unfoldable pub entry_ok : List ℕ → ℕ → Bool
entry_ok d i =
    nat_le (slice_index (entry_bytes d i) 0) 1
    && (not (entry_at d i).used || (nat_le (entry_at d i).len 1024 && (find d (entry_at d i).name.bytes == i && blocks_ok (size d) (has (blocks_to d i)) (blocks_of (entry_at d i)))))

-- the size is right, and the first n entries have no fault
unfoldable pub sound_to : List ℕ → ℕ → Bool
sound_to d zero = size_ok d
sound_to d (suc i) = sound_to d i && entry_ok d i

unfoldable pub sound : List ℕ → Bool
sound d = sound_to d 16

-- the first of n entries from i on that has a fault
unfoldable pub fault_from : List ℕ → ℕ → ℕ → Option ℕ
fault_from d i zero = None
fault_from d i (suc n) = cond (entry_ok d i) (fault_from d (suc i) n) (Some i)

-- the first entry at which the disk isn't sound, or sixteen for its size, which is looked at first
unfoldable pub first_fault : List ℕ → Option ℕ
first_fault d = cond (size_ok d) (fault_from d 0 16) (Some 16)
