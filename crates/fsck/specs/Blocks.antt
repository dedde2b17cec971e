-- The blocks of a disk: those that entries in use have, and the free ones. Assumes nothing.
use Rattle.std.specs.Prelude.{ℕ, zero, suc, ◌-◌, ◌/◌, Bool, false, cond, ◌||◌, List, [], ◌∷◌, ◌++◌, length, ◌==◌}
use Rattle.layout.specs.Entries.{blocks_of}
use Rattle.layout.specs.Files.{entry_at}

-- how many whole blocks the disk has
unfoldable pub size : List ℕ → ℕ
size d = length d / 64

-- the blocks of entry i, if it is in use
unfoldable pub blocks_at : List ℕ → ℕ → List ℕ
blocks_at d i = cond (entry_at d i).used (blocks_of (entry_at d i)) []

-- the blocks of the first n entries, of those in use
unfoldable pub blocks_to : List ℕ → ℕ → List ℕ
blocks_to d zero = []
blocks_to d (suc i) = blocks_to d i ++ blocks_at d i

-- b is among them
abbrev pub has : List ℕ → ℕ → Bool
has [] b = false
has (x ∷ xs) b = b == x || has xs b

-- an entry in use has block b
unfoldable pub in_use : List ℕ → ℕ → Bool
in_use d b = has (blocks_to d 16) b

-- of the n blocks from b on, those that no entry in use has
unfoldable pub free_from : List ℕ → ℕ → ℕ → List ℕ
free_from d b zero = []
free_from d b (suc n) = cond (in_use d b) (free_from d (suc b) n) (b ∷ free_from d (suc b) n)

-- the free blocks, the lowest first
unfoldable pub free : List ℕ → List ℕ
free d = free_from d 8 (size d - 8)
