-- The places of a disk that the old machine doesn't read. Assumes nothing.
use Rattle.std.specs.Prelude.{ℕ, zero, suc, ◌+◌, ◌-◌, ◌/◌, ◌%◌, min, max, Bool, cond, ◌&&◌, List, [], ◌∷◌, length, ◌==◌, nat_le, nat_lt}
use Rattle.layout.specs.declared.entry.Entry.{Entry}
use Rattle.layout.specs.Entries.{needs, blocks_of}
use Rattle.layout.specs.Files.{entry_at}

-- of an entry the first bytes are read: the flag alone if it isn't in use, else all up to the last block number that its file needs
unfoldable pub read_of_entry : Entry → ℕ
read_of_entry e = cond e.used (14 + needs e.len) 1

-- of block b the first bytes are read: as many as it holds of the n bytes of a file with these blocks
unfoldable pub read_by_file : ℕ → List ℕ → ℕ → ℕ
read_by_file b [] n = 0
read_by_file b (x ∷ bs) n = max (cond (b == x) (min n 64) 0) (read_by_file b bs (n - 64))

-- the same for all files of the first n entries, of those in use
unfoldable pub read_of_block : List ℕ → ℕ → ℕ → ℕ
read_of_block d b zero = 0
read_of_block d b (suc i) = max (read_of_block d b i) (cond (entry_at d i).used (read_by_file b (blocks_of (entry_at d i)) (entry_at d i).len) 0)

-- k is a place of the disk, and is not among the bytes that are read of its entry or its block
unfoldable pub unread : List ℕ → ℕ → Bool
unread d k = nat_lt k (length d) && cond (nat_lt k 512) (nat_le (read_of_entry (entry_at d (k / 32))) (k % 32)) (nat_le (read_of_block d (k / 64) 16) (k % 64))
