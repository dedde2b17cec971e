-- What putting a file writes: its bytes into free blocks, then the block with its entry. Assumes nothing.
use Rattle.std.specs.Prelude.{ℕ, zero, suc, ◌-◌, Bool, true, cond, ◌&&◌, List, [], ◌∷◌, ◌++◌, length, take, drop, replicate, nat_le, nat_lt}
use Rattle.layout.specs.declared.entry.Entry.{Entry}
use Rattle.layout.specs.Entries.{as_name, encoded, needs}
use Rattle.layout.specs.Files.{entry_at, find}
use Rattle.fsck.specs.Blocks.{free}
use Rattle.update.specs.Writes.{Write, entry_write}

-- the first n of the bytes, with zeros behind their end
unfoldable pub padded : ℕ → List ℕ → List ℕ
padded n xs = take n xs ++ replicate (n - length xs) 0

-- a file's bytes, written into these blocks in their order
unfoldable pub data_writes : (blocks content : List ℕ) → List Write
data_writes [] c = []
data_writes (b ∷ bs) c = record { to = b; bytes = padded 64 c } ∷ data_writes bs (drop 64 c)

-- the blocks that a file is put into: the lowest free ones, as many as it needs
unfoldable pub chosen : (disk content : List ℕ) → List ℕ
chosen d c = take (needs (length c)) (free d)

-- the first of n entries from i on that is not in use; i and n together if there is none
unfoldable pub unused_from : List ℕ → ℕ → ℕ → ℕ
unused_from d i zero = i
unused_from d i (suc n) = cond (entry_at d i).used (unused_from d (suc i) n) i

-- the entry for a file: the one that has its name, or else the first that is not in use
unfoldable pub place_for : (disk name : List ℕ) → ℕ
place_for d x = cond (nat_lt (find d x) 16) (find d x) (unused_from d 0 16)

-- the new entry, with zeros in the numbers that it doesn't need and in the unread bytes
unfoldable pub new_entry : (name content blocks : List ℕ) → Entry
new_entry x c bs = record { used = true; name = as_name x; len = length c; blocks = padded 16 bs; unread = 0 ∷ (0 ∷ []) }

unfoldable pub put_writes : (disk name content : List ℕ) → List Write
put_writes d x c = data_writes (chosen d c) c ++ (entry_write d (place_for d x) (encoded (new_entry x c (chosen d c))) ∷ [])

-- there is an entry for the file, and there are free blocks for its bytes
unfoldable pub room_for : (disk name content : List ℕ) → Bool
room_for d x c = nat_lt (place_for d x) 16 && nat_le (needs (length c)) (length (free d))
