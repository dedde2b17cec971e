-- The files of a disk, as the old machine reads them. Assumes nothing.
use Rattle.std.specs.Prelude.{◌≡◌, ℕ, zero, suc, ◌+◌, ◌*◌, Bool, cond, ◌&&◌, List, ◌++◌, length, map, take, drop, Some, None, Ok, Err, MatchBool, Option, Result, nat_le, nat_lt}
use Rattle.std.specs.Borrow.{Bor}
use Rattle.std.specs.List.{flat_map, range_with_len}
use Rattle.std.specs.Option.{option_map}
use Rattle.std.specs.Str.{bytes_eq}
use Rattle.layout.specs.declared.disk.Disk.{Disk}
use Rattle.layout.specs.declared.disk.RoomTooShort.{RoomTooShort}
use Rattle.layout.specs.declared.entry.Entry.{Entry}
use Rattle.layout.specs.Entries.{decoded, blocks_of}

-- the bytes of a disk
abbrev pub held : Disk → List ℕ
held k = k.bytes.now

-- the disk is long enough to hold its sixteen entries
abbrev pub has_entries : List ℕ → Bool
has_entries d = nat_le 512 (length d)

-- the 32 bytes of entry i
unfoldable pub entry_bytes : List ℕ → ℕ → List ℕ
entry_bytes d i = take 32 (drop (32 * i) d)

-- entry i, decoded
unfoldable pub entry_at : List ℕ → ℕ → Entry
entry_at d i = decoded (entry_bytes d i)

-- the sixteen entries in their order
unfoldable pub entries : List ℕ → List Entry
entries d = map (entry_at d) (range_with_len 0 16)

-- there is an entry i
abbrev pub has_entry : List ℕ → ℕ → Bool
has_entry d i = has_entries d && nat_lt i 16

-- p is entry i as a part of the disk: it holds the entry's bytes, and lies where they do
pub record EntryPart (disk : Bor (List ℕ)) (i : ℕ) (p : Bor (List ℕ)) : Type 0 where
  pub bytes : p.now ≡ entry_bytes disk.now i
  pub lies : p.ref_ptr ≡ (disk.ref_ptr.0, 32 * i + disk.ref_ptr.1)

-- entry i, or none
abbrev pub entry_if : List ℕ → ℕ → Option Entry
entry_if d i = cond (has_entry d i) (Some (entry_at d i)) None

-- the 64 bytes of block b
unfoldable pub block : List ℕ → ℕ → List ℕ
block d b = take 64 (drop (64 * b) d)

-- the bytes of the entry's file: those of its blocks, in order, up to its length
unfoldable pub content : List ℕ → Entry → List ℕ
content d e = take e.len (flat_map (block d) (blocks_of e))

-- entry i is in use and has the name x
unfoldable pub has_name : List ℕ → List ℕ → ℕ → Bool
has_name d x i = (entry_at d i).used && bytes_eq (entry_at d i).name.bytes x

-- the first of n entries from i on that is in use and has the name; i and n together if there is none
unfoldable pub find_from : List ℕ → List ℕ → ℕ → ℕ → ℕ
find_from d x i zero = i
find_from d x i (suc n) = cond (has_name d x i) i (find_from d x (suc i) n)

unfoldable pub find : List ℕ → List ℕ → ℕ
find d x = find_from d x 0 16

-- the place of that entry, or none
abbrev pub found : List ℕ → List ℕ → Option ℕ
found d x = cond (has_entry d (find d x)) (Some (find d x)) None

-- the entry that the old machine takes for the name x
unfoldable pub entry_of : List ℕ → List ℕ → Option Entry
entry_of d x = cond (nat_lt (find d x) 16) (Some (entry_at d (find d x))) None

-- the file that it reads under the name x
unfoldable pub file : List ℕ → List ℕ → Option (List ℕ)
file d x = option_map (content d) (entry_of d x)

-- what copying a file of n bytes, with this content, into a room answers and leaves
abbrev pub Copies : (n : ℕ) (c room : List ℕ) → Result ℕ RoomTooShort → (room₁ : List ℕ) → Type 0
Copies n c room r room₁ = MatchBool (nat_lt (length room) n) ((r ≡ Err (record { needed = n })) × (room₁ ≡ room)) ((r ≡ Ok (length c)) × (room₁ ≡ c ++ drop (length c) room))
