-- What the 32 bytes of an entry spell, and what an entry says of its file. Assumes nothing.
use Rattle.std.specs.Prelude.{ℕ, ◌+◌, ◌*◌, ◌/◌, ◌%◌, cond, List, ◌∷◌, ◌++◌, length, take, drop, Some, None, Option, ◌==◌, slice_index}
use Rattle.layout.specs.declared.name.Name.{Name}
use Rattle.layout.specs.declared.entry.Entry.{Entry}

-- these bytes as a name
abbrev pub as_name : List ℕ → Name
as_name bs = record { bytes = bs }

-- a name is eleven bytes, whatever they are
abbrev pub named : List ℕ → Option Name
named bs = cond (length bs == 11) (Some (as_name bs)) None

-- byte 0 is 1 if the entry is in use; then eleven of a name, two of a length, the low one first, sixteen of block numbers, and two that are not read
unfoldable pub decoded : List ℕ → Entry
decoded bs = record {
  used = (slice_index bs 0 == 1);
  name = as_name (take 11 (drop 1 bs));
  len = slice_index bs 12 + 256 * slice_index bs 13;
  blocks = take 16 (drop 14 bs);
  unread = take 2 (drop 30 bs);
}

unfoldable pub encoded : Entry → List ℕ
encoded e = cond e.used 1 0 ∷ (e.name.bytes ++ (e.len % 256 ∷ (e.len / 256 ∷ (e.blocks ++ e.unread))))

-- the blocks that n bytes need, the last perhaps not full
unfoldable pub needs : ℕ → ℕ
needs n = (n + 63) / 64

-- the numbers of the entry's blocks: as many as its file needs, of the sixteen
unfoldable pub blocks_of : Entry → List ℕ
blocks_of e = take (needs e.len) e.blocks
