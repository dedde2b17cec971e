-- Writes of whole blocks, of which power may cut off the rest. Assumes nothing.
use Rattle.std.specs.Prelude.{ℕ, zero, suc, ◌*◌, ◌/◌, ◌%◌, List, [], ◌∷◌}
use Rattle.layout.specs.Parts.{replaced}
use Rattle.layout.specs.Files.{block}
-- a write puts 64 bytes into one block, all of them or none: the code's own type, with the block's number `to` and the `bytes`
pub use Rattle.update.specs.declared.write.Write.{Write}

-- the disk after a write
unfoldable pub after_write : List ℕ → Write → List ℕ
after_write d w = replaced d (64 * w.to) w.bytes

-- the disk after the first n writes of a list: power fails before the next
unfoldable pub after_writes : ℕ → List ℕ → List Write → List ℕ
after_writes zero d ws = d
after_writes (suc n) d [] = d
after_writes (suc n) d (w ∷ ws) = after_writes n (after_write d w) ws

-- the write of the block that has entry i, with e in its place and the other entry as it was
unfoldable pub entry_write : List ℕ → ℕ → List ℕ → Write
entry_write d i e = record { to = i / 2; bytes = replaced (block d (i / 2)) (32 * (i % 2)) e }
