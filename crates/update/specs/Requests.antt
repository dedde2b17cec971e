-- Requests: their writes, the disk after them, and the files that there should be. Assumes nothing.
use Rattle.std.specs.Prelude.{ℕ, Bool, cond, ◌&&◌, List, [], ◌∷◌, length, drop, Some, None, Option, nat_le, nat_lt}
use Rattle.std.specs.Str.{bytes_eq}
use Rattle.layout.specs.Files.{entry_bytes, find}
use Rattle.update.specs.Answers.{good_name, good_file}
use Rattle.update.specs.Putting.{put_writes, room_for}
use Rattle.update.specs.Writes.{Write, after_writes, entry_write}

-- what is asked of a disk, and for how many writes power lasts
pub data Asked : Type 0 where
  put : (name content : List ℕ) → (lasts : ℕ) → Asked
  away : (name : List ℕ) → (lasts : ℕ) → Asked

abbrev pub lasts : Asked → ℕ
lasts (put x c n) = n
lasts (away x n) = n

-- to take a file away, the block with its entry is written, with 0 in the entry's first byte; if there is none, nothing is
unfoldable pub take_writes : List ℕ → List ℕ → List Write
take_writes d x = cond (nat_lt (find d x) 16) (entry_write d (find d x) (0 ∷ drop 1 (entry_bytes d (find d x))) ∷ []) []

unfoldable pub writes : List ℕ → Asked → List Write
writes d (put x c n) = put_writes d x c
writes d (away x n) = take_writes d x

-- whether the request is begun at all
unfoldable pub may : List ℕ → Asked → Bool
may d (put x c n) = good_name x && (good_file c && room_for d x c)
may d (away x n) = good_name x

-- the disk after the request, with power for so many writes
unfoldable pub step : List ℕ → Asked → List ℕ
step d a = cond (may d a) (after_writes (lasts a) d (writes d a)) d

-- whether all of its writes were made
unfoldable pub done : List ℕ → Asked → Bool
done d a = may d a && nat_le (length (writes d a)) (lasts a)

-- the disk after one request after the other
unfoldable pub after : List ℕ → List Asked → List ℕ
after d [] = d
after d (a ∷ rs) = after (step d a) rs

-- the files of a disk, by name
abbrev pub Files : Type 0
Files = List ℕ → Option (List ℕ)

-- the files as the request changes them, if it is done
unfoldable pub changed : Files → Asked → Files
changed f (put x c n) y = cond (bytes_eq x y) (Some c) (f y)
changed f (away x n) y = cond (bytes_eq x y) None (f y)

-- the files of what was done, one request after the other
unfoldable pub should : List ℕ → Files → List Asked → Files
should d f [] = f
should d f (a ∷ rs) = should (step d a) (cond (done d a) (changed f a) f) rs
