-- A part of a list of bytes, and a part put in the place of another. Assumes nothing.
use Rattle.std.specs.Prelude.{ℕ, ◌+◌, List, ◌++◌, length, take, drop}

-- the n bytes from `at` on
abbrev pub part : List ℕ → ℕ → ℕ → List ℕ
part bs at n = take n (drop at bs)

-- the bytes with p in the place of what stood from `at` on
unfoldable pub replaced : List ℕ → ℕ → List ℕ → List ℕ
replaced bs at p = take at bs ++ (p ++ drop (at + length p) bs)
