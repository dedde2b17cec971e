-- Bytes in the command text: two hexadecimal digits each. Assumes nothing.
use Rattle.std.specs.Prelude.{ℕ, ◌+◌, ◌*◌, cond, List, [], ◌∷◌, ◌++◌, Some, None, Option}
use Rattle.console.specs.Words.{blank}
use Rattle.console.specs.Names.{hex}

-- the byte of two digits
abbrev pub two_digits : Option ℕ → Option ℕ → Option ℕ
two_digits None l = None
two_digits (Some h) None = None
two_digits (Some h) (Some l) = Some (h * 16 + l)

-- a byte in front of others
abbrev pub in_front : Option ℕ → Option (List ℕ) → Option (List ℕ)
in_front None o = None
in_front (Some b) None = None
in_front (Some b) (Some bs) = Some (b ∷ bs)

-- the bytes of a line: words of one or more whole bytes, apart by blanks
unfoldable pub line_bytes : List ℕ → Option (List ℕ)
line_bytes [] = Some []
line_bytes (b ∷ []) = cond (blank b) (Some []) None
line_bytes (b ∷ c ∷ bs) = cond (blank b) (line_bytes (c ∷ bs)) (in_front (two_digits (hex b) (hex c)) (line_bytes bs))

-- bytes in front of others
abbrev pub all_in_front : Option (List ℕ) → Option (List ℕ) → Option (List ℕ)
all_in_front None o = None
all_in_front (Some bs) None = None
all_in_front (Some bs) (Some cs) = Some (bs ++ cs)

-- the bytes of lines, one behind the other
unfoldable pub lines_bytes : List (List ℕ) → Option (List ℕ)
lines_bytes [] = Some []
lines_bytes (l ∷ ls) = all_in_front (line_bytes l) (lines_bytes ls)
