-- The lines of the command text, and their words. Assumes nothing.
use Rattle.std.specs.Prelude.{ℕ, ◌+◌, ◌-◌, Bool, cond, not, ◌&&◌, ◌||◌, List, length, take, drop, ◌==◌, nat_lt, slice_index}
use Rattle.std.specs.List.{prefix_len, suffix_len}

-- a line ends before a line feed, and a carriage return before that is no part of it
abbrev pub in_line : ℕ → Bool
in_line b = not (b == 10)

unfoldable pub without_return : List ℕ → List ℕ
without_return xs = cond (nat_lt 0 (length xs) && slice_index xs (length xs - 1) == 13) (take (length xs - 1) xs) xs

unfoldable pub first_line : List ℕ → List ℕ
first_line xs = without_return (take (prefix_len in_line xs) xs)

unfoldable pub other_lines : List ℕ → List ℕ
other_lines xs = drop (prefix_len in_line xs + 1) xs

-- a blank is a space or a tab
abbrev pub blank : ℕ → Bool
blank b = b == 32 || b == 9

abbrev pub ink : ℕ → Bool
ink b = not (blank b)

-- without the blanks in front
unfoldable pub from_ink : List ℕ → List ℕ
from_ink xs = drop (prefix_len blank xs) xs

-- without the blanks behind
unfoldable pub to_ink : List ℕ → List ℕ
to_ink xs = take (length xs - suffix_len blank xs) xs

unfoldable pub trimmed : List ℕ → List ℕ
trimmed xs = to_ink (from_ink xs)

-- the bytes up to the first blank, and what stands behind it and the blanks after it
unfoldable pub word : List ℕ → List ℕ
word xs = take (prefix_len ink xs) xs

unfoldable pub behind : List ℕ → List ℕ
behind xs = from_ink (drop (prefix_len ink xs) xs)
