-- Numbers, bytes and names as they are printed. Assumes nothing.
use Rattle.std.specs.Prelude.{◌≡◌, ℕ, zero, suc, ◌+◌, ◌-◌, ◌/◌, ◌%◌, max, Bool, cond, not, ◌&&◌, List, [], ◌∷◌, ◌++◌, length, take, Some, Ok, ◌==◌, nat_eq, nat_le, nat_lt}
use Rattle.std.specs.List.{suffix_len}
use Rattle.layout.specs.Entries.{as_name}
use Rattle.console.specs.Words.{trimmed}
use Rattle.console.specs.Names.{Plain, spelled, name_or_length}

-- the digits of a number in decimal, of which there are at most n
unfoldable pub digits_to : ℕ → ℕ → List ℕ
digits_to zero m = []
digits_to (suc n) m = cond (nat_lt m 10) ((48 + m) ∷ []) (digits_to n (m / 10) ++ ((48 + m % 10) ∷ []))

-- a number below 2 ^ 64 has at most twenty
unfoldable pub shown_number : ℕ → List ℕ
shown_number m = digits_to 20 m

-- a hexadecimal digit, in lower case
unfoldable pub hex_digit : ℕ → ℕ
hex_digit n = cond (nat_lt n 10) (48 + n) (87 + n)

unfoldable pub shown_byte : ℕ → List ℕ
shown_byte b = hex_digit (b / 16) ∷ hex_digit (b % 16) ∷ []

-- bytes, a blank between two, sixteen to a line, of which k stand before the first; a line feed behind each line
unfoldable pub shown_behind : ℕ → List ℕ → List ℕ
shown_behind k [] = []
shown_behind k (b ∷ []) = shown_byte b ++ (10 ∷ [])
shown_behind k (b ∷ c ∷ bs) = shown_byte b ++ cond (nat_lt k 15) (32 ∷ shown_behind (suc k) (c ∷ bs)) (10 ∷ shown_behind 0 (c ∷ bs))

-- those of one line
unfoldable pub shown_line : List ℕ → List ℕ
shown_line [] = []
shown_line (b ∷ []) = shown_byte b ++ (10 ∷ [])
shown_line (b ∷ c ∷ bs) = shown_byte b ++ (32 ∷ shown_line (c ∷ bs))

unfoldable pub shown_bytes : List ℕ → List ℕ
shown_bytes bs = shown_behind 0 bs

-- a byte that stands for itself in a name
abbrev pub plain : ℕ → Bool
plain b = nat_le 32 b && (nat_le b 126 && not (b == 92))

unfoldable pub escaped : ℕ → List ℕ
escaped b = 92 ∷ 120 ∷ shown_byte b

unfoldable pub shown_char : ℕ → List ℕ
shown_char b = cond (plain b) (b ∷ []) (escaped b)

unfoldable pub shown_chars : List ℕ → List ℕ
shown_chars [] = []
shown_chars (b ∷ bs) = shown_char b ++ shown_chars bs

-- a blank in front is escaped
unfoldable pub shown_first : ℕ → List ℕ
shown_first b = cond (b == 32) (escaped b) (shown_char b)

unfoldable pub from_first : List ℕ → List ℕ
from_first [] = []
from_first (b ∷ bs) = shown_first b ++ shown_chars bs

-- how many bytes of a name are printed: none of the blanks behind it, but at least one byte
unfoldable pub shown_length : List ℕ → ℕ
shown_length x = max 1 (length x - suffix_len (nat_eq 32) x)

unfoldable pub shown_name : List ℕ → List ℕ
shown_name x = from_first (take (shown_length x) x)

-- the name is read back from what is printed of it, which has no blank in front or behind
pub record NameBack (x : List ℕ) : Type 0 where
  pub spelt : (ys : List ℕ) × (spelled Plain (shown_name x) ≡ Some ys) × (name_or_length ys ≡ Ok (as_name x))
  pub no_blanks : trimmed (shown_name x) ≡ shown_name x
