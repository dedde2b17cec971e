-- Numbers of the command text. Assumes nothing.
use Rattle.std.specs.Prelude.{ℕ, ◌+◌, ◌-◌, ◌*◌, ◌^◌, Bool, cond, ◌&&◌, List, [], ◌∷◌, Some, None, Option, nat_le, nat_lt}

abbrev pub digit : ℕ → Bool
digit b = nat_le 48 b && nat_le b 57

-- n with the digit b behind it, where b is one and the number fits 64 bits
abbrev pub one_more : ℕ → ℕ → Option ℕ
one_more n b = cond (digit b && nat_lt (10 * n + (b - 48)) (2 ^ 64)) (Some (10 * n + (b - 48))) None

-- n with the digits behind it
abbrev pub more_digits : Option ℕ → List ℕ → Option ℕ
more_digits o [] = o
more_digits None (b ∷ bs) = None
more_digits (Some n) (b ∷ bs) = more_digits (one_more n b) bs

-- one or more digits, and a number that fits 64 bits
abbrev pub decimal : List ℕ → Option ℕ
decimal [] = None
decimal (b ∷ bs) = more_digits (Some 0) (b ∷ bs)
