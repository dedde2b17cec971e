-- Names in the command text. Assumes nothing.
use Rattle.std.specs.Prelude.{ℕ, ◌+◌, ◌-◌, ◌*◌, Bool, cond, ◌&&◌, List, [], ◌∷◌, ◌++◌, length, replicate, Some, None, Ok, Err, Option, Result, ◌==◌, nat_le}
use Rattle.std.specs.Borrow.{Bor}
use Rattle.std.specs.Option.{option_map, option_to_list}
use Rattle.layout.specs.declared.name.Name.{Name}
use Rattle.layout.specs.Entries.{as_name}
use Rattle.console.specs.declared.escape.NameTooLong.{NameTooLong}

abbrev pub within : ℕ → ℕ → ℕ → Bool
within low b high = nat_le low b && nat_le b high

-- the value of a hexadecimal digit, of either case
abbrev pub hex : ℕ → Option ℕ
hex b = cond (within 48 b 57) (Some (b - 48)) (cond (within 97 b 102) (Some (b - 97 + 10)) (cond (within 65 b 70) (Some (b - 65 + 10)) None))

-- what was read of an escape: nothing, a backslash, `\x`, or `\xH` with the value of its digit
pub data Escape : Type 0 where
  Plain : Escape
  Slash : Escape
  High : Escape
  Low : ℕ → Escape

-- one byte of the text: what was then read of an escape, and the byte that was spelled, if one was
abbrev pub step : Escape → ℕ → Option (Escape × Option ℕ)
step Plain b = cond (b == 92) (Some (Slash, None)) (Some (Plain, Some b))
step Slash b = cond (b == 92) (Some (Plain, Some b)) (cond (b == 120) (Some (High, None)) None)
step High b = option_map (λ v. (Low v, None)) (hex b)
step (Low h) b = option_map (λ v. (Plain, Some (h * 16 + v))) (hex b)

-- the bytes that a text spells; an escape that is not whole, or none that there is, spells nothing

abbrev pub ended : Escape → Option (List ℕ)
ended Plain = Some []
ended Slash = None
ended High = None
ended (Low h) = None

abbrev pub onward : (Escape → Option (List ℕ)) → Option (Escape × Option ℕ) → Option (List ℕ)
onward rest None = None
onward rest (Some p) = option_map (λ bs. option_to_list p.1 ++ bs) (rest p.0)

unfoldable pub spelled : Escape → List ℕ → Option (List ℕ)
spelled s [] = ended s
spelled s (b ∷ bs) = onward (λ t. spelled t bs) (step s b)

-- the byte that a text spells first, with what the text behind it spells
abbrev pub first_spelled : Option (ℕ × Bor (List ℕ)) → Option (List ℕ)
first_spelled None = None
first_spelled (Some p) = option_map (λ bs. p.0 ∷ bs) (spelled Plain p.1.now)

-- the name of the bytes, filled up with blanks to eleven; or their number, where they are more
abbrev pub name_or_length : List ℕ → Result Name NameTooLong
name_or_length bs = cond (nat_le (length bs) 11) (Ok (as_name (bs ++ replicate (11 - length bs) 32))) (Err (record { len = length bs }))
