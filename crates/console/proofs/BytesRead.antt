-- One more byte of a line, read from its two digits. Assumes nothing.
use Rattle.std.proofs.Common.{◌≡◌, ℕ, ◌-◌, ◌≤◌, false, List, [], ◌∷◌, ◌++◌, length, get_or, take, drop, Some, None, Option, sym, refl, ap, ◌∙◌, arith}
use Rattle.std.specs.Option.{option_map}
use Rattle.std.proofs.lemmas.List.{take_all}
use Rattle.std.proofs.lemmas.Bool.{cond-false}
use Rattle.console.specs.Words.{blank}
use Rattle.console.specs.Names.{hex}
use Rattle.console.specs.Bytes.{two_digits, in_front, line_bytes}
use Rattle.console.proofs.Spelling.{ReadTo, mapped_twice}

in_front_mapped : (b : ℕ) (o : Option (List ℕ)) → in_front (Some b) o ≡ option_map (λ bs. (b ∷ []) ++ bs) o
in_front_mapped b None = refl
in_front_mapped b (Some bs) = refl

whole_byte : (b c : ℕ) (bs : List ℕ) → blank b ≡ false → line_bytes (b ∷ c ∷ bs) ≡ in_front (two_digits (hex b) (hex c)) (line_bytes bs)
unfolding line_bytes
whole_byte b c bs is = cond-false (blank b) (line_bytes (c ∷ bs)) (in_front (two_digits (hex b) (hex c)) (line_bytes bs)) is

pub read_more : (all : Option (List ℕ)) (done now left : List ℕ) (b : ℕ) → ReadTo all done (line_bytes left) → 2 ≤ length left → blank (get_or left 0 0) ≡ false
    → Some b ≡ two_digits (hex (get_or left 0 0)) (hex (get_or left 1 0)) → now ≡ done ++ (b ∷ []) → ReadTo all now (line_bytes (take (length left - 2) (drop 2 left)))
read_more all done now [] b so_far two ink is more = absurd (omega arith)
read_more all done now (h ∷ []) b so_far two ink is more = absurd (omega arith)
read_more all done now (h ∷ l ∷ bs) b so_far two ink is more =
    let rest : take (length (h ∷ l ∷ bs) - 2) bs ≡ bs = take_all _ bs (omega arith) in
    let step : line_bytes (h ∷ l ∷ bs) ≡ option_map (λ cs. (b ∷ []) ++ cs) (line_bytes bs) = whole_byte h l bs ink ∙ ap (λ o. in_front o (line_bytes bs)) (sym is) ∙ in_front_mapped b (line_bytes bs) in
    ap (λ xs. option_map (λ cs. xs ++ cs) (line_bytes (take (length (h ∷ l ∷ bs) - 2) bs))) more ∙ ap (λ l. option_map (λ cs. (done ++ (b ∷ [])) ++ cs) (line_bytes l)) rest
    ∙ sym (mapped_twice done (b ∷ []) (line_bytes bs)) ∙ ap (option_map (λ cs. done ++ cs)) (sym step) ∙ so_far
