-- The first line of a text, and the lines behind it. Assumes nothing.
use Rattle.std.proofs.Common.{◌≡◌, ℕ, suc, ◌+◌, ◌<◌, Bool, true, false, cond, not, eqb, List, [], ◌∷◌, map, length, take, drop, refl, ap, ◌∙◌, arith}
use Rattle.std.specs.List.{prefix_len}
use Rattle.console.specs.Words.{in_line, first_line, other_lines, trimmed}
use Rattle.console.specs.Lines.{before_first, lines}
use Rattle.console.specs.Commands.{clean, clean_lines}

-- a line feed ends the first line, and any other byte is one more of it
by_first_byte : (feed : Bool) (b n : ℕ) (bs : List ℕ) → before_first b (lines bs) ≡ (b ∷ take n bs) ∷ lines (drop (n + 1) bs)
    → cond feed ([] ∷ lines bs) (before_first b (lines bs)) ≡ take (cond (not feed) (1 + n) 0) (b ∷ bs) ∷ lines (drop (cond (not feed) (1 + n) 0 + 1) (b ∷ bs))
by_first_byte true b n bs is = refl
by_first_byte false b n bs is =
    let one : suc n ≡ 1 + n = omega arith in
    let two : suc (n + 1) ≡ 1 + n + 1 = omega arith in
    is ∙ ap (λ k. take k (b ∷ bs) ∷ lines (drop (n + 1) bs)) one ∙ ap (λ k. take (1 + n) (b ∷ bs) ∷ lines (drop k (b ∷ bs))) two

pub lines_first : (t : List ℕ) → 0 < length t → lines t ≡ take (prefix_len in_line t) t ∷ lines (drop (prefix_len in_line t + 1) t)
unfolding lines
lines_first [] some = absurd (omega arith)
lines_first (b ∷ []) some = by_first_byte (eqb b 10) b 0 [] refl
lines_first (b ∷ c ∷ cs) some = by_first_byte (eqb b 10) b (prefix_len in_line (c ∷ cs)) (c ∷ cs) (ap (before_first b) (lines_first (c ∷ cs) (omega arith)))

pub clean_lines_first : (t : List ℕ) → 0 < length t → clean_lines t ≡ trimmed (first_line t) ∷ clean_lines (other_lines t)
unfolding clean first_line other_lines
clean_lines_first t some = ap (map clean) (lines_first t some)
