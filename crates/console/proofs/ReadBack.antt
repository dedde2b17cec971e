-- Bytes and names that are printed are read back as the same. Assumes nothing.
use Rattle.std.proofs.Common.{◌≡◌, ℕ, suc, ◌+◌, ◌-◌, ◌*◌, ◌/◌, ◌%◌, ◌<◌, ◌≤◌, true, false, eqb, ltb, List, [], ◌∷◌, ◌++◌, length, get_or, take, drop, replicate, Some, None, Ok, Err, Option, sym, refl, ap, ◌∙◌, subst, append_assoc, append-nil, arith, length-take}
use mathlib.Core.List.{reverse-append}
use Rattle.std.specs.Option.{option_map}
use Rattle.std.specs.List.{prefix_len, suffix_len, AllByRecursion as All}
use Rattle.std.proofs.ByRecursion.{All-from_get_or, All-take}
use Rattle.std.proofs.lemmas.List.{take_all, take_more, length-take-le}
use Rattle.std.proofs.lemmas.Bool.{cond-true, cond-false, cond_both, le-leb, eqb-false, ne_eqb, or_from}
use Rattle.std.proofs.lemmas.Bool.Decides.{nat_tests}
use Rattle.layout.specs.Entries.{as_name}
use Rattle.console.specs.Words.{blank, from_ink, to_ink, trimmed}
use Rattle.console.specs.Names.{hex, Plain, Slash, Low, onward, spelled, name_or_length}
use Rattle.console.specs.Lines.{before_first, lines}
use Rattle.console.specs.Bytes.{two_digits, in_front, line_bytes, all_in_front, lines_bytes}
use Rattle.console.specs.Shown.{hex_digit, shown_byte, shown_behind, shown_bytes, plain, escaped, shown_char, shown_chars, shown_first, from_first, shown_length, shown_name, NameBack}
use Rattle.console.proofs.Endings.{ending_no, filled_up}
use Rattle.console.proofs.Spelling.{mapped_same}

-- the digits, and what reads them

digit_high : (n : ℕ) → 48 ≤ hex_digit n
unfolding hex_digit
digit_high n = grind (arith, nat_tests)

digit_back : (n : ℕ) → n < 16 → hex (hex_digit n) ≡ Some n
unfolding hex_digit
digit_back n lt = grind (arith, nat_tests)

-- a byte's two digits are read as the byte
two_back : (b : ℕ) → b < 256 → two_digits (hex (hex_digit (b / 16))) (hex (hex_digit (b % 16))) ≡ Some b
two_back b lt =
    let whole : (b / 16) * 16 + b % 16 ≡ b = omega arith in
    (λ i. two_digits (digit_back (b / 16) (omega arith) i) (digit_back (b % 16) (omega arith) i)) ∙ ap Some whole

-- what is high is no blank and no line feed
high_ink : (b : ℕ) → 48 ≤ b → blank b ≡ false
high_ink b high = or_from _ _ (ne_eqb b 32 (λ e. omega arith)) (ne_eqb b 9 (λ e. omega arith))

high_on_line : (b : ℕ) (t : List ℕ) → 48 ≤ b → lines (b ∷ t) ≡ before_first b (lines t)
unfolding lines
high_on_line b t high = cond-false _ _ _ (ne_eqb b 10 (λ e. omega arith))

blank_skipped : (l : List ℕ) → line_bytes (32 ∷ l) ≡ line_bytes l
unfolding line_bytes
blank_skipped [] = refl
blank_skipped (b ∷ l) = refl

none_in_front : (o : Option (List ℕ)) → all_in_front (Some []) o ≡ o
none_in_front None = refl
none_in_front (Some bs) = refl

in_front_of_all : (b : ℕ) (o p : Option (List ℕ)) → all_in_front (in_front (Some b) o) p ≡ in_front (Some b) (all_in_front o p)
in_front_of_all b None p = refl
in_front_of_all b (Some bs) None = refl
in_front_of_all b (Some bs) (Some cs) = refl

-- a byte that is printed is read in front of what stands behind it
module _ (b : ℕ) (lt : b < 256) where
  shown_on_line : (t : List ℕ) → lines (shown_byte b ++ t) ≡ before_first (hex_digit (b / 16)) (before_first (hex_digit (b % 16)) (lines t))
  unfolding shown_byte
  shown_on_line t = high_on_line _ _ (digit_high (b / 16)) ∙ ap (before_first (hex_digit (b / 16))) (high_on_line _ t (digit_high (b % 16)))

  line_back : (l : List ℕ) (ls : List (List ℕ)) → lines_bytes ((hex_digit (b / 16) ∷ hex_digit (b % 16) ∷ l) ∷ ls) ≡ in_front (Some b) (lines_bytes (l ∷ ls))
  unfolding line_bytes lines_bytes
  line_back l ls =
      ap (λ o. all_in_front o (lines_bytes ls)) (cond-false _ _ _ (high_ink _ (digit_high (b / 16))) ∙ ap (λ o. in_front o (line_bytes l)) (two_back b lt))
      ∙ in_front_of_all b (line_bytes l) (lines_bytes ls)

  first_line_back : (ls : List (List ℕ)) → lines_bytes (before_first (hex_digit (b / 16)) (before_first (hex_digit (b % 16)) (before_first 32 ls))) ≡ in_front (Some b) (lines_bytes ls)
  unfolding line_bytes lines_bytes
  first_line_back [] = line_back (32 ∷ []) []
  first_line_back (l ∷ ls) = line_back (32 ∷ l) ls ∙ ap (λ o. in_front (Some b) (all_in_front o (lines_bytes ls))) (blank_skipped l)

  before_blank : (t : List ℕ) → lines_bytes (lines (shown_byte b ++ (32 ∷ t))) ≡ in_front (Some b) (lines_bytes (lines t))
  unfolding lines
  before_blank t = ap lines_bytes (shown_on_line (32 ∷ t)) ∙ first_line_back (lines t)

  before_feed : (t : List ℕ) → lines_bytes (lines (shown_byte b ++ (10 ∷ t))) ≡ in_front (Some b) (lines_bytes (lines t))
  unfolding lines line_bytes lines_bytes
  before_feed t = ap lines_bytes (shown_on_line (10 ∷ t)) ∙ line_back [] (lines t) ∙ ap (in_front (Some b)) (none_in_front (lines_bytes (lines t)))

-- each is a byte
abbrev Bytes : List ℕ → Type 0
Bytes bs = All (λ b. b < 256) bs

behind_back : (k : ℕ) (bs : List ℕ) → Bytes bs → lines_bytes (lines (shown_behind k bs)) ≡ Some bs
unfolding shown_behind lines lines_bytes
behind_back k [] small = refl
behind_back k (b ∷ []) small = before_feed b small.0 []
behind_back k (b ∷ c ∷ bs) small =
    let next = shown_behind (suc k) (c ∷ bs) in
    let new = shown_behind 0 (c ∷ bs) in
    cond_both (ltb k 15) (32 ∷ next) (10 ∷ new) (λ t. lines_bytes (lines (shown_byte b ++ t)) ≡ Some (b ∷ c ∷ bs))
    (λ e. before_blank b small.0 next ∙ ap (in_front (Some b)) (behind_back (suc k) (c ∷ bs) small.1))
    (λ e. before_feed b small.0 new ∙ ap (in_front (Some b)) (behind_back 0 (c ∷ bs) small.1))

pub bytes_read_back : (bs : List ℕ) → ((k : ℕ) → get_or bs k 0 < 256) → lines_bytes (lines (shown_bytes bs)) ≡ Some bs
unfolding shown_bytes
bytes_read_back bs small = behind_back 0 bs (All-from_get_or (λ b. b < 256) bs 0 (λ k lt. small k))

-- a byte of a name is spelled by what is printed of it

plain-ink : (b : ℕ) → plain b ≡ true → (b ≡ 32 → ⊥) → blank b ≡ false
plain-ink b e other = grind (arith, nat_tests)

escaped-spelled : (b : ℕ) (t : List ℕ) → b < 256 → spelled Plain (escaped b ++ t) ≡ option_map (λ bs. b ∷ bs) (spelled Plain t)
unfolding escaped shown_byte spelled
escaped-spelled b t lt =
    let low = hex_digit (b % 16) in
    let whole : (b / 16) * 16 + b % 16 ≡ b = omega arith in
    mapped_same _ ∙ mapped_same _
    ∙ ap (λ o. onward (λ s. spelled s (low ∷ t)) (option_map (λ v. (Low v, None)) o)) (digit_back (b / 16) (omega arith))
    ∙ mapped_same _
    ∙ ap (λ o. onward (λ s. spelled s t) (option_map (λ v. (Plain, Some ((b / 16) * 16 + v))) o)) (digit_back (b % 16) (omega arith))
    ∙ ap (λ n. option_map (λ bs. n ∷ bs) (spelled Plain t)) whole

char_spelled : (b : ℕ) (t : List ℕ) → b < 256 → spelled Plain (shown_char b ++ t) ≡ option_map (λ bs. b ∷ bs) (spelled Plain t)
unfolding shown_char spelled
char_spelled b t lt = cond_both (plain b) (b ∷ []) (escaped b) (λ l. spelled Plain (l ++ t) ≡ option_map (λ bs. b ∷ bs) (spelled Plain t))
    (λ e. ap (onward (λ s. spelled s t)) (cond-false (eqb b 92) (Some (Slash, None)) _ (grind (arith, nat_tests))))
    (λ e. escaped-spelled b t lt)

first_spelled : (b : ℕ) (t : List ℕ) → b < 256 → spelled Plain (shown_first b ++ t) ≡ option_map (λ bs. b ∷ bs) (spelled Plain t)
unfolding shown_first
first_spelled b t lt = cond_both (eqb b 32) (escaped b) (shown_char b) (λ l. spelled Plain (l ++ t) ≡ option_map (λ bs. b ∷ bs) (spelled Plain t))
    (λ e. escaped-spelled b t lt)
    (λ e. char_spelled b t lt)

chars_spelled : (bs : List ℕ) → Bytes bs → spelled Plain (shown_chars bs) ≡ Some bs
unfolding shown_chars spelled
chars_spelled [] small = refl
chars_spelled (b ∷ bs) small = char_spelled b (shown_chars bs) small.0 ∙ ap (option_map (λ l. b ∷ l)) (chars_spelled bs small.1)

name_spelled : (bs : List ℕ) → Bytes bs → spelled Plain (from_first bs) ≡ Some bs
unfolding from_first spelled
name_spelled [] small = refl
name_spelled (b ∷ bs) small = first_spelled b (shown_chars bs) small.0 ∙ ap (option_map (λ l. b ∷ l)) (chars_spelled bs small.1)

-- the last byte is no blank
abbrev Inked : List ℕ → Type 0
Inked s = (t : List ℕ) × (z : ℕ) × (s ≡ t ++ (z ∷ [])) × (blank z ≡ false)

inked_behind : (s t : List ℕ) → Inked t → Inked (s ++ t)
inked_behind s t end = (s ++ end.0, end.1, ap (λ l. s ++ l) end.2 ∙ sym (append_assoc s end.0 (end.1 ∷ [])), end.3)

escaped_inked : (b : ℕ) → Inked (escaped b)
unfolding escaped shown_byte
escaped_inked b = (92 ∷ 120 ∷ hex_digit (b / 16) ∷ [], hex_digit (b % 16), refl, high_ink _ (digit_high (b % 16)))

char_inked : (b : ℕ) → (b ≡ 32 → ⊥) → Inked (shown_char b)
unfolding shown_char
char_inked b other = cond_both (plain b) (b ∷ []) (escaped b) Inked (λ e. ([], b, refl, plain-ink b e other)) (λ e. escaped_inked b)

first_inked : (b : ℕ) → Inked (shown_first b)
unfolding shown_first
first_inked b = cond_both (eqb b 32) (escaped b) (shown_char b) Inked (λ e. escaped_inked b) (λ e. char_inked b (eqb-false b 32 e))

first_ink : (b : ℕ) (t : List ℕ) → prefix_len blank (shown_first b ++ t) ≡ 0
unfolding shown_first shown_char escaped
first_ink b t = cond_both (eqb b 32) (escaped b) (shown_char b) (λ l. prefix_len blank (l ++ t) ≡ 0) (λ e. refl)
    (λ other. cond_both (plain b) (b ∷ []) (escaped b) (λ l. prefix_len blank (l ++ t) ≡ 0) (λ e. cond-false (blank b) _ 0 (plain-ink b e (eqb-false b 32 other))) (λ e. refl))

chars_push : (bs : List ℕ) (z : ℕ) → shown_chars (bs ++ (z ∷ [])) ≡ shown_chars bs ++ shown_char z
unfolding shown_chars
chars_push [] z = append-nil (shown_char z)
chars_push (b ∷ bs) z = ap (λ l. shown_char b ++ l) (chars_push bs z) ∙ sym (append_assoc (shown_char b) (shown_chars bs) (shown_char z))

trimmed_same : (s : List ℕ) → prefix_len blank s ≡ 0 → Inked s → trimmed s ≡ s
unfolding trimmed from_ink to_ink
trimmed_same s front end =
    let back : suffix_len blank s ≡ 0 = ap (suffix_len blank) end.2 ∙ ap (prefix_len blank) (reverse-append end.0 (end.1 ∷ [])) ∙ cond-false (blank end.1) _ 0 end.3 in
    ap to_ink (ap (λ n. drop n s) front) ∙ take_all (length s - suffix_len blank s) s (omega arith)

-- what is printed has no blank in front or behind, if the last of several bytes is none
name_trimmed : (t : List ℕ) (z : ℕ) → (0 < length t → z ≡ 32 → ⊥) → trimmed (from_first (t ++ (z ∷ []))) ≡ from_first (t ++ (z ∷ []))
unfolding from_first shown_chars
name_trimmed [] z other = trimmed_same (shown_first z ++ []) (first_ink z []) (subst Inked (sym (append-nil (shown_first z))) (first_inked z))
name_trimmed (b ∷ t) z other =
    trimmed_same (shown_first b ++ shown_chars (t ++ (z ∷ []))) (first_ink b _)
    (inked_behind (shown_first b) _ (subst Inked (sym (chars_push t z)) (inked_behind (shown_chars t) _ (char_inked z (other (omega arith))))))

-- a name is filled up again with the blanks that are not printed
module _ (x : List ℕ) (eleven : length x ≡ 11) where
  shown_some : 0 < shown_length x
  unfolding shown_length
  shown_some = omega arith

  shown_within : shown_length x ≤ length x
  unfolding shown_length
  shown_within = omega arith

  blanks_left : length x - suffix_len (eqb 32) x ≤ shown_length x
  unfolding shown_length
  blanks_left = omega arith

  last_no_blank : 0 < shown_length x - 1 → get_or x (shown_length x - 1) 0 ≡ 32 → ⊥
  unfolding shown_length
  last_no_blank more is =
      let place : length x - 1 - suffix_len (eqb 32) x ≡ shown_length x - 1 = omega arith in
      eqb-false 32 _ (ending_no (eqb 32) x (omega arith)) (sym (ap (λ k. get_or x k 0) place ∙ is))

  front_filled : name_or_length (take (shown_length x) x) ≡ Ok (as_name x)
  front_filled =
      let n = shown_length x in
      let short : length (take n x) ≡ n = length-take-le n x shown_within in
      let left : 11 - length (take n x) ≡ length x - n = omega arith in
      cond-true _ _ (Err (record { len = length (take n x) })) (le-leb _ 11 (omega (arith, shown_within)))
      ∙ ap (λ l. Ok (as_name l)) (ap (λ m. take n x ++ replicate m 32) left ∙ filled_up 32 x n shown_within blanks_left)

  pub name_read_back : ((k : ℕ) → get_or x k 0 < 256) → NameBack x
  unfolding shown_name
  name_read_back small =
      let n = shown_length x in
      let one : n - 1 + 1 ≡ n = omega (arith, shown_some) in
      let split = sym (ap (λ m. take m x) one) ∙ take_more x (n - 1) 0 (omega (arith, shown_some, shown_within)) in
      let last : 0 < length (take (n - 1) x) → get_or x (n - 1) 0 ≡ 32 → ⊥ = λ more. last_no_blank (omega (arith, length-take (n - 1) x)) in
      record {
        spelt = (take n x, name_spelled (take n x) (All-take (λ b. b < 256) n x (All-from_get_or (λ b. b < 256) x 0 (λ k lt. small k))), front_filled);
        no_blanks = subst (λ l. trimmed (from_first l) ≡ from_first l) (sym split) (name_trimmed (take (n - 1) x) (get_or x (n - 1) 0) last);
      }
