-- Numbers in decimal, written and read back. Assumes nothing.
use Rattle.std.proofs.Common.{◌≡◌, ℕ, zero, suc, ◌+◌, ◌-◌, ◌*◌, ◌/◌, ◌%◌, ◌^◌, ◌<◌, ◌≤◌, ltb, List, [], ◌∷◌, ◌++◌, length, Some, None, Option, sym, refl, ap, ◌∙◌, ⊎_elim, arith}
use Rattle.std.specs.Fmt as fmt
use Rattle.std.proofs.lemmas.Fmt.{decimal_digit, decimal_step, decimal_by_steps, decimal_nonempty}
use Rattle.std.proofs.lemmas.Bool.{cond-true, cond-false, and_from, le-leb, lt-ltb, le-ltb, cases_lt}
use Rattle.console.specs.Numbers.{one_more, more_digits, decimal}
use Rattle.console.specs.Shown.{digits_to, shown_number}

room_for_more : (k m : ℕ) → m < 10 ^ suc k → 10 ≤ m → 0 < k
room_for_more zero m fits large = absurd (omega arith)
room_for_more (suc k) m fits large = omega arith

-- the digits are those that std prints
digits_printed : (k m : ℕ) → 0 < k → m < 10 ^ k → m < 2 ^ 64 → digits_to k m ≡ fmt.decimal m
unfolding digits_to
digits_printed zero m some fits small = absurd (omega arith)
digits_printed (suc k) m some fits small = ⊎_elim
    (λ lt. cond-true (ltb m 10) _ _ (lt-ltb m 10 lt) ∙ sym (decimal_digit m lt))
    (λ ge.
    cond-false (ltb m 10) _ _ (le-ltb m 10 ge)
    ∙ ap (λ ds. ds ++ ((48 + m % 10) ∷ [])) (digits_printed k (m / 10) (room_for_more k m fits ge) (omega arith) (omega arith))
    ∙ sym (decimal_step m ge small))
    (cases_lt m 10)

pub shown_printed : (n : ℕ) → n < 2 ^ 64 → fmt.decimal n ≡ shown_number n
unfolding shown_number
shown_printed n small = sym (digits_printed 20 n (omega arith) (omega arith) small)

pub decimal_of_some : (bs : List ℕ) → (length bs ≡ 0 → ⊥) → more_digits (Some 0) bs ≡ decimal bs
decimal_of_some [] some = absurd (some refl)
decimal_of_some (b ∷ bs) some = refl

pub more_none : (bs : List ℕ) → more_digits None bs ≡ None
more_none [] = refl
more_none (b ∷ bs) = refl

more_append : (o : Option ℕ) (xs ys : List ℕ) → more_digits o (xs ++ ys) ≡ more_digits (more_digits o xs) ys
more_append o [] ys = refl
more_append None (x ∷ xs) [] = refl
more_append None (x ∷ xs) (y ∷ ys) = refl
more_append (Some n) (x ∷ xs) ys = more_append (one_more n x) xs ys

one_more_is : (n d m : ℕ) → d < 10 → 10 * n + d ≡ m → m < 2 ^ 64 → one_more n (48 + d) ≡ Some m
one_more_is n d m small is fits =
    let value : 10 * n + ((48 + d) - 48) ≡ m = omega arith in
    cond-true _ _ None (and_from _ _ (and_from _ _ (le-leb 48 (48 + d) (omega arith)) (le-leb (48 + d) 57 (omega arith))) (lt-ltb _ _ (omega arith))) ∙ ap Some value

printed_read : (n : ℕ) → n < 2 ^ 64 → more_digits (Some 0) (fmt.decimal n) ≡ Some n
printed_read n small = decimal_by_steps (λ m ds. m < 2 ^ 64 → more_digits (Some 0) ds ≡ Some m)
    (λ m lt fits. one_more_is 0 m m lt (omega arith) fits)
    (λ m ds ge read fits. more_append (Some 0) ds ((48 + m % 10) ∷ []) ∙ ap (λ o. more_digits o ((48 + m % 10) ∷ [])) (read (omega arith)) ∙ one_more_is (m / 10) (m % 10) m (omega arith) (omega arith) fits)
    n small small

pub number_read_back : (n : ℕ) → n < 2 ^ 64 → decimal (shown_number n) ≡ Some n
number_read_back n small =
    let some : 0 < length (fmt.decimal n) = decimal_nonempty n small in
    ap decimal (sym (shown_printed n small)) ∙ sym (decimal_of_some (fmt.decimal n) (λ none. omega arith)) ∙ printed_read n small
