-- The elements at the end of a list that pass a test, and the one before them. Assumes nothing.
use Rattle.std.proofs.Common.{◌≡◌, ℕ, ◌+◌, ◌-◌, ◌<◌, ◌≤◌, Bool, true, false, eqb, List, ◌++◌, reverse, length, get_or, take, drop, replicate, sym, ap, ◌∙◌, arith}
use lib.ListN.{length-reverse}
use Rattle.std.specs.List.{suffix_len}
use Rattle.std.proofs.lemmas.List.{length-drop, length-replicate, take-append-drop, get_or-drop, get_or-replicate, ext_get_or, get_or-reverse}
use Rattle.std.proofs.lemmas.List.Sums.{prefix_len_passes, prefix_len_stops}
use Rattle.std.proofs.lemmas.Bool.{eqb-true}

module _ (p : ℕ → Bool) where
  ending_yes : (xs : List ℕ) (k : ℕ) → k < suffix_len p xs → k < length xs → p (get_or xs (length xs - 1 - k) 0) ≡ true
  ending_yes xs k lt in' = ap p (sym (get_or-reverse xs k 0 in')) ∙ prefix_len_passes p (reverse xs) k 0 lt

  pub ending_no : (xs : List ℕ) → suffix_len p xs < length xs → p (get_or xs (length xs - 1 - suffix_len p xs) 0) ≡ false
  ending_no xs lt = ap p (sym (get_or-reverse xs (suffix_len p xs) 0 lt)) ∙ prefix_len_stops p (reverse xs) 0 (omega (arith, length-reverse xs))

-- without some that are equal at its end, a list is filled up with them again
pub filled_up : (b : ℕ) (xs : List ℕ) (n : ℕ) → n ≤ length xs → length xs - suffix_len (eqb b) xs ≤ n → take n xs ++ replicate (length xs - n) b ≡ xs
filled_up b xs n within past =
    let same : (i : ℕ) → i < length (drop n xs) → get_or (drop n xs) i 0 ≡ get_or (replicate (length xs - n) b) i 0 = λ i lt.
    let left : i < length xs - n = omega (arith, length-drop n xs) in
    let place : n + i ≡ length xs - 1 - (length xs - 1 - (n + i)) = omega arith in
    get_or-drop n xs i 0 ∙ ap (λ k. get_or xs k 0) place
    ∙ sym (eqb-true b _ (ending_yes (eqb b) xs (length xs - 1 - (n + i)) (omega arith) (omega arith)))
    ∙ sym (get_or-replicate (length xs - n) i b 0 left) in
    ap (λ l. take n xs ++ l) (sym (ext_get_or 0 (drop n xs) (replicate (length xs - n) b) (length-drop n xs ∙ sym (length-replicate (length xs - n) b)) same)) ∙ take-append-drop n xs
