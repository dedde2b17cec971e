-- Texts put one behind the other. Assumes nothing.
use Rattle.std.proofs.Common.{◌≡◌, ℕ, suc, ◌+◌, ◌-◌, ◌<◌, ◌≤◌, cond, List, [], ◌∷◌, ◌++◌, is_ok, IfOk, Ok, Err, Result, sym, ap, ◌∙◌, append_assoc, append-nil, add-one, arith}
use Rattle.session.specs.Printed.{line, pair_line}

-- t behind what has s behind it
pub behind : {now : List ℕ} (was s t : List ℕ) → now ≡ was ++ s → now ++ t ≡ was ++ (s ++ t)
behind was s t is = ap (λ l. l ++ t) is ∙ append_assoc was s t

-- two things put behind, with a blank between them and a line feed behind them
pub pair_behind : {a b e : List ℕ} (was s t : List ℕ) → a ≡ was ++ s → b ≡ a ++ (32 ∷ []) → e ≡ b ++ t → e ++ (10 ∷ []) ≡ was ++ pair_line s t
pair_behind {a = a} {b = b} was s t first blank second = behind b t (10 ∷ []) second ∙ behind a (32 ∷ []) (line t) blank ∙ behind was s (32 ∷ line t) first

-- what is put behind, if all went well
pub made_behind : {T E : Type 0} (r : Result T E) (now xs ys zs : List ℕ) → now ≡ cond (is_ok r) xs zs → xs ≡ ys → IfOk r (λ _. now ≡ ys)
made_behind (Ok x) now xs ys zs is same = is ∙ same
made_behind (Err e) now xs ys zs is same = tt

-- of the texts of n things, f i m for the m from i on, those before i are put behind
abbrev pub PutTo : (ℕ → ℕ → List ℕ) → (before out : List ℕ) → (n i : ℕ) → Type 0
PutTo f before out n i = out ++ f i (n - i) ≡ before ++ f 0 n

module _ (f : ℕ → ℕ → List ℕ) (before out : List ℕ) (n i : ℕ) (so_far : PutTo f before out n i) where
  pub put_more : (now t : List ℕ) → i < n → f i (suc (n - (i + 1))) ≡ t ++ f (suc i) (n - (i + 1)) → now ≡ out ++ t → PutTo f before now n (i + 1)
  put_more now t lt step is =
      let left : n - i ≡ suc (n - (i + 1)) = omega arith in
      let here : f i (n - i) ≡ t ++ f (i + 1) (n - (i + 1)) = ap (f i) left ∙ step ∙ ap (λ j. t ++ f j (n - (i + 1))) (sym (add-one i)) in
      behind out t (f (i + 1) (n - (i + 1))) is ∙ ap (λ l. out ++ l) (sym here) ∙ so_far

  pub put_all : n ≤ i → f i 0 ≡ [] → out ≡ before ++ f 0 n
  put_all all none =
      let left : n - i ≡ 0 = omega arith in
      sym (append-nil out) ∙ ap (λ l. out ++ l) (sym (ap (f i) left ∙ none)) ∙ so_far
