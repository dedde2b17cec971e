-- What is printed piece after piece is what is printed at once. Assumes nothing.
use Rattle.std.proofs.Common.{◌≡◌, ℕ, zero, suc, ◌+◌, ◌-◌, ◌<◌, ◌≤◌, List, [], ◌∷◌, ◌++◌, length, get_or, take, drop, IfOk, Ok, Err, Result, sym, ap, ◌∙◌, inl, inr, append_assoc, append-nil, arith, length-append, min}
use Rattle.std.proofs.lemmas.List.{nil_from_length}
use Rattle.std.proofs.lemmas.Bool.{cases_lt, cond-true, cond-false, lt-ltb, le-ltb}
use Rattle.console.specs.Shown.{shown_byte, shown_line, shown_behind, shown_chars, shown_first, from_first}

-- one list for another in what is made
pub made_same : {T E : Type 0} (r : Result T E) (now xs ys : List ℕ) → xs ≡ ys → IfOk r (λ _. now ≡ xs) → IfOk r (λ _. now ≡ ys)
made_same (Ok x) now xs ys same is = is ∙ same
made_same (Err e) now xs ys same is = tt

-- a line of bytes, and the others behind it
line_and_others : (k : ℕ) (line rest : List ℕ) → 0 < length line → k + length line ≤ 16 → (k + length line < 16 → rest ≡ []) → shown_behind k (line ++ rest) ≡ shown_line line ++ shown_behind 0 rest
unfolding shown_behind shown_line
line_and_others k [] rest some fits last = absurd (omega arith)
line_and_others k (b ∷ []) [] some fits last = sym (append-nil (shown_byte b ++ (10 ∷ [])))
line_and_others k (b ∷ []) (c ∷ rest) some fits last = elim (cases_lt k 15) [
  | inl lt ↦ absurd (omega (arith, ap length (last (omega arith))))
  | inr ge ↦ ap (λ l. shown_byte b ++ l) (cond-false _ _ _ (le-ltb k 15 ge)) ∙ sym (append_assoc (shown_byte b) (10 ∷ []) (shown_behind 0 (c ∷ rest)))
]
line_and_others k (b ∷ c ∷ line) rest some fits last =
    let next = line_and_others (suc k) (c ∷ line) rest (omega arith) (omega arith) (λ lt. last (omega arith)) in
    ap (λ l. shown_byte b ++ l) (cond-true _ _ _ (lt-ltb k 15 (omega arith)) ∙ ap (λ l. 32 ∷ l) next)
    ∙ sym (append_assoc (shown_byte b) (32 ∷ shown_line (c ∷ line)) (shown_behind 0 rest))

-- of all bytes, those in front are printed, and these are left
abbrev pub ShownTo : List ℕ → List ℕ → List ℕ → List ℕ → Type 0
ShownTo before bytes out left = out ++ shown_behind 0 left ≡ before ++ shown_behind 0 bytes

module _ (before bytes out left : List ℕ) (so_far : ShownTo before bytes out left) where
  pub line_shown : (size : ℕ) (line rest now : List ℕ) → size ≡ 16 → left ≡ line ++ rest → length line ≡ min size (length left) → 0 < length left → now ≡ out ++ shown_line line → ShownTo before bytes now rest
  line_shown size line rest now sixteen parts is some now-is =
      let all = ap length parts ∙ length-append line rest in
      let last : 0 + length line < 16 → rest ≡ [] = λ lt. nil_from_length rest (omega arith) in
      let step = ap (shown_behind 0) parts ∙ line_and_others 0 line rest (omega arith) (omega arith) last in
      rw now-is (simp append_assoc (ap (λ l. out ++ l) (sym step) ∙ so_far))

  pub shown_all : length left ≡ 0 → out ≡ before ++ shown_behind 0 bytes
  unfolding shown_behind
  shown_all none = sym (append-nil out) ∙ ap (λ l. out ++ shown_behind 0 l) (sym (nil_from_length left none)) ∙ so_far

-- i bytes of a name are printed
abbrev pub CharsTo : List ℕ → List ℕ → List ℕ → ℕ → Type 0
CharsTo before bytes out i = out ++ shown_chars (drop i bytes) ≡ before ++ shown_chars bytes

-- a name is printed by its first byte and the others
pub first_and_others : (x : List ℕ) (n : ℕ) → 0 < n → 0 < length x → shown_first (get_or x 0 0) ++ shown_chars (take (n - 1) (drop 1 x)) ≡ from_first (take n x)
unfolding from_first
first_and_others [] n some short = absurd (omega arith)
first_and_others (b ∷ bs) zero some short = absurd (omega arith)
first_and_others (b ∷ bs) (suc n) some short =
    let less : suc n - 1 ≡ n = omega arith in
    ap (λ m. shown_first b ++ shown_chars (take m bs)) less
