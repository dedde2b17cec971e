-- What `find` and `file` answer, in the subject's words. Assumes nothing.
use Rattle.std.proofs.Common.{◌≡◌, ℕ, zero, suc, ◌+◌, ◌*◌, ◌<◌, ◌≤◌, Bool, true, false, cond, ◌&&◌, ltb, List, length, Some, None, Decides, sym, refl, ap, ◌∙◌, subst, ⊎_elim, arith, length-drop, length-take}
use Rattle.std.specs.Option.{option_map}
use Rattle.std.proofs.lemmas.Slice.Eq.{bytes_eq-Decides}
use Rattle.std.proofs.lemmas.Bool.{cases_Bool, cases_eq, cases_lt, cond-true, cond-false, both_ways, lt-ltb, le-ltb, leb-true, ltb-true, and_parts, and_cases}
use Rattle.std.proofs.lemmas.Bool.Decides.{Decides-and, not_from_Decides}
use Rattle.layout.specs.Files.{has_entries, has_entry, entry_bytes, entry_at, entry_if, block, content, has_name, find_from, find, found, entry_of, file}
use Rattle.layout.specs.Words.{Named, First, NoFile}

-- the test of an entry's name decides whether it is in use and has the name
pub named_decides : (d x : List ℕ) (i : ℕ) → Decides (has_name d x i) (Named d x i)
unfolding has_name
named_decides d x i = Decides-and (entry_at d i).used _ (λ e. e, λ e. e) (bytes_eq-Decides (entry_at d i).name.bytes x)

-- j is the first of the n entries from i on with the name, or i + n
record FoundFrom (d x : List ℕ) (i n j : ℕ) : Type 0 where
  low : i ≤ j
  within : j ≤ i + n
  here : j < i + n → has_name d x j ≡ true
  before : (k : ℕ) → i ≤ k → k < j → has_name d x k ≡ false

found_from : (d x : List ℕ) (i n : ℕ) → FoundFrom d x i n (find_from d x i n)
unfolding find_from
found_from d x i zero = record { low = omega arith; within = omega arith; here = λ h. absurd (omega arith); before = λ k a b. absurd (omega arith) }
found_from d x i (suc n) =
    ⊎_elim
    (λ is. subst (FoundFrom d x i (suc n)) (sym (cond-true (has_name d x i) _ _ is)) (record { low = omega arith; within = omega arith; here = λ _. is; before = λ k a b. absurd (omega arith) }))
    (λ isn't.
    let r = found_from d x (suc i) n in
    subst (FoundFrom d x i (suc n)) (sym (cond-false (has_name d x i) _ _ isn't)) (record {
      low = omega (arith, r.low);
      within = omega (arith, r.within);
      here = λ h. r.here (omega arith);
      before = λ k a b. ⊎_elim (λ same. subst (λ m. has_name d x m ≡ false) (sym same) isn't) (λ other. r.before k (omega arith) b) (cases_eq k i);
    }))
    (cases_Bool (has_name d x i))

-- two that are the first are one
pub first_unique : (d x : List ℕ) (i j : ℕ) → First d x i → First d x j → i ≡ j
first_unique d x i j p q =
    ⊎_elim
    (λ less. absurd (q.before i less (p.here (omega (arith, q.within)))))
    (λ le. ⊎_elim (λ less. absurd (p.before j less (q.here (omega (arith, p.within))))) (λ ge. omega arith) (cases_lt j i))
    (cases_lt i j)

pub find_first : (d x : List ℕ) → First d x (find d x)
unfolding find
find_first d x =
    let r = found_from d x 0 16 in
    record {
      within = omega (arith, r.within);
      here = λ h. (named_decides d x _).0 (r.here (omega arith));
      before = λ k h. not_from_Decides _ (named_decides d x k) (r.before k (omega arith) h);
    }

pub entry_of_here : (d x : List ℕ) → find d x < 16 → entry_of d x ≡ Some (entry_at d (find d x))
unfolding entry_of
entry_of_here d x lt = cond-true _ _ _ (lt-ltb (find d x) 16 lt)

pub entry_of_none : (d x : List ℕ) → 16 ≤ find d x → entry_of d x ≡ None
unfolding entry_of
entry_of_none d x ge = cond-false _ _ _ (le-ltb (find d x) 16 ge)

pub no_file : (d x : List ℕ) → NoFile d x
unfolding file
no_file d x =
    let f = find_first d x in
    record {
      none = λ all. ⊎_elim (λ lt. absurd (all _ lt (f.here lt))) (λ ge. ap (option_map (content d)) (entry_of_none d x ge)) (cases_lt (find d x) 16);
      unnamed = λ gone k lt is.
          ⊎_elim
          (λ in'.
          let some : Some (content d (entry_at d (find d x))) ≡ None = sym (ap (option_map (content d)) (entry_of_here d x in')) ∙ gone in
          let z : ◌≡◌ {A = ℕ} 0 1 = cc in
          let b : ⊥ = omega arith in
          b)
          (λ ge. f.before k (omega arith) is)
          (cases_lt (find d x) 16);
    }

-- which way a test went, from what it gave
pub some_from_cond : {A : Type 0} (b : Bool) (x y : A) → Some x ≡ cond b (Some y) None → (b ≡ true) × (x ≡ y)
some_from_cond true x y is = (refl, cc)
some_from_cond false x y is = let z : ◌≡◌ {A = ℕ} 0 1 = cc in absurd (let b : ⊥ = omega arith in b)

pub none_from_cond : {A : Type 0} (b : Bool) (y : A) → None ≡ cond b (Some y) None → b ≡ false
none_from_cond true y is = let z : ◌≡◌ {A = ℕ} 0 1 = cc in absurd (let b : ⊥ = omega arith in b)
none_from_cond false y is = refl

-- the entry of the name, from its place
pub lookup_some : (d x : List ℕ) (i : ℕ) → Some i ≡ found d x → entry_if d i ≡ cond (has_entries d) (entry_of d x) None
unfolding entry_of
lookup_some d x i is =
    let known = some_from_cond _ _ _ is in
    let parts = and_parts (has_entries d) (ltb (find d x) 16) known.0 in
    ap (entry_if d) known.1 ∙ cond-true _ _ _ known.0 ∙ sym (cond-true _ _ _ parts.0 ∙ cond-true _ _ _ parts.1)

pub lookup_none : (d x : List ℕ) → None ≡ found d x → None ≡ cond (has_entries d) (entry_of d x) None
unfolding entry_of
lookup_none d x is =
    let gone = none_from_cond (has_entries d && ltb (find d x) 16) (find d x) is in
    ⊎_elim
    (λ there. sym (cond-true _ _ _ there ∙ cond-false _ _ _ (⊎_elim (λ no'. absurd (both_ways _ no' there)) (λ e. e) (and_cases _ _ gone))))
    (λ no'. sym (cond-false _ _ _ no'))
    (cases_Bool (has_entries d))

-- an entry that is there has its 32 bytes
pub length-entry_bytes : (d : List ℕ) (i : ℕ) → has_entry d i ≡ true → length (entry_bytes d i) ≡ 32
unfolding entry_bytes
length-entry_bytes d i there =
    let parts = and_parts (has_entries d) (ltb i 16) there in
    let long : 512 ≤ length d = leb-true 512 (length d) parts.0 in
    let lt : i < 16 = ltb-true i 16 parts.1 in
    simp (length-take, length-drop) (omega arith)

-- a block that is on the disk is whole
pub length-block : (d : List ℕ) (b : ℕ) → 64 * b + 64 ≤ length d → length (block d b) ≡ 64
unfolding block
length-block d b on_disk = simp (length-take, length-drop) (omega arith)
