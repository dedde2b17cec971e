-- The first of a row of entries that passes a test, and its place in the list of them. Assumes nothing.
use Rattle.std.proofs.Common.{◌≡◌, ℕ, zero, suc, ◌+◌, ◌<◌, get_or, Bool, true, false, not, ◌&&◌, cond, map, position, Some, None, List, [], ◌∷◌, refl, length, ltb, sym, ap, ◌∙◌, add-one, arith}
use Rattle.std.specs.List.{range_with_len, position_or_len}
use Rattle.std.specs.Str.{bytes_eq}
use Rattle.std.proofs.lemmas.List.{get_or-map, length-map}
use Rattle.std.proofs.lemmas.List.FromFn.{get_or-map-range_with_len, length-map-range_with_len}
use Rattle.layout.specs.declared.entry.Entry.{Entry}
use Rattle.layout.specs.Entries.{decoded}
use Rattle.layout.specs.Files.{entries, entry_at, has_name, find_from, find}

-- one step of a search from i on, where the rest of it goes on from the next number
pub search_step : (b : Bool) (i rest more : ℕ) → rest ≡ suc i + more → cond b i rest ≡ i + cond (not b) (1 + more) 0
search_step true i rest more is = omega arith
search_step false i rest more is = is ∙ omega arith

find_from-position : (d x : List ℕ) (i n : ℕ) → find_from d x i n ≡ i + position_or_len (λ (e : Entry). e.used && bytes_eq e.name.bytes x) (map (entry_at d) (range_with_len i n))
unfolding find_from has_name
find_from-position d x i zero = omega arith
find_from-position d x i (suc n) =
    search_step _ i _ _ (find_from-position d x (suc i) n ∙ ap (λ k. suc i + position_or_len (λ (e : Entry). e.used && bytes_eq e.name.bytes x) (map (entry_at d) (range_with_len k n))) (sym (add-one i)))

-- the place of the first entry that is in use and has the name
pub position-find : (d x : List ℕ) → position (λ (e : Entry). e.used && bytes_eq e.name.bytes x) (entries d) ≡ cond (ltb (find d x) 16) (Some (find d x)) None
unfolding find entries
position-find d x =
    let place = find_from-position d x 0 16 in
    let same : position_or_len (λ (e : Entry). e.used && bytes_eq e.name.bytes x) (map (entry_at d) (range_with_len 0 16)) ≡ find_from d x 0 16 = omega (arith, place) in
    ap (λ n. cond (ltb n 16) (Some n) None) same

-- entry i in the list of all
pub get_or-entries : (d : List ℕ) (i : ℕ) (e : Entry) → i < 16 → get_or (entries d) i e ≡ entry_at d i
unfolding entries
get_or-entries d i e lt = get_or-map-range_with_len (entry_at d) 0 16 i i e lt (omega arith)

-- a table that spells the entries has sixteen parts
pub length-table : (d : List ℕ) (ts : List (List ℕ)) → map decoded ts ≡ entries d → length ts ≡ 16
unfolding entries
length-table d ts is = (let e : length (map decoded ts) ≡ length ts = simp length-map in sym e) ∙ ap length is ∙ length-map-range_with_len (entry_at d) 0 16

-- entry i, from the part that spells it
pub decoded-table : (d : List ℕ) (ts : List (List ℕ)) (i : ℕ) (x : List ℕ) → map decoded ts ≡ entries d → i < 16 → decoded (get_or ts i x) ≡ entry_at d i
decoded-table d ts i x is lt =
    sym (get_or-map decoded ts i x (decoded x) (omega (arith, lt, length-table d ts is))) ∙ ap (λ es. get_or es i (decoded x)) is ∙ get_or-entries d i (decoded x) lt

-- a search over the entries that are spelled is one over the parts that spell them
position_or_len-map : {A B : Type 0} (p : B → Bool) (f : A → B) (xs : List A) → position_or_len p (map f xs) ≡ position_or_len (λ x. p (f x)) xs
position_or_len-map p f [] = refl
position_or_len-map p f (x ∷ xs) = ap (λ n. cond (not (p (f x))) (1 + n) 0) (position_or_len-map p f xs)

pub position-map : {A B : Type 0} (p : B → Bool) (f : A → B) (xs : List A) → position (λ x. p (f x)) xs ≡ position p (map f xs)
position-map p f xs =
    let long : length (map f xs) ≡ length xs = simp length-map in
    let same = position_or_len-map p f xs in
    λ j. cond (ltb (sym same j) (sym long j)) (Some (sym same j)) None
