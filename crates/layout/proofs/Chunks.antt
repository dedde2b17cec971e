-- A list cut into parts of one length, an array's `map`, and the table of entries. Assumes nothing.
use Rattle.std.proofs.Common.{◌≡◌, ℕ, zero, suc, ◌+◌, ◌*◌, ◌/◌, ◌<◌, ◌≤◌, true, false, List, [], get_or, length, map, take, drop, Some, None, Option, MatchOption, ap, ◌∙◌, arith}
use Rattle.std.specs.Array.{IsMapOf, IsFirstChunk}
use Rattle.std.specs.Borrow.{Bor}
use Rattle.std.specs.Fn.{Called, Mut}
use Rattle.std.specs.List.{range_with_len}
use Rattle.std.specs.Simd.{first_chunks}
use Rattle.std.proofs.lemmas.Bool.{le-leb, lt-leb}
use Rattle.std.proofs.lemmas.List.{drop-drop, get_or-map, get_or-take, length-map, length-take}
use Rattle.std.proofs.lemmas.List.FromFn.{fill_by_all}
use Rattle.layout.specs.Entries.{decoded}
use Rattle.layout.specs.Files.{has_entries, entry_bytes, entry_at, entries}

-- part i of the first k parts of n elements each
pub get_or-first_chunks : (n k : ℕ) (xs : List ℕ) (i : ℕ) → i < k → get_or (first_chunks n k xs) i [] ≡ take n (drop (n * i) xs)
get_or-first_chunks n zero xs i lt = absurd (omega (arith, lt))
get_or-first_chunks n (suc k) xs zero lt = ap (λ m. take n (drop m xs)) (let e : 0 ≡ n * 0 = omega arith in e)
get_or-first_chunks n (suc k) xs (suc i) lt =
    get_or-first_chunks n k (drop n xs) i (omega (arith, lt)) ∙ ap (take n) (drop-drop (n * i) n xs ∙ ap (λ m. drop m xs) (let e : n + n * i ≡ n * suc i = omega arith in e))

-- what an array's `map` gives, where each call computes h, element by element
pub map-range_with_len_from_map : {F A B : Type 0} {g : Mut F (A × Unit {0}) B} {f : F} (xs : List A) (ys : List B) (n : ℕ)
    → IsMapOf g f xs ys n → (h : A → B) → ((p : F) (x : A) (y : B) (q : F) → Called g p (x, tt) y q → y ≡ h x)
    → (a : A) (b : B) (at : ℕ → B) → ((k : ℕ) → k < n → h (get_or xs k a) ≡ at k) → ys ≡ map at (range_with_len 0 n)
map-range_with_len_from_map xs ys n is h calls a b at same =
    fill_by_all at ys n b is.long (λ k lt. let called = is.at k a b lt in calls _ _ _ _ called.2 ∙ same k lt)

table_decoded : (d : List ℕ) (ps ts : List (List ℕ)) → ps ≡ first_chunks 32 (length d / 32) d → length ps ≡ length d / 32 → IsFirstChunk ps ts 16 → map decoded ts ≡ entries d
unfolding entries entry_at entry_bytes
table_decoded d ps ts front long is =
    let enough : 16 ≤ length d / 32 = omega (arith, is.enough, long) in
    let sixteen : length ts ≡ 16 = ap length is.same ∙ simp length-take (omega (arith, is.enough)) in
    let part : (k : ℕ) → k < 16 → get_or ts k [] ≡ take 32 (drop (32 * k) d) =
    λ k lt. ap (λ xs. get_or xs k []) (is.same ∙ ap (take 16) front) ∙ get_or-take 16 _ k [] lt ∙ get_or-first_chunks 32 (length d / 32) d k (omega (arith, lt, enough)) in
    fill_by_all (entry_at d) (map decoded ts) 16 (decoded []) (simp length-map sixteen) (λ k lt. get_or-map decoded ts k [] (decoded []) (omega (arith, lt, sixteen)) ∙ ap decoded (part k lt))

-- the first sixteen parts of 32 bytes, if a disk has so many, spell its entries
pub table_of_parts : (d : List ℕ) (ps : List (List ℕ)) (o : Option (Bor (List (List ℕ))))
    → ps ≡ first_chunks 32 (length d / 32) d → length ps ≡ length d / 32 → MatchOption o (length ps < 16) (λ t. IsFirstChunk ps t.now 16)
    → MatchOption o (has_entries d ≡ false) (λ t. (has_entries d ≡ true) × (map decoded t.now ≡ entries d))
table_of_parts d ps None front long few = lt-leb 512 (length d) (omega (arith, few, long))
table_of_parts d ps (Some t) front long is = (le-leb 512 (length d) (omega (arith, is.enough, long)), table_decoded d ps t.now front long is)
