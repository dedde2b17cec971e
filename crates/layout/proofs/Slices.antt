-- Parts of lists of bytes: one put in the place of another, and fronts. Assumes nothing.
use Rattle.std.proofs.Common.{◌≡◌, ℕ, zero, suc, ◌+◌, ◌-◌, ◌≤◌, min, List, [], ◌∷◌, ◌++◌, length, take, drop, sym, refl, ap, ◌∙◌, ⊎_elim, append_assoc, arith, length-append, length-drop, length-take}
use borrow.Rule.Slice.PartMut.{put_mid}
use Rattle.std.proofs.lemmas.List.{drop-drop, drop-take, drop-append-le, take_all, take-take, take-append-le, take_at, drop_at, length-take-le}
use Rattle.std.proofs.lemmas.Slice.{drop-put_mid}
use Rattle.std.proofs.lemmas.Bool.{cases_lt}
use Rattle.layout.specs.Parts.{replaced}

-- no more than a list has can be taken from it
pub take_min : (n m : ℕ) (xs : List ℕ) → length xs ≤ m → take (min n m) xs ≡ take n xs
take_min n m xs h =
    ⊎_elim
    (λ less. ap (λ k. take k xs) (omega arith))
    (λ more. ap (λ k. take k xs) (let e : min n m ≡ m = omega arith in e) ∙ take_all m xs h ∙ sym (take_all n xs (omega arith)))
    (cases_lt n m)

-- what a write through `&mut bs[at..at + k]` leaves
pub put_mid-replaced : (at k : ℕ) (bs now p : List ℕ) → now ≡ p → k ≡ length p → put_mid at k bs now ≡ replaced bs at p
unfolding replaced
put_mid-replaced at k bs now p is n = rw (is, n) (ap (λ t. take at bs ++ (p ++ t)) (drop-drop (length p) at bs))

pub length-replaced : (bs : List ℕ) (at : ℕ) (p : List ℕ) → at + length p ≤ length bs → length (replaced bs at p) ≡ length bs
unfolding replaced
length-replaced bs at p h = simp (length-append, length-take, length-drop) (omega arith)

-- a front of the bytes, and the part that was put behind it
pub take-replaced : (bs front : List ℕ) (at : ℕ) (p : List ℕ) (n : ℕ) → take at bs ≡ front → at ≤ length bs → n ≡ at + length p → take n (replaced bs at p) ≡ front ++ p
unfolding replaced
take-replaced bs front at p n is h e =
    let long : length (take at bs ++ p) ≡ n = length-append (take at bs) p ∙ omega (arith, length-take-le at bs h) in
    ap (take n) (sym (append_assoc (take at bs) p (drop (at + length p) bs))) ∙ take_at (take at bs ++ p) _ n long ∙ ap (λ t. t ++ p) is

pub take_nil : (n : ℕ) → take {A = ℕ} n [] ≡ []
take_nil zero = refl
take_nil (suc n) = refl

pub take-append : (n : ℕ) (xs ys : List ℕ) → take n (xs ++ ys) ≡ take n xs ++ take (n - length xs) ys
take-append zero xs ys = ap (λ k. take k ys) (let none : 0 ≡ 0 - length xs = omega arith in none)
take-append (suc n) [] ys = ap (λ k. take k ys) (let all : suc n ≡ suc n - 0 = omega arith in all)
take-append (suc n) (x ∷ xs) ys =
    let less : n - length xs ≡ suc n - suc (length xs) = omega arith in
    ap (λ t. x ∷ t) (take-append n xs ys ∙ ap (λ k. take n xs ++ take k ys) less)

-- a part put behind a front that stands in its place
pub replaced-behind : (front rest p : List ℕ) (at : ℕ) → length front ≡ at → replaced (front ++ rest) at p ≡ (front ++ p) ++ drop (length p) rest
unfolding replaced
replaced-behind front rest p at n =
    (λ i. take_at front rest at n i ++ (p ++ (sym (drop-drop (length p) at (front ++ rest)) ∙ ap (drop (length p)) (drop_at front rest at n)) i))
    ∙ sym (append_assoc front p (drop (length p) rest))

-- a part of a front
pub part_of_front : (bs : List ℕ) (m from n : ℕ) → from + n ≤ m → take n (drop from (take m bs)) ≡ take n (drop from bs)
part_of_front bs m from n h =
    let split : m ≡ from + (m - from) = omega arith in
    ap (λ k. take n (drop from (take k bs))) split ∙ ap (take n) (drop-take from (m - from) bs) ∙ take-take n (m - from) (drop from bs) (omega arith)

-- a part of a part
pub part_of_part : (bs : List ℕ) (a m from n : ℕ) → from + n ≤ m → take n (drop from (take m (drop a bs))) ≡ take n (drop (a + from) bs)
part_of_part bs a m from n h = part_of_front (drop a bs) m from n h ∙ ap (take n) (drop-drop from a bs)

-- a part that lies before, within or behind what was put in place of another
pub part_before_replaced : (bs : List ℕ) (at : ℕ) (p : List ℕ) (from n : ℕ) → at + length p ≤ length bs → from + n ≤ at → take n (drop from (replaced bs at p)) ≡ take n (drop from bs)
unfolding replaced
part_before_replaced bs at p from n h before =
    let within : from ≤ length (take at bs) = simp length-take (omega arith) in
    let whole : n ≤ length (drop from (take at bs)) = simp (length-drop, length-take) (omega arith) in
    ap (take n) (drop-append-le from (take at bs) _ within) ∙ take-append-le n (drop from (take at bs)) _ whole ∙ part_of_front bs at from n before

pub part-replaced : (bs : List ℕ) (at : ℕ) (p : List ℕ) → at + length p ≤ length bs → take (length p) (drop at (replaced bs at p)) ≡ p
unfolding replaced
part-replaced bs at p h = ap (take (length p)) (drop_at (take at bs) _ at (length-take-le at bs (omega arith))) ∙ take_at p _ (length p) refl

pub part-behind-replaced : (bs : List ℕ) (at : ℕ) (p : List ℕ) (from n : ℕ) → at + length p ≤ length bs → at + length p ≤ from → take n (drop from (replaced bs at p)) ≡ take n (drop from bs)
part-behind-replaced bs at p from n h behind =
    ap (λ t. take n (drop from t)) (sym (put_mid-replaced at (length p) bs p p refl refl)) ∙ ap (take n) (drop-put_mid at (length p) bs p from behind (omega arith) refl)
