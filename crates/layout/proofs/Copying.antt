-- A file's bytes, copied block after block. Assumes nothing.
use Rattle.std.proofs.Common.{◌≡◌, ℕ, ◌+◌, ◌-◌, ◌*◌, ◌<◌, ◌≤◌, min, List, [], ◌++◌, length, get_or, take, drop, Ok, Err, MatchBool, Result, sym, ap, ◌∙◌, subst, ⊎_elim, arith, length-append, length-drop, length-take}
use Rattle.std.specs.List.{flat_map}
use Rattle.std.proofs.lemmas.List.{flat_map_more, take_more, drop_all, take_all, drop-drop}
use Rattle.std.proofs.lemmas.Bool.{cases_lt, le-ltb}
use Rattle.layout.specs.Parts.{replaced}
use Rattle.layout.specs.declared.disk.RoomTooShort.{RoomTooShort}
use Rattle.layout.specs.Files.{block, Copies}
use Rattle.layout.proofs.Slices.{take_min, take_nil, take-append, replaced-behind}

-- a block, cut out between its ends or the disk's
pub block_cut : (d : List ℕ) (b from to : ℕ) → from ≡ min (b * 64) (length d) → to ≡ min (from + 64) (length d) → take (to - from) (drop from d) ≡ block d b
unfolding block
block_cut d b from to is end =
    ⊎_elim
    (λ off.
    let past : length d ≤ from = omega arith in
    let past_block : length d ≤ 64 * b = omega arith in
    ap (take (to - from)) (drop_all from d past) ∙ take_nil (to - from) ∙ sym (ap (take 64) (drop_all (64 * b) d past_block)))
    (λ (on : b * 64 ≤ length d).
    let start : from ≡ 64 * b = omega arith in
    let size : to - from ≡ min 64 (length d - 64 * b) = omega arith in
    (λ i. take (size i) (drop (start i) d)) ∙ take_min 64 (length d - 64 * b) (drop (64 * b) d) (let short : length (drop (64 * b) d) ≤ length d - 64 * b = simp length-drop (omega arith) in short))
    (cases_lt (length d) (b * 64))

module _ (f : ℕ → List ℕ) (bs : List ℕ) (len : ℕ) where
  -- the first len bytes of the first k blocks
  pub front : ℕ → List ℕ
  front k = take len (flat_map f (take k bs))

  pub front_more : (k at n : ℕ) → k < length bs → at ≡ length (front k) → n ≡ min (length (f (get_or bs k 0))) (len - at) → front (k + 1) ≡ front k ++ take n (f (get_or bs k 0))
  unfolding front
  front_more k at n lt is some =
      let J = flat_map f (take k bs) in
      let B = f (get_or bs k 0) in
      let more : flat_map f (take (k + 1) bs) ≡ J ++ B = ap (flat_map f) (take_more bs k 0 lt) ∙ sym (flat_map_more f [] (take k bs) (get_or bs k 0)) in
      let left : len - length J ≡ len - at = omega (arith, length-take len J) in
      let fewer : min (len - at) (length B) ≡ n = omega arith in
      let tail : take (len - length J) B ≡ take n B = ap (λ m. take m B) left ∙ sym (take_min (len - at) (length B) B (omega arith)) ∙ ap (λ m. take m B) fewer in
      ap (take len) more ∙ take-append len J B ∙ ap (λ t. take len J ++ t) tail

  pub length_front_more : (k at n : ℕ) → k < length bs → at ≡ length (front k) → n ≡ min (length (f (get_or bs k 0))) (len - at) → at + n ≡ length (front (k + 1))
  length_front_more k at n lt is some =
      let B = f (get_or bs k 0) in
      let long : length (take n B) ≡ n = simp length-take (omega arith) in
      let sum : length (front k ++ take n B) ≡ length (front k) + length (take n B) = length-append (front k) (take n B) in
      let all : length (front (k + 1)) ≡ length (front k ++ take n B) = ap length (front_more k at n lt is some) in
      omega arith

  -- one block more, put behind the others
  pub copied_more : (room : List ℕ) (k at n : ℕ) (copied : List ℕ) → k < length bs → at ≡ length (front k) → n ≡ min (length (f (get_or bs k 0))) (len - at) → copied ≡ front k ++ drop at room →
      replaced copied at (take n (f (get_or bs k 0))) ≡ front (k + 1) ++ drop (at + n) room
  copied_more room k at n copied lt is some has =
      let B = f (get_or bs k 0) in
      let long : length (take n B) ≡ n = simp length-take (omega arith) in
      ap (λ r. replaced r at (take n B)) has ∙ replaced-behind (front k) (drop at room) (take n B) at (sym is)
      ∙ (λ i. sym (front_more k at n lt is some) i ++ (ap (λ m. drop m (drop at room)) long ∙ drop-drop n at room) i)

  pub front_all : (k : ℕ) → length bs ≤ k → front k ≡ take len (flat_map f bs)
  unfolding front
  front_all k le = ap (λ l. take len (flat_map f l)) (take_all k bs le)

  pub front_none : front 0 ≡ []
  unfolding front
  front_none = take_nil len

pub copies_all : (n : ℕ) (c room : List ℕ) (r : Result ℕ RoomTooShort) (room₁ : List ℕ) → n ≤ length room → r ≡ Ok (length c) → room₁ ≡ c ++ drop (length c) room → Copies n c room r room₁
copies_all n c room r room₁ fits is has =
    subst (λ b. MatchBool b ((r ≡ Err (record { needed = n })) × (room₁ ≡ room)) ((r ≡ Ok (length c)) × (room₁ ≡ c ++ drop (length c) room))) (sym (le-ltb (length room) n fits)) (is, has)
