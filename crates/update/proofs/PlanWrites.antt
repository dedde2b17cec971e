-- The writes of a plan, one by one. Assumes nothing.
use Rattle.std.proofs.Common.{◌≡◌, ℕ, zero, suc, ◌+◌, ◌-◌, ◌*◌, ◌<◌, ◌≤◌, List, [], ◌∷◌, ◌++◌, length, get_or, drop, Some, None, Option, sym, refl, ap, ◌∙◌, arith, length-take}
use Rattle.std.specs.Option.{option_to_list}
use Rattle.std.proofs.lemmas.List.{drop-drop}
use Rattle.update.specs.Writes.{Write, after_write, after_writes}
use Rattle.update.specs.Putting.{padded, data_writes}
use Rattle.update.specs.declared.plan.Plan.{Plan}
use Rattle.update.specs.Listed.{listed}
use Rattle.update.specs.Plans.{plan_writes, nth_write, OnDisk}
use Rattle.update.proofs.NewFile.{length-data_writes}

pub nth_front : (vs ws : List Write) (k : ℕ) → k < length vs → nth_write (vs ++ ws) k ≡ nth_write vs k
nth_front [] ws k lt = absurd (omega arith)
nth_front (v ∷ vs) ws zero lt = refl
nth_front (v ∷ vs) ws (suc k) lt = nth_front vs ws k (omega arith)

-- behind the others comes the last, if there is one
pub nth_last : (vs : List Write) (o : Option Write) → nth_write (vs ++ option_to_list o) (length vs) ≡ o
nth_last [] None = refl
nth_last [] (Some w) = refl
nth_last (v ∷ vs) o = nth_last vs o

pub length_with_last : (vs : List Write) (o : Option Write) → length (vs ++ option_to_list o) ≤ suc (length vs)
length_with_last [] None = omega arith
length_with_last [] (Some w) = omega arith
length_with_last (v ∷ vs) o = omega (arith, length_with_last vs o)

pub nth_past : (ws : List Write) (k : ℕ) → length ws ≤ k → nth_write ws k ≡ None
nth_past [] k le = refl
nth_past (w ∷ ws) zero le = absurd (omega arith)
nth_past (w ∷ ws) (suc k) le = nth_past ws k (omega arith)

-- there is a write k if there are more than k
pub nth_within : (ws : List Write) (k : ℕ) (w : Write) → Some w ≡ nth_write ws k → k < length ws
nth_within [] k w is = let z : ◌≡◌ {A = ℕ} 0 1 = cc in absurd (let b : ⊥ = omega arith in b)
nth_within (v ∷ ws) zero w is = omega arith
nth_within (v ∷ ws) (suc k) w is = let lt = nth_within ws k w is in omega arith

pub nth_beyond : (ws : List Write) (k : ℕ) → None ≡ nth_write ws k → length ws ≤ k
nth_beyond [] k is = omega arith
nth_beyond (v ∷ ws) zero is = let z : ◌≡◌ {A = ℕ} 0 1 = cc in absurd (let b : ⊥ = omega arith in b)
nth_beyond (v ∷ ws) (suc k) is = let le = nth_beyond ws k is in omega arith

-- what is left from write k on: the write, and the others
pub drop_write : (ws : List Write) (k : ℕ) (w : Write) → Some w ≡ nth_write ws k → drop k ws ≡ w ∷ drop (k + 1) ws
drop_write [] k w is = cc
drop_write (v ∷ ws) zero w is = ap (λ x. x ∷ ws) (let same : v ≡ w = cc in same)
drop_write (v ∷ ws) (suc k) w is = drop_write ws k w is ∙ ap (λ n. w ∷ drop n (v ∷ ws)) (let next : suc (k + 1) ≡ suc k + 1 = omega arith in next)

-- a plan has a write for each block of its bytes, and one more
pub few_planned : (p : Plan) → length (plan_writes p) ≤ 17
unfolding plan_writes
few_planned p =
    let count = length-data_writes (listed p.blocks) p.content.now in
    let few = p.blocks.few in
    omega (arith, count, few, length-take p.blocks.len p.blocks.numbers, length_with_last (data_writes (listed p.blocks) p.content.now) p.last)

-- write k of a file's bytes has its bytes from 64 times k on
pub nth_data : (bs c : List ℕ) (k : ℕ) → k < length bs → nth_write (data_writes bs c) k ≡ Some (record { to = get_or bs k 0; bytes = padded 64 (drop (64 * k) c) })
unfolding data_writes
nth_data [] c k lt = absurd (omega arith)
nth_data (b ∷ bs) c zero lt = refl
nth_data (b ∷ bs) c (suc k) lt =
    let at : 64 + 64 * k ≡ 64 * suc k = omega arith in
    nth_data bs (drop 64 c) k (omega arith) ∙ ap (λ xs. Some (record { to = get_or bs k 0; bytes = padded 64 xs })) (drop-drop (64 * k) 64 c ∙ ap (λ n. drop n c) at)

-- of writes that are left, the first is made where there is power
module _ (ws vs : List Write) (w : Write) (first : ws ≡ w ∷ vs) where
  pub first_on_disk : (d : List ℕ) → OnDisk d ws → 64 * w.to + 64 ≤ length d
  first_on_disk d fit = fit 0 w (ap (λ us. nth_write us 0) (sym first))

  pub rest_on_disk : (d : List ℕ) → OnDisk d ws → OnDisk d vs
  rest_on_disk d fit k v is = fit (suc k) v (is ∙ ap (λ us. nth_write us (suc k)) (sym first))

  pub after_first : (d : List ℕ) (n m : ℕ) → 0 < n → m ≡ n - 1 → after_writes n d ws ≡ after_writes m (after_write d w) vs
  unfolding after_writes
  after_first d n m on less =
      let more : n ≡ suc m = omega arith in
      λ j. after_writes (more j) d (first j)

-- more power than there are writes makes no difference
pub after_all : (ws : List Write) (d : List ℕ) (m n : ℕ) → length ws ≤ m → length ws ≤ n → after_writes m d ws ≡ after_writes n d ws
unfolding after_writes
after_all [] d zero zero a b = refl
after_all [] d zero (suc n) a b = refl
after_all [] d (suc m) zero a b = refl
after_all [] d (suc m) (suc n) a b = refl
after_all (w ∷ ws) d zero n a b = absurd (omega arith)
after_all (w ∷ ws) d (suc m) zero a b = absurd (omega arith)
after_all (w ∷ ws) d (suc m) (suc n) a b = after_all ws (after_write d w) m n (omega arith) (omega arith)
