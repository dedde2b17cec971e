-- The lowest free blocks, gathered one by one, and the first entry that is not in use. Assumes nothing.
use Rattle.std.proofs.Common.{◌≡◌, ℕ, zero, suc, ◌+◌, Bool, true, false, not, cond, ltb, List, ◌∷◌, map, position, Some, None, sym, refl, ap, ◌∙◌, arith}
use Rattle.std.specs.List.{filter, range_with_len, position_or_len}
use Rattle.std.proofs.lemmas.Bool.{cond-true, cond-false, lt-ltb, le-ltb}
use Rattle.layout.specs.declared.entry.Entry.{Entry}
use Rattle.layout.specs.Files.{entry_at, entries, find, found}
use Rattle.fsck.specs.Blocks.{in_use, free_from}
use Rattle.fsck.specs.Sound.{sound}
use Rattle.update.specs.Putting.{unused_from, place_for}
use Rattle.update.proofs.Admission.{found_place, found_nowhere}

-- the blocks that are in no set which has just those in use
pub filter-free_from : (d : List ℕ) (test : ℕ → Bool) (b n : ℕ) → ((k : ℕ) → test k ≡ not (in_use d k)) → filter test (range_with_len b n) ≡ free_from d b n
unfolding free_from
filter-free_from d test b zero h = refl
filter-free_from d test b (suc n) h =
    let next : b + 1 ≡ suc b = omega arith in
    let rest : filter test (range_with_len (b + 1) n) ≡ free_from d (suc b) n = ap (λ k. filter test (range_with_len k n)) next ∙ filter-free_from d test (suc b) n h in
    (λ j. cond (h b j) (b ∷ rest j) (rest j)) ∙ turned (in_use d b)
  where
    turned : (t : Bool) → cond (not t) (b ∷ free_from d (suc b) n) (free_from d (suc b) n) ≡ cond t (free_from d (suc b) n) (b ∷ free_from d (suc b) n)
    turned true = refl
    turned false = refl

-- the place of the first entry that is not in use, in the list of them
unused_step : (used : Bool) (i rest more : ℕ) → rest ≡ suc i + more → cond used rest i ≡ i + cond (not (not used)) (1 + more) 0
unused_step true i rest more is = is ∙ omega arith
unused_step false i rest more is = omega arith

unused_from-position : (d : List ℕ) (i n : ℕ) → unused_from d i n ≡ i + position_or_len (λ (e : Entry). not e.used) (map (entry_at d) (range_with_len i n))
unfolding unused_from
unused_from-position d i zero = omega arith
unused_from-position d i (suc n) =
    let next : i + 1 ≡ suc i = omega arith in
    let rest = unused_from-position d (suc i) n ∙ ap (λ k. suc i + position_or_len (λ (e : Entry). not e.used) (map (entry_at d) (range_with_len k n))) (sym next) in
    unused_step (entry_at d i).used i _ _ rest

pub position-unused : (d : List ℕ) → position (λ (e : Entry). not e.used) (entries d) ≡ cond (ltb (unused_from d 0 16) 16) (Some (unused_from d 0 16)) None
unfolding entries
position-unused d =
    let same : position_or_len (λ (e : Entry). not e.used) (map (entry_at d) (range_with_len 0 16)) ≡ unused_from d 0 16 = omega (arith, unused_from-position d 0 16) in
    ap (λ n. cond (ltb n 16) (Some n) None) same

-- the place of a file: the one that was found, or else the first entry that is not in use
module _ (d x : List ℕ) where
  pub place_named : (i : ℕ) → Some i ≡ found d x → Some i ≡ cond (ltb (place_for d x) 16) (Some (place_for d x)) None
  unfolding place_for
  place_named i is =
      let here = found_place d x i is in
      let within = lt-ltb (find d x) 16 here.1 in
      let place = cond-true (ltb (find d x) 16) (find d x) (unused_from d 0 16) within in
      ap Some here.0 ∙ sym (ap (λ p. cond (ltb p 16) (Some p) None) place ∙ cond-true _ _ _ within)

  pub place_unnamed : sound d ≡ true → None ≡ found d x → place_for d x ≡ unused_from d 0 16
  unfolding place_for
  place_unnamed ok is = cond-false (ltb (find d x) 16) (find d x) (unused_from d 0 16) (le-ltb (find d x) 16 (found_nowhere d x ok is))
