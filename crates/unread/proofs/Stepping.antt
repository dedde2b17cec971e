-- From one run of unread places to the next. Assumes nothing.
use Rattle.std.proofs.Common.{◌≡◌, ℕ, ◌<◌, ◌≤◌, Bool, true, false, ◌&&◌, ◌||◌, ltb, List, [], ◌∷◌, length, sym, refl, ap, ◌∙◌, subst, ⊎_elim, arith}
use Rattle.std.proofs.lemmas.Bool.{cases_lt, both_ways, and_from, and_right, le-leb, lt-leb, lt-ltb, le-ltb}
use Rattle.std.specs.declared.ops.Range.{Range}
use Rattle.unread.specs.Unread.{unread}
use Rattle.unread.specs.Runs.{Until, NextRun, Listed, covered, JustThese}
use Rattle.unread.proofs.Reach.{unread_off_disk}

-- the end is reached without an unread place
pub none_left : (d : List ℕ) (at r : ℕ) → Until (unread d) false at r (length d) → r ≡ length d → (k : ℕ) → at ≤ k → unread d k ≡ false
none_left d at r none end k from = ⊎_elim (λ lt. none.before k from (omega (arith, end))) (λ ge. unread_off_disk d k ge) (cases_lt k (length d))

module _ (d : List ℕ) (at start end : ℕ) (first : Until (unread d) false at start (length d)) (there : start ≡ length d → ⊥) (past : Until (unread d) true start end (length d)) where
  on_disk : start < length d
  on_disk = ⊎_elim (λ lt. lt) (λ ge. absurd (there (omega (arith, first.within)))) (cases_lt start (length d))

  -- the run has a place, since its first is unread
  pub run_holds : start < end
  run_holds =
      ⊎_elim
      (λ lt. lt)
      (λ ge.
      let same : end ≡ start = omega (arith, past.from) in
      absurd (both_ways (unread d start) (subst (λ k. unread d k ≡ false) same (past.here (omega (arith, on_disk)))) (first.here on_disk)))
      (cases_lt start end)

  pub next_run : NextRun (unread d) at (record { start = start; end = end })
  next_run = record {
    from = first.from;
    before = first.before;
    holds = run_holds;
    within = past.before;
    behind = ⊎_elim (λ lt. past.here lt) (λ ge. unread_off_disk d end ge) (cases_lt end (length d));
  }

module _ (p : ℕ → Bool) where
  -- no range has a place before the first of them
  before_listed : (rs : List (Range ℕ)) (at : ℕ) → Listed p at rs → (k : ℕ) → k < at → covered rs k ≡ false
  before_listed [] at listed k lt = refl
  before_listed (r ∷ rs) at listed k lt =
      let first = listed.0 in
      (λ j. (lt-leb r.start k (omega (arith, first.from)) j && ltb k r.end) || before_listed rs r.end listed.1 k (omega (arith, first.from, first.holds)) j)

  pub listed_covers : (rs : List (Range ℕ)) (at : ℕ) → Listed p at rs → (k : ℕ) → at ≤ k → covered rs k ≡ p k
  listed_covers [] at listed k from = sym (listed k from)
  listed_covers (r ∷ rs) at listed k from =
      let first = listed.0 in
      ⊎_elim
      (λ before. before_listed (r ∷ rs) r.start (record { from = omega arith; before = λ m ge lt. absurd (omega arith); holds = first.holds; within = first.within; behind = first.behind }, listed.1) k before ∙ sym (first.before k from before))
      (λ start.
      ⊎_elim
      (λ within. ap (λ b. b || covered rs k) (and_from _ _ (le-leb r.start k start) (lt-ltb k r.end within)) ∙ sym (first.within k start within))
      (λ past. ap (λ b. b || covered rs k) (and_right _ _ (le-ltb k r.end past)) ∙ listed_covers rs r.end listed.1 k past)
      (cases_lt k r.end))
      (cases_lt k r.start)

  pub just_these : JustThese p
  just_these rs listed k = listed_covers rs 0 listed k (omega arith)
