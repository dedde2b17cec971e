-- Which blocks the first entries have, by entry and place. Assumes nothing.
use Rattle.std.proofs.Common.{◌≡◌, ℕ, zero, suc, ◌<◌, Bool, true, false, ◌||◌, eqb, List, [], ◌∷◌, ◌++◌, length, get_or, sym, refl, ap, ◌∙◌, subst, ⊎_elim, arith}
use Rattle.std.proofs.Math.Bool.{or-false, or_comm}
use Rattle.std.proofs.lemmas.Bool.{cases_Bool, cases_eq, cond-true, cond-false, both_ways, eq-eqb, eqb-true, or_cases, or_left, or_right}
use Rattle.layout.specs.Entries.{blocks_of}
use Rattle.layout.specs.Files.{entry_at}
use Rattle.fsck.specs.Blocks.{blocks_at, blocks_to, has}
use Rattle.fsck.specs.Rules.{Used, Place, block_of}

or_assoc : (a b c : Bool) → (a || (b || c)) ≡ ((a || b) || c)
or_assoc true b c = refl
or_assoc false b c = refl

pub has-append : (xs ys : List ℕ) (b : ℕ) → has (xs ++ ys) b ≡ (has xs b || has ys b)
has-append [] ys b = refl
has-append (x ∷ xs) ys b = ap (λ t. eqb b x || t) (has-append xs ys b) ∙ or_assoc (eqb b x) (has xs b) (has ys b)

pub has_at : (xs : List ℕ) (k : ℕ) → k < length xs → has xs (get_or xs k 0) ≡ true
has_at [] k lt = absurd (omega arith)
has_at (x ∷ xs) zero lt = or_left _ _ (eq-eqb x x refl)
has_at (x ∷ xs) (suc k) lt = or_right _ _ (has_at xs k (omega arith))

pub has_place : (xs : List ℕ) (b : ℕ) → has xs b ≡ true → (k : ℕ) × (k < length xs) × (get_or xs k 0 ≡ b)
has_place [] b is = absurd (both_ways false refl is)
has_place (x ∷ xs) b is =
    ⊎_elim
    (λ here. (0, omega arith, sym (eqb-true b x here)))
    (λ there. let p = has_place xs b there in (suc p.0, omega (arith, p.1), p.2))
    (or_cases (eqb b x) (has xs b) is)

pub blocks_at_used : (d : List ℕ) (i : ℕ) → Used d i → blocks_at d i ≡ blocks_of (entry_at d i)
unfolding blocks_at
blocks_at_used d i used = cond-true _ _ _ used

pub blocks_at_unused : (d : List ℕ) (i : ℕ) → (entry_at d i).used ≡ false → blocks_at d i ≡ []
unfolding blocks_at
blocks_at_unused d i unused = cond-false _ _ _ unused

pub has-blocks_to_more : (d : List ℕ) (i b : ℕ) → has (blocks_to d (suc i)) b ≡ (has (blocks_to d i) b || has (blocks_at d i) b)
unfolding blocks_to
has-blocks_to_more d i b = has-append (blocks_to d i) (blocks_at d i) b

pub has-blocks_to_unused : (d : List ℕ) (i b : ℕ) → (entry_at d i).used ≡ false → has (blocks_to d (suc i)) b ≡ has (blocks_to d i) b
has-blocks_to_unused d i b unused = has-blocks_to_more d i b ∙ ap (λ l. has (blocks_to d i) b || has l b) (blocks_at_unused d i unused) ∙ or-false (has (blocks_to d i) b)

pub has-blocks_to_used : (d : List ℕ) (i b : ℕ) → Used d i → has (blocks_to d (suc i)) b ≡ (has (blocks_of (entry_at d i)) b || has (blocks_to d i) b)
has-blocks_to_used d i b used = has-blocks_to_more d i b ∙ ap (λ l. has (blocks_to d i) b || has l b) (blocks_at_used d i used) ∙ or_comm (has (blocks_to d i) b) _

-- a place that is in use has its block among them
pub place_has : (d : List ℕ) (n i k : ℕ) → Place d n i k → has (blocks_to d n) (block_of d i k) ≡ true
place_has d zero i k p = absurd (omega (arith, p.entry))
place_has d (suc n) i k p =
    has-blocks_to_more d n (block_of d i k) ∙
    ⊎_elim
    (λ last. or_right _ _ (subst (λ j. has (blocks_at d j) (block_of d i k) ≡ true) last (ap (λ l. has l (block_of d i k)) (blocks_at_used d i p.used) ∙ has_at (blocks_of (entry_at d i)) k p.within)))
    (λ before. or_left _ _ (place_has d n i k (record { entry = omega (arith, p.entry); used = p.used; within = p.within })))
    (cases_eq i n)

pub record PlaceOf (d : List ℕ) (n b : ℕ) : Type 0 where
  pub entry : ℕ
  pub place : ℕ
  pub there : Place d n entry place
  pub is : block_of d entry place ≡ b

-- and a block that is among them has such a place
pub has_places : (d : List ℕ) (n b : ℕ) → has (blocks_to d n) b ≡ true → PlaceOf d n b
unfolding blocks_to
has_places d zero b is = absurd (both_ways false refl is)
has_places d (suc n) b is =
    ⊎_elim
    (λ before.
    let p = has_places d n b before in
    record { entry = p.entry; place = p.place; there = record { entry = omega (arith, p.there.entry); used = p.there.used; within = p.there.within }; is = p.is })
    (λ last.
    ⊎_elim
    (λ used.
    let p = has_place (blocks_of (entry_at d n)) b (ap (λ l. has l b) (sym (blocks_at_used d n used)) ∙ last) in
    record { entry = n; place = p.0; there = record { entry = omega arith; used = used; within = p.1 }; is = p.2 })
    (λ unused. absurd (both_ways false refl (ap (λ l. has l b) (sym (blocks_at_unused d n unused)) ∙ last)))
    (cases_Bool (entry_at d n).used))
    (or_cases _ _ (sym (has-blocks_to_more d n b) ∙ is))
