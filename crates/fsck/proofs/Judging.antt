-- A disk judged entry after entry, and an entry block after block. Assumes nothing.
use Rattle.std.proofs.Common.{◌≡◌, ℕ, zero, suc, ◌+◌, ◌-◌, ◌*◌, ◌<◌, ◌≤◌, Bool, true, false, not, ◌&&◌, ◌||◌, eqb, leb, List, [], ◌∷◌, length, get_or, take, drop, is_some, Some, None, Option, sym, refl, ap, ◌∙◌, ⊎_elim, add-suc, suc-add, zero-add, arith}
use Rattle.std.proofs.lemmas.List.{at_drop_more, take_more, get_or-take, get_or-drop}
use Rattle.std.proofs.lemmas.Bool.{cases_Bool, cond-true, cond-false, both_ways, and_parts, and_from, and_left, and_right, le-leb, lt-leb}
use Rattle.layout.specs.Entries.{blocks_of}
use Rattle.layout.specs.Files.{entry_bytes, entry_at, find}
use Rattle.fsck.specs.Blocks.{size, blocks_to, has}
use Rattle.fsck.specs.Sound.{size_ok, block_ok, blocks_ok, entry_ok, sound_to, sound, fault_from, first_fault}
use Rattle.fsck.specs.Rules.{SoundTo, Judged, TwinsFound}
use Rattle.fsck.proofs.Membership.{has-append}
use Rattle.fsck.proofs.Deciding.{sound_decides}

pub blocks_ok_none : (n : ℕ) (seen : ℕ → Bool) → blocks_ok n seen [] ≡ true
unfolding blocks_ok
blocks_ok_none n seen = refl

module _ (n : ℕ) (seen : ℕ → Bool) (bs : List ℕ) (i : ℕ) (lt : i < length bs) where
  step : blocks_ok n seen (drop i bs) ≡ (block_ok n seen (get_or bs i 0) && blocks_ok n (λ k. eqb k (get_or bs i 0) || seen k) (drop (i + 1) bs))
  unfolding blocks_ok
  step = at_drop_more (blocks_ok n seen) bs i 0 lt

  pub blocks_ok_stop : block_ok n seen (get_or bs i 0) ≡ false → blocks_ok n seen (drop i bs) ≡ false
  blocks_ok_stop is = step ∙ and_left _ _ is

  -- one block more is taken
  pub blocks_ok_more : (seen' : ℕ → Bool) → block_ok n seen (get_or bs i 0) ≡ true → ((k : ℕ) → seen' k ≡ (eqb k (get_or bs i 0) || seen k)) → blocks_ok n seen' (drop (i + 1) bs) ≡ blocks_ok n seen (drop i bs)
  blocks_ok_more seen' is more =
      ap (λ (p : ℕ → Bool). blocks_ok n p (drop (i + 1) bs)) (λ j k. more k j)
      ∙ ap (λ b. b && blocks_ok n (λ k. eqb k (get_or bs i 0) || seen k) (drop (i + 1) bs)) (sym is) ∙ sym step

or_moved : (a b c : Bool) → (a || (b || c)) ≡ ((b || (a || false)) || c)
or_moved true true c = refl
or_moved true false c = refl
or_moved false true c = refl
or_moved false false c = refl

pub has-take_more : (bs : List ℕ) (i k : ℕ) (c : Bool) → i < length bs → (eqb k (get_or bs i 0) || (has (take i bs) k || c)) ≡ (has (take (i + 1) bs) k || c)
has-take_more bs i k c lt =
    or_moved (eqb k (get_or bs i 0)) (has (take i bs) k) c
    ∙ ap (λ b. b || c) (sym (ap (λ l. has l k) (take_more bs i 0 lt) ∙ has-append (take i bs) (get_or bs i 0 ∷ []) k))

-- the byte that says whether an entry is in use
pub first_byte : (d : List ℕ) (i : ℕ) → get_or (entry_bytes d i) 0 0 ≡ get_or d (i * 32) 0
unfolding entry_bytes
first_byte d i =
    let at : 32 * i + 0 ≡ i * 32 = omega arith in
    get_or-take 32 (drop (32 * i) d) 0 0 (omega arith) ∙ get_or-drop (32 * i) d 0 0 ∙ ap (λ k. get_or d k 0) at

module _ (d : List ℕ) (i : ℕ) where
  pub entry_ok_flagged : 1 < get_or (entry_bytes d i) 0 0 → entry_ok d i ≡ false
  unfolding entry_ok
  entry_ok_flagged gt = and_left _ _ (lt-leb _ 1 gt)

  pub entry_ok_unused : get_or (entry_bytes d i) 0 0 ≤ 1 → (entry_at d i).used ≡ false → entry_ok d i ≡ true
  unfolding entry_ok
  entry_ok_unused le unused =
      let rest = leb (entry_at d i).len 1024 && (eqb (find d (entry_at d i).name.bytes) i && blocks_ok (size d) (has (blocks_to d i)) (blocks_of (entry_at d i))) in
      and_from _ _ (le-leb _ 1 le) (ap (λ u. not u || rest) unused)

  pub entry_ok_used : get_or (entry_bytes d i) 0 0 ≤ 1 → (entry_at d i).used ≡ true → entry_ok d i ≡ (leb (entry_at d i).len 1024 && (eqb (find d (entry_at d i).name.bytes) i && blocks_ok (size d) (has (blocks_to d i)) (blocks_of (entry_at d i))))
  unfolding entry_ok
  entry_ok_used le used =
      let rest = leb (entry_at d i).len 1024 && (eqb (find d (entry_at d i).name.bytes) i && blocks_ok (size d) (has (blocks_to d i)) (blocks_of (entry_at d i))) in
      (λ j. le-leb _ 1 le j && (not (used j) || rest))

fault_from_ok : (d : List ℕ) (i n : ℕ) → entry_ok d i ≡ true → fault_from d i (suc n) ≡ fault_from d (suc i) n
unfolding fault_from
fault_from_ok d i n ok = cond-true _ _ _ ok

fault_from_here : (d : List ℕ) (i n : ℕ) → entry_ok d i ≡ false → fault_from d i (suc n) ≡ Some i
unfolding fault_from
fault_from_here d i n bad = cond-false _ _ _ bad

fault_from_none : (d : List ℕ) (i : ℕ) → fault_from d i 0 ≡ None
unfolding fault_from
fault_from_none d i = refl

-- the entries that were passed have no fault
fault_skip : (d : List ℕ) (i n : ℕ) → sound_to d i ≡ true → fault_from d 0 (i + n) ≡ fault_from d i n
unfolding sound_to
fault_skip d zero n is = ap (fault_from d 0) (zero-add n)
fault_skip d (suc i) n is =
    let parts = and_parts (sound_to d i) (entry_ok d i) is in
    ap (fault_from d 0) (suc-add i n ∙ sym (add-suc i n)) ∙ fault_skip d i (suc n) parts.0 ∙ fault_from_ok d i n parts.1

pub sound_to-size : (d : List ℕ) (i : ℕ) → sound_to d i ≡ true → size_ok d ≡ true
unfolding sound_to
sound_to-size d zero is = is
sound_to-size d (suc i) is = sound_to-size d i (and_parts (sound_to d i) (entry_ok d i) is).0

pub sound_to_none : (d : List ℕ) → size_ok d ≡ true → sound_to d 0 ≡ true
unfolding sound_to
sound_to_none d is = is

pub sound_to_more : (d : List ℕ) (i : ℕ) → sound_to d i ≡ true → entry_ok d i ≡ true → sound_to d (suc i) ≡ true
unfolding sound_to
sound_to_more d i is ok = and_from _ _ is ok

sound_to_stop : (d : List ℕ) (i : ℕ) → entry_ok d i ≡ false → sound_to d (suc i) ≡ false
unfolding sound_to
sound_to_stop d i bad = and_right (sound_to d i) _ bad

module _ (d : List ℕ) where
  pub fault_size : size_ok d ≡ false → (Some 16 ≡ first_fault d) × Judged d (Some 16)
  unfolding first_fault sound_to
  fault_size bad = (
    sym (cond-false _ _ _ bad),
    (omega arith, λ lt. absurd (omega arith), λ lt. absurd (omega arith), λ _ s. both_ways _ bad ((sound_decides d 0 (omega arith)).1 s)),
  )

  pub fault_at : (i : ℕ) → i < 16 → sound_to d i ≡ true → entry_ok d i ≡ false → (Some i ≡ first_fault d) × Judged d (Some i)
  unfolding first_fault
  fault_at i lt is bad =
      let n = 15 - i in
      let all : 16 ≡ i + suc n = omega (arith, add-suc i n) in (
        sym (cond-true _ _ _ (sound_to-size d i is) ∙ ap (fault_from d 0) all ∙ fault_skip d i (suc n) is ∙ fault_from_here d i n bad),
        (omega arith, λ _. (sound_decides d i (omega arith)).0 is, λ _ s. both_ways _ (sound_to_stop d i bad) ((sound_decides d (suc i) (omega arith)).1 s), λ e. absurd (omega arith)),
      )

  pub fault_none : sound_to d 16 ≡ true → (None ≡ first_fault d) × Judged d None
  unfolding first_fault
  fault_none is = (
    sym (cond-true _ _ _ (sound_to-size d 16 is) ∙ fault_skip d 16 0 is ∙ fault_from_none d 16),
    (sound_decides d 16 (omega arith)).0 is,
  )

-- a disk with a fault isn't sound
pub unsound_from_some : (d : List ℕ) (o : Option ℕ) → o ≡ first_fault d → is_some o ≡ true → sound d ≡ false
unfolding sound
unsound_from_some d o is some =
    ⊎_elim
    (λ ok. absurd (both_ways false refl (ap is_some ((fault_none d ok).0 ∙ sym is) ∙ some)))
    (λ bad. bad)
    (cases_Bool (sound_to d 16))

pub twins_found : (d : List ℕ) → TwinsFound d
unfolding sound
twins_found d t =
    let apart : (n : ℕ) → 2 ≤ n → SoundTo d n → ⊥ = λ n le s. let one : ◌≡◌ {A = ℕ} 0 1 = s.one_name 0 1 (omega arith) (omega arith) t.used.0 t.used.1 t.named in let none : ⊥ = omega arith in none in (
      ⊎_elim (λ ok. absurd (apart 16 (omega arith) ((sound_decides d 16 (omega arith)).0 ok))) (λ bad. bad) (cases_Bool (sound_to d 16)),
      λ first.
          let second : entry_ok d 1 ≡ false = ⊎_elim (λ ok. absurd (apart 2 (omega arith) ((sound_decides d 2 (omega arith)).0 (sound_to_more d 1 first ok)))) (λ bad. bad) (cases_Bool (entry_ok d 1)) in
          sym (fault_at d 1 (omega arith) first second).0,
    )
