-- A request that is admitted, and one that isn't. Assumes nothing.
use Rattle.std.proofs.Common.{◌≡◌, ℕ, ◌<◌, ◌≤◌, Bool, true, false, cond, ◌&&◌, ltb, List, Some, None, Ok, Err, Result, sym, refl, ap, ◌∙◌, ⊎_elim, arith}
use Rattle.std.specs.Option.{ok_or}
use Rattle.std.specs.Result.{IsErrAnd, MatchResult}
use Rattle.std.proofs.lemmas.Bool.{cond-true, cond-false, cases_Bool, cases_lt, both_ways, and_parts, and_left, and_right, ltb-true}
use Rattle.layout.specs.declared.name.Name.{Name}
use Rattle.layout.specs.Entries.{as_name, named}
use Rattle.layout.specs.Files.{has_entry, has_entries, find, found}
use Rattle.layout.proofs.Finding.{some_from_cond, none_from_cond}
use Rattle.fsck.specs.Sound.{sound, first_fault}
use Rattle.fsck.proofs.Judging.{unsound_from_some}
use Rattle.fsck.proofs.Deciding.{sound_to_rules}
use Rattle.fsck.proofs.Contents.{sound_entry}
use Rattle.update.specs.declared.answer.Refusal.{Refusal}
use Rattle.update.specs.declared.answer.Refusal.TheVariants.{Unsound, BadName, TooLong, Unreadable}
use Rattle.update.specs.declared.answer.Done.TheVariants.{Refused}
use Rattle.update.specs.Requests.{Asked}
use Rattle.update.specs.Said.{Says}
use Rattle.update.specs.Answers.{number, good_name, ask_refusal, admitted}

pub admitted_unsound : (d x : List ℕ) → sound d ≡ false → admitted d x ≡ Err Unsound
unfolding admitted
admitted_unsound d x bad = cond-false _ _ _ bad

pub admitted-sound : (d x : List ℕ) → sound d ≡ true → admitted d x ≡ ok_or (named x) BadName
unfolding admitted
admitted-sound d x ok = cond-true _ _ _ ok ∙ by_name (good_name x)
  where
    by_name : (b : Bool) → cond b (Ok (as_name x)) (Err BadName) ≡ ok_or (cond b (Some (as_name x)) None) BadName
    by_name true = refl
    by_name false = refl

-- what is answered is that refusal
module _ {A : Type 0} (d x : List ℕ) (fine : A → Type 0) (r : Result A Refusal) where
  answers : (q : Refusal) → IsErrAnd r (λ e. e ≡ q) → admitted d x ≡ Err q → MatchResult r fine (λ e. admitted d x ≡ Err e)
  answers q is why = told r is
    where
      told : (r : Result A Refusal) → IsErrAnd r (λ e. e ≡ q) → MatchResult r fine (λ e. admitted d x ≡ Err e)
      told (Ok a) same = absurd same
      told (Err e) same = why ∙ ap Err (sym same)

  pub answers_unsound : (p : ℕ) → first_fault d ≡ Some p → IsErrAnd r (λ e. e ≡ Unsound) → MatchResult r fine (λ e. admitted d x ≡ Err e)
  answers_unsound p found is = answers Unsound is (admitted_unsound d x (unsound_from_some d (Some p) (sym found) refl))

  pub answers_bad_name : sound d ≡ true → named x ≡ None → IsErrAnd r (λ e. e ≡ BadName) → MatchResult r fine (λ e. admitted d x ≡ Err e)
  answers_bad_name ok none is = answers BadName is (admitted-sound d x ok ∙ ap (λ o. ok_or o BadName) none)

-- what is known of a request that was admitted
pub record Admitted (d x : List ℕ) (n : Name) : Type 0 where
  pub sound_disk : sound d ≡ true
  pub eleven : good_name x ≡ true
  pub name : n ≡ as_name x
  pub unrefused : ask_refusal d x ≡ 0

pub admitted_ok : (d x : List ℕ) (n : Name) → Ok n ≡ admitted d x → Admitted d x n
unfolding admitted ask_refusal
admitted_ok d x n is =
    ⊎_elim
    (λ ok.
    let named : Ok n ≡ cond (good_name x) (Ok (as_name x)) (Err BadName) = is ∙ cond-true _ _ _ ok in
    ⊎_elim
    (λ good.
    let same : ◌≡◌ {A = Result Name Refusal} (Ok n) (Ok (as_name x)) = named ∙ cond-true _ _ _ good in
    record { sound_disk = ok; eleven = good; name = cc; unrefused = cond-true _ _ _ ok ∙ cond-true _ _ _ good })
    (λ bad. let apart : Ok n ≡ Err BadName = named ∙ cond-false _ _ _ bad in let z : ◌≡◌ {A = ℕ} 0 1 = cc in absurd (let b : ⊥ = omega arith in b))
    (cases_Bool (good_name x)))
    (λ bad. let apart : Ok n ≡ Err Unsound = is ∙ cond-false _ _ _ bad in let z : ◌≡◌ {A = ℕ} 0 1 = cc in absurd (let b : ⊥ = omega arith in b))
    (cases_Bool (sound d))

-- and of one that wasn't
pub record Turned (d x : List ℕ) (q : Refusal) : Type 0 where
  pub unfit : (sound d && good_name x) ≡ false
  pub why : ask_refusal d x ≡ number q

pub admitted_err : (d x : List ℕ) (q : Refusal) → Err q ≡ admitted d x → Turned d x q
unfolding admitted ask_refusal
admitted_err d x q is =
    ⊎_elim
    (λ ok.
    let named : Err q ≡ cond (good_name x) (Ok (as_name x)) (Err BadName) = is ∙ cond-true _ _ _ ok in
    ⊎_elim
    (λ good. let apart : Err q ≡ Ok (as_name x) = named ∙ cond-true _ _ _ good in let z : ◌≡◌ {A = ℕ} 0 1 = cc in absurd (let b : ⊥ = omega arith in b))
    (λ bad.
    let same : ◌≡◌ {A = Result Name Refusal} (Err q) (Err BadName) = named ∙ cond-false _ _ _ bad in
    let reason : q ≡ BadName = cc in
    record { unfit = and_right (sound d) _ bad; why = cond-true _ _ _ ok ∙ cond-false _ _ _ bad ∙ ap number (sym reason) })
    (cases_Bool (good_name x)))
    (λ bad.
    let same : ◌≡◌ {A = Result Name Refusal} (Err q) (Err Unsound) = is ∙ cond-false _ _ _ bad in
    let reason : q ≡ Unsound = cc in
    record { unfit = and_left _ _ bad; why = cond-false _ _ _ bad ∙ ap number (sym reason) })
    (cases_Bool (sound d))

-- a refusal says its number, and leaves the disk as it was
pub refused_says : (q : Refusal) (d : List ℕ) (a : Asked) (room : Bool) → Says (number q) d a room (Refused q) d
refused_says Unsound d a room = (refl, refl)
refused_says BadName d a room = (refl, refl)
refused_says TooLong d a room = (refl, refl)
refused_says Unreadable d a room = (refl, refl)

-- the place of the name's entry, on a sound disk
pub found_place : (d x : List ℕ) (i : ℕ) → Some i ≡ found d x → (i ≡ find d x) × (find d x < 16)
found_place d x i is =
    let known = some_from_cond (has_entry d (find d x)) i (find d x) is in
    (known.1, ltb-true (find d x) 16 (and_parts (has_entries d) (ltb (find d x) 16) known.0).1)

pub found_nowhere : (d x : List ℕ) → sound d ≡ true → None ≡ found d x → 16 ≤ find d x
found_nowhere d x ok is =
    ⊎_elim
    (λ lt. absurd (both_ways _ (none_from_cond _ _ is) (sound_entry d 16 (find d x) (sound_to_rules d ok) lt)))
    (λ ge. ge)
    (cases_lt (find d x) 16)
