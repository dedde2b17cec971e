-- A sound disk's file, looked up and copied. Assumes nothing.
use Rattle.std.proofs.Common.{◌≡◌, ℕ, ◌<◌, ◌≤◌, true, false, cond, ◌&&◌, ltb, List, length, Some, None, Ok, Err, Option, Result, sym, refl, ap, ◌∙◌, subst, inl, inr, ⊎_elim, arith, Bor}
use Rattle.std.specs.Option.{option_map, ok_or}
use Rattle.std.specs.Result.{IsErrAnd, MatchResult, result_ok}
use Rattle.std.specs.Option.{MatchOption}
use Rattle.std.proofs.lemmas.Bool.{cond-true, both_ways, and_parts, and_right, and_from, cases_Bool, cases_lt, lt-ltb, le-ltb, ltb-true}
use Rattle.std.proofs.lemmas.Bool.Decides.{when_true, when_false}
use Rattle.layout.specs.declared.name.Name.{Name}
use Rattle.layout.specs.declared.disk.RoomTooShort.{RoomTooShort}
use Rattle.layout.specs.declared.entry.Entry.{Entry}
use Rattle.layout.specs.Files.{has_entries, has_entry, find, entry_of, content, file, Copies, EntryPart}
use Rattle.layout.proofs.Finding.{find_first, some_from_cond}
use Rattle.fsck.specs.Sound.{sound}
use Rattle.fsck.proofs.Deciding.{sound_to_rules}
use Rattle.fsck.proofs.Contents.{sound_entry, length-content}
use Rattle.update.specs.declared.answer.Refusal.{Refusal}
use Rattle.update.specs.declared.answer.Refusal.TheVariants.{Unsound, BadName, TooLong, Unreadable}
use Rattle.update.specs.declared.answer.Done.{Done}
use Rattle.update.specs.declared.answer.Done.TheVariants.{Read, Absent, Short, Refused}
use Rattle.update.specs.Answers.{number, good_name, ask_refusal, admitted}
use Rattle.update.proofs.Admission.{Admitted, admitted_err}
use Rattle.reader.specs.Answered.{answer, has_file_entry, Got, ReadSays, EntryFound}

-- an error is answered as it is
pub answer_is : (r : Result ℕ Done) (a : Done) → IsErrAnd r (λ e. e ≡ a) → answer r ≡ a
answer_is (Ok n) a is = absurd is
answer_is (Err e) a is = is

pub none_from_ok_or : {A : Type 0} (o : Option A) (a e : Done) → Err e ≡ ok_or o a → (None ≡ o) × (e ≡ a)
none_from_ok_or None a e is = (refl, cc)
none_from_ok_or (Some y) a e is = let z : ◌≡◌ {A = ℕ} 0 1 = cc in absurd (let b : ⊥ = omega arith in b)

pub some_from_ok_or : {A : Type 0} (o : Option A) (a : Done) (y : A) → Ok y ≡ ok_or o a → Some y ≡ o
some_from_ok_or None a y is = let z : ◌≡◌ {A = ℕ} 0 1 = cc in absurd (let b : ⊥ = omega arith in b)
some_from_ok_or (Some z) a y is = cc

pub refused_says : (q : Refusal) (d x room : List ℕ) → ReadSays (number q) d x room (Refused q) room
refused_says Unsound d x room = (refl, refl)
refused_says BadName d x room = (refl, refl)
refused_says TooLong d x room = (refl, refl)
refused_says Unreadable d x room = (refl, refl)

module _ (d x : List ℕ) (ok : sound d ≡ true) where
  pub lookup_is : (o : Option Entry) → o ≡ cond (has_entries d) (entry_of d x) None → o ≡ entry_of d x
  lookup_is o is = is ∙ cond-true (has_entries d) _ None (and_parts (has_entries d) (ltb 0 16) (sound_entry d 16 0 (sound_to_rules d ok) (omega arith))).0

  pub lookup_file : (o : Option Entry) → o ≡ cond (has_entries d) (entry_of d x) None → option_map (content d) o ≡ file d x
  unfolding file
  lookup_file o is = ap (option_map (content d)) (lookup_is o is)

  pub lookup_length : (e : Entry) → Some e ≡ cond (has_entries d) (entry_of d x) None → length (content d e) ≡ e.len
  unfolding entry_of
  lookup_length e is =
      let known = some_from_cond (ltb (find d x) 16) e _ (lookup_is (Some e) is) in
      let lt = ltb-true (find d x) 16 known.0 in
      let used = ((find_first d x).here lt).0 in
      ap (λ y. length (content d y)) known.1 ∙ length-content d 16 (find d x) (sound_to_rules d ok) lt lt used ∙ ap (λ (y : Entry). y.len) (sym known.1)

-- what a copy answers is what reading does
abbrev pub copied : Result ℕ RoomTooShort → Done
copied (Ok n) = Read n
copied (Err r) = Short r.needed

pub copied_got : (n : ℕ) (c room : List ℕ) (r : Result ℕ RoomTooShort) (room₁ : List ℕ) → length c ≡ n → Copies n c room r room₁ → Got (Some c) room (copied r) room₁
copied_got n c room r room₁ long is =
    ⊎_elim
    (λ less. let p = when_true _ _ (lt-ltb (length room) n less) is in inl (omega arith, ap copied p.0 ∙ ap Short (sym long), p.1))
    (λ fits. let p = when_false _ _ (le-ltb (length room) n fits) is in inr (omega arith, ap copied p.0, p.1))
    (cases_lt (length room) n)

-- the answer to a request that was admitted, with its disk seen through a view
module _ (d x v : List ℕ) (n : Name) (in' : Admitted d x n) (same : v ≡ d) where
  seen : (o : Option Entry) → o ≡ cond (has_entries v) (entry_of v n.bytes) None → o ≡ cond (has_entries d) (entry_of d x) None
  seen o is = is ∙ (λ i. cond (has_entries (same i)) (entry_of (same i) (in'.name i).bytes) None)

  says : (room : List ℕ) (r : Done) (room₁ : List ℕ) (o : Option Entry) → o ≡ cond (has_entries v) (entry_of v n.bytes) None → Got (option_map (content d) o) room r room₁ → ReadSays (ask_refusal d x) d x room r room₁
  says room r room₁ o is got =
      subst (λ k. ReadSays k d x room r room₁) (sym in'.unrefused) (subst (λ f. Got f room r room₁) (lookup_file d x in'.sound_disk o (seen o is)) got)

  pub read_absent : (room : List ℕ) → None ≡ cond (has_entries v) (entry_of v n.bytes) None → ReadSays (ask_refusal d x) d x room Absent room
  read_absent room is = says room Absent room None is (refl, refl)

  pub read_copied : (room : List ℕ) (e : Entry) (r : Result ℕ RoomTooShort) (room₁ : List ℕ) → Some e ≡ cond (has_entries v) (entry_of v n.bytes) None → Copies e.len (content v e) room r room₁ → ReadSays (ask_refusal d x) d x room (copied r) room₁
  read_copied room e r room₁ is of =
      says room (copied r) room₁ (Some e) is
      (copied_got e.len (content d e) room r room₁ (lookup_length d x in'.sound_disk e (seen (Some e) is)) (subst (λ l. Copies e.len (content l e) room r room₁) same of))

-- there is no entry for a request that is refused
module _ (d x : List ℕ) where
  pub entry_unfit : (sound d && good_name x) ≡ false → has_file_entry d x ≡ false
  entry_unfit unfit = ⊎_elim
      (λ is. let parts = and_parts (sound d) (good_name x && ltb (find d x) 16) is in absurd (both_ways _ unfit (and_from _ _ parts.0 (and_parts (good_name x) _ parts.1).0)))
      (λ is. is)
      (cases_Bool (has_file_entry d x))

  pub entry_refused : {A : Type 0} (r : Result A Refusal) (fine : A → Type 0) → MatchResult r fine (λ e. admitted d x ≡ Err e) → None ≡ result_ok r → has_file_entry d x ≡ false
  entry_refused (Ok a) fine told is = let z : ◌≡◌ {A = ℕ} 0 1 = cc in absurd (let b : ⊥ = omega arith in b)
  entry_refused (Err q) fine told is = entry_unfit (admitted_err d x q (sym told)).unfit

  pub entry_absent : 16 ≤ find d x → has_file_entry d x ≡ false
  entry_absent past = and_right (sound d) _ (and_right (good_name x) _ (le-ltb (find d x) 16 past))

  pub entry_there : (n : Name) → Admitted d x n → find d x < 16 → has_file_entry d x ≡ true
  entry_there n in' lt = and_from _ _ in'.sound_disk (and_from _ _ in'.eleven (lt-ltb (find d x) 16 lt))

-- what is known of an admitted request's disk and name
pub admitted_pair : {A : Type 0} (r : Result A Refusal) (fine : A → Type 0) (refused : Refusal → Type 0) (a : A) → MatchResult r fine refused → Some a ≡ result_ok r → fine a
admitted_pair (Ok b) fine refused a told is = let same : b ≡ a = cc in subst fine same told
admitted_pair (Err q) fine refused a told is = let z : ◌≡◌ {A = ℕ} 0 1 = cc in absurd (let b : ⊥ = omega arith in b)

-- the part that a search returns
module _ (disk : Bor (List ℕ)) (x : List ℕ) where
  pub nothing_found : (r : Option (Bor (List ℕ))) → r ≡ None → has_file_entry disk.now x ≡ false → EntryFound disk x r
  nothing_found r is none = subst (EntryFound disk x) (sym is) none

  pub part_found : (view : Bor (List ℕ)) (i : ℕ) (r : Option (Bor (List ℕ))) → view ≡ disk → i ≡ find disk.now x → has_entry disk.now (find disk.now x) ≡ true → has_file_entry disk.now x ≡ true
      → MatchOption r (has_entry view.now i ≡ false) (λ p. (has_entry view.now i ≡ true) × EntryPart view i p) → EntryFound disk x r
  part_found view i None same place here there told = absurd (both_ways _ (sym (λ j. has_entry (same j).now (place j)) ∙ told) here)
  part_found view i (Some p) same place here there told = (there, subst (λ n. EntryPart disk n p) place (subst (λ v. EntryPart v i p) same told.1))
