-- The entry and the file of a name, on a sound disk. Assumes nothing.
use Rattle.std.proofs.Common.{◌≡◌, ℕ, ◌≤◌, Bool, true, false, ◌&&◌, ltb, List, ◌++◌, length, Some, None, codes, Option, sym, refl, ap, ◌∙◌, subst, ⊎_elim, arith, Bor}
use Rattle.std.specs.Option.{option_map}
use Rattle.std.specs.List.{between}
use Rattle.std.proofs.lemmas.List.{take_at}
use Rattle.std.proofs.lemmas.Bool.{cases_Bool, cases_lt, cond-true, cond-false, eq-eqb, ltb-true}
use Rattle.layout.specs.Files.{entry_bytes, entry_at, content, find, file}
use Rattle.layout.proofs.Finding.{length-entry_bytes, find_first, entry_of_here, entry_of_none}
use Rattle.fsck.specs.Sound.{sound}
use Rattle.fsck.proofs.Contents.{sound_entry, length-content}
use Rattle.fsck.proofs.Deciding.{sound_to_rules}
use Rattle.update.specs.declared.answer.Done.{Done}
use Rattle.update.specs.declared.answer.Done.TheVariants.{Read, Absent, Finished}
use Rattle.update.specs.Answers.{good_name, ask_refusal}
use Rattle.update.proofs.Performing.{ask_good}
use Rattle.reader.specs.Answered.{Got, ReadSays, EntrySays}
use Rattle.console.specs.Shown.{shown_bytes}
use Rattle.session.specs.Printed.{line, file_line, read_text, entry_text}
use Rattle.session.specs.Answered.{read_answer, entry_answer}

-- this is what is printed of the entry of a name, and what is answered
pub record EntryShown (d x t : List ℕ) (r : Done) : Type 0 where
  pub text : t ≡ entry_text d x
  pub answer : r ≡ entry_answer d x

module _ (disk : Bor (List ℕ)) (x : List ℕ) (p : Bor (List ℕ)) (ok : sound disk.now ≡ true) (eleven : length x ≡ 11) (says : EntrySays disk x p) where
  -- a request on the name isn't refused
  found_or_not : (b : Bool) → ltb (find disk.now x) 16 ≡ b → (sound disk.now && (good_name x && ltb (find disk.now x) 16)) ≡ b
  found_or_not b is = (λ j. ok j && (eq-eqb (length x) 11 eleven j && is j))

  -- an entry has 32 bytes
  entry_found : ltb (find disk.now x) 16 ≡ true → (p.now ≡ entry_bytes disk.now (find disk.now x)) × (length p.now ≡ 32)
  entry_found lt =
      let d = disk.now in
      let part = (says.there (found_or_not true lt)).bytes in
      (part, ap length part ∙ length-entry_bytes d (find d x) (sound_entry d 16 (find d x) (sound_to_rules d ok) (ltb-true _ 16 lt)))

  pub no_entry_shown : length p.now ≡ 0 → EntryShown disk.now x (line (codes "none")) Absent
  unfolding entry_text
  no_entry_shown empty =
      ⊎_elim
      (λ lt. absurd (omega (arith, (entry_found lt).1)))
      (λ ge. record { text = sym (cond-false _ _ _ ge); answer = sym (cond-false _ _ _ ge) })
      (cases_Bool (ltb (find disk.now x) 16))

  pub entry_shown : (length p.now ≡ 0 → ⊥) → EntryShown disk.now x (shown_bytes p.now) Finished
  unfolding entry_text
  entry_shown some =
      ⊎_elim
      (λ lt. record { text = ap shown_bytes (entry_found lt).0 ∙ sym (cond-true _ _ _ lt); answer = sym (cond-true _ _ _ lt) })
      (λ ge. absurd (some (says.gone (found_or_not false ge))))
      (cases_Bool (ltb (find disk.now x) 16))

-- there is no file, or one that fits the room
abbrev NoneOrFits : Option (List ℕ) → Type 0
NoneOrFits None = Unit {0}
NoneOrFits (Some c) = length c ≤ 1024

file_fits : (d x : List ℕ) → sound d ≡ true → NoneOrFits (file d x)
unfolding file
file_fits d x ok =
    let i = find d x in
    let rules = sound_to_rules d ok in
    ⊎_elim
    (λ lt.
    let used = ((find_first d x).here lt).0 in
    let fits : length (content d (entry_at d i)) ≤ 1024 = omega (arith, length-content d 16 i rules lt lt used, rules.short i lt used) in
    subst NoneOrFits (sym (ap (option_map (content d)) (entry_of_here d x lt))) fits)
    (λ ge. subst NoneOrFits (sym (ap (option_map (content d)) (entry_of_none d x ge))) tt)
    (cases_lt i 16)

-- this is what is printed of the file of a name, and what is answered
pub record FileShown (x : List ℕ) (f : Option (List ℕ)) (t : List ℕ) (r : Done) : Type 0 where
  pub text : t ≡ read_text x f
  pub answer : r ≡ read_answer f

module _ (x room room₁ : List ℕ) (long : length room ≡ 1024) where
  file_shown_if : (f : Option (List ℕ)) → NoneOrFits f → (len : ℕ) → Got f room (Read len) room₁ → FileShown x f (file_line x len ++ shown_bytes (between 0 len room₁)) (Read len)
  unfolding read_text
  file_shown_if None fits len got = absurd (cc got.0)
  file_shown_if (Some c) fits len got =
      ⊎_elim
      (λ short. absurd (omega (arith, short.0, fits)))
      (λ whole.
      let is = whole.1 in
      let same : len ≡ length c = cc in
      let front : between 0 len room₁ ≡ c = ap (between 0 len) whole.2 ∙ take_at c _ _ (omega arith) in
      record { text = (λ j. file_line x (same j) ++ shown_bytes (front j)); answer = whole.1 })
      got

  no_file_shown_if : (f : Option (List ℕ)) → NoneOrFits f → (r : Done) → ((n : ℕ) → r ≡ Read n → ⊥) → Got f room r room₁ → FileShown x f (line (codes "none")) r
  unfolding read_text
  no_file_shown_if None fits r other got = record { text = refl; answer = got.0 }
  no_file_shown_if (Some c) fits r other got = ⊎_elim (λ short. absurd (omega (arith, short.0, fits))) (λ whole. absurd (other _ whole.1)) got

module _ (d x room room₁ : List ℕ) (ok : sound d ≡ true) (eleven : length x ≡ 11) (long : length room ≡ 1024) where
  -- reading isn't refused
  got : (r : Done) → ReadSays (ask_refusal d x) d x room r room₁ → Got (file d x) room r room₁
  got r says = subst (λ n. ReadSays n d x room r room₁) (ask_good d x ok (eq-eqb (length x) 11 eleven)) says

  pub file_shown : (len : ℕ) → ReadSays (ask_refusal d x) d x room (Read len) room₁ → FileShown x (file d x) (file_line x len ++ shown_bytes (between 0 len room₁)) (Read len)
  file_shown len says = file_shown_if x room room₁ long (file d x) (file_fits d x ok) len (got (Read len) says)

  pub no_file_shown : (r : Done) → ((n : ℕ) → r ≡ Read n → ⊥) → ReadSays (ask_refusal d x) d x room r room₁ → FileShown x (file d x) (line (codes "none")) r
  no_file_shown r other says = no_file_shown_if x room room₁ long (file d x) (file_fits d x ok) r other (got r says)
