-- Taking a file away is one entry write, or none. Assumes nothing.
use Rattle.std.proofs.Common.{◌≡◌, ℕ, ◌<◌, ◌≤◌, true, eqb, List, [], ◌∷◌, length, get_or, drop, sym, refl, ap, ◌∙◌, ⊎_elim, arith, length-drop}
use Rattle.std.specs.Str.{bytes_eq}
use Rattle.std.proofs.lemmas.Slice.Eq.{bytes_eq-Decides}
use Rattle.std.proofs.lemmas.Bool.{cases_Bool, cases_lt, cond-true, cond-false, false≢true, lt-ltb, le-ltb}
use Rattle.std.proofs.lemmas.Bool.Decides.{not_from_Decides}
use Rattle.layout.specs.declared.entry.Entry.{Entry}
use Rattle.layout.specs.Entries.{decoded}
use Rattle.layout.specs.Files.{entry_bytes, find, file}
use Rattle.layout.specs.Words.{Named}
use Rattle.layout.proofs.Finding.{find_first, no_file, length-entry_bytes}
use Rattle.fsck.specs.Sound.{sound}
use Rattle.fsck.specs.Rules.{Sound}
use Rattle.fsck.proofs.Deciding.{sound_to_rules, rules_to_sound}
use Rattle.fsck.proofs.Contents.{sound_entry}
use Rattle.update.specs.Writes.{after_write, after_writes, entry_write}
use Rattle.update.specs.Requests.{away, take_writes, writes, changed}
use Rattle.update.specs.Promise.{FewWrites}
use Rattle.update.proofs.Places.{after_none, after_one, after_nothing}
use Rattle.update.proofs.EntryLaw.{Fit, EntryReplaced, entry_replaced, at_here, sound-after_entry, file_other, file_gone}
use Rattle.update.proofs.Sequences.{Lawful}

-- an entry's bytes with the first one 0
abbrev pub unused_bytes : List ℕ → ℕ → List ℕ
unused_bytes d i = 0 ∷ drop 1 (entry_bytes d i)

-- an entry that is not in use is fit for every place
pub unused_fit : (d : List ℕ) (i : ℕ) (e : List ℕ) → get_or e 0 0 ≡ 0 → Fit d i e
unfolding decoded
unused_fit d i e zero-first =
    let never : (decoded e).used ≡ true → ⊥ = λ is. false≢true (sym (ap (λ b. eqb b 1) zero-first) ∙ is) in
    record {
      flag = omega arith;
      short = λ used. absurd (never used);
      low = λ used. absurd (never used);
      high = λ used. absurd (never used);
      once = λ used. absurd (never used);
      apart = λ used. absurd (never used);
      new_name = λ used. absurd (never used);
    }

module _ (d x : List ℕ) (s : Sound d) (lt : find d x < 16) where
  long_unused : length (unused_bytes d (find d x)) ≡ 32
  long_unused =
      let whole : length (entry_bytes d (find d x)) ≡ 32 = length-entry_bytes d (find d x) (sound_entry d 16 (find d x) s lt) in
      let rest : length (drop 1 (entry_bytes d (find d x))) ≡ 31 = simp length-drop (omega arith) in
      omega arith

  replaced_unused : EntryReplaced d (find d x) (unused_bytes d (find d x)) (after_write d (entry_write d (find d x) (unused_bytes d (find d x))))
  replaced_unused = entry_replaced d (find d x) (unused_bytes d (find d x)) s lt long_unused

  fit_unused : Fit d (find d x) (unused_bytes d (find d x))
  fit_unused = unused_fit d (find d x) (unused_bytes d (find d x)) refl

  pub sound-after_away : Sound (after_write d (entry_write d (find d x) (unused_bytes d (find d x))))
  sound-after_away = sound-after_entry d (find d x) (unused_bytes d (find d x)) _ lt s fit_unused replaced_unused

  unnamed : (y : List ℕ) → Named (after_write d (entry_write d (find d x) (unused_bytes d (find d x)))) y (find d x) → ⊥
  unfolding decoded
  unnamed y p = false≢true (sym (ap (λ (z : Entry). z.used) (at_here d (find d x) (unused_bytes d (find d x)) _ lt s fit_unused replaced_unused)) ∙ p.0)

  pub file-after_away : (n : ℕ) (y : List ℕ) → file (after_write d (entry_write d (find d x) (unused_bytes d (find d x)))) y ≡ changed (file d) (away x n) y
  unfolding changed
  file-after_away n y =
      let named = (find_first d x).here lt in
      ⊎_elim
      (λ same.
      let x_is_y : x ≡ y = (bytes_eq-Decides x y).0 same in
      file_gone d (find d x) (unused_bytes d (find d x)) _ lt s fit_unused replaced_unused y (named.0, named.1 ∙ x_is_y) (unnamed y) ∙ sym (cond-true _ _ _ same))
      (λ other.
      let apart : x ≡ y → ⊥ = not_from_Decides _ (bytes_eq-Decides x y) other in
      file_other d (find d x) (unused_bytes d (find d x)) _ lt s fit_unused replaced_unused y (λ p. apart (sym named.1 ∙ p.1)) (unnamed y) ∙ sym (cond-false _ _ _ other))
      (cases_Bool (bytes_eq x y))

pub file_unchanged : (d x : List ℕ) (n : ℕ) → 16 ≤ find d x → (y : List ℕ) → file d y ≡ changed (file d) (away x n) y
unfolding changed
file_unchanged d x n ge y =
    ⊎_elim
    (λ same. ap (file d) (sym ((bytes_eq-Decides x y).0 same)) ∙ (no_file d x).none (λ k lt. (find_first d x).before k (omega arith)) ∙ sym (cond-true _ _ _ same))
    (λ other. sym (cond-false _ _ _ other))
    (cases_Bool (bytes_eq x y))

-- with no such file nothing is written, and else one block
pub writes_absent : (d x : List ℕ) (n : ℕ) → 16 ≤ find d x → writes d (away x n) ≡ []
unfolding writes take_writes
writes_absent d x n ge = cond-false _ _ [] (le-ltb (find d x) 16 ge)

pub writes_present : (d x : List ℕ) (n : ℕ) → find d x < 16 → writes d (away x n) ≡ entry_write d (find d x) (unused_bytes d (find d x)) ∷ []
unfolding writes take_writes
writes_present d x n lt = cond-true _ _ [] (lt-ltb (find d x) 16 lt)

pub away_lawful : (d x : List ℕ) (n : ℕ) → Lawful d (away x n)
away_lawful d x n = record {
  sound_cut = λ ok _ k.
      ⊎_elim
      (λ lt.
      ⊎_elim
      (λ none. ap (λ m. sound (after_writes m d (writes d (away x n)))) (let z : k ≡ 0 = omega arith in z) ∙ ap sound (after_nothing d _) ∙ ok)
      (λ some. ap (λ ws. sound (after_writes k d ws)) (writes_present d x n lt) ∙ ap sound (after_one k d _ some) ∙ rules_to_sound _ (sound-after_away d x (sound_to_rules d ok) lt))
      (cases_lt k 1))
      (λ ge. ap (λ ws. sound (after_writes k d ws)) (writes_absent d x n ge) ∙ ap sound (after_none k d) ∙ ok)
      (cases_lt (find d x) 16);
  whole = λ ok _ k y.
      ⊎_elim
      (λ lt.
      let ws = writes_present d x n lt in
      let one : length (writes d (away x n)) ≡ 1 = ap length ws in (
        λ less. ap (λ m. file (after_writes m d (writes d (away x n))) y) (let z : k ≡ 0 = omega arith in z) ∙ ap (λ c. file c y) (after_nothing d _),
        λ all. ap (λ vs. file (after_writes k d vs) y) ws ∙ ap (λ c. file c y) (after_one k d _ (omega arith)) ∙ file-after_away d x (sound_to_rules d ok) lt n y,
      ))
      (λ ge.
      let ws = writes_absent d x n ge in
      let none : length (writes d (away x n)) ≡ 0 = ap length ws in (
        λ less. absurd (omega arith),
        λ all. ap (λ vs. file (after_writes k d vs) y) ws ∙ ap (λ c. file c y) (after_none k d) ∙ file_unchanged d x n ge y,
      ))
      (cases_lt (find d x) 16);
}

pub away_few : (d x : List ℕ) (n : ℕ) → FewWrites d (away x n)
away_few d x n _ =
    ⊎_elim
    (λ lt. let one : length (writes d (away x n)) ≡ 1 = ap length (writes_present d x n lt) in omega arith)
    (λ ge. let none : length (writes d (away x n)) ≡ 0 = ap length (writes_absent d x n ge) in omega arith)
    (cases_lt (find d x) 16)
