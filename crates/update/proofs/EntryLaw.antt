-- The entry-write law: an entry replaced by bytes that are fit for it leaves a sound disk, and changes the files under its old and its new name alone. Assumes nothing.
use Rattle.std.proofs.Common.{◌≡◌, ℕ, ◌*◌, ◌/◌, ◌<◌, ◌≤◌, true, List, length, get_or, Some, None, sym, refl, ap, ◌∙◌, subst, ⊎_elim, arith}
use Rattle.std.specs.Option.{option_map}
use Rattle.std.proofs.lemmas.Bool.{cases_eq, cases_lt}
use Rattle.layout.specs.declared.name.Name.{Name}
use Rattle.layout.specs.declared.entry.Entry.{Entry}
use Rattle.layout.specs.Entries.{as_name, decoded, blocks_of}
use Rattle.layout.specs.Files.{entry_bytes, entry_at, block, content, find, file}
use Rattle.layout.specs.Words.{Named, First}
use Rattle.layout.proofs.Finding.{find_first, first_unique, entry_of_here, entry_of_none, no_file}
use Rattle.fsck.specs.Blocks.{size}
use Rattle.fsck.specs.Rules.{Used, Place, block_of, Sound}
use Rattle.fsck.proofs.Agreement.{same_content}
use Rattle.fsck.proofs.Contents.{sound_long}
use Rattle.update.specs.Writes.{after_write, entry_write}
use Rattle.update.proofs.Places.{entry_written, entry_beside_kept, data_block_kept, length-after_entry}

-- e is fit for entry i: not in use; or in use, with a length, blocks and a name that no rule forbids beside the other entries
pub record Fit (d : List ℕ) (i : ℕ) (e : List ℕ) : Type 0 where
  pub flag : get_or e 0 0 ≤ 1
  pub short : (decoded e).used ≡ true → (decoded e).len ≤ 1024
  pub low : (decoded e).used ≡ true → (k : ℕ) → k < length (blocks_of (decoded e)) → 8 ≤ get_or (blocks_of (decoded e)) k 0
  pub high : (decoded e).used ≡ true → (k : ℕ) → k < length (blocks_of (decoded e)) → get_or (blocks_of (decoded e)) k 0 < size d
  pub once : (decoded e).used ≡ true → (k l : ℕ) → k < length (blocks_of (decoded e)) → l < length (blocks_of (decoded e)) → get_or (blocks_of (decoded e)) k 0 ≡ get_or (blocks_of (decoded e)) l 0 → k ≡ l
  pub apart : (decoded e).used ≡ true → (j k l : ℕ) → Place d 16 j k → (j ≡ i → ⊥) → l < length (blocks_of (decoded e)) → block_of d j k ≡ get_or (blocks_of (decoded e)) l 0 → ⊥
  pub new_name : (decoded e).used ≡ true → (j : ℕ) → j < 16 → (j ≡ i → ⊥) → Used d j → (entry_at d j).name ≡ (decoded e).name → ⊥

-- d₁ is d with e in the place of entry i
pub record EntryReplaced (d : List ℕ) (i : ℕ) (e d₁ : List ℕ) : Type 0 where
  pub long : length d₁ ≡ length d
  pub here : entry_bytes d₁ i ≡ e
  pub others : (j : ℕ) → j < 16 → (j ≡ i → ⊥) → entry_bytes d₁ j ≡ entry_bytes d j
  pub blocks : (b : ℕ) → 8 ≤ b → block d₁ b ≡ block d b

-- any write of an entry to a sound disk replaces that entry
pub entry_replaced : (d : List ℕ) (i : ℕ) (e : List ℕ) → Sound d → i < 16 → length e ≡ 32 → EntryReplaced d i e (after_write d (entry_write d i e))
entry_replaced d i e s lt n =
    let long : 512 ≤ length d = omega (arith, sound_long d 16 s) in
    record {
      long = length-after_entry d i e long lt n;
      here = entry_written d i e long lt n;
      others = λ j _. entry_beside_kept d i e long lt n j;
      blocks = data_block_kept d i e long lt n;
    }

-- a file whose blocks are all from 8 on is read alike on both
content_kept : (d d₁ : List ℕ) (e : Entry) → ((b : ℕ) → 8 ≤ b → block d₁ b ≡ block d b) → ((k : ℕ) → k < length (blocks_of e) → 8 ≤ get_or (blocks_of e) k 0) → content d₁ e ≡ content d e
content_kept d d₁ e same low = same_content d d₁ e e refl refl (λ k lt. same _ (low k lt))

module _ (d : List ℕ) (i : ℕ) (e d₁ : List ℕ) (in_table : i < 16) (s : Sound d) (fit : Fit d i e) (r : EntryReplaced d i e d₁) where
  pub at_here : entry_at d₁ i ≡ decoded e
  unfolding entry_at
  at_here = ap decoded r.here

  pub at_other : (j : ℕ) → j < 16 → (j ≡ i → ⊥) → entry_at d₁ j ≡ entry_at d j
  unfolding entry_at
  at_other j lt other = ap decoded (r.others j lt other)

  same_size : size d₁ ≡ size d
  unfolding size
  same_size = ap (λ n. n / 64) r.long

  new_used : (j : ℕ) → j ≡ i → Used d₁ j → (decoded e).used ≡ true
  new_used j same used = ap (λ (x : Entry). x.used) (sym (ap (entry_at d₁) same ∙ at_here)) ∙ used

  old_used : (j : ℕ) → j < 16 → (j ≡ i → ⊥) → Used d₁ j → Used d j
  old_used j lt other used = ap (λ (x : Entry). x.used) (sym (at_other j lt other)) ∙ used

  is_new : (j : ℕ) → j ≡ i → entry_at d₁ j ≡ decoded e
  is_new j same = ap (entry_at d₁) same ∙ at_here

  new_within : (j k : ℕ) → j ≡ i → k < length (blocks_of (entry_at d₁ j)) → k < length (blocks_of (decoded e))
  new_within j k same = subst (λ (x : Entry). k < length (blocks_of x)) (is_new j same)

  new_block : (j k : ℕ) → j ≡ i → block_of d₁ j k ≡ get_or (blocks_of (decoded e)) k 0
  new_block j k same = ap (λ (x : Entry). get_or (blocks_of x) k 0) (is_new j same)

  old_place : (j k : ℕ) → (j ≡ i → ⊥) → Place d₁ 16 j k → Place d 16 j k
  old_place j k other p = record {
    entry = p.entry;
    used = old_used j p.entry other p.used;
    within = subst (λ (x : Entry). k < length (blocks_of x)) (at_other j p.entry other) p.within;
  }

  old_block : (j k : ℕ) → j < 16 → (j ≡ i → ⊥) → block_of d₁ j k ≡ block_of d j k
  old_block j k lt other = ap (λ (x : Entry). get_or (blocks_of x) k 0) (at_other j lt other)

  pub sound-after_entry : Sound d₁
  sound-after_entry = record {
    whole = r.long ∙ s.whole ∙ ap (λ n. 64 * n) (sym same_size);
    least = subst (λ n. 9 ≤ n) (sym same_size) s.least;
    most = subst (λ n. n ≤ 250) (sym same_size) s.most;
    flag = λ j lt.
        ⊎_elim
        (λ same. subst (λ bs. get_or bs 0 0 ≤ 1) (sym (ap (entry_bytes d₁) same ∙ r.here)) fit.flag)
        (λ other. subst (λ bs. get_or bs 0 0 ≤ 1) (sym (r.others j lt other)) (s.flag j lt))
        (cases_eq j i);
    short = λ j lt used.
        ⊎_elim
        (λ same. subst (λ (x : Entry). x.len ≤ 1024) (sym (is_new j same)) (fit.short (new_used j same used)))
        (λ other. subst (λ (x : Entry). x.len ≤ 1024) (sym (at_other j lt other)) (s.short j lt (old_used j lt other used)))
        (cases_eq j i);
    from_8 = λ j k p.
        ⊎_elim
        (λ same. subst (λ b. 8 ≤ b) (sym (new_block j k same)) (fit.low (new_used j same p.used) k (new_within j k same p.within)))
        (λ other. subst (λ b. 8 ≤ b) (sym (old_block j k p.entry other)) (s.from_8 j k (old_place j k other p)))
        (cases_eq j i);
    on_disk = λ j k p.
        subst (λ n. block_of d₁ j k < n) (sym same_size) (⊎_elim
        (λ same. subst (λ b. b < size d) (sym (new_block j k same)) (fit.high (new_used j same p.used) k (new_within j k same p.within)))
        (λ other. subst (λ b. b < size d) (sym (old_block j k p.entry other)) (s.on_disk j k (old_place j k other p)))
        (cases_eq j i));
    one_block = λ a k b l p q same.
        ⊎_elim
        (λ a_new.
        let used = new_used a a_new p.used in
        let k_in = new_within a k a_new p.within in
        ⊎_elim
        (λ b_new. (a_new ∙ sym b_new, fit.once used k l k_in (new_within b l b_new q.within) (sym (new_block a k a_new) ∙ same ∙ new_block b l b_new)))
        (λ b_old. absurd (fit.apart used b l k (old_place b l b_old q) b_old k_in (sym (old_block b l q.entry b_old) ∙ sym same ∙ new_block a k a_new)))
        (cases_eq b i))
        (λ a_old.
        ⊎_elim
        (λ b_new. absurd (fit.apart (new_used b b_new q.used) a k l (old_place a k a_old p) a_old (new_within b l b_new q.within) (sym (old_block a k p.entry a_old) ∙ same ∙ new_block b l b_new)))
        (λ b_old. s.one_block a k b l (old_place a k a_old p) (old_place b l b_old q) (sym (old_block a k p.entry a_old) ∙ same ∙ old_block b l q.entry b_old))
        (cases_eq b i))
        (cases_eq a i);
    one_name = λ a b a_in b_in a_used b_used same.
        let name : Entry → Name = λ x. x.name in
        ⊎_elim
        (λ a_new.
        ⊎_elim
        (λ b_new. a_new ∙ sym b_new)
        (λ b_old. absurd (fit.new_name (new_used a a_new a_used) b b_in b_old (old_used b b_in b_old b_used) (ap name (sym (at_other b b_in b_old)) ∙ sym same ∙ ap name (is_new a a_new))))
        (cases_eq b i))
        (λ a_old.
        ⊎_elim
        (λ b_new. absurd (fit.new_name (new_used b b_new b_used) a a_in a_old (old_used a a_in a_old a_used) (ap name (sym (at_other a a_in a_old)) ∙ same ∙ ap name (is_new b b_new))))
        (λ b_old. s.one_name a b a_in b_in (old_used a a_in a_old a_used) (old_used b b_in b_old b_used) (ap name (sym (at_other a a_in a_old)) ∙ same ∙ ap name (at_other b b_in b_old)))
        (cases_eq b i))
        (cases_eq a i);
  }

  -- another entry has the name on one disk if it has it on the other
  named_before : (x : List ℕ) (j : ℕ) → j < 16 → (j ≡ i → ⊥) → Named d₁ x j → Named d x j
  named_before x j lt other p = (old_used j lt other p.0, ap (λ (y : Entry). y.name.bytes) (sym (at_other j lt other)) ∙ p.1)

  named-after : (x : List ℕ) (j : ℕ) → j < 16 → (j ≡ i → ⊥) → Named d x j → Named d₁ x j
  named-after x j lt other p = (ap (λ (y : Entry). y.used) (at_other j lt other) ∙ p.0, ap (λ (y : Entry). y.name.bytes) (at_other j lt other) ∙ p.1)

  -- a file of another entry is as it was
  content_other : (j : ℕ) → j < 16 → (j ≡ i → ⊥) → Used d j → content d₁ (entry_at d₁ j) ≡ content d (entry_at d j)
  content_other j lt other used =
      ap (content d₁) (at_other j lt other)
      ∙ content_kept d d₁ (entry_at d j) r.blocks (λ k k_in. s.from_8 j k (record { entry = lt; used = used; within = k_in }))

  -- under a name that entry i had neither before nor has now, the file is as it was
  pub file_other : (x : List ℕ) → (Named d x i → ⊥) → (Named d₁ x i → ⊥) → file d₁ x ≡ file d x
  unfolding file
  file_other x not-before not-now =
      let f = find_first d x in
      let not_i : find d x < 16 → find d x ≡ i → ⊥ = λ lt same. not-before (subst (Named d x) same (f.here lt)) in
      let first : First d₁ x (find d x) = record {
        within = f.within;
        here = λ lt. named-after x (find d x) lt (not_i lt) (f.here lt);
        before = λ k lt p. ⊎_elim (λ same. not-now (subst (Named d₁ x) same p)) (λ other. f.before k lt (named_before x k (omega (arith, f.within)) other p)) (cases_eq k i);
      } in
      let same_find : find d₁ x ≡ find d x = first_unique d₁ x _ _ (find_first d₁ x) first in
      ⊎_elim
      (λ lt.
      ap (option_map (content d₁)) (entry_of_here d₁ x (subst (λ n. n < 16) (sym same_find) lt))
      ∙ ap (λ n. Some (content d₁ (entry_at d₁ n))) same_find ∙ ap Some (content_other (find d x) lt (not_i lt) (f.here lt).0) ∙ sym (ap (option_map (content d)) (entry_of_here d x lt)))
      (λ ge. ap (option_map (content d₁)) (entry_of_none d₁ x (subst (λ n. 16 ≤ n) (sym same_find) ge)) ∙ sym (ap (option_map (content d)) (entry_of_none d x ge)))
      (cases_lt (find d x) 16)

  -- under the new name there is the file that the new entry describes
  pub file_new : (decoded e).used ≡ true → file d₁ (decoded e).name.bytes ≡ Some (content d (decoded e))
  unfolding file
  file_new used =
      let x = (decoded e).name.bytes in
      let named : Named d₁ x i = (ap (λ (y : Entry). y.used) at_here ∙ used, ap (λ (y : Entry). y.name.bytes) at_here) in
      let first : First d₁ x i = record {
        within = omega arith;
        here = λ _. named;
        before = λ k lt p.
            let other : k ≡ i → ⊥ = λ same. omega arith in
            let q = named_before x k (omega arith) other p in
            fit.new_name used k (omega arith) other q.0 (ap as_name q.1);
      } in
      let at_i : find d₁ x ≡ i = first_unique d₁ x _ _ (find_first d₁ x) first in
      ap (option_map (content d₁)) (entry_of_here d₁ x (subst (λ n. n < 16) (sym at_i) in_table))
      ∙ ap (λ n. Some (content d₁ (entry_at d₁ n))) at_i ∙ ap (λ y. Some (content d₁ y)) at_here ∙ ap Some (content_kept d d₁ (decoded e) r.blocks (fit.low used))

  -- under a name that entry i had before and has no more, there is none
  pub file_gone : (x : List ℕ) → Named d x i → (Named d₁ x i → ⊥) → file d₁ x ≡ None
  file_gone x before not-now =
      (no_file d₁ x).none (λ k lt p.
      ⊎_elim
      (λ same. not-now (subst (Named d₁ x) same p))
      (λ other. let q = named_before x k lt other p in other (s.one_name k i lt in_table q.0 before.0 (ap as_name (q.1 ∙ sym before.1))))
      (cases_eq k i))
