-- Every place that is not on the list is read. Assumes nothing.
use Rattle.std.proofs.Common.{◌≡◌, ℕ, zero, suc, ◌+◌, ◌-◌, ◌*◌, ◌/◌, ◌%◌, ◌<◌, ◌≤◌, true, false, eqb, List, [], ◌∷◌, length, get_or, drop, set, Some, None, sym, refl, ap, ◌∙◌, subst, inl, inr, ⊎_elim, add-one, arith, length-drop, length-take}
use Rattle.std.specs.Option.{option_map}
use Rattle.std.proofs.lemmas.List.{get_or-take, get_or-drop, get_or-set_same, get_or-set_other, set_split}
use Rattle.std.proofs.lemmas.Bool.{cases_Bool, cases_eq, cases_lt, cond-true, cond-false, leb-false, lt-ltb}
use Rattle.layout.specs.declared.name.Name.{Name}
use Rattle.layout.specs.declared.entry.Entry.{Entry}
use Rattle.layout.specs.Entries.{as_name, decoded, needs, blocks_of}
use Rattle.layout.specs.Files.{entry_bytes, entry_at, content, find, file}
use Rattle.layout.specs.Parts.{part, replaced}
use Rattle.layout.specs.Words.{First}
use Rattle.layout.proofs.Finding.{first_unique, find_first, entry_of_here, no_file, length-entry_bytes}
use Rattle.layout.proofs.Slices.{part_of_part, part_before_replaced, part-behind-replaced}
use Rattle.fsck.specs.Sound.{sound}
use Rattle.fsck.specs.Rules.{Used, block_of, Sound}
use Rattle.fsck.proofs.Contents.{sound_long, sound_entry, length-blocks_at, length-content}
use Rattle.fsck.proofs.Deciding.{sound_to_rules}
use Rattle.unread.specs.Unread.{read_of_entry, unread}
use Rattle.unread.specs.Complete.{with_byte, Noticed}
use Rattle.unread.proofs.ContentBytes.{content_byte}
use Rattle.unread.proofs.Reach.{entry_byte, unread_in_entry, unread_in_block, Reached, reached_decides}

-- the disk with byte c in place k
module _ (d : List ℕ) (k c : ℕ) (on_disk : k < length d) where
  with_byte_set : with_byte d k c ≡ set d k c
  unfolding replaced
  with_byte_set = rw (add-one, set_split d k c on_disk)

  byte_put : get_or (with_byte d k c) k 0 ≡ c
  byte_put = ap (λ l. get_or l k 0) with_byte_set ∙ get_or-set_same d k c 0 on_disk

  byte_kept : (m : ℕ) → (m ≡ k → ⊥) → get_or (with_byte d k c) m 0 ≡ get_or d m 0
  byte_kept m other = ap (λ l. get_or l m 0) with_byte_set ∙ get_or-set_other d k m c 0 other

  -- a part of the disk in which the byte doesn't lie
  part_kept : (from n : ℕ) → (k < from + n → k < from) → part (with_byte d k c) from n ≡ part d from n
  part_kept from n apart =
      ⊎_elim
      (λ less. part-behind-replaced d k (c ∷ []) from n (omega arith) (omega (arith, apart less)))
      (λ before. part_before_replaced d k (c ∷ []) from n (omega arith) before)
      (cases_lt k (from + n))

-- where the parts of an entry lie
module _ (d : List ℕ) (i : ℕ) where
  used_lies : (entry_at d i).used ≡ eqb (get_or d (32 * i + 0) 0) 1
  unfolding entry_at decoded
  used_lies = ap (λ b. eqb b 1) (entry_byte d i 0 (omega arith))

  name_lies : (entry_at d i).name ≡ as_name (part d (32 * i + 1) 11)
  unfolding entry_at decoded entry_bytes
  name_lies = ap as_name (part_of_part d (32 * i) 32 1 11 (omega arith))

  len_lies : (entry_at d i).len ≡ get_or d (32 * i + 12) 0 + 256 * get_or d (32 * i + 13) 0
  unfolding entry_at decoded
  len_lies = λ j. entry_byte d i 12 (omega arith) j + 256 * entry_byte d i 13 (omega arith) j

  name_byte : (j : ℕ) → j < 11 → get_or (entry_at d i).name.bytes j 0 ≡ get_or d (32 * i + (1 + j)) 0
  unfolding entry_at decoded
  name_byte j lt = get_or-take 11 (drop 1 (entry_bytes d i)) j 0 lt ∙ get_or-drop 1 (entry_bytes d i) j 0 ∙ entry_byte d i (1 + j) (omega arith)

  number_byte : (m : ℕ) → m < 16 → m < needs (entry_at d i).len → block_of d i m ≡ get_or d (32 * i + (14 + m)) 0
  unfolding entry_at decoded blocks_of
  number_byte m lt needed =
      get_or-take (needs (entry_at d i).len) (entry_at d i).blocks m 0 needed
      ∙ get_or-take 16 (drop 14 (entry_bytes d i)) m 0 lt ∙ get_or-drop 14 (entry_bytes d i) m 0 ∙ entry_byte d i (14 + m) (omega arith)

-- an entry's part is as it was where the byte lies elsewhere
module _ (d : List ℕ) (k c : ℕ) (on_disk : k < length d) (i : ℕ) where
  used_kept : (32 * i ≡ k → ⊥) → (entry_at (with_byte d k c) i).used ≡ (entry_at d i).used
  used_kept apart = used_lies (with_byte d k c) i ∙ ap (λ b. eqb b 1) (byte_kept d k c on_disk (32 * i + 0) (λ same. apart (omega arith))) ∙ sym (used_lies d i)

  name_kept : (k < 32 * i + 12 → k ≤ 32 * i) → (entry_at (with_byte d k c) i).name ≡ (entry_at d i).name
  name_kept apart =
      name_lies (with_byte d k c) i
      ∙ ap as_name (part_kept d k c on_disk (32 * i + 1) 11 (λ less. let before : k ≤ 32 * i = apart (omega arith) in omega arith))
      ∙ sym (name_lies d i)

  len_kept : (32 * i + 12 ≡ k → ⊥) → (32 * i + 13 ≡ k → ⊥) → (entry_at (with_byte d k c) i).len ≡ (entry_at d i).len
  len_kept low high =
      len_lies (with_byte d k c) i
      ∙ (λ j. byte_kept d k c on_disk (32 * i + 12) low j + 256 * byte_kept d k c on_disk (32 * i + 13) high j)
      ∙ sym (len_lies d i)

  entry_kept : (k < 32 * i + 32 → k < 32 * i) → entry_at (with_byte d k c) i ≡ entry_at d i
  unfolding entry_at entry_bytes
  entry_kept apart = ap decoded (part_kept d k c on_disk (32 * i) 32 apart)

-- a byte that isn't c
other_byte : (c : ℕ) → (o : ℕ) × (o < 256) × (o ≡ c → ⊥)
other_byte zero = (1, omega arith, λ same. omega arith)
other_byte (suc c) = (0, omega arith, λ same. omega arith)

-- a place is noticed where a byte makes the disk unsound
noticed_unsound : (d : List ℕ) (k c : ℕ) → c < 256 → (Sound (with_byte d k c) → ⊥) → Noticed d k
noticed_unsound d k c byte unsound =
    (c, byte, ⊎_elim (λ ok. absurd (unsound (sound_to_rules (with_byte d k c) ok))) inl (cases_Bool (sound (with_byte d k c))))

-- or changes what is read under a name, if the disk stays sound
noticed_file : (d : List ℕ) (k c : ℕ) (x : List ℕ) → c < 256 → length x ≡ 11 → (Sound (with_byte d k c) → file (with_byte d k c) x ≡ file d x → ⊥) → Noticed d k
noticed_file d k c x byte long changed =
    (c, byte, ⊎_elim (λ ok. inr (x, (long, changed (sound_to_rules (with_byte d k c) ok)))) inl (cases_Bool (sound (with_byte d k c))))

module _ (d : List ℕ) (s : Sound d) (i : ℕ) (in_table : i < 16) where
  length_name : length (entry_at d i).name.bytes ≡ 11
  unfolding entry_at decoded
  length_name =
      let long : length (entry_bytes d i) ≡ 32 = length-entry_bytes d i (sound_entry d 16 i s in_table) in
      simp (length-take, length-drop) (omega arith)

  -- an entry in use is the one that is found by its name
  file_there : Used d i → file d (entry_at d i).name.bytes ≡ Some (content d (entry_at d i))
  unfolding file
  file_there used =
      let x = (entry_at d i).name.bytes in
      let first : First d x i = record {
        within = omega arith;
        here = λ _. (used, refl);
        before = λ m lt p. let same : m ≡ i = s.one_name m i (omega arith) in_table p.0 used (ap as_name p.1) in omega arith;
      } in
      let found : find d x ≡ i = first_unique d x _ _ (find_first d x) first in
      ap (option_map (content d)) (entry_of_here d x (subst (λ m. m < 16) (sym found) in_table)) ∙ ap (λ m. Some (content d (entry_at d m))) found

  -- on a disk where it alone has another name, there is no file under its old name
  file_gone : Used d i → (e : List ℕ) → ((m : ℕ) → m < 16 → (entry_at e m).used ≡ (entry_at d m).used) → ((m : ℕ) → m < 16 → (m ≡ i → ⊥) → (entry_at e m).name ≡ (entry_at d m).name) → ((entry_at e i).name.bytes ≡ (entry_at d i).name.bytes → ⊥) → file e (entry_at d i).name.bytes ≡ None
  file_gone used e same-used same_name renamed =
      (no_file e (entry_at d i).name.bytes).none (λ m lt p.
      ⊎_elim
      (λ here. renamed (ap (λ n. (entry_at e n).name.bytes) (sym here) ∙ p.1))
      (λ other. other (s.one_name m i lt in_table (sym (same-used m lt) ∙ p.0) used (sym (same_name m lt other) ∙ ap as_name p.1)))
      (cases_eq m i))

-- on two sound disks where an entry in use has the same name, its file is the same only if the contents are
same_contents : (d e : List ℕ) (i : ℕ) → Sound d → Sound e → i < 16 → Used d i → Used e i → (entry_at e i).name ≡ (entry_at d i).name → file e (entry_at d i).name.bytes ≡ file d (entry_at d i).name.bytes → content e (entry_at e i) ≡ content d (entry_at d i)
same_contents d e i s s₁ in_table used used₁ name same =
    let x = (entry_at d i).name.bytes in
    let before : file d x ≡ Some (content d (entry_at d i)) = file_there d s i in_table used in
    let after : file e x ≡ Some (content e (entry_at e i)) = ap (λ (n : Name). file e n.bytes) (sym name) ∙ file_there e s₁ i in_table used₁ in
    cc

module _ (d : List ℕ) (s : Sound d) (i : ℕ) (in_table : i < 16) where
  -- no flag is 2
  flag_noticed : Noticed d (32 * i + 0)
  flag_noticed =
      let k = 32 * i + 0 in
      let put : get_or (with_byte d k 2) k 0 ≡ 2 = byte_put d k 2 (omega (arith, sound_long d 16 s)) in
      noticed_unsound d k 2 (omega arith) (λ s₁. omega (arith, s₁.flag i in_table, entry_byte (with_byte d k 2) i 0 (omega arith)))

  -- another byte in a name leaves no file under it
  name_noticed : Used d i → (j : ℕ) → j < 11 → Noticed d (32 * i + (1 + j))
  name_noticed used j lt =
      let k = 32 * i + (1 + j) in
      let x = (entry_at d i).name.bytes in
      let o = other_byte (get_or d k 0) in
      let e = with_byte d k o.0 in
      let on_disk : k < length d = omega (arith, sound_long d 16 s) in
      let gone : file e x ≡ None = file_gone d s i in_table used e
      (λ m _. used_kept d k o.0 on_disk m (λ same. omega arith))
      (λ m _ other. name_kept d k o.0 on_disk m (λ less. omega arith))
      (λ same. o.2 (sym (byte_put d k o.0 on_disk) ∙ sym (name_byte e i j lt) ∙ ap (λ y. get_or y j 0) same ∙ name_byte d i j lt)) in
      let there : file d x ≡ Some (content d (entry_at d i)) = file_there d s i in_table used in
      noticed_file d k o.0 x o.1 (length_name d s i in_table) (λ _ same. let z : ◌≡◌ {A = ℕ} 0 1 = cc in omega arith)

  -- a byte of the length, if another byte there makes another length
  length_noticed : Used d i → (k : ℕ) → 32 * i + 12 ≤ k → k < 32 * i + 14 → ((c : ℕ) → (c ≡ get_or d k 0 → ⊥) → (entry_at (with_byte d k c) i).len ≡ (entry_at d i).len → ⊥) → Noticed d k
  length_noticed used k low high apart =
      let o = other_byte (get_or d k 0) in
      let e = with_byte d k o.0 in
      let on_disk : k < length d = omega (arith, sound_long d 16 s) in
      let used₁ : Used e i = used_kept d k o.0 on_disk i (λ same. omega arith) ∙ used in
      let name = name_kept d k o.0 on_disk i (λ less. omega arith) in
      noticed_file d k o.0 (entry_at d i).name.bytes o.1 (length_name d s i in_table) (λ s₁ same.
      apart o.0 o.2 (sym (length-content e 16 i s₁ in_table in_table used₁) ∙ ap length (same_contents d e i s s₁ in_table used used₁ name same) ∙ length-content d 16 i s in_table in_table used))

  low_length_noticed : Used d i → Noticed d (32 * i + 12)
  low_length_noticed used =
      let k = 32 * i + 12 in
      let on_disk : k < length d = omega (arith, sound_long d 16 s) in
      length_noticed used k (omega arith) (omega arith) (λ c other same.
      other (omega (arith, len_lies (with_byte d k c) i, len_lies d i, byte_put d k c on_disk, byte_kept d k c on_disk (32 * i + 13) (λ e. omega arith))))

  high_length_noticed : Used d i → Noticed d (32 * i + 13)
  high_length_noticed used =
      let k = 32 * i + 13 in
      let on_disk : k < length d = omega (arith, sound_long d 16 s) in
      length_noticed used k (omega arith) (omega arith) (λ c other same.
      other (omega (arith, len_lies (with_byte d k c) i, len_lies d i, byte_put d k c on_disk, byte_kept d k c on_disk (32 * i + 12) (λ e. omega arith))))

  -- no block that the file needs has number 0
  number_noticed : Used d i → (m : ℕ) → m < needs (entry_at d i).len → Noticed d (32 * i + (14 + m))
  unfolding needs
  number_noticed used m lt =
      let k = 32 * i + (14 + m) in
      let e = with_byte d k 0 in
      let few : m < 16 = omega (arith, s.short i in_table used) in
      let on_disk : k < length d = omega (arith, sound_long d 16 s) in
      let used₁ : Used e i = used_kept d k 0 on_disk i (λ same. omega arith) ∙ used in
      let len : (entry_at e i).len ≡ (entry_at d i).len = len_kept d k 0 on_disk i (λ same. omega arith) (λ same. omega arith) in
      let needed : m < needs (entry_at e i).len = subst (λ n. m < needs n) (sym len) lt in
      noticed_unsound d k 0 (omega arith) (λ s₁.
      let within : m < length (blocks_of (entry_at e i)) = subst (λ n. m < n) (sym (length-blocks_at e 16 i s₁ in_table in_table used₁)) needed in
      omega (arith, s₁.from_8 i m (record { entry = in_table; used = used₁; within = within }), number_byte e i m few needed, byte_put d k 0 on_disk))

  -- all that is read of an entry in use
  used_noticed : Used d i → (j : ℕ) → j < 14 + needs (entry_at d i).len → Noticed d (32 * i + j)
  used_noticed used j lt =
      let at : (k : ℕ) → k ≡ 32 * i + j → Noticed d k → Noticed d (32 * i + j) = λ k same. subst (Noticed d) same in
      ⊎_elim
      (λ less_12. ⊎_elim (λ less_1. at _ (omega arith) flag_noticed) (λ ge_1. at _ (omega arith) (name_noticed used (j - 1) (omega arith))) (cases_lt j 1))
      (λ ge_12.
      ⊎_elim
      (λ less_14. ⊎_elim (λ less_13. at _ (omega arith) (low_length_noticed used)) (λ ge_13. at _ (omega arith) (high_length_noticed used)) (cases_lt j 13))
      (λ ge_14. at _ (omega arith) (number_noticed used (j - 14) (omega arith)))
      (cases_lt j 14))
      (cases_lt j 12)

  -- and of an entry that may not be in use
  entry_noticed : (j : ℕ) → j < read_of_entry (entry_at d i) → Noticed d (32 * i + j)
  unfolding read_of_entry
  entry_noticed j lt =
      ⊎_elim
      (λ used. used_noticed used j (subst (λ n. j < n) (cond-true _ _ _ used) lt))
      (λ unused.
      let less : j < 1 = subst (λ n. j < n) (cond-false _ _ _ unused) lt in
      let first : 0 ≡ j = omega arith in
      subst (λ n. Noticed d (32 * i + n)) first flag_noticed)
      (cases_Bool (entry_at d i).used)

-- byte j of the block in place m of a file
byte_in_block : (d : List ℕ) (i m b j : ℕ) → Sound d → i < 16 → Used d i → block_of d i m ≡ b → j < 64 → 64 * m + j < (entry_at d i).len → get_or (content d (entry_at d i)) (64 * m + j) 0 ≡ get_or d (64 * b + j) 0
byte_in_block d i m b j s in_table used is lt before_end =
    let place : (64 * m + j) / 64 ≡ m = omega arith in
    let rest : (64 * m + j) % 64 ≡ j = omega arith in
    content_byte d i (64 * m + j) s in_table used before_end ∙ (λ t. get_or d (64 * (ap (block_of d i) place ∙ is) t + rest t) 0)

-- a byte of a block that belongs to a file changes the file
block_noticed : (d : List ℕ) (b j : ℕ) → Sound d → 8 ≤ b → j < 64 → 64 * b + j < length d → Reached d 16 b j → Noticed d (64 * b + j)
block_noticed d b j s ge lt on_disk r =
    let k = 64 * b + j in
    let i = r.entry in
    let m = r.place in
    let in_table : i < 16 = r.there.entry in
    let used : Used d i = r.there.used in
    let o = other_byte (get_or d k 0) in
    let e = with_byte d k o.0 in
    let kept : entry_at e i ≡ entry_at d i = entry_kept d k o.0 on_disk i (λ less. omega arith) in
    let used₁ : Used e i = ap (λ (y : Entry). y.used) kept ∙ used in
    let is : block_of e i m ≡ b = ap (λ y. get_or (blocks_of y) m 0) kept ∙ r.is in
    let before_end : 64 * m + j < (entry_at e i).len = subst (λ (y : Entry). 64 * m + j < y.len) (sym kept) r.before_end in
    noticed_file d k o.0 (entry_at d i).name.bytes o.1 (length_name d s i in_table) (λ s₁ same.
    o.2 (sym (byte_put d k o.0 on_disk) ∙ sym (byte_in_block e i m b j s₁ in_table used₁ is lt before_end)
    ∙ ap (λ l. get_or l (64 * m + j) 0) (same_contents d e i s s₁ in_table used used₁ (ap (λ (y : Entry). y.name) kept) same)
    ∙ byte_in_block d i m b j s in_table used r.is lt r.before_end))

pub no_others : (d : List ℕ) → sound d ≡ true → (k : ℕ) → k < length d → unread d k ≡ false → Noticed d k
no_others d ok k lt read =
    let s = sound_to_rules d ok in
    ⊎_elim
    (λ in_entries.
    let i = k / 32 in
    let j = k % 32 in
    let at : 32 * i + j ≡ k = omega arith in
    let is = unread_in_entry d i j (omega arith) (omega arith) (omega (arith, sound_long d 16 s)) in
    subst (Noticed d) at (entry_noticed d s i (omega arith) j (leb-false _ j (sym is ∙ ap (unread d) at ∙ read))))
    (λ in_blocks.
    let b = k / 64 in
    let j = k % 64 in
    let at : 64 * b + j ≡ k = omega arith in
    let is = unread_in_block d b j (omega arith) (omega arith) (omega (arith, s.whole)) in
    let reached = (reached_decides d 16 b j (omega arith)).0 (lt-ltb j _ (leb-false _ j (sym is ∙ ap (unread d) at ∙ read))) in
    subst (Noticed d) at (block_noticed d b j s (omega arith) (omega arith) (omega arith) reached))
    (cases_lt k 512)
