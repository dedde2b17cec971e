-- Putting a file is data writes into free blocks and then one entry write, so it is lawful. Assumes nothing.
use Rattle.std.proofs.Common.{◌≡◌, ℕ, zero, suc, ◌+◌, ◌*◌, ◌/◌, ◌<◌, ◌≤◌, min, Bool, true, false, ◌&&◌, ltb, leb, List, [], ◌∷◌, ◌++◌, length, get_or, take, drop, Some, None, sym, ap, ◌∙◌, subst, ⊎_elim, arith, length-append, length-take}
use Rattle.std.specs.Str.{bytes_eq}
use Rattle.std.proofs.lemmas.Slice.Eq.{bytes_eq-Decides}
use Rattle.std.proofs.lemmas.List.{get_or-take}
use Rattle.std.proofs.lemmas.Bool.{cases_Bool, cases_lt, cond-true, cond-false, both_ways, and_parts, and_from, leb-true, ltb-true, eqb-true, lt-ltb, le-ltb}
use Rattle.std.proofs.lemmas.Bool.Decides.{not_from_Decides}
use Rattle.layout.specs.declared.name.Name.{Name}
use Rattle.layout.specs.Entries.{as_name, decoded, encoded, needs, blocks_of}
use Rattle.layout.specs.Files.{entry_at, find, file, content}
use Rattle.layout.specs.Words.{Named}
use Rattle.layout.proofs.Finding.{find_first}
use Rattle.fsck.specs.Blocks.{size, blocks_to, in_use, free, has}
use Rattle.fsck.specs.Sound.{sound}
use Rattle.fsck.specs.Rules.{Sound}
use Rattle.fsck.proofs.Membership.{has_at, place_has}
use Rattle.fsck.proofs.Deciding.{sound_to_rules}
use Rattle.fsck.proofs.Contents.{sound_long}
use Rattle.fsck.proofs.Counting.{Once, free-has, free_once}
use Rattle.fsck.proofs.Agreement.{same_free}
use Rattle.update.specs.Answers.{good_name, good_file}
use Rattle.update.specs.Writes.{Write, after_writes, entry_write}
use Rattle.update.specs.Putting.{padded, data_writes, chosen, unused_from, place_for, new_entry, put_writes, room_for}
use Rattle.update.specs.Requests.{put, writes, may, done, changed}
use Rattle.update.specs.Plans.{nth_write}
use Rattle.update.specs.Promise.{FewWrites, RoomBack}
use Rattle.update.proofs.EntryLaw.{Fit}
use Rattle.update.proofs.DataWrites.{DataAll, Planned, Unseen, planned_sound, planned_unseen, planned_other, planned_new}
use Rattle.update.proofs.NewFile.{OnDisk, length-padded, length-data_writes, length_entry, entry_used, entry_name, entry_len, entry_blocks, entry_flag, content_put}
use Rattle.update.proofs.Sequences.{Lawful}
use Rattle.update.proofs.PlanWrites.{nth_front, nth_last, nth_past, nth_data}

unused_here : (d : List ℕ) (i n : ℕ) → unused_from d i n < i + n → (entry_at d (unused_from d i n)).used ≡ false
unfolding unused_from
unused_here d i zero lt = absurd (omega arith)
unused_here d i (suc n) lt =
    ⊎_elim
    (λ used.
    let on = cond-true (entry_at d i).used (unused_from d (suc i) n) i used in
    ap (λ k. (entry_at d k).used) on ∙ unused_here d (suc i) n (let more : unused_from d (suc i) n < suc i + n = omega (arith, on) in more))
    (λ unused. ap (λ k. (entry_at d k).used) (cond-false (entry_at d i).used (unused_from d (suc i) n) i unused) ∙ unused)
    (cases_Bool (entry_at d i).used)

-- writes into blocks that are each on the disk, from 8 on and not in use
data_all : (d bs c : List ℕ) → ((k : ℕ) → k < length bs → (64 * get_or bs k 0 + 64 ≤ length d) × (8 ≤ get_or bs k 0) × (in_use d (get_or bs k 0) ≡ false)) → DataAll d (data_writes bs c)
unfolding data_writes
data_all d [] c each = tt
data_all d (b ∷ bs) c each =
    let first = each 0 (omega arith) in
    ((record { on_disk = first.0; whole = length-padded 64 c }, first.1, first.2), data_all d bs (drop 64 c) (λ k lt. each (suc k) (omega arith)))

-- a put that is begun
module _ (d x c : List ℕ) (s : Sound d) (good : good_name x ≡ true) (fits : good_file c ≡ true) (room : room_for d x c ≡ true) where
  eleven : length x ≡ 11
  eleven = eqb-true (length x) 11 good

  short : length c ≤ 1024
  short = leb-true (length c) 1024 fits

  place_in : place_for d x < 16
  unfolding room_for
  place_in = ltb-true (place_for d x) 16 (and_parts (ltb (place_for d x) 16) _ room).0

  enough : needs (length c) ≤ length (free d)
  unfolding room_for
  enough = leb-true (needs (length c)) (length (free d)) (and_parts (ltb (place_for d x) 16) _ room).1

  many : length (chosen d c) ≡ needs (length c)
  unfolding chosen
  many = let h = enough in simp length-take (omega arith)

  chosen_at : (k : ℕ) → k < length (chosen d c) → get_or (chosen d c) k 0 ≡ get_or (free d) k 0
  unfolding chosen
  chosen_at k lt = let m = many in get_or-take (needs (length c)) (free d) k 0 (omega arith)

  chosen-free : (k : ℕ) → k < length (chosen d c) → (8 ≤ get_or (chosen d c) k 0) × (get_or (chosen d c) k 0 < size d) × (in_use d (get_or (chosen d c) k 0) ≡ false)
  chosen-free k lt =
      let m = many in
      let h = enough in
      free-has d (get_or (chosen d c) k 0) (ap (has (free d)) (chosen_at k lt) ∙ has_at (free d) k (omega arith))

  chosen_on_disk : OnDisk d (chosen d c)
  chosen_on_disk k lt = let w = s.whole in let f = (chosen-free k lt).1 in omega arith

  chosen_once : Once (chosen d c)
  chosen_once k l k_in l_in same =
      let m = many in
      let h = enough in
      free_once d k l (omega arith) (omega arith) (sym (chosen_at k k_in) ∙ same ∙ chosen_at l l_in)

  -- the entry that has the place has the name, or is not in use
  place_named : find d x < 16 → place_for d x ≡ find d x
  unfolding place_for
  place_named lt = cond-true _ _ _ (lt-ltb (find d x) 16 lt)

  place_unused : 16 ≤ find d x → (entry_at d (place_for d x)).used ≡ false
  unfolding place_for
  place_unused ge =
      let at = cond-false (ltb (find d x) 16) (find d x) (unused_from d 0 16) (le-ltb (find d x) 16 ge) in
      let p = place_in in
      ap (λ k. (entry_at d k).used) at ∙ unused_here d 0 16 (omega (arith, at))

  -- so an entry with the name is that one, and that one has no other
  only_place : (j : ℕ) → j < 16 → Named d x j → j ≡ place_for d x
  only_place j lt named =
      ⊎_elim
      (λ in'.
      let first = (find_first d x).here in' in
      s.one_name j (find d x) lt in' named.0 first.0 (ap as_name (named.1 ∙ sym first.1)) ∙ sym (place_named in'))
      (λ ge. absurd ((find_first d x).before j (omega arith) named))
      (cases_lt (find d x) 16)

  no_other_name : (y : List ℕ) → (x ≡ y → ⊥) → Named d y (place_for d x) → ⊥
  no_other_name y apart named =
      ⊎_elim
      (λ in'. apart (sym ((find_first d x).here in').1 ∙ ap (λ k. (entry_at d k).name.bytes) (sym (place_named in')) ∙ named.1))
      (λ ge. both_ways _ (place_unused ge) named.0)
      (cases_lt (find d x) 16)

  new_fit : Fit d (place_for d x) (encoded (new_entry x c (chosen d c)))
  unfolding in_use
  new_fit =
      let bs = chosen d c in
      let blocks = entry_blocks x c bs eleven short many in
      let at : (k : ℕ) → get_or (blocks_of (decoded (encoded (new_entry x c bs)))) k 0 ≡ get_or bs k 0 = λ k. ap (λ l. get_or l k 0) blocks in
      let within : (k : ℕ) → k < length (blocks_of (decoded (encoded (new_entry x c bs)))) → k < length bs = λ k. subst (λ l. k < length l) blocks in
      record {
        flag = entry_flag x c bs eleven short many;
        short = λ _. subst (λ n. n ≤ 1024) (sym (entry_len x c bs eleven short many)) short;
        low = λ _ k lt. subst (λ b. 8 ≤ b) (sym (at k)) (chosen-free k (within k lt)).0;
        high = λ _ k lt. subst (λ b. b < size d) (sym (at k)) (chosen-free k (within k lt)).1;
        once = λ _ k l k_in l_in same. chosen_once k l (within k k_in) (within l l_in) (sym (at k) ∙ same ∙ at l);
        apart = λ _ j k l p other l_in same.
            both_ways _ (chosen-free l (within l l_in)).2 (ap (has (blocks_to d 16)) (sym (same ∙ at l)) ∙ place_has d 16 j k p);
        new_name = λ _ j lt other used same. other (only_place j lt (used, ap (λ (n : Name). n.bytes) same ∙ entry_name x c bs eleven short many));
      }

  pub planned : Planned d (data_writes (chosen d c) c) (place_for d x) (encoded (new_entry x c (chosen d c)))
  planned = record {
    data_first = data_all d (chosen d c) c (λ k lt. (chosen_on_disk k lt, (chosen-free k lt).0, (chosen-free k lt).2));
    in_table = place_in;
    whole = length_entry x c (chosen d c) eleven short many;
    fit = new_fit;
  }

  pub content_new : content (after_writes (length (data_writes (chosen d c) c)) d (data_writes (chosen d c) c)) (decoded (encoded (new_entry x c (chosen d c)))) ≡ c
  content_new = content_put d x c (chosen d c) eleven short many chosen_once chosen_on_disk

  pub length_put : length (put_writes d x c) ≡ suc (needs (length c))
  unfolding put_writes
  length_put =
      let vs : length (data_writes (chosen d c) c) ≡ needs (length c) = length-data_writes (chosen d c) c ∙ many in
      length-append (data_writes (chosen d c) c) _ ∙ omega arith

  pub put_sound : (n : ℕ) → sound (after_writes n d (put_writes d x c)) ≡ true
  unfolding put_writes
  put_sound = planned_sound d (data_writes (chosen d c) c) (place_for d x) (encoded (new_entry x c (chosen d c))) s planned

  pub put_unseen : (n : ℕ) → n < length (put_writes d x c) → Unseen d (after_writes n d (put_writes d x c))
  unfolding put_writes
  put_unseen n lt =
      let all = length_put in
      let vs : length (data_writes (chosen d c) c) ≡ needs (length c) = length-data_writes (chosen d c) c ∙ many in
      planned_unseen d (data_writes (chosen d c) c) (place_for d x) (encoded (new_entry x c (chosen d c))) s planned n (omega arith)

  pub put_seen : (n m : ℕ) → length (put_writes d x c) ≤ n → (y : List ℕ) → file (after_writes n d (put_writes d x c)) y ≡ changed (file d) (put x c m) y
  unfolding put_writes changed
  put_seen n m le y =
      let bs = chosen d c in
      let e = encoded (new_entry x c bs) in
      let all = length_put in
      let vs : length (data_writes bs c) ≡ needs (length c) = length-data_writes bs c ∙ many in
      let more : length (data_writes bs c) < n = omega arith in
      let used = entry_used x c bs eleven short many in
      let name = entry_name x c bs eleven short many in
      ⊎_elim
      (λ same.
      let x_is_y : x ≡ y = (bytes_eq-Decides x y).0 same in
      ap (file (after_writes n d (put_writes d x c))) (sym x_is_y ∙ sym name) ∙ planned_new d (data_writes bs c) (place_for d x) e s planned n more used ∙ ap Some content_new ∙ sym (cond-true _ _ _ same))
      (λ other.
      let apart : x ≡ y → ⊥ = not_from_Decides _ (bytes_eq-Decides x y) other in
      planned_other d (data_writes bs c) (place_for d x) e s planned n more y (no_other_name y apart) (λ _ is. apart (sym name ∙ is)) ∙ sym (cond-false _ _ _ other))
      (cases_Bool (bytes_eq x y))

-- what a put that may be begun has
module _ (d x c : List ℕ) (m : ℕ) (begun : may d (put x c m) ≡ true) where
  may_name : good_name x ≡ true
  unfolding may
  may_name = (and_parts (good_name x) _ begun).0

  may-file : good_file c ≡ true
  unfolding may
  may-file = (and_parts (good_file c) _ (and_parts (good_name x) _ begun).1).0

  may_room : room_for d x c ≡ true
  unfolding may
  may_room = (and_parts (good_file c) _ (and_parts (good_name x) _ begun).1).1

pub put_lawful : (d x c : List ℕ) (m : ℕ) → Lawful d (put x c m)
unfolding writes
put_lawful d x c m = record {
  sound_cut = λ ok begun n. put_sound d x c (sound_to_rules d ok) (may_name d x c m begun) (may-file d x c m begun) (may_room d x c m begun) n;
  whole = λ ok begun n y. (
    λ lt. (put_unseen d x c (sound_to_rules d ok) (may_name d x c m begun) (may-file d x c m begun) (may_room d x c m begun) n lt).files y,
    λ le. put_seen d x c (sound_to_rules d ok) (may_name d x c m begun) (may-file d x c m begun) (may_room d x c m begun) n m le y,
  );
}

pub room_back : (d x c : List ℕ) → RoomBack d x c
room_back d x c ok m begun n lt = same_free d _ (put_unseen d x c (sound_to_rules d ok) (may_name d x c m begun) (may-file d x c m begun) (may_room d x c m begun) n lt).read

-- every write of a put is one of a block on the disk
pub put_fits : (d x c : List ℕ) (s : Sound d) (good : good_name x ≡ true) (fits : good_file c ≡ true) (room : room_for d x c ≡ true) (k : ℕ) (w : Write) → Some w ≡ nth_write (put_writes d x c) k → 64 * w.to + 64 ≤ length d
unfolding put_writes entry_write
put_fits d x c s good fits room k w is =
    let bs = chosen d c in
    let vs = data_writes bs c in
    let last = entry_write d (place_for d x) (encoded (new_entry x c bs)) in
    let count : length vs ≡ length bs = length-data_writes bs c in
    ⊎_elim
    (λ lt.
    let same : Some w ≡ Some (record { to = get_or bs k 0; bytes = padded 64 (drop (64 * k) c) }) = is ∙ nth_front vs (last ∷ []) k lt ∙ nth_data bs c k (omega arith) in
    let to : w.to ≡ get_or bs k 0 = cc in
    subst (λ b. 64 * b + 64 ≤ length d) (sym to) (chosen_on_disk d x c s good fits room k (omega arith)))
    (λ ge.
    ⊎_elim
    (λ more.
    let none : Some w ≡ None = is ∙ nth_past (vs ++ last ∷ []) k (let n = length-append vs (last ∷ []) in omega arith) in
    let z : ◌≡◌ {A = ℕ} 0 1 = cc in
    absurd (let b : ⊥ = omega arith in b))
    (λ le.
    let at : k ≡ length vs = omega arith in
    let same : Some w ≡ Some last = is ∙ ap (nth_write (vs ++ last ∷ [])) at ∙ nth_last vs (Some last) in
    let to : w.to ≡ place_for d x / 2 = cc in
    let long = sound_long d 16 s in
    let in' = place_in d x c s good fits room in
    omega arith)
    (cases_lt (length vs) k))
    (cases_lt k (length vs))

-- the disk after a put that is begun, and whether it was done
module _ (d x c : List ℕ) (n : ℕ) (good : good_name x ≡ true) (fits : good_file c ≡ true) (room : room_for d x c ≡ true) where
  pub put_may : may d (put x c n) ≡ true
  unfolding may
  put_may = and_from _ _ good (and_from _ _ fits room)

  pub put_done : (b : Bool) → leb (length (put_writes d x c)) n ≡ b → done d (put x c n) ≡ b
  unfolding done writes
  put_done b is = (λ j. put_may j && leb (length (put_writes d x c)) n) ∙ is

pub put_few : (d x c : List ℕ) (m : ℕ) → FewWrites d (put x c m)
unfolding writes put_writes chosen needs
put_few d x c m begun =
    let short : length c ≤ 1024 = leb-true (length c) 1024 (may-file d x c m begun) in
    let bs : length (take (needs (length c)) (free d)) ≡ min (needs (length c)) (length (free d)) = length-take (needs (length c)) (free d) in
    let vs = length-data_writes (chosen d c) c in
    let all = length-append (data_writes (chosen d c) c) (entry_write d (place_for d x) (encoded (new_entry x c (chosen d c))) ∷ []) in
    omega arith
