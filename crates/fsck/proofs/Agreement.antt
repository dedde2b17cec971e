-- Two disks of which the same is read in the table of entries are judged alike, and have the same free blocks and, where the contents agree, the same files. Assumes nothing.
use Rattle.std.proofs.Common.{◌≡◌, ℕ, zero, suc, ◌+◌, ◌-◌, ◌*◌, ◌/◌, ◌<◌, ◌≤◌, Bool, true, false, cond, not, ◌&&◌, ◌||◌, eqb, leb, List, [], ◌∷◌, ◌++◌, length, get_or, take, Some, sym, refl, ap, ◌∙◌, subst, ⊎_elim, arith}
use Rattle.std.specs.List.{flat_map}
use Rattle.std.specs.Option.{option_map}
use Rattle.std.specs.Str.{bytes_eq}
use Rattle.std.proofs.lemmas.Bool.{cases_Bool, cases_lt, and_left, or_left, not_from_false}
use Rattle.layout.specs.declared.entry.Entry.{Entry}
use Rattle.layout.specs.Entries.{decoded, blocks_of}
use Rattle.layout.specs.Files.{entry_bytes, entry_at, block, content, has_name, find_from, find, file}
use Rattle.layout.proofs.Finding.{find_first, entry_of_here, entry_of_none}
use Rattle.fsck.specs.Blocks.{size, blocks_at, blocks_to, has, in_use, free_from, free}
use Rattle.fsck.specs.Sound.{size_ok, blocks_ok, entry_ok, sound_to, sound}
use Rattle.fsck.specs.Rules.{Used}
use Rattle.fsck.proofs.Membership.{blocks_at_used, blocks_at_unused}

-- of the entries of both disks the same is read
pub record SameRead (d e : List ℕ) : Type 0 where
  pub long : length e ≡ length d
  pub flag : (i : ℕ) → i < 16 → leb (get_or (entry_bytes e i) 0 0) 1 ≡ leb (get_or (entry_bytes d i) 0 0) 1
  pub used : (i : ℕ) → i < 16 → (entry_at e i).used ≡ (entry_at d i).used
  pub name : (i : ℕ) → i < 16 → Used d i → (entry_at e i).name ≡ (entry_at d i).name
  pub len : (i : ℕ) → i < 16 → Used d i → (entry_at e i).len ≡ (entry_at d i).len
  pub blocks : (i : ℕ) → i < 16 → Used d i → blocks_of (entry_at e i) ≡ blocks_of (entry_at d i)

-- entries of the same bytes are read the same
pub same_bytes_read : (d e : List ℕ) → length e ≡ length d → ((i : ℕ) → i < 16 → entry_bytes e i ≡ entry_bytes d i) → SameRead d e
unfolding entry_at
same_bytes_read d e long same = record {
  long = long;
  flag = λ i lt. ap (λ bs. leb (get_or bs 0 0) 1) (same i lt);
  used = λ i lt. ap (λ bs. (decoded bs).used) (same i lt);
  name = λ i lt _. ap (λ bs. (decoded bs).name) (same i lt);
  len = λ i lt _. ap (λ bs. (decoded bs).len) (same i lt);
  blocks = λ i lt _. ap (λ bs. blocks_of (decoded bs)) (same i lt);
}

-- the blocks joined are the same where each of them is
joined_same : (f g : ℕ → List ℕ) (bs : List ℕ) → ((k : ℕ) → k < length bs → g (get_or bs k 0) ≡ f (get_or bs k 0)) → flat_map g bs ≡ flat_map f bs
joined_same f g [] each = refl
joined_same f g (b ∷ bs) each =
    let first : g b ≡ f b = each 0 (omega arith) in
    let rest : flat_map g bs ≡ flat_map f bs = joined_same f g bs (λ k lt. each (suc k) (omega arith)) in
    (λ j. first j ++ rest j)

-- contents agree where the blocks of the file do
pub same_content : (d e : List ℕ) (a b : Entry) → b.len ≡ a.len → blocks_of b ≡ blocks_of a → ((k : ℕ) → k < length (blocks_of a) → block e (get_or (blocks_of a) k 0) ≡ block d (get_or (blocks_of a) k 0)) → content e b ≡ content d a
unfolding content
same_content d e a b len blocks each = (λ j. take (len j) (flat_map (block e) (blocks j))) ∙ ap (take a.len) (joined_same (block d) (block e) (blocks_of a) each)

flag_alone : (flag used rest : Bool) → used ≡ false → (flag && (not used || rest)) ≡ flag
flag_alone true used rest isn't = or_left _ _ (not_from_false used isn't)
flag_alone false used rest isn't = refl

-- of an entry that is not in use only the flag is judged
entry_ok_flag : (d : List ℕ) (i : ℕ) → (entry_at d i).used ≡ false → entry_ok d i ≡ leb (get_or (entry_bytes d i) 0 0) 1
unfolding entry_ok
entry_ok_flag d i isn't = flag_alone _ _ _ isn't

module _ (d e : List ℕ) (r : SameRead d e) where
  pub same_size : size e ≡ size d
  unfolding size
  same_size = ap (λ n. n / 64) r.long

  -- an entry that is not in use has no name on either disk
  pub same_has_name : (x : List ℕ) (i : ℕ) → i < 16 → has_name e x i ≡ has_name d x i
  unfolding has_name
  same_has_name x i lt =
      ⊎_elim
      (λ is. (λ j. r.used i lt j && bytes_eq (r.name i lt is j).bytes x))
      (λ isn't. and_left _ _ (r.used i lt ∙ isn't) ∙ sym (and_left _ _ isn't))
      (cases_Bool (entry_at d i).used)

  same_find_from : (x : List ℕ) (i n : ℕ) → i + n ≤ 16 → find_from e x i n ≡ find_from d x i n
  unfolding find_from
  same_find_from x i zero le = refl
  same_find_from x i (suc n) le =
      let here = same_has_name x i (omega arith) in
      let after = same_find_from x (suc i) n (omega arith) in
      (λ j. cond (here j) i (after j))

  pub same_find : (x : List ℕ) → find e x ≡ find d x
  unfolding find
  same_find x = same_find_from x 0 16 (omega arith)

  pub same_blocks_at : (i : ℕ) → i < 16 → blocks_at e i ≡ blocks_at d i
  same_blocks_at i lt =
      ⊎_elim
      (λ is. blocks_at_used e i (r.used i lt ∙ is) ∙ r.blocks i lt is ∙ sym (blocks_at_used d i is))
      (λ isn't. blocks_at_unused e i (r.used i lt ∙ isn't) ∙ sym (blocks_at_unused d i isn't))
      (cases_Bool (entry_at d i).used)

  pub same_blocks_to : (n : ℕ) → n ≤ 16 → blocks_to e n ≡ blocks_to d n
  unfolding blocks_to
  same_blocks_to zero le = refl
  same_blocks_to (suc i) le =
      let before = same_blocks_to i (omega arith) in
      let here = same_blocks_at i (omega arith) in
      (λ j. before j ++ here j)

  pub same_in_use : (b : ℕ) → in_use e b ≡ in_use d b
  unfolding in_use
  same_in_use b = ap (λ bs. has bs b) (same_blocks_to 16 (omega arith))

  same_free_from : (b n : ℕ) → free_from e b n ≡ free_from d b n
  unfolding free_from
  same_free_from b zero = refl
  same_free_from b (suc n) =
      let here = same_in_use b in
      let after = same_free_from (suc b) n in
      (λ j. cond (here j) (after j) (b ∷ after j))

  pub same_free : free e ≡ free d
  unfolding free
  same_free = same_free_from 8 (size e - 8) ∙ ap (λ n. free_from d 8 (n - 8)) same_size

  pub same_size_ok : size_ok e ≡ size_ok d
  unfolding size_ok
  same_size_ok = λ j. eqb (r.long j) (64 * same_size j) && (leb 9 (same_size j) && leb (same_size j) 250)

  pub same_entry_ok : (i : ℕ) → i < 16 → entry_ok e i ≡ entry_ok d i
  unfolding entry_ok
  same_entry_ok i lt =
      ⊎_elim
      (λ is.
      let place = same_find (entry_at e i).name.bytes ∙ ap (λ n. find d n.bytes) (r.name i lt is) in
      let before = same_blocks_to i (omega arith) in
      (λ j. r.flag i lt j && (not (r.used i lt j) || (leb (r.len i lt is j) 1024 && (eqb (place j) i && blocks_ok (same_size j) (has (before j)) (r.blocks i lt is j))))))
      (λ isn't. entry_ok_flag e i (r.used i lt ∙ isn't) ∙ r.flag i lt ∙ sym (entry_ok_flag d i isn't))
      (cases_Bool (entry_at d i).used)

  pub same_sound_to : (n : ℕ) → n ≤ 16 → sound_to e n ≡ sound_to d n
  unfolding sound_to
  same_sound_to zero le = same_size_ok
  same_sound_to (suc i) le =
      let before = same_sound_to i (omega arith) in
      let here = same_entry_ok i (omega arith) in
      (λ j. before j && here j)

  pub same_sound : sound e ≡ sound d
  unfolding sound
  same_sound = same_sound_to 16 (omega arith)

  -- the same files, where the contents of entries in use agree
  pub same_file : ((i : ℕ) → i < 16 → Used d i → content e (entry_at e i) ≡ content d (entry_at d i)) → (x : List ℕ) → file e x ≡ file d x
  unfolding file
  same_file same x =
      let place = same_find x in
      ⊎_elim
      (λ lt.
      let is : Used d (find d x) = ((find_first d x).here lt).0 in
      ap (option_map (content e)) (entry_of_here e x (subst (λ i. i < 16) (sym place) lt))
      ∙ ap (λ i. Some (content e (entry_at e i))) place
      ∙ ap Some (same (find d x) lt is)
      ∙ sym (ap (option_map (content d)) (entry_of_here d x lt)))
      (λ ge. ap (option_map (content e)) (entry_of_none e x (subst (λ i. 16 ≤ i) (sym place) ge)) ∙ sym (ap (option_map (content d)) (entry_of_none d x ge)))
      (cases_lt (find d x) 16)
