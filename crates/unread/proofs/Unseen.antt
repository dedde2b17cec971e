-- What is written into unread places changes nothing that is read, nor the list of them. Assumes nothing.
use Rattle.std.proofs.Common.{◌≡◌, ℕ, zero, suc, ◌+◌, ◌*◌, ◌/◌, ◌%◌, ◌<◌, ◌≤◌, max, Bool, true, false, cond, ◌&&◌, eqb, ltb, leb, List, get_or, take, drop, sym, refl, ap, ◌∙◌, arith, length-drop, length-take}
use Rattle.std.proofs.lemmas.List.{get_or-take, get_or-drop, take-take, ext_get_or}
use Rattle.std.proofs.lemmas.Bool.{cond-true, cond-false, lt-leb, ltb-true}
use Rattle.layout.specs.Entries.{as_name, decoded, needs, blocks_of}
use Rattle.layout.specs.Files.{entry_bytes, entry_at, content, file}
use Rattle.fsck.specs.Sound.{sound}
use Rattle.fsck.specs.Rules.{Used, Place, block_of, Sound}
use Rattle.fsck.proofs.Agreement.{SameRead, same_sound, same_file}
use Rattle.fsck.proofs.Contents.{sound_long, length-blocks_at, length-content}
use Rattle.fsck.proofs.Deciding.{sound_to_rules}
use Rattle.unread.specs.Unread.{read_of_entry, read_by_file, read_of_block, unread}
use Rattle.unread.specs.Complete.{SameElsewhere}
use Rattle.unread.proofs.Extents.{read_first, read_of_used}
use Rattle.unread.proofs.ContentBytes.{content_byte}
use Rattle.unread.proofs.Reach.{entry_byte, unread_in_entry, unread_in_block, reached_decides}

module _ (d e : List ℕ) (ok : sound d ≡ true) (same : SameElsewhere d e) where
  rules : Sound d
  rules = sound_to_rules d ok

  -- a byte that is read of an entry
  same_byte : (i j : ℕ) → i < 16 → j < 32 → j < read_of_entry (entry_at d i) → get_or (entry_bytes e i) j 0 ≡ get_or (entry_bytes d i) j 0
  same_byte i j i_in j_in read =
      entry_byte e i j j_in ∙ same.same (32 * i + j) (unread_in_entry d i j i_in j_in (omega (arith, sound_long d 16 rules)) ∙ lt-leb _ j read) ∙ sym (entry_byte d i j j_in)

  -- bytes that are read of it
  same_part : (i at n : ℕ) → i < 16 → at + n ≤ 32 → at + n ≤ read_of_entry (entry_at d i) → take n (drop at (entry_bytes e i)) ≡ take n (drop at (entry_bytes d i))
  unfolding entry_bytes
  same_part i at n i_in within read =
      ext_get_or 0 _ _ (simp (length-take, length-drop) (omega (arith, same.long))) (λ j lt.
      let j_in : j < n = omega (arith, simp length-take at lt) in
      simp (get_or-take {A = ℕ} n, get_or-drop {A = ℕ} at) (same_byte i (at + j) i_in (omega arith) (omega arith)))

  module _ (i : ℕ) (i_in : i < 16) (used : Used d i) where
    few_needed : needs (entry_at d i).len ≤ 16
    unfolding needs
    few_needed = omega (arith, rules.short i i_in used)

    read_here : read_of_entry (entry_at d i) ≡ 14 + needs (entry_at d i).len
    read_here = read_of_used (entry_at d i) used

    same_len : (entry_at e i).len ≡ (entry_at d i).len
    unfolding entry_at decoded
    same_len = (λ j. same_byte i 12 i_in (omega arith) (omega (arith, read_here)) j + 256 * same_byte i 13 i_in (omega arith) (omega (arith, read_here)) j)

    same_blocks : blocks_of (entry_at e i) ≡ blocks_of (entry_at d i)
    unfolding entry_at decoded blocks_of
    same_blocks =
        let n = needs (entry_at d i).len in
        (λ j. take (needs (same_len j)) (entry_at e i).blocks)
        ∙ take-take n 16 (drop 14 (entry_bytes e i)) few_needed
        ∙ same_part i 14 n i_in (omega (arith, few_needed)) (omega (arith, read_here))
        ∙ sym (take-take n 16 (drop 14 (entry_bytes d i)) few_needed)

  pub same_read : SameRead d e
  unfolding entry_at decoded
  same_read =
      let first : (i : ℕ) → i < 16 → get_or (entry_bytes e i) 0 0 ≡ get_or (entry_bytes d i) 0 0 = λ i i_in. same_byte i 0 i_in (omega arith) (read_first (entry_at d i)) in
      record {
        long = same.long;
        flag = λ i i_in. ap (λ b. leb b 1) (first i i_in);
        used = λ i i_in. ap (λ b. eqb b 1) (first i i_in);
        name = λ i i_in used. ap as_name (same_part i 1 11 i_in (omega arith) (omega (arith, read_here i i_in used)));
        len = same_len;
        blocks = same_blocks;
      }

  sound_too : sound e ≡ true
  sound_too = same_sound d e same_read ∙ ok

  same_contents : (i : ℕ) → i < 16 → Used d i → content e (entry_at e i) ≡ content d (entry_at d i)
  unfolding needs
  same_contents i i_in used =
      let there : Used e i = same_read.used i i_in ∙ used in
      let rules_too = sound_to_rules e sound_too in
      let len = length-content d 16 i rules i_in i_in used in
      let len_too = length-content e 16 i rules_too i_in i_in there in
      let many = length-blocks_at d 16 i rules i_in i_in used in
      ext_get_or 0 _ _ (len_too ∙ same_len i i_in used ∙ sym len) (λ p lt.
      let before_end : p < (entry_at d i).len = omega (arith, len_too, same_len i i_in used) in
      let b = block_of d i (p / 64) in
      let place : Place d 16 i (p / 64) = record { entry = i_in; used = used; within = omega arith } in
      let read = (reached_decides d 16 b (p % 64) (omega arith)).1 (record { entry = i; place = p / 64; there = place; is = refl; before_end = omega arith }) in
      content_byte e i p rules_too i_in there (omega arith)
      ∙ ap (λ bs. get_or e (64 * get_or bs (p / 64) 0 + p % 64) 0) (same_blocks i i_in used)
      ∙ same.same (64 * b + p % 64) (unread_in_block d b (p % 64) (rules.from_8 i (p / 64) place) (omega arith) (omega (arith, rules.whole, rules.on_disk i (p / 64) place)) ∙ lt-leb _ _ (ltb-true _ _ read))
      ∙ sym (content_byte d i p rules i_in used before_end))

pub unseen : (d : List ℕ) → sound d ≡ true → (e : List ℕ) → SameElsewhere d e → (sound e ≡ true) × ((x : List ℕ) → file e x ≡ file d x)
unseen d ok e same = (sound_too d e ok same, same_file d e (same_read d e ok same) (same_contents d e ok same))

-- two conditionals, where the arms that are taken are the same
cond_same : {A : Type 0} (s t : Bool) (x y z w : A) → s ≡ t → (t ≡ true → x ≡ y) → z ≡ w → cond s x z ≡ cond t y w
cond_same s true x y z w is same_then same-else = cond-true s x z is ∙ same_then refl
cond_same s false x y z w is same_then same-else = cond-false s x z is ∙ same-else

module _ (d e : List ℕ) (r : SameRead d e) where
  same_read_of_entry : (i : ℕ) → i < 16 → read_of_entry (entry_at e i) ≡ read_of_entry (entry_at d i)
  unfolding read_of_entry
  same_read_of_entry i i_in = cond_same _ _ _ _ 1 1 (r.used i i_in) (λ used. ap (λ n. 14 + needs n) (r.len i i_in used)) refl

  same_read_of_block : (b n : ℕ) → n ≤ 16 → read_of_block e b n ≡ read_of_block d b n
  unfolding read_of_block
  same_read_of_block b zero le = refl
  same_read_of_block b (suc i) le =
      let i_in : i < 16 = omega arith in
      let before = same_read_of_block b i (omega arith) in
      let here = cond_same _ _ _ _ 0 0 (r.used i i_in) (λ used j. read_by_file b (r.blocks i i_in used j) (r.len i i_in used j)) refl in
      (λ j. max (before j) (here j))

pub steady : (d : List ℕ) → sound d ≡ true → (e : List ℕ) → SameElsewhere d e → (k : ℕ) → unread e k ≡ unread d k
unfolding unread
steady d ok e same k =
    let r = same_read d e ok same in
    let here =
    cond_same (ltb k 512) (ltb k 512) _ _ _ _ refl
    (λ lt. ap (λ n. leb n (k % 32)) (same_read_of_entry d e r (k / 32) (omega (arith, ltb-true k 512 lt))))
    (ap (λ n. leb n (k % 64)) (same_read_of_block d e r (k / 64) 16 (omega arith))) in
    (λ j. ltb k (r.long j) && here j)
