use Rattle.std.proofs.Common.{◌≡◌, ℕ, ◌*◌, ◌<◌, ◌≤◌, Bool, true, false, ◌&&◌, ◌||◌, eqb, leb, List, get_or, sym, ap, ◌∙◌, subst}
use Rattle.std.proofs.lemmas.Bool.{false≢true, and_parts, and_left, and_right, lt-leb, le-leb, ltb-true}
use Rattle.layout.specs.declared.entry.Entry.{Entry}
use Rattle.layout.specs.Entries.{blocks_of}
use Rattle.layout.specs.Files.{entry_at, entry_bytes, find}
use Rattle.fsck.specs.Sets.{member}
use Rattle.fsck.specs.Blocks.{size, blocks_to, has}
use Rattle.fsck.specs.Sound.{blocks_ok}
use Rattle.fsck.proofs.Membership.{has-blocks_to_unused, has-blocks_to_used}
use Rattle.fsck.proofs.Judging.{first_byte, entry_ok_flagged, entry_ok_unused, entry_ok_used}
use Rattle.fsck.proofs.judge.judge_entry.Goals as goal

used_is : (d : List ℕ) (i : ℕ) (e : Entry) (b : Bool) → e ≡ entry_at d i → e.used ≡ b → (entry_at d i).used ≡ b
used_is d i e b same is = ap (λ (x : Entry). x.used) (sym same) ∙ is

flag_is : (d : List ℕ) (i : ℕ) → get_or d (i * 32) 0 ≤ 1 → get_or (entry_bytes d i) 0 0 ≤ 1
flag_is d i le = subst (λ b. b ≤ 1) (sym (first_byte d i)) le

pub returns-then-disk-i-gt1 : goal.returns-then-disk-i-gt1
returns-then-disk-i-gt1 c =
    let d = c.args.disk.now in
    let i = c.args.i in
    record { value = sym (entry_ok_flagged d i (subst (λ b. 1 < b) (sym (first_byte d i)) c.if-disk-i-gt1.true)); taken = λ e. absurd (false≢true e) }

pub returns-then-not-entry : goal.returns-then-not-entry
returns-then-not-entry c =
    let d = c.args.disk.now in
    let i = c.args.i in
    let same = c.requires.entry in
    let unused = used_is d i c.args.entry.now false same c.if-not-entry.true in
    record { value = sym (entry_ok_unused d i (flag_is d i c.if-disk-i-gt1.false) unused); taken = λ _ k. c.requires.taken k ∙ sym (has-blocks_to_unused d i k unused) }

pub returns-then-from-gt-LONGEST : goal.returns-then-from-gt-LONGEST
returns-then-from-gt-LONGEST c =
    let d = c.args.disk.now in
    let i = c.args.i in
    let same = c.requires.entry in
    let used = used_is d i c.args.entry.now true same c.if-not-entry.false in
    let long : 1024 < (entry_at d i).len = subst (λ (x : Entry). 1024 < x.len) same (subst (λ n. 1024 < n) c.from.ensures c.if-from-gt-LONGEST.true) in
    record { value = sym (entry_ok_used d i (flag_is d i c.if-disk-i-gt1.false) used ∙ and_left _ _ (lt-leb _ 1024 long)); taken = λ e. absurd (false≢true e) }

pub returns-then-not-is_first : goal.returns-then-not-is_first
returns-then-not-is_first c =
    let d = c.args.disk.now in
    let i = c.args.i in
    let same = c.requires.entry in
    let used = used_is d i c.args.entry.now true same c.if-not-entry.false in
    let lt = ltb-true i 16 (and_parts _ _ c.requires.there).1 in
    let other : eqb (find d (entry_at d i).name.bytes) i ≡ false =
    sym (c.is_first.ensures lt ∙ (λ j. eqb (find (c.new.ensures j).now (same j).name.bytes) i)) ∙ c.if-not-is_first.true in
    record {
      value = sym (entry_ok_used d i (flag_is d i c.if-disk-i-gt1.false) used ∙ and_right (leb (entry_at d i).len 1024) _ (and_left _ _ other));
      taken = λ e. absurd (false≢true e);
    }

pub returns : goal.returns
unfolding size
returns c =
    let d = c.args.disk.now in
    let i = c.args.i in
    let same = c.requires.entry in
    let used = used_is d i c.args.entry.now true same c.if-not-entry.false in
    let lt = ltb-true i 16 (and_parts _ _ c.requires.there).1 in
    let first : eqb (find d (entry_at d i).name.bytes) i ≡ true =
    sym (c.is_first.ensures lt ∙ (λ j. eqb (find (c.new.ensures j).now (same j).name.bytes) i)) ∙ c.if-not-is_first.false in
    let short : leb (entry_at d i).len 1024 ≡ true = le-leb _ 1024 (subst (λ (x : Entry). x.len ≤ 1024) same (subst (λ n. n ≤ 1024) c.from.ensures c.if-from-gt-LONGEST.false)) in
    let blocks : blocks_of c.args.entry.now ≡ blocks_of (entry_at d i) = ap blocks_of same in
    let file = c.file_blocks.ensures ∙ blocks in
    let taken : member c.args.taken.now ≡ has (blocks_to d i) = λ j k. c.requires.taken k j in
    record {
      value = c.take_blocks.ensures.value ∙ (λ j. blocks_ok (size d) (taken j) (file j))
          ∙ (λ j. sym short j && (sym first j && blocks_ok (size d) (has (blocks_to d i)) (blocks_of (entry_at d i)))) ∙ sym (entry_ok_used d i (flag_is d i c.if-disk-i-gt1.false) used);
      taken = λ is k. c.take_blocks.ensures.taken is k ∙ (λ j. has (file j) k || taken j k) ∙ sym (has-blocks_to_used d i k used);
    }
