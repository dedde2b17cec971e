-- The computed list of unread places has the five kinds of places and no others. Assumes nothing.
use Rattle.std.proofs.Common.{◌≡◌, ℕ, ◌+◌, ◌-◌, ◌*◌, ◌/◌, ◌%◌, ◌<◌, ◌≤◌, true, false, not, ltb, leb, List, length, Decides, sym, ap, ◌∙◌, ⊎_elim, arith}
use Rattle.std.proofs.lemmas.Bool.{cases_Bool, cases_lt, both_ways, and_parts, leb-true, le-leb, ltb-true}
use Rattle.std.proofs.lemmas.Bool.Decides.{Decides-at, Decides-not, nat_tests}
use Rattle.layout.specs.Files.{entry_at}
use Rattle.fsck.specs.Blocks.{size, blocks_to, has, in_use}
use Rattle.fsck.specs.Sound.{sound}
use Rattle.fsck.specs.Rules.{Place, block_of, Sound}
use Rattle.fsck.proofs.Contents.{sound_long}
use Rattle.fsck.proofs.Deciding.{sound_to_rules}
use Rattle.fsck.proofs.Membership.{place_has, has_places}
use Rattle.unread.specs.Unread.{read_of_entry, read_of_block, unread}
use Rattle.unread.specs.Kinds.{Unread}
use Rattle.unread.specs.Kinds.Unread.{last_two, not_in_use, not_needed, past_end, in_free_block}
use Rattle.unread.proofs.Extents.{read_of_used, read_of_unused, read_of_entry_most}
use Rattle.unread.proofs.Reach.{Reached, reached_decides, unread_in_entry, unread_in_block}

leb_not_ltb : (m n : ℕ) → leb m n ≡ not (ltb n m)
leb_not_ltb m n = grind (arith, nat_tests)

module _ (d : List ℕ) where
  unread_on_disk : (k : ℕ) → unread d k ≡ true → k < length d
  unfolding unread
  unread_on_disk k is = ltb-true k (length d) (and_parts (ltb k (length d)) _ is).0

  -- the kinds of unread bytes of an entry
  kind_in_entry : (k i j : ℕ) → i < 16 → j < 32 → k ≡ 32 * i + j → read_of_entry (entry_at d i) ≤ j → Unread d k
  kind_in_entry k i j i_in j_in at behind =
      ⊎_elim
      (λ used.
      let read = read_of_used (entry_at d i) used in
      ⊎_elim
      (λ number. not_needed i (j - 14) i_in used (omega arith) (omega arith) (omega arith))
      (λ last. last_two i j i_in last j_in at)
      (cases_lt j 30))
      (λ unused. not_in_use i j i_in unused (omega (arith, read_of_unused (entry_at d i) unused)) j_in at)
      (cases_Bool (entry_at d i).used)

  -- the kinds of unread bytes of a block
  kind_in_block : (k b j : ℕ) → 8 ≤ b → b < size d → j < 64 → k ≡ 64 * b + j → (Reached d 16 b j → ⊥) → Unread d k
  unfolding in_use
  kind_in_block k b j from_8 on_disk j_in at none =
      ⊎_elim
      (λ there.
      let p = has_places d 16 b there in
      past_end p.entry p.place j p.there j_in
      (⊎_elim
      (λ before. absurd (none (record { entry = p.entry; place = p.place; there = p.there; is = p.is; before_end = before })))
      (λ ended. ended)
      (cases_lt (64 * p.place + j) (entry_at d p.entry).len))
      (at ∙ ap (λ c. 64 * c + j) (sym p.is)))
      (λ free. in_free_block b j from_8 on_disk free j_in at)
      (cases_Bool (in_use d b))

  none_in_free-block : (b j : ℕ) → in_use d b ≡ false → Reached d 16 b j → ⊥
  unfolding in_use
  none_in_free-block b j free r = both_ways _ free (ap (has (blocks_to d 16)) (sym r.is) ∙ place_has d 16 r.entry r.place r.there)

module _ (d : List ℕ) (s : Sound d) where
  -- a byte of an entry is unread just if it is behind those that are read
  entry_byte_decides : (i j : ℕ) → i < 16 → j < 32 → Decides (unread d (32 * i + j)) (read_of_entry (entry_at d i) ≤ j)
  entry_byte_decides i j i_in j_in =
      Decides-at _ _ (unread_in_entry d i j i_in j_in (omega (arith, sound_long d 16 s))) (leb-true _ j, le-leb _ j)

  -- a byte of a block is unread just if no file has it
  block_byte_decides : (b j : ℕ) → 8 ≤ b → b < size d → j < 64 → Decides (unread d (64 * b + j)) (Reached d 16 b j → ⊥)
  block_byte_decides b j from_8 on_disk j_in =
      Decides-at _ _
      (unread_in_block d b j from_8 j_in (omega (arith, s.whole)) ∙ leb_not_ltb (read_of_block d b 16) j)
      (Decides-not _ (reached_decides d 16 b j j_in))

  kind_of_unread : (k : ℕ) → unread d k ≡ true → Unread d k
  kind_of_unread k is =
      let within = unread_on_disk d k is in
      ⊎_elim
      (λ table.
      let at : k ≡ 32 * (k / 32) + k % 32 = omega arith in
      kind_in_entry d k (k / 32) (k % 32) (omega arith) (omega arith) at ((entry_byte_decides (k / 32) (k % 32) (omega arith) (omega arith)).0 (ap (unread d) (sym at) ∙ is)))
      (λ files.
      let at : k ≡ 64 * (k / 64) + k % 64 = omega arith in
      let on_disk : k / 64 < size d = omega (arith, s.whole) in
      kind_in_block d k (k / 64) (k % 64) (omega arith) on_disk (omega arith) at ((block_byte_decides (k / 64) (k % 64) (omega arith) on_disk (omega arith)).0 (ap (unread d) (sym at) ∙ is)))
      (cases_lt k 512)

  -- no file has a byte past a file's end, since no two places have one block
  none_past_end : (i m j : ℕ) → Place d 16 i m → (entry_at d i).len ≤ 64 * m + j → Reached d 16 (block_of d i m) j → ⊥
  none_past_end i m j there ended r =
      let same = s.one_block r.entry r.place i m r.there there r.is in
      omega (arith, same.1, ap (λ e. (entry_at d e).len) same.0, r.before_end)

  unread_of_kind : (k : ℕ) → Unread d k → unread d k ≡ true
  unread_of_kind k (last_two i j i_in from j_in at) = ap (unread d) at ∙ (entry_byte_decides i j i_in j_in).1 (omega (arith, read_of_entry_most d i s i_in))
  unread_of_kind k (not_in_use i j i_in unused from j_in at) = ap (unread d) at ∙ (entry_byte_decides i j i_in j_in).1 (omega (arith, read_of_unused (entry_at d i) unused))
  unread_of_kind k (not_needed i m i_in used from m-in at) = ap (unread d) at ∙ (entry_byte_decides i (14 + m) i_in (omega arith)).1 (omega (arith, read_of_used (entry_at d i) used))
  unread_of_kind k (past_end i m j there j_in ended at) = ap (unread d) at ∙ (block_byte_decides (block_of d i m) j (s.from_8 i m there) (s.on_disk i m there) j_in).1 (none_past_end i m j there ended)
  unread_of_kind k (in_free_block b j from_8 on_disk free j_in at) = ap (unread d) at ∙ (block_byte_decides b j from_8 on_disk j_in).1 (none_in_free-block d b j free)

pub kinds_decide : (d : List ℕ) → sound d ≡ true → (k : ℕ) → Decides (unread d k) (Unread d k)
kinds_decide d ok k = let s = sound_to_rules d ok in (kind_of_unread d s k, unread_of_kind d s k)
