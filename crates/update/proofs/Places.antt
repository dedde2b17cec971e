-- Which blocks and entries a write changes, and which it leaves; no write of a list, and the only one. Assumes nothing.
use Rattle.std.proofs.Common.{◌≡◌, ℕ, zero, suc, ◌+◌, ◌*◌, ◌/◌, ◌%◌, ◌<◌, ◌≤◌, List, [], ◌∷◌, length, take, drop, sym, refl, ap, ◌∙◌, ⊎_elim, arith}
use Rattle.std.proofs.lemmas.Bool.{cases_lt, cases_eq}
use Rattle.layout.specs.Parts.{replaced}
use Rattle.layout.specs.Files.{entry_bytes, block}
use Rattle.layout.proofs.Finding.{length-block}
use Rattle.layout.proofs.Slices.{length-replaced, part_of_part, part_before_replaced, part-replaced, part-behind-replaced}
use Rattle.update.specs.Writes.{Write, after_write, after_writes, entry_write}

-- a write fits a disk if its block is on it and it has 64 bytes
pub record Fits (d : List ℕ) (w : Write) : Type 0 where
  pub on_disk : 64 * w.to + 64 ≤ length d
  pub whole : length w.bytes ≡ 64

module _ (d : List ℕ) (w : Write) (f : Fits d w) where
  within : 64 * w.to + length w.bytes ≤ length d
  within = omega arith

  pub length-after : length (after_write d w) ≡ length d
  unfolding after_write
  length-after = length-replaced d (64 * w.to) w.bytes within

  -- a part of the disk that lies wholly before the block, or wholly behind it
  part_kept : (from n : ℕ) → (64 * w.to < from + n → 64 * w.to + 64 ≤ from) → take n (drop from (after_write d w)) ≡ take n (drop from d)
  unfolding after_write
  part_kept from n apart =
      ⊎_elim
      (λ behind. part-behind-replaced d (64 * w.to) w.bytes from n within (omega (arith, apart behind)))
      (λ before. part_before_replaced d (64 * w.to) w.bytes from n within before)
      (cases_lt (64 * w.to) (from + n))

  pub block_written : block (after_write d w) w.to ≡ w.bytes
  unfolding block after_write
  block_written =
      let at = 64 * w.to in
      ap (λ n. take n (drop at (replaced d at w.bytes))) (sym f.whole) ∙ part-replaced d at w.bytes within

  pub block_kept : (b : ℕ) → (b ≡ w.to → ⊥) → block (after_write d w) b ≡ block d b
  unfolding block
  block_kept b other = part_kept (64 * b) 64 (λ behind. omega arith)

  pub entry_kept : (i : ℕ) → (i / 2 ≡ w.to → ⊥) → entry_bytes (after_write d w) i ≡ entry_bytes d i
  unfolding entry_bytes
  entry_kept i other = part_kept (32 * i) 32 (λ behind. omega arith)

-- an entry lies in a half of its block
pub entry_in_block : (d : List ℕ) (i : ℕ) → entry_bytes d i ≡ take 32 (drop (32 * (i % 2)) (block d (i / 2)))
unfolding entry_bytes block
entry_in_block d i =
    let place : 32 * i ≡ 64 * (i / 2) + 32 * (i % 2) = omega arith in
    ap (λ k. take 32 (drop k d)) place ∙ sym (part_of_part d (64 * (i / 2)) 64 (32 * (i % 2)) 32 (omega arith))

module _ (d : List ℕ) (i : ℕ) (e : List ℕ) (long : 512 ≤ length d) (in_table : i < 16) (n : length e ≡ 32) where
  -- the block of the entry, and the half of it that the write changes
  whole_block : length (block d (i / 2)) ≡ 64
  whole_block = length-block d (i / 2) (omega arith)

  half : 32 * (i % 2) + length e ≤ length (block d (i / 2))
  half = omega (arith, whole_block)

  pub entry_write_fits : Fits d (entry_write d i e)
  unfolding entry_write
  entry_write_fits = record {
    on_disk = omega arith;
    whole = length-replaced (block d (i / 2)) (32 * (i % 2)) e half ∙ whole_block;
  }

  pub length-after_entry : length (after_write d (entry_write d i e)) ≡ length d
  length-after_entry = length-after d (entry_write d i e) entry_write_fits

  pub data_block_kept : (b : ℕ) → 8 ≤ b → block (after_write d (entry_write d i e)) b ≡ block d b
  unfolding entry_write
  data_block_kept b behind = block_kept d (entry_write d i e) entry_write_fits b (λ same. omega arith)

  -- an entry of the block that is written, in what is written
  entry_in_written : (j : ℕ) → j / 2 ≡ i / 2 → entry_bytes (after_write d (entry_write d i e)) j ≡ take 32 (drop (32 * (j % 2)) (replaced (block d (i / 2)) (32 * (i % 2)) e))
  unfolding entry_write
  entry_in_written j same =
      let w = entry_write d i e in
      entry_in_block (after_write d w) j
      ∙ ap (λ b. take 32 (drop (32 * (j % 2)) b)) (ap (block (after_write d w)) same ∙ block_written d w entry_write_fits)

  pub entry_written : entry_bytes (after_write d (entry_write d i e)) i ≡ e
  entry_written =
      let at = 32 * (i % 2) in
      entry_in_written i refl
      ∙ ap (λ k. take k (drop at (replaced (block d (i / 2)) at e))) (sym n) ∙ part-replaced (block d (i / 2)) at e half

  -- the other half of the block
  neighbour_kept : (j : ℕ) → j / 2 ≡ i / 2 → (j ≡ i → ⊥) → take 32 (drop (32 * (j % 2)) (replaced (block d (i / 2)) (32 * (i % 2)) e)) ≡ take 32 (drop (32 * (j % 2)) (block d (i / 2)))
  neighbour_kept j same other =
      ⊎_elim
      (λ first. part_before_replaced (block d (i / 2)) (32 * (i % 2)) e (32 * (j % 2)) 32 half (omega arith))
      (λ second. part-behind-replaced (block d (i / 2)) (32 * (i % 2)) e (32 * (j % 2)) 32 half (omega arith))
      (cases_lt j i)

  -- the neighbour in the block, and all others
  pub entry_beside_kept : (j : ℕ) → (j ≡ i → ⊥) → entry_bytes (after_write d (entry_write d i e)) j ≡ entry_bytes d j
  unfolding entry_write
  entry_beside_kept j other =
      ⊎_elim
      (λ same. entry_in_written j same ∙ neighbour_kept j same other ∙ ap (λ b. take 32 (drop (32 * (j % 2)) (block d b))) (sym same) ∙ sym (entry_in_block d j))
      (λ apart. entry_kept d (entry_write d i e) entry_write_fits j apart)
      (cases_eq (j / 2) (i / 2))

-- the disk after no write, and after one
pub after_none : (n : ℕ) (d : List ℕ) → after_writes n d [] ≡ d
unfolding after_writes
after_none zero d = refl
after_none (suc n) d = refl

pub after_one : (n : ℕ) (d : List ℕ) (w : Write) → 1 ≤ n → after_writes n d (w ∷ []) ≡ after_write d w
unfolding after_writes
after_one zero d w le = absurd (omega arith)
after_one (suc n) d w le = after_none n (after_write d w)

pub after_nothing : (d : List ℕ) (ws : List Write) → after_writes 0 d ws ≡ d
unfolding after_writes
after_nothing d ws = refl
