-- The data-write law: any bytes written into a block from 8 on that no entry in use has leave the entries, soundness, every file and the free blocks as they were. Assumes nothing.
use Rattle.std.proofs.Common.{◌≡◌, ℕ, ◌<◌, ◌≤◌, false, List, sym, ap, ◌∙◌, arith}
use Rattle.std.proofs.lemmas.Bool.{both_ways}
use Rattle.layout.specs.Files.{entry_bytes, entry_at, file}
use Rattle.fsck.specs.Blocks.{blocks_to, in_use, free, has}
use Rattle.fsck.specs.Sound.{sound}
use Rattle.fsck.specs.Rules.{block_of}
use Rattle.fsck.proofs.Membership.{place_has}
use Rattle.fsck.proofs.Agreement.{SameRead, same_bytes_read, same_sound, same_free, same_file, same_content, same_in_use}
use Rattle.update.specs.Writes.{Write, after_write}
use Rattle.update.proofs.Places.{Fits, length-after, block_kept, entry_kept}

module _ (d : List ℕ) (w : Write) (f : Fits d w) (low : 8 ≤ w.to) (unused : in_use d w.to ≡ false) where
  pub entries_after_data : (i : ℕ) → i < 16 → entry_bytes (after_write d w) i ≡ entry_bytes d i
  entries_after_data i lt = entry_kept d w f i (λ same. omega arith)

  pub read_after_data : SameRead d (after_write d w)
  read_after_data = same_bytes_read d (after_write d w) (length-after d w f) entries_after_data

  pub sound-after_data : sound (after_write d w) ≡ sound d
  sound-after_data = same_sound d (after_write d w) read_after_data

  pub free-after_data : free (after_write d w) ≡ free d
  free-after_data = same_free d (after_write d w) read_after_data

  pub in_use-after_data : (b : ℕ) → in_use (after_write d w) b ≡ in_use d b
  in_use-after_data = same_in_use d (after_write d w) read_after_data

  pub file-after_data : (x : List ℕ) → file (after_write d w) x ≡ file d x
  unfolding in_use
  file-after_data =
      let r = read_after_data in
      same_file d (after_write d w) r (λ i lt used.
      same_content d (after_write d w) (entry_at d i) (entry_at (after_write d w) i) (r.len i lt used) (r.blocks i lt used)
      (λ k k_in.
      block_kept d w f (block_of d i k)
      (λ same. both_ways _ unused (ap (has (blocks_to d 16)) (sym same) ∙ place_has d 16 i k (record { entry = lt; used = used; within = k_in })))))
