-- What is unread behind a place, in its entry or its block. Assumes nothing.
use Rattle.std.proofs.Common.{◌≡◌, ℕ, ◌+◌, ◌-◌, ◌*◌, ◌/◌, ◌<◌, ◌≤◌, leb, List, length, ap, ◌∙◌, arith}
use Rattle.std.proofs.lemmas.Bool.Decides.{nat_tests}
use Rattle.layout.specs.Files.{entry_at}
use Rattle.unread.specs.Unread.{read_of_entry, read_of_block, unread}
use Rattle.unread.proofs.Reach.{unread_in_entry, unread_in_block}

leb_behind : (n r k : ℕ) → n ≤ k → leb r (k - n) ≡ leb (n + r) k
leb_behind n r k le = grind (arith, nat_tests)

module _ (d : List ℕ) (place k : ℕ) (from : place ≤ k) where
  pub unread-behind_entry : place / 32 < 16 → 512 ≤ length d → k < place / 32 * 32 + 32 → unread d k ≡ leb (place / 32 * 32 + read_of_entry (entry_at d (place / 32))) k
  unread-behind_entry in_table long to =
      let i = place / 32 in
      let at : k ≡ 32 * i + (k - i * 32) = omega arith in
      ap (unread d) at ∙ unread_in_entry d i (k - i * 32) in_table (omega arith) long ∙ leb_behind (i * 32) _ k (omega arith)

  pub unread-behind-block : 8 ≤ place / 64 → place / 64 * 64 + 64 ≤ length d → k < place / 64 * 64 + 64 → unread d k ≡ leb (place / 64 * 64 + read_of_block d (place / 64) 16) k
  unread-behind-block for_files on_disk to =
      let b = place / 64 in
      let at : k ≡ 64 * b + (k - b * 64) = omega arith in
      ap (unread d) at ∙ unread_in_block d b (k - b * 64) for_files (omega arith) (omega arith) ∙ leb_behind (b * 64) _ k (omega arith)
