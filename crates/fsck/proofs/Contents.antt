-- On a sound disk a file has as many bytes as its entry says. Assumes nothing.
use Rattle.std.proofs.Common.{◌≡◌, ℕ, suc, ◌*◌, ◌<◌, ◌≤◌, true, List, [], ◌∷◌, length, get_or, refl, ◌∙◌, arith, length-append, length-drop, length-take}
use Rattle.std.specs.List.{flat_map}
use Rattle.std.proofs.lemmas.Bool.{and_from, le-leb, lt-ltb}
use Rattle.layout.specs.declared.entry.Entry.{Entry}
use Rattle.layout.specs.Entries.{decoded, needs, blocks_of}
use Rattle.layout.specs.Files.{has_entries, has_entry, entry_bytes, entry_at, block, content}
use Rattle.layout.proofs.Finding.{length-entry_bytes, length-block}
use Rattle.fsck.specs.Rules.{Used, SoundTo}

pub sound_long : (d : List ℕ) (n : ℕ) → SoundTo d n → 576 ≤ length d
sound_long d n s = omega (arith, s.whole, s.least)

pub sound_has_entries : (d : List ℕ) (n : ℕ) → SoundTo d n → has_entries d ≡ true
sound_has_entries d n s = le-leb 512 (length d) (omega (arith, sound_long d n s))

pub sound_entry : (d : List ℕ) (n i : ℕ) → SoundTo d n → i < 16 → has_entry d i ≡ true
sound_entry d n i s lt = and_from _ _ (sound_has_entries d n s) (lt-ltb i 16 lt)

pub length_joined : (f : ℕ → List ℕ) (bs : List ℕ) → ((k : ℕ) → k < length bs → length (f (get_or bs k 0)) ≡ 64) → length (flat_map f bs) ≡ 64 * length bs
length_joined f [] each = refl
length_joined f (b ∷ bs) each =
    let first : length (f b) ≡ 64 = each 0 (omega arith) in
    let rest : length (flat_map f bs) ≡ 64 * length bs = length_joined f bs (λ k lt. each (suc k) (omega arith)) in
    length-append (f b) (flat_map f bs) ∙ omega arith

pub length_numbers : (d : List ℕ) (i : ℕ) → has_entry d i ≡ true → length (entry_at d i).blocks ≡ 16
unfolding entry_at decoded
length_numbers d i there =
    let long : length (entry_bytes d i) ≡ 32 = length-entry_bytes d i there in
    simp (length-take, length-drop) (omega arith)

-- a file of at most 1,024 bytes has as many block numbers as it needs
pub length-blocks_of : (e : Entry) → length e.blocks ≡ 16 → e.len ≤ 1024 → length (blocks_of e) ≡ needs e.len
unfolding blocks_of needs
length-blocks_of e n short = simp length-take (omega arith)

module _ (d : List ℕ) (n i : ℕ) (s : SoundTo d n) (in_table : i < 16) (lt : i < n) (used : Used d i) where
  pub length-blocks_at : length (blocks_of (entry_at d i)) ≡ needs (entry_at d i).len
  length-blocks_at = length-blocks_of (entry_at d i) (length_numbers d i (sound_entry d n i s in_table)) (s.short i lt used)

  pub length-content : length (content d (entry_at d i)) ≡ (entry_at d i).len
  unfolding content needs
  length-content =
      let e = entry_at d i in
      let all : length (flat_map (block d) (blocks_of e)) ≡ 64 * length (blocks_of e) =
      length_joined (block d) (blocks_of e) (λ k k_in. length-block d _ (omega (arith, s.whole, s.on_disk i k (record { entry = lt; used = used; within = k_in })))) in
      let many = length-blocks_at in
      simp length-take (omega arith)
