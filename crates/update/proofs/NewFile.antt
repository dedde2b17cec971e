-- The file that a new entry describes, and what is written for it. Assumes nothing.
use Rattle.std.proofs.Common.{◌≡◌, ℕ, zero, suc, ◌+◌, ◌-◌, ◌*◌, ◌<◌, ◌≤◌, true, false, List, [], ◌∷◌, ◌++◌, length, get_or, take, drop, sym, refl, ap, ◌∙◌, subst, ⊎_elim, arith, length-append, length-drop, length-take}
use Rattle.std.specs.List.{flat_map}
use Rattle.std.proofs.lemmas.List.{length-replicate, nil_from_length, take_all, take-take, take-append-le, take-append-drop}
use Rattle.std.proofs.lemmas.Bool.{cases_lt, eqb-false, or_parts}
use Rattle.layout.specs.declared.entry.Entry.{Entry}
use Rattle.layout.specs.Entries.{decoded, encoded, needs, blocks_of}
use Rattle.layout.specs.Files.{block, content}
use Rattle.layout.proofs.Slices.{take_nil, take-append}
use Rattle.layout.proofs.Codec.{decoded-encoded}
use Rattle.fsck.specs.Blocks.{has}
use Rattle.fsck.proofs.Counting.{Once, once_new, once_rest}
use Rattle.update.specs.Writes.{Write, after_write, after_writes}
use Rattle.update.specs.Putting.{padded, data_writes, new_entry}
use Rattle.update.proofs.Places.{Fits, length-after, block_written, block_kept}

pub length-padded : (n : ℕ) (xs : List ℕ) → length (padded n xs) ≡ n
unfolding padded
length-padded n xs = simp (length-append, length-take, length-replicate) (omega arith)

pub take-padded : (n m : ℕ) (xs : List ℕ) → m ≤ n → m ≤ length xs → take m (padded n xs) ≡ take m xs
unfolding padded
take-padded n m xs h k =
    let there : m ≤ length (take n xs) = simp length-take (omega arith) in
    take-append-le m (take n xs) _ there ∙ take-take m n xs h

-- up to the end of the bytes there are no zeros behind them
take_all_padded : (n : ℕ) (xs : List ℕ) → take (length xs) (padded n xs) ≡ take n xs
take_all_padded n xs =
    let long = length-padded n xs in
    ⊎_elim
    (λ less. take_all (length xs) (padded n xs) (omega arith) ∙ sym (take_all n (padded n xs) (omega arith)) ∙ take-padded n n xs (omega arith) (omega arith))
    (λ more. take-padded n (length xs) xs more (omega arith) ∙ take_all (length xs) xs (omega arith) ∙ sym (take_all n xs more))
    (cases_lt n (length xs))

-- the new entry, got back from its bytes
module _ (x c bs : List ℕ) (n : length x ≡ 11) (short : length c ≤ 1024) (many : length bs ≡ needs (length c)) where
  pub entry_back : decoded (encoded (new_entry x c bs)) ≡ new_entry x c bs
  unfolding new_entry
  entry_back = decoded-encoded (new_entry x c bs) n (length-padded 16 bs) refl

  pub length_entry : length (encoded (new_entry x c bs)) ≡ 32
  unfolding encoded new_entry
  length_entry = simp (length-append, length-padded) (omega arith)

  pub entry_used : (decoded (encoded (new_entry x c bs))).used ≡ true
  unfolding new_entry
  entry_used = ap (λ (e : Entry). e.used) entry_back

  pub entry_name : (decoded (encoded (new_entry x c bs))).name.bytes ≡ x
  unfolding new_entry
  entry_name = ap (λ (e : Entry). e.name.bytes) entry_back

  pub entry_len : (decoded (encoded (new_entry x c bs))).len ≡ length c
  unfolding new_entry
  entry_len = ap (λ (e : Entry). e.len) entry_back

  few : needs (length c) ≤ 16
  unfolding needs
  few = omega arith

  pub entry_blocks : blocks_of (decoded (encoded (new_entry x c bs))) ≡ bs
  unfolding blocks_of new_entry
  entry_blocks =
      let at_most = few in
      ap blocks_of entry_back ∙ take-padded 16 (needs (length c)) bs few (omega arith) ∙ take_all (needs (length c)) bs (omega arith)

  pub entry_flag : get_or (encoded (new_entry x c bs)) 0 0 ≤ 1
  unfolding encoded new_entry
  entry_flag = omega arith

-- these blocks hold the bytes c, 64 in each, with zeros behind their end
abbrev pub Holds : (ℕ → List ℕ) → List ℕ → List ℕ → Type 0
Holds f [] c = Unit {0}
Holds f (b ∷ bs) c = (f b ≡ padded 64 c) × Holds f bs (drop 64 c)

-- the bytes of blocks that hold a file, block after block, begin with the file
pub joined_content : (f : ℕ → List ℕ) (bs c : List ℕ) → Holds f bs c → length c ≤ 64 * length bs → take (length c) (flat_map f bs) ≡ c
joined_content f [] c h le = take_nil (length c) ∙ sym (nil_from_length c (omega arith))
joined_content f (b ∷ bs) c h le =
    let long : length (f b) ≡ 64 = ap length h.0 ∙ length-padded 64 c in
    let left : length c - length (f b) ≡ length (drop 64 c) = simp length-drop (omega arith) in
    let fewer : length (drop 64 c) ≤ 64 * length bs = simp length-drop (omega arith) in
    let first : take (length c) (f b) ≡ take 64 c = ap (take (length c)) h.0 ∙ take_all_padded 64 c in
    let rest : take (length c - length (f b)) (flat_map f bs) ≡ drop 64 c = ap (λ k. take k (flat_map f bs)) left ∙ joined_content f bs (drop 64 c) h.1 fewer in
    take-append (length c) (f b) (flat_map f bs) ∙ (λ j. first j ++ rest j) ∙ take-append-drop 64 c

pub length-data_writes : (bs c : List ℕ) → length (data_writes bs c) ≡ length bs
unfolding data_writes
length-data_writes [] c = refl
length-data_writes (b ∷ bs) c = ap suc (length-data_writes bs (drop 64 c))

-- these blocks are on the disk
abbrev pub OnDisk : List ℕ → List ℕ → Type 0
OnDisk d bs = (k : ℕ) → k < length bs → 64 * get_or bs k 0 + 64 ≤ length d

-- the write of the first 64 bytes
abbrev first_write : ℕ → List ℕ → Write
first_write b c = record { to = b; bytes = padded 64 c }

module _ (d : List ℕ) (b : ℕ) (bs c : List ℕ) (on_disk : OnDisk d (b ∷ bs)) where
  first_fits : Fits d (first_write b c)
  first_fits = record { on_disk = on_disk 0 (omega arith); whole = length-padded 64 c }

  rest_on_disk : OnDisk (after_write d (first_write b c)) bs
  rest_on_disk k lt = subst (λ n. 64 * get_or bs k 0 + 64 ≤ n) (sym (length-after d (first_write b c) first_fits)) (on_disk (suc k) (omega arith))

-- a block that is no target keeps its bytes, wherever power fails
pub kept_by_data : (d bs c : List ℕ) (b : ℕ) → has bs b ≡ false → OnDisk d bs → (n : ℕ) → block (after_writes n d (data_writes bs c)) b ≡ block d b
unfolding after_writes data_writes
kept_by_data d [] c b new on_disk zero = refl
kept_by_data d [] c b new on_disk (suc n) = refl
kept_by_data d (x ∷ bs) c b new on_disk zero = refl
kept_by_data d (x ∷ bs) c b new on_disk (suc n) =
    let other = or_parts _ _ new in
    kept_by_data (after_write d (first_write x c)) bs (drop 64 c) b other.1 (rest_on_disk d x bs c on_disk) n
    ∙ block_kept d (first_write x c) (first_fits d x bs c on_disk) b (eqb-false b x other.0)

-- after the data writes the blocks hold the file
pub holds_after_data : (d bs c : List ℕ) → Once bs → OnDisk d bs → Holds (block (after_writes (length bs) d (data_writes bs c))) bs c
unfolding after_writes data_writes
holds_after_data d [] c once on_disk = tt
holds_after_data d (b ∷ bs) c once on_disk =
    let d₁ = after_write d (first_write b c) in
    let on_disk₁ = rest_on_disk d b bs c on_disk in (
      kept_by_data d₁ bs (drop 64 c) b (once_new b bs once) on_disk₁ (length bs) ∙ block_written d (first_write b c) (first_fits d b bs c on_disk),
      holds_after_data d₁ bs (drop 64 c) (once_rest b bs once) on_disk₁,
    )

-- so the file that the new entry describes is the one that was put
pub content_put : (d x c bs : List ℕ) → length x ≡ 11 → length c ≤ 1024 → length bs ≡ needs (length c) → Once bs → OnDisk d bs →
    content (after_writes (length (data_writes bs c)) d (data_writes bs c)) (decoded (encoded (new_entry x c bs))) ≡ c
unfolding content needs
content_put d x c bs n short many once on_disk =
    let d₁ = after_writes (length (data_writes bs c)) d (data_writes bs c) in
    let holds : Holds (block d₁) bs c = subst (λ k. Holds (block (after_writes k d (data_writes bs c))) bs c) (sym (length-data_writes bs c)) (holds_after_data d bs c once on_disk) in
    (λ j. take (entry_len x c bs n short many j) (flat_map (block d₁) (entry_blocks x c bs n short many j)))
    ∙ joined_content (block d₁) bs c holds (omega arith)
