-- Where the bytes of a file lie. Assumes nothing.
use Rattle.std.proofs.Common.{◌≡◌, ℕ, suc, ◌+◌, ◌-◌, ◌*◌, ◌/◌, ◌%◌, ◌<◌, List, [], ◌∷◌, length, get_or, drop, ◌∙◌, ⊎_elim, arith}
use Rattle.std.specs.List.{flat_map}
use Rattle.std.proofs.lemmas.List.{get_or-take, get_or-drop, get_or_append_left, get_or-append_right}
use Rattle.std.proofs.lemmas.Bool.{cases_lt}
use Rattle.layout.specs.Entries.{needs, blocks_of}
use Rattle.layout.specs.Files.{entry_at, block, content}
use Rattle.layout.proofs.Finding.{length-block}
use Rattle.fsck.specs.Rules.{Used, block_of, Sound}
use Rattle.fsck.proofs.Contents.{length-blocks_at}

-- a byte of parts of 64 bytes each, joined
joined_byte : (f : ℕ → List ℕ) (bs : List ℕ) (p : ℕ) → ((k : ℕ) → k < length bs → length (f (get_or bs k 0)) ≡ 64) → p < 64 * length bs → get_or (flat_map f bs) p 0 ≡ get_or (f (get_or bs (p / 64) 0)) (p % 64) 0
joined_byte f [] p each lt = absurd (omega arith)
joined_byte f (b ∷ bs) p each lt =
    let first : length (f b) ≡ 64 = each 0 (omega arith) in
    ⊎_elim
    (λ less.
    let place : 0 ≡ p / 64 = omega arith in
    let rest : p ≡ p % 64 = omega arith in
    get_or_append_left (f b) (flat_map f bs) 0 p (omega arith) ∙ (λ j. get_or (f (get_or (b ∷ bs) (place j) 0)) (rest j) 0))
    (λ more.
    let place : suc ((p - 64) / 64) ≡ p / 64 = omega arith in
    let rest : (p - 64) % 64 ≡ p % 64 = omega arith in
    get_or-append_right (f b) (flat_map f bs) 64 p 0 first more
    ∙ joined_byte f bs (p - 64) (λ k k_in. each (suc k) (omega arith)) (omega arith)
    ∙ (λ j. get_or (f (get_or (b ∷ bs) (place j) 0)) (rest j) 0))
    (cases_lt p 64)

block_byte : (d : List ℕ) (b j : ℕ) → j < 64 → get_or (block d b) j 0 ≡ get_or d (64 * b + j) 0
unfolding block
block_byte d b j lt = get_or-take 64 (drop (64 * b) d) j 0 lt ∙ get_or-drop (64 * b) d j 0

pub content_byte : (d : List ℕ) (i p : ℕ) → Sound d → i < 16 → Used d i → p < (entry_at d i).len → get_or (content d (entry_at d i)) p 0 ≡ get_or d (64 * block_of d i (p / 64) + p % 64) 0
unfolding content needs
content_byte d i p s in_table used lt =
    let e = entry_at d i in
    let many = length-blocks_at d 16 i s in_table in_table used in
    let whole : (k : ℕ) → k < length (blocks_of e) → length (block d (get_or (blocks_of e) k 0)) ≡ 64 =
    λ k k_in. length-block d _ (omega (arith, s.whole, s.on_disk i k (record { entry = in_table; used = used; within = k_in }))) in
    get_or-take e.len (flat_map (block d) (blocks_of e)) p 0 lt
    ∙ joined_byte (block d) (blocks_of e) p whole (omega arith)
    ∙ block_byte d (block_of d i (p / 64)) (p % 64) (omega arith)
