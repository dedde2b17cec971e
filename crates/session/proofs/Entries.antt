-- Files and blocks of a sound disk, one after the other. Assumes nothing.
use Rattle.std.proofs.Common.{◌≡◌, ℕ, zero, suc, ◌+◌, ◌-◌, ◌%◌, ◌<◌, ◌≤◌, Bool, true, false, ◌&&◌, ◌||◌, cond, eqb, ◌⊎◌, List, [], ◌∷◌, ◌++◌, map, position, Some, None, Option, sym, refl, ap, ◌∙◌, ⊎_elim, add-one, arith}
use Rattle.std.specs.List.{IsAnyAnswer, list_any, range_with_len, position_from}
use Rattle.std.proofs.lemmas.Iterator.Adapters.{position_from-zero}
use Rattle.std.proofs.lemmas.List.Elements.{contains_decides}
use Rattle.std.proofs.lemmas.List.{get_or_default}
use Rattle.std.proofs.lemmas.Bool.{cases_Bool, both_ways, cond-true, cond-false, or_from, or_left, or_right, eq-eqb, ne_eqb, le-ltb}
use Rattle.std.proofs.lemmas.Bool.Decides.{Decides-eqb, nat_tests}
use Rattle.layout.specs.declared.entry.Entry.{Entry}
use Rattle.layout.specs.Entries.{blocks_of}
use Rattle.layout.specs.Files.{entry_at, entries}
use Rattle.fsck.specs.Blocks.{blocks_at, has}
use Rattle.fsck.proofs.Membership.{has_at, has_place, blocks_at_used}
use Rattle.session.specs.Printed.{file_line, files_from, owner_from, block_char, blocks_from}

module _ (d : List ℕ) (i : ℕ) (e : Entry) (is : e ≡ entry_at d i) where
  pub files_from_used : e.used ≡ true → (m : ℕ) → files_from d i (suc m) ≡ file_line e.name.bytes e.len ++ files_from d (suc i) m
  unfolding files_from
  files_from_used used m =
      let rest = files_from d (suc i) m in
      ap (λ l. l ++ rest) (cond-true _ _ _ (ap (λ (x : Entry). x.used) (sym is) ∙ used) ∙ ap (λ (x : Entry). file_line x.name.bytes x.len) (sym is))

  pub files_from_unused : e.used ≡ false → (m : ℕ) → files_from d i (suc m) ≡ [] ++ files_from d (suc i) m
  unfolding files_from
  files_from_unused unused m =
      let rest = files_from d (suc i) m in
      ap (λ l. l ++ rest) (cond-false _ _ _ (ap (λ (x : Entry). x.used) (sym is) ∙ unused))

  -- what `contains` answers of the blocks of an entry in use
  pub has_contains : e.used ≡ true → (b : ℕ) (bs : List ℕ) (r : Bool) → bs ≡ blocks_of e → IsAnyAnswer (λ x t. eqb x b ≡ t) bs r → has (blocks_at d i) b ≡ r
  has_contains used b bs r blocks answer =
      let decides = contains_decides eqb Decides-eqb bs b r answer in
      let same : blocks_at d i ≡ bs = blocks_at_used d i (ap (λ (x : Entry). x.used) (sym is) ∙ used) ∙ ap blocks_of (sym is) ∙ sym blocks in
      ap (λ l. has l b) same ∙ ⊎_elim
      (λ yes. let p = has_place bs b yes in yes ∙ sym (decides.1 (p.0, p.1, λ x. get_or_default bs p.0 x 0 p.1 ∙ p.2)))
      (λ no'. ⊎_elim (λ t. let p = decides.0 t in absurd (both_ways (has bs b) no' (ap (has bs) (sym (p.2 0)) ∙ has_at bs p.0 p.1))) (λ f. no' ∙ sym f) (cases_Bool r))
      (cases_Bool (has bs b))

eqb_swap : (a b : ℕ) → eqb a b ≡ eqb b a
eqb_swap a b = grind (arith, nat_tests)

-- whether some of the blocks is b
pub list_any-has : (b : ℕ) (bs : List ℕ) → list_any (λ x. eqb x b) bs ≡ has bs b
list_any-has b [] = refl
list_any-has b (x ∷ bs) = (λ j. eqb_swap x b j || list_any-has b bs j)

-- an entry is in use and its file has the block
abbrev pub has_block : (block : ℕ) → Entry → Bool
has_block b e = e.used && has (blocks_of e) b

has_block-at : (d : List ℕ) (i b : ℕ) → has (blocks_at d i) b ≡ has_block b (entry_at d i)
unfolding blocks_at
has_block-at d i b = if_used (entry_at d i).used (blocks_of (entry_at d i))
  where
    if_used : (used : Bool) (bs : List ℕ) → has (cond used bs []) b ≡ (used && has bs b)
    if_used true bs = refl
    if_used false bs = refl

-- the letter of an entry, or a dot for none
abbrev pub letter : Option ℕ → ℕ
letter None = 46
letter (Some i) = 97 + i

letter-cond : (t : Bool) (i : ℕ) (o : Option ℕ) → letter (cond t (Some i) o) ≡ cond t (97 + i) (letter o)
letter-cond true i o = refl
letter-cond false i o = refl

owner_from-position : (d : List ℕ) (b i n : ℕ) → letter (position_from (has_block b) i (map (entry_at d) (range_with_len i n))) ≡ owner_from d b i n
unfolding owner_from
owner_from-position d b i zero = refl
owner_from-position d b i (suc n) =
    let rest = ap (λ k. letter (position_from (has_block b) k (map (entry_at d) (range_with_len k n)))) (add-one i) ∙ owner_from-position d b (suc i) n in
    letter-cond _ i _ ∙ (λ j. cond (sym (has_block-at d i b) j) (97 + i) (rest j))

-- a block behind those of the entries has the letter of the first entry whose file has it
pub letter-block_char : (d : List ℕ) (b : ℕ) (o : Option ℕ) → 8 ≤ b → o ≡ position (has_block b) (entries d) → letter o ≡ block_char d b
unfolding entries block_char
letter-block_char d b o ge is =
    let owned = ap letter (is ∙ position_from-zero (has_block b) (entries d)) ∙ owner_from-position d b 0 16 in
    owned ∙ sym (cond-false _ _ _ (le-ltb b 8 ge))

module _ (d : List ℕ) (b n : ℕ) (lt : b < n) where
  -- the last block of a line, or of all
  pub blocks_from_feed : (b % 64 ≡ 63) ⊎ (b + 1 ≡ n) → blocks_from d b (suc (n - (b + 1))) ≡ (block_char d b ∷ 10 ∷ []) ++ blocks_from d (suc b) (n - (b + 1))
  unfolding blocks_from
  blocks_from_feed last =
      let feed = ⊎_elim (λ full. or_left _ _ (eq-eqb (b % 64) 63 full)) (λ end. or_right (eqb (b % 64) 63) _ (eq-eqb (n - (b + 1)) 0 (omega arith))) last in
      ap (λ l. block_char d b ∷ (l ++ blocks_from d (suc b) (n - (b + 1)))) (cond-true _ (10 ∷ []) [] feed)

  -- and any other
  pub blocks_from_on : (b % 64 ≡ 63 → ⊥) → (b + 1 ≡ n → ⊥) → blocks_from d b (suc (n - (b + 1))) ≡ (block_char d b ∷ []) ++ blocks_from d (suc b) (n - (b + 1))
  unfolding blocks_from
  blocks_from_on room more =
      let on = or_from _ _ (ne_eqb (b % 64) 63 room) (ne_eqb (n - (b + 1)) 0 (λ end. more (omega arith))) in
      ap (λ l. block_char d b ∷ (l ++ blocks_from d (suc b) (n - (b + 1)))) (cond-false _ (10 ∷ []) [] on)
