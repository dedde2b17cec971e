-- What is read of an entry and of a block, counted entry after entry and block after block. Assumes nothing.
use Rattle.std.proofs.Common.{◌≡◌, ℕ, zero, suc, ◌+◌, ◌-◌, ◌*◌, ◌<◌, ◌≤◌, min, max, Bool, true, false, cond, eqb, List, [], ◌∷◌, map, Some, None, Option, sym, refl, ap, ◌∙◌, ⊎_elim, add-one, arith}
use Rattle.std.specs.List.{range_with_len, fold, filter, position, position_from}
use Rattle.std.proofs.lemmas.List.FromFn.{filter_of_map_range_with_len_more}
use Rattle.std.proofs.lemmas.List.Sums.{fold-append}
use Rattle.std.proofs.lemmas.Iterator.Adapters.{position_from-zero}
use Rattle.std.proofs.lemmas.Bool.{cases_eq, cond-true, cond-false, cond_both, eq-eqb, ne_eqb}
use Rattle.layout.specs.declared.entry.Entry.{Entry}
use Rattle.layout.specs.Entries.{needs, blocks_of}
use Rattle.layout.specs.Files.{entry_at}
use Rattle.fsck.specs.Rules.{Sound}
use Rattle.unread.specs.Unread.{read_of_entry, read_by_file, read_of_block}

-- the flag of an entry is read
pub read_first : (e : Entry) → 0 < read_of_entry e
unfolding read_of_entry
read_first e = cond_both e.used _ _ (λ n. 0 < n) (λ _. omega arith) (λ _. omega arith)

pub read_of_used : (e : Entry) → e.used ≡ true → read_of_entry e ≡ 14 + needs e.len
unfolding read_of_entry
read_of_used e is = cond-true e.used _ _ is

pub read_of_unused : (e : Entry) → e.used ≡ false → read_of_entry e ≡ 1
unfolding read_of_entry
read_of_unused e isn't = cond-false e.used _ _ isn't

-- an entry of a sound disk has at least two bytes that aren't read
pub read_of_entry_most : (d : List ℕ) (i : ℕ) → Sound d → i < 16 → read_of_entry (entry_at d i) ≤ 30
unfolding read_of_entry needs
read_of_entry_most d i s lt = cond_both (entry_at d i).used _ _ (λ n. n ≤ 30) (λ used. omega (arith, s.short i lt used)) (λ _. omega arith)

-- a file has no more bytes in a block than it has in all
read_by_file_within : (b : ℕ) (bs : List ℕ) (n : ℕ) → read_by_file b bs n ≤ min n 64
unfolding read_by_file
read_by_file_within b [] n = omega arith
read_by_file_within b (x ∷ bs) n =
    let first = cond_both (eqb b x) (min n 64) 0 (λ m. m ≤ min n 64) (λ _. omega arith) (λ _. omega arith) in
    omega (arith, first, read_by_file_within b bs (n - 64))

-- how many of n bytes lie in this place of a file, if there is one
abbrev pub read_at : ℕ → Option ℕ → ℕ
read_at n None = 0
read_at n (Some k) = min (n - k * 64) 64

-- of all places in the file that have the block, the first has the most bytes
read_by_first : (b : ℕ) (bs : List ℕ) (n i : ℕ) → read_at n (position_from (λ x. eqb x b) i bs) ≡ read_by_file b bs (n - i * 64)
unfolding read_by_file
read_by_first b [] n i = refl
read_by_first b (x ∷ bs) n i =
    let rest = read_by_file b bs (n - i * 64 - 64) in
    let less : rest ≤ min (n - i * 64 - 64) 64 = read_by_file_within b bs (n - i * 64 - 64) in
    ⊎_elim
    (λ same. ap (read_at n) (cond-true _ _ _ (eq-eqb x b same)) ∙ sym (ap (λ m. max m rest) (cond-true _ _ _ (eq-eqb b x (sym same))) ∙ omega arith))
    (λ other.
    let later : n - (i + 1) * 64 ≡ n - i * 64 - 64 = omega arith in
    ap (read_at n) (cond-false _ _ _ (ne_eqb x b other)) ∙ read_by_first b bs n (i + 1) ∙ ap (read_by_file b bs) later ∙ sym (ap (λ m. max m rest) (cond-false _ _ _ (ne_eqb b x (λ same. other (sym same)))) ∙ omega arith))
    (cases_eq x b)

pub read_by_position : (b : ℕ) (bs : List ℕ) (n : ℕ) → read_at n (position (λ x. eqb x b) bs) ≡ read_by_file b bs n
read_by_position b bs n = ap (read_at n) (position_from-zero (λ x. eqb x b) bs) ∙ read_by_first b bs n 0 ∙ ap (read_by_file b bs) (omega arith)

pub read_of_block_most : (d : List ℕ) (b n : ℕ) → read_of_block d b n ≤ 64
unfolding read_of_block
read_of_block_most d b zero = omega arith
read_of_block_most d b (suc i) =
    let e = entry_at d i in
    let within = read_by_file_within b (blocks_of e) e.len in
    let file = cond_both e.used (read_by_file b (blocks_of e) e.len) 0 (λ m. m ≤ 64) (λ _. omega arith) (λ _. omega arith) in
    omega (arith, file, read_of_block_most d b i)

-- the last of some entries, if it is in use
last_entry : (b read : ℕ) (e : Entry) (used : Bool) → fold (λ m (f : Entry). max m (read_by_file b (blocks_of f) f.len)) read (cond used (e ∷ []) []) ≡ max read (cond used (read_by_file b (blocks_of e) e.len) 0)
last_entry b read e true = refl
last_entry b read e false = let same : read ≡ max read 0 = omega arith in same

-- the same, counted along the list of entries
pub most_read_all : (d : List ℕ) (b n : ℕ) → fold (λ m (f : Entry). max m (read_by_file b (blocks_of f) f.len)) 0 (filter (λ (f : Entry). f.used) (map (entry_at d) (range_with_len 0 n))) ≡ read_of_block d b n
unfolding read_of_block
most_read_all d b zero = refl
most_read_all d b (suc i) =
    let most = λ (l : List Entry). fold (λ m (f : Entry). max m (read_by_file b (blocks_of f) f.len)) 0 l in
    let used = λ (f : Entry). f.used in
    ap (λ n. most (filter used (map (entry_at d) (range_with_len 0 n)))) (sym (add-one i))
    ∙ ap most (filter_of_map_range_with_len_more used (entry_at d) 0 i i (omega arith))
    ∙ fold-append _ 0 (filter used (map (entry_at d) (range_with_len 0 i))) _
    ∙ last_entry b _ (entry_at d i) (entry_at d i).used
    ∙ ap (λ m. max m (cond (entry_at d i).used (read_by_file b (blocks_of (entry_at d i)) (entry_at d i).len) 0)) (most_read_all d b i)
