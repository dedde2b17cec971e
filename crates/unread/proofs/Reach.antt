-- Which bytes of an entry and of a block are read. Assumes nothing.
use Rattle.std.proofs.Common.{◌≡◌, ℕ, zero, suc, ◌+◌, ◌-◌, ◌*◌, ◌/◌, ◌%◌, ◌<◌, ◌≤◌, min, max, Bool, true, false, cond, ◌&&◌, ◌||◌, eqb, ltb, leb, ◌⊎◌, List, [], ◌∷◌, length, get_or, Decides, sym, refl, ap, ◌∙◌, inl, inr, ⊎_elim, arith}
use Rattle.std.proofs.lemmas.List.{get_or-take, get_or-drop}
use Rattle.std.proofs.lemmas.Bool.{and_left, ltb-true, lt-ltb, le-ltb}
use Rattle.std.proofs.lemmas.Bool.Decides.{Decides-at, Decides-like, Decides-and, Decides-or, Decides-ltb, Decides-eqb, Decides-below_or, nat_tests}
use Rattle.layout.specs.Entries.{blocks_of}
use Rattle.layout.specs.Files.{entry_bytes, entry_at}
use Rattle.fsck.specs.Rules.{Used, Place, block_of}
use Rattle.unread.specs.Unread.{read_of_entry, read_by_file, read_of_block, unread}

-- a byte of an entry's part of the disk
pub entry_byte : (d : List ℕ) (i j : ℕ) → j < 32 → get_or (entry_bytes d i) j 0 ≡ get_or d (32 * i + j) 0
unfolding entry_bytes
entry_byte d i j lt = rw (get_or-take, get_or-drop)

-- a place in the table of entries
pub unread_in_entry : (d : List ℕ) (i j : ℕ) → i < 16 → j < 32 → 512 ≤ length d → unread d (32 * i + j) ≡ leb (read_of_entry (entry_at d i)) j
unfolding unread
unread_in_entry d i j i_in j_in long =
    let entry : (32 * i + j) / 32 ≡ i = omega arith in
    let byte : (32 * i + j) % 32 ≡ j = omega arith in
    (λ m. lt-ltb (32 * i + j) (length d) (omega arith) m && cond (lt-ltb (32 * i + j) 512 (omega arith) m) (leb (read_of_entry (entry_at d (entry m))) (byte m)) (leb (read_of_block d ((32 * i + j) / 64) 16) ((32 * i + j) % 64)))

-- a place in a block for files
pub unread_in_block : (d : List ℕ) (b j : ℕ) → 8 ≤ b → j < 64 → 64 * b + 64 ≤ length d → unread d (64 * b + j) ≡ leb (read_of_block d b 16) j
unfolding unread
unread_in_block d b j from_8 j_in on_disk =
    let number : (64 * b + j) / 64 ≡ b = omega arith in
    let byte : (64 * b + j) % 64 ≡ j = omega arith in
    (λ m. lt-ltb (64 * b + j) (length d) (omega arith) m && cond (le-ltb (64 * b + j) 512 (omega arith) m) (leb (read_of_entry (entry_at d ((64 * b + j) / 32))) ((64 * b + j) % 32)) (leb (read_of_block d (number m) 16) (byte m)))

-- a place behind the disk's end is none of the disk's
pub unread_off_disk : (d : List ℕ) (k : ℕ) → length d ≤ k → unread d k ≡ false
unfolding unread
unread_off_disk d k off = and_left _ _ (le-ltb k (length d) off)

ltb_max : (j m n : ℕ) → ltb j (max m n) ≡ (ltb j n || ltb j m)
ltb_max j m n = grind (arith, nat_tests)

ltb_cond : (j : ℕ) (t : Bool) (n : ℕ) → ltb j (cond t n 0) ≡ (t && ltb j n)
ltb_cond j true n = refl
ltb_cond j false n = le-ltb j 0 (omega arith)

-- byte j of block b is among the n bytes of a file with the blocks bs
abbrev InFile : (b : ℕ) (bs : List ℕ) (n j : ℕ) → Type 0
InFile b bs n j = (m : ℕ) × (m < length bs) × (get_or bs m 0 ≡ b) × (64 * m + j < n)

-- then it is in a later block, or b is the first
later_or_first : (b x : ℕ) (bs : List ℕ) (n j m : ℕ) → j < 64 → m < suc (length bs) → get_or (x ∷ bs) m 0 ≡ b → 64 * m + j < n → InFile b bs (n - 64) j ⊎ ((b ≡ x) × (j < min n 64))
later_or_first b x bs n j zero j_in lt is before = inr (sym is, omega arith)
later_or_first b x bs n j (suc m) j_in lt is before = inl (m, omega arith, is, omega arith)

in_file_decides : (b : ℕ) (bs : List ℕ) (n j : ℕ) → j < 64 → Decides (ltb j (read_by_file b bs n)) (InFile b bs n j)
unfolding read_by_file
in_file_decides b [] n j j_in = (λ is. absurd (omega (arith, ltb-true j 0 is)), λ p. absurd (omega (arith, p.1)))
in_file_decides b (x ∷ bs) n j j_in =
    let later = read_by_file b bs (n - 64) in
    Decides-like _
    (⊎_elim (λ p. (suc p.0, omega (arith, p.1), p.2, omega (arith, p.3))) (λ p. (0, omega arith, sym p.0, omega (arith, p.1))))
    (λ p. later_or_first b x bs n j p.0 j_in p.1 p.2 p.3)
    (Decides-at _ _
    (ltb_max j _ later ∙ ap (λ t. ltb j later || t) (ltb_cond j (eqb b x) (min n 64)))
    (Decides-or _ _ (in_file_decides b bs (n - 64) j j_in) (Decides-and _ _ (Decides-eqb b x) (Decides-ltb j (min n 64)))))

-- byte j of block b is of the file of one of the first n entries
pub record Reached (d : List ℕ) (n b j : ℕ) : Type 0 where
  pub entry : ℕ
  pub place : ℕ
  pub there : Place d n entry place
  pub is : block_of d entry place ≡ b
  pub before_end : 64 * place + j < (entry_at d entry).len

pub reached_decides : (d : List ℕ) (n b j : ℕ) → j < 64 → Decides (ltb j (read_of_block d b n)) (Reached d n b j)
unfolding read_of_block
reached_decides d n b j j_in =
    let file : ℕ → ℕ = λ i. read_by_file b (blocks_of (entry_at d i)) (entry_at d i).len in
    Decides-like _
    (λ p. let at = p.2.1 in record { entry = p.0; place = at.0; there = record { entry = p.1; used = p.2.0; within = at.1 }; is = at.2; before_end = at.3 })
    (λ r. (r.entry, r.there.entry, (r.there.used, (r.place, r.there.within, r.is, r.before_end))))
    (Decides-below_or (λ i. (entry_at d i).used && ltb j (file i)) (λ i. Used d i × InFile b (blocks_of (entry_at d i)) (entry_at d i).len j) (λ m. ltb j (read_of_block d b m))
    (λ i. Decides-and _ _ (λ e. e, λ e. e) (in_file_decides b (blocks_of (entry_at d i)) (entry_at d i).len j j_in))
    (le-ltb j 0 (omega arith))
    (λ i. ltb_max j (read_of_block d b i) _ ∙ ap (λ t. t || ltb j (read_of_block d b i)) (ltb_cond j (entry_at d i).used (file i)))
    n)
