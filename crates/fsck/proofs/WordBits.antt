-- The bits of words, the sets that they make, and how many numbers pass a test. Assumes nothing.
use Rattle.std.proofs.Common.{◌≡◌, ℕ, zero, suc, ◌+◌, ◌*◌, ◌/◌, ◌%◌, ◌^◌, ◌<◌, ◌≤◌, max, Bool, false, cond, ◌||◌, eqb, [], ◌∷◌, length, get_or, set, replicate, sym, refl, ap, ◌∙◌, ⊎_elim, add-zero, add_assoc, add-suc, suc-add, pow-suc, zero-add, one-add, arith}
use native.Mathlib.Nat.{zero-div}
use lib.Bits.{bit_or, or_step}
use lib.Count.{ones, ones_step}
use Rattle.std.proofs.lemmas.Nat.{or_shr, shr-shr, ones-le}
use Rattle.std.proofs.lemmas.List.{get_or-set_same, get_or-set_other}
use Rattle.std.proofs.lemmas.Bool.{cases_eq}
use Rattle.std.proofs.lemmas.Bool.Decides.{nat_tests}
use Rattle.fsck.specs.declared.block_set.BlockSet.{BlockSet}
use Rattle.fsck.specs.Sets.{bit, member, counted}

bit_zero : (k : ℕ) → bit 0 k ≡ false
bit_zero k = ap (λ x. eqb (x % 2) 1) (zero-div (2 ^ k))

bit_half : (w k : ℕ) → bit w (suc k) ≡ bit (w / 2) k
bit_half w k = ap (bit w) (sym (one-add k)) ∙ ap (λ x. eqb (x % 2) 1) (sym (shr-shr w 1 k))

bit-bit_or : (w v k : ℕ) → bit (bit_or w v) k ≡ (bit v k || bit w k)
bit-bit_or w v k =
    let a = w / 2 ^ k in
    let b = v / 2 ^ k in
    let low : bit_or a b % 2 ≡ max (a % 2) (b % 2) = omega (arith, or_step a b) in
    let tell : eqb (bit_or a b % 2) 1 ≡ (eqb (b % 2) 1 || eqb (a % 2) 1) = grind (arith, nat_tests) in
    ap (λ x. eqb (x % 2) 1) (or_shr w v k) ∙ tell

bit_pow : (k j : ℕ) → bit (2 ^ k) j ≡ eqb j k
bit_pow zero zero = refl
bit_pow zero (suc j) = let none : false ≡ eqb (suc j) 0 = grind (arith, nat_tests) in bit_half 1 j ∙ bit_zero j ∙ none
bit_pow (suc k) zero =
    let even : 2 ^ suc k / 1 % 2 ≡ 0 = omega (arith, pow-suc 2 k) in
    grind (arith, nat_tests)
bit_pow (suc k) (suc j) =
    let half : 2 ^ suc k / 2 ≡ 2 ^ k = omega (arith, pow-suc 2 k) in
    let more : eqb j k ≡ eqb (suc j) (suc k) = grind (arith, nat_tests) in
    bit_half (2 ^ suc k) j ∙ ap (λ w. bit w j) half ∙ bit_pow k j ∙ more

-- a word with bit k set
bit-bit_or_pow : (w k j : ℕ) → bit (bit_or w (2 ^ k)) j ≡ (eqb j k || bit w j)
bit-bit_or_pow w k j = bit-bit_or w (2 ^ k) j ∙ ap (λ b. b || bit w j) (bit_pow k j)

-- two tests that agree, each from its own place on
counted_moved : (p q : ℕ → Bool) (i j n : ℕ) → ((k : ℕ) → k < n → p (i + k) ≡ q (j + k)) → counted p i n ≡ counted q j n
unfolding counted
counted_moved p q i j zero same = refl
counted_moved p q i j (suc n) same =
    let here : p i ≡ q j = simp add-zero at (same 0 (omega arith)) in
    let rest = counted_moved p q (suc i) (suc j) n (λ k lt. simp suc-add (simp add-suc at (same (suc k) (omega arith)))) in
    λ t. cond (here t) 1 0 + rest t

pub counted_same : (p q : ℕ → Bool) (i n : ℕ) → ((k : ℕ) → i ≤ k → k < i + n → p k ≡ q k) → counted p i n ≡ counted q i n
counted_same p q i n same = counted_moved p q i i n (λ k lt. same (i + k) (omega arith) (omega arith))

pub counted_split : (p : ℕ → Bool) (i m n : ℕ) → counted p i (m + n) ≡ counted p i m + counted p (i + m) n
unfolding counted
counted_split p i zero n = simp (zero-add, add-zero)
counted_split p i (suc m) n =
    let place : suc i + m ≡ i + suc m = omega arith in
    let rest = counted_split p (suc i) m n ∙ ap (λ j. counted p (suc i) m + counted p j n) place in
    ap (counted p i) (suc-add m n) ∙ ap (λ x. cond (p i) 1 0 + x) rest ∙ sym (add_assoc (cond (p i) 1 0) (counted p (suc i) m) (counted p (i + suc m) n))

ones_counted : (n w : ℕ) → w < 2 ^ n → ones w ≡ counted (bit w) 0 n
unfolding counted
ones_counted zero w lt = omega (arith, ones-le 0 w lt)
ones_counted (suc n) w lt =
    let low : w % 2 ≡ cond (bit w 0) 1 0 = grind (arith, nat_tests) in
    let half : w / 2 < 2 ^ n = omega (arith, pow-suc 2 n) in
    let rest = ones_counted n (w / 2) half ∙ counted_moved (bit (w / 2)) (bit w) 0 1 n (λ k _. simp (zero-add, one-add) (sym (bit_half w k))) in
    ones_step w ∙ (λ t. low t + rest t)

get_or-zeros : (n i : ℕ) → ◌≡◌ {A = ℕ} (get_or (replicate n 0) i 0) 0
get_or-zeros zero i = refl
get_or-zeros (suc n) zero = refl
get_or-zeros (suc n) (suc i) = get_or-zeros n i

pub member_new : (b : ℕ) → member (record { words = 0 ∷ 0 ∷ 0 ∷ 0 ∷ [] }) b ≡ false
unfolding member
member_new b = ap (λ w. bit w (b % 64)) (get_or-zeros 4 (b / 64)) ∙ bit_zero (b % 64)

pub member_insert : (s : BlockSet) (b k : ℕ) → b / 64 < length s.words →
    member (record { words = set s.words (b / 64) (bit_or (get_or s.words (b / 64) 0) (2 ^ (b % 64))) }) k ≡ (eqb k b || member s k)
unfolding member
member_insert s b k lt =
    let w = bit_or (get_or s.words (b / 64) 0) (2 ^ (b % 64)) in
    ⊎_elim
    (λ here.
    let bits : eqb (k % 64) (b % 64) ≡ eqb k b = grind (arith, nat_tests) in
    let word : get_or (set s.words (b / 64) w) (k / 64) 0 ≡ bit_or (get_or s.words (k / 64) 0) (2 ^ (b % 64)) = cc (get_or-set_same s.words (b / 64) w 0 lt) in
    ap (λ v. bit v (k % 64)) word ∙ bit-bit_or_pow (get_or s.words (k / 64) 0) (b % 64) (k % 64) ∙ ap (λ e. e || member s k) bits)
    (λ other.
    let off : eqb k b ≡ false = grind (arith, nat_tests) in
    ap (λ v. bit v (k % 64)) (get_or-set_other s.words (b / 64) (k / 64) w 0 other) ∙ ap (λ e. e || member s k) (sym off))
    (cases_eq (k / 64) (b / 64))

-- the blocks of word i
counted-word : (s : BlockSet) (i : ℕ) → get_or s.words i 0 < 2 ^ 64 → counted (member s) (64 * i) 64 ≡ ones (get_or s.words i 0)
unfolding member
counted-word s i fits =
    let w = get_or s.words i 0 in
    counted_moved (member s) (bit w) (64 * i) 0 64
    (λ k lt.
    let word : (64 * i + k) / 64 ≡ i = omega arith in
    let at : (64 * i + k) % 64 ≡ 0 + k = omega arith in
    λ t. bit (get_or s.words (word t) 0) (at t))
    ∙ sym (ones_counted 64 w fits)

pub counted-word_more : (s : BlockSet) (i : ℕ) → get_or s.words i 0 < 2 ^ 64 → counted (member s) 0 (64 * (i + 1)) ≡ counted (member s) 0 (64 * i) + ones (get_or s.words i 0)
counted-word_more s i fits =
    let more : 64 * (i + 1) ≡ 64 * i + 64 = omega arith in
    let from : 0 + 64 * i ≡ 64 * i = omega arith in
    ap (counted (member s) 0) more ∙ counted_split (member s) 0 (64 * i) 64
    ∙ ap (λ c. counted (member s) 0 (64 * i) + c) (ap (λ j. counted (member s) j 64) from ∙ counted-word s i fits)
