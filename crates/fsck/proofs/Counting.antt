-- How many blocks a disk has in use, and how many are free. Assumes nothing.
use Rattle.std.proofs.Common.{◌≡◌, ℕ, zero, suc, ◌+◌, ◌-◌, ◌<◌, ◌≤◌, Bool, true, false, cond, ◌&&◌, ◌||◌, eqb, List, [], ◌∷◌, ◌++◌, length, get_or, sym, refl, ap, ◌∙◌, subst, ⊎_elim, arith}
use Rattle.std.proofs.lemmas.Bool.{false_from_ne_true, cases_Bool, cond-true, cond-false, both_ways, eq-eqb, eqb-true, ne_eqb, or_cases, or_left, or_right, or_from, le-leb}
use Rattle.layout.specs.Entries.{blocks_of}
use Rattle.layout.specs.Files.{has_entries, entry_at}
use Rattle.fsck.specs.Sets.{counted}
use Rattle.fsck.specs.Blocks.{size, blocks_to, has, in_use, free_from, free}
use Rattle.fsck.specs.Sound.{sound}
use Rattle.fsck.specs.Rules.{Place, Sound, SoundTo}
use Rattle.fsck.specs.Usage.{Counts}
use Rattle.fsck.proofs.WordBits.{counted_same, counted_split}
use Rattle.fsck.proofs.Membership.{has-append, has_at, has_place, has_places, blocks_at_used, blocks_at_unused}
use Rattle.fsck.proofs.Deciding.{sound_decides}

-- a test that fails on the whole range
pub counted_none : (p : ℕ → Bool) (i n : ℕ) → ((k : ℕ) → i ≤ k → k < i + n → p k ≡ false) → counted p i n ≡ 0
unfolding counted
counted_none p i zero fails = refl
counted_none p i (suc n) fails =
    let here : p i ≡ false = fails i (omega arith) (omega arith) in
    let rest = counted_none p (suc i) n (λ k a b. fails k (omega arith) (omega arith)) in
    λ t. cond (here t) 1 0 + rest t

-- a test that passes at x, where another fails, and elsewhere agrees with it
counted-one_more : (p q : ℕ → Bool) (x n : ℕ) → x < n → p x ≡ true → q x ≡ false → ((k : ℕ) → (k ≡ x → ⊥) → p k ≡ q k) → counted p 0 n ≡ suc (counted q 0 n)
unfolding counted
counted-one_more p q x n lt passes fails same =
    let rest = n - suc x in
    let all : n ≡ x + suc rest = omega arith in
    let before : counted p 0 x ≡ counted q 0 x = counted_same p q 0 x (λ k a b. same k (λ e. omega arith)) in
    let after : counted p (suc x) rest ≡ counted q (suc x) rest = counted_same p q (suc x) rest (λ k a b. same k (λ e. omega arith)) in
    let from : 0 + x ≡ x = omega arith in
    let split : (r : ℕ → Bool) → counted r 0 n ≡ counted r 0 x + (cond (r x) 1 0 + counted r (suc x) rest) =
    λ r. ap (counted r 0) all ∙ counted_split r 0 x (suc rest) ∙ ap (λ j. counted r 0 x + counted r j (suc rest)) from in
    let one = cond-true {A = ℕ} (p x) 1 0 passes in
    let none = cond-false {A = ℕ} (q x) 1 0 fails in
    omega (arith, split p, split q)

-- each number of the list stands in one place
abbrev pub Once : List ℕ → Type 0
Once xs = (k l : ℕ) → k < length xs → l < length xs → get_or xs k 0 ≡ get_or xs l 0 → k ≡ l

pub once_nil : Once []
once_nil k l lt = absurd (omega arith)

pub once_cons : (x : ℕ) (xs : List ℕ) → has xs x ≡ false → Once xs → Once (x ∷ xs)
once_cons x xs new once zero zero a b e = refl
once_cons x xs new once zero (suc l) a b e = absurd (both_ways _ new (ap (has xs) e ∙ has_at xs l (omega arith)))
once_cons x xs new once (suc k) zero a b e = absurd (both_ways _ new (ap (has xs) (sym e) ∙ has_at xs k (omega arith)))
once_cons x xs new once (suc k) (suc l) a b e = ap suc (once k l (omega arith) (omega arith) e)

pub once_rest : (x : ℕ) (xs : List ℕ) → Once (x ∷ xs) → Once xs
once_rest x xs once k l a b e = let s : suc k ≡ suc l = once (suc k) (suc l) (omega arith) (omega arith) e in omega arith

pub once_new : (x : ℕ) (xs : List ℕ) → Once (x ∷ xs) → has xs x ≡ false
once_new x xs once =
    false_from_ne_true (has xs x)
    (λ there.
    let p = has_place xs x there in
    let z : suc p.0 ≡ 0 = once (suc p.0) 0 (omega (arith, p.1)) (omega arith) p.2 in
    omega arith)

-- two lists that share no number
pub once_append : (xs ys : List ℕ) → Once xs → Once ys → ((b : ℕ) → has xs b ≡ true → has ys b ≡ true → ⊥) → Once (xs ++ ys)
once_append [] ys p q apart = q
once_append (x ∷ xs) ys p q apart =
    let not_there : has ys x ≡ false = false_from_ne_true (has ys x) (apart x (or_left _ _ (eq-eqb x x refl))) in
    once_cons x (xs ++ ys) (has-append xs ys x ∙ or_from _ _ (once_new x xs p) not_there) (once_append xs ys (once_rest x xs p) q (λ b a c. apart b (or_right _ _ a) c))

-- a list without repetition has as many numbers as it is long
pub counted_has : (xs : List ℕ) (n : ℕ) → Once xs → ((b : ℕ) → has xs b ≡ true → b < n) → counted (has xs) 0 n ≡ length xs
counted_has [] n once below = counted_none (has []) 0 n (λ k a b. refl)
counted_has (x ∷ xs) n once below =
    let here : has (x ∷ xs) x ≡ true = or_left _ _ (eq-eqb x x refl) in
    counted-one_more (has (x ∷ xs)) (has xs) x n (below x here) here (once_new x xs once) (λ k other. ap (λ b. b || has xs k) (ne_eqb k x other))
    ∙ ap suc (counted_has xs n (once_rest x xs once) (λ b is. below b (or_right _ _ is)))

-- of n blocks from b on, those that are not in use are free
pub length-free_from : (d : List ℕ) (b n : ℕ) → length (free_from d b n) + counted (in_use d) b n ≡ n
unfolding free_from counted
length-free_from d b zero = refl
length-free_from d b (suc n) =
    let rest = length-free_from d (suc b) n in
    ⊎_elim
    (λ used.
    let listed : length (cond (in_use d b) (free_from d (suc b) n) (b ∷ free_from d (suc b) n)) ≡ length (free_from d (suc b) n) = ap length (cond-true _ _ _ used) in
    let one = cond-true {A = ℕ} (in_use d b) 1 0 used in
    omega arith)
    (λ unused.
    let listed : length (cond (in_use d b) (free_from d (suc b) n) (b ∷ free_from d (suc b) n)) ≡ suc (length (free_from d (suc b) n)) = ap length (cond-false _ _ _ unused) in
    let none = cond-false {A = ℕ} (in_use d b) 1 0 unused in
    omega arith)
    (cases_Bool (in_use d b))

-- a block among the free ones of n from b on
pub free_from-has : (d : List ℕ) (b n k : ℕ) → has (free_from d b n) k ≡ true → (b ≤ k) × (k < b + n) × (in_use d k ≡ false)
unfolding free_from
free_from-has d b zero k is = absurd (both_ways false refl is)
free_from-has d b (suc n) k is =
    let later : has (free_from d (suc b) n) k ≡ true → (b ≤ k) × (k < b + suc n) × (in_use d k ≡ false) =
    λ there. let r = free_from-has d (suc b) n k there in (omega (arith, r.0), omega (arith, r.1), r.2) in
    ⊎_elim
    (λ used. later (ap (λ l. has l k) (sym (cond-true _ _ _ used)) ∙ is))
    (λ unused.
    ⊎_elim
    (λ here. let same = eqb-true k b here in (omega arith, omega arith, ap (in_use d) same ∙ unused))
    later
    (or_cases (eqb k b) _ (ap (λ l. has l k) (sym (cond-false (in_use d b) (free_from d (suc b) n) (b ∷ free_from d (suc b) n) unused)) ∙ is)))
    (cases_Bool (in_use d b))

free_from_once : (d : List ℕ) (b n : ℕ) → Once (free_from d b n)
unfolding free_from
free_from_once d b zero = once_nil
free_from_once d b (suc n) =
    let rest = free_from_once d (suc b) n in
    ⊎_elim
    (λ used. subst Once (sym (cond-true _ _ _ used)) rest)
    (λ unused.
    let new = false_from_ne_true (has (free_from d (suc b) n) b) (λ there. omega (arith, (free_from-has d (suc b) n b there).0)) in
    subst Once (sym (cond-false _ _ _ unused)) (once_cons b (free_from d (suc b) n) new rest))
    (cases_Bool (in_use d b))

-- a free block is one for files, on the disk, and not in use
pub free-has : (d : List ℕ) (b : ℕ) → has (free d) b ≡ true → (8 ≤ b) × (b < size d) × (in_use d b ≡ false)
unfolding free
free-has d b is = let r = free_from-has d 8 (size d - 8) b is in (r.0, omega (arith, r.0, r.1), r.2)

pub free_once : (d : List ℕ) → Once (free d)
unfolding free
free_once d = free_from_once d 8 (size d - 8)

-- two files of a sound disk share no block, and no file has one twice
blocks_to_once : (d : List ℕ) (n m : ℕ) → m ≤ n → SoundTo d n → Once (blocks_to d m)
unfolding blocks_to
blocks_to_once d n zero le s = once_nil
blocks_to_once d n (suc i) le s =
    let place : (k : ℕ) → (entry_at d i).used ≡ true → k < length (blocks_of (entry_at d i)) → Place d n i k = λ k used lt. record { entry = omega arith; used = used; within = lt } in
    let before = blocks_to_once d n i (omega arith) s in
    ⊎_elim
    (λ used.
    subst (λ l. Once (blocks_to d i ++ l)) (sym (blocks_at_used d i used)) (once_append (blocks_to d i) (blocks_of (entry_at d i)) before
    (λ k l a b e. (s.one_block i k i l (place k used a) (place l used b) e).1)
    (λ b old new.
    let p = has_places d i b old in
    let q = has_place (blocks_of (entry_at d i)) b new in
    let there : Place d n p.entry p.place = record { entry = omega (arith, p.there.entry); used = p.there.used; within = p.there.within } in
    let same = s.one_block p.entry p.place i q.0 there (place q.0 used q.1) (p.is ∙ sym q.2) in
    omega (arith, same.0, p.there.entry))))
    (λ unused. subst (λ l. Once (blocks_to d i ++ l)) (sym (blocks_at_unused d i unused)) (once_append (blocks_to d i) [] before once_nil (λ b old new. both_ways false refl new)))
    (cases_Bool (entry_at d i).used)

pub distinct_blocks_to : (d : List ℕ) (n : ℕ) → SoundTo d n → Once (blocks_to d n)
distinct_blocks_to d n s = blocks_to_once d n n (omega arith) s

module _ (d : List ℕ) (is : sound d ≡ true) where
  rules : Sound d
  unfolding sound
  rules = (sound_decides d 16 (omega arith)).0 is

  -- a block in use is one for files, on the disk
  pub in_use_range : (b : ℕ) → in_use d b ≡ true → (8 ≤ b) × (b < size d)
  unfolding in_use
  in_use_range b used =
      let p = has_places d 16 b used in (
        subst (λ x. 8 ≤ x) p.is (rules.from_8 p.entry p.place p.there),
        subst (λ x. x < size d) p.is (rules.on_disk p.entry p.place p.there),
      )

  -- the first eight blocks, those in use and the free ones are all
  pub free-length : length (free d) + counted (in_use d) 0 256 + 8 ≡ size d
  unfolding free
  free-length =
      let n = size d - 8 in
      let m = 256 - size d in
      let all : 256 ≡ 8 + (n + m) = omega (arith, rules.least, rules.most) in
      let low : counted (in_use d) 0 8 ≡ 0 = counted_none (in_use d) 0 8 (λ k a b. false_from_ne_true (in_use d k) (λ used. omega (arith, (in_use_range k used).0))) in
      let high : counted (in_use d) (8 + n) m ≡ 0 = counted_none (in_use d) (8 + n) m (λ k a b. false_from_ne_true (in_use d k) (λ used. omega (arith, (in_use_range k used).1))) in
      let split = ap (counted (in_use d) 0) all ∙ counted_split (in_use d) 0 8 (n + m) ∙ ap (λ c. counted (in_use d) 0 8 + c) (counted_split (in_use d) 8 n m) in
      omega (arith, split, length-free_from d 8 n, rules.least)

  -- the blocks in use are as many as the files need
  pub in_use-length : counted (in_use d) 0 256 ≡ length (blocks_to d 16)
  unfolding in_use
  in_use-length = counted_has (blocks_to d 16) 256 (distinct_blocks_to d 16 rules) (λ b used. omega (arith, (in_use_range b used).1, rules.most))

-- the count of a set that has just the blocks in use
pub counts_in_use : (d : List ℕ) (p : ℕ → Bool) → ((b : ℕ) → p b ≡ (has_entries d && in_use d b)) → Counts d (counted p 0 256)
counts_in_use d p just =
    let count : sound d ≡ true → counted p 0 256 ≡ counted (in_use d) 0 256 =
    λ is.
    let s = rules d is in
    let there : has_entries d ≡ true = le-leb 512 (length d) (omega (arith, s.whole, s.least)) in
    counted_same p (in_use d) 0 256 (λ k a b. just k ∙ ap (λ t. t && in_use d k) there) in
    record {
      in_use_count = count;
      needed = λ is. count is ∙ in_use-length d is;
      free_count = λ is. omega (arith, count is, free-length d is);
    }
