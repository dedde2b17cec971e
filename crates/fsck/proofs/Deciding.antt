-- The computed judgement of a disk decides the rules. Assumes nothing.
use Rattle.std.proofs.Common.{◌≡◌, ℕ, zero, suc, ◌*◌, ◌<◌, ◌≤◌, Bool, true, false, not, ◌&&◌, ◌||◌, eqb, ltb, leb, List, [], ◌∷◌, length, get_or, Decides, sym, refl, ap, ◌∙◌, subst, ⊎_elim, arith}
use Rattle.std.proofs.lemmas.Bool.{cases_Bool, cases_eq, cases_lt, both_ways, and_parts, and_from, or_parts, or_from, or_cases, or_left, or_right, not-true, not_from_false, le-leb, leb-true, lt-ltb, ltb-true, eq-eqb, eqb-true, eqb-false, ne_eqb}
use Rattle.layout.specs.declared.name.Name.{Name}
use Rattle.layout.specs.Entries.{as_name, blocks_of}
use Rattle.layout.specs.Files.{entry_bytes, entry_at, find}
use Rattle.layout.proofs.Finding.{find_first}
use Rattle.fsck.specs.Blocks.{size, blocks_to, has}
use Rattle.fsck.specs.Sound.{size_ok, block_ok, blocks_ok, entry_ok, sound_to, sound}
use Rattle.fsck.specs.Rules.{Used, Place, block_of, SoundTo, Sound}
use Rattle.fsck.proofs.Membership.{place_has, has_places}

-- the blocks are in range, unseen, and each there once
pub record Fresh (n : ℕ) (seen : ℕ → Bool) (bs : List ℕ) : Type 0 where
  pub low : (k : ℕ) → k < length bs → 8 ≤ get_or bs k 0
  pub high : (k : ℕ) → k < length bs → get_or bs k 0 < n
  pub unseen : (k : ℕ) → k < length bs → seen (get_or bs k 0) ≡ false
  pub once : (k l : ℕ) → k < length bs → l < length bs → get_or bs k 0 ≡ get_or bs l 0 → k ≡ l

module _ (n : ℕ) (seen : ℕ → Bool) (b : ℕ) (bs : List ℕ) where
  fresh_cons : 8 ≤ b → b < n → seen b ≡ false → Fresh n (λ k. eqb k b || seen k) bs → Fresh n seen (b ∷ bs)
  fresh_cons low high new rest =
      let other : (k : ℕ) → k < length bs → get_or bs k 0 ≡ b → ⊥ = λ k lt. eqb-false (get_or bs k 0) b (or_parts _ _ (rest.unseen k lt)).0 in
      record {
        low = λ k. elim k as (λ m. m < suc (length bs) → 8 ≤ get_or (b ∷ bs) m 0) [ zero ↦ λ lt. low | suc m ↦ λ lt. rest.low m (omega arith) ];
        high = λ k. elim k as (λ m. m < suc (length bs) → get_or (b ∷ bs) m 0 < n) [ zero ↦ λ lt. high | suc m ↦ λ lt. rest.high m (omega arith) ];
        unseen = λ k. elim k as (λ m. m < suc (length bs) → seen (get_or (b ∷ bs) m 0) ≡ false) [ zero ↦ λ lt. new | suc m ↦ λ lt. (or_parts _ _ (rest.unseen m (omega arith))).1 ];
        once = λ k. elim k as (λ m. (l : ℕ) → m < suc (length bs) → l < suc (length bs) → get_or (b ∷ bs) m 0 ≡ get_or (b ∷ bs) l 0 → m ≡ l) [
          | zero ↦ λ l. elim l as (λ o. 0 < suc (length bs) → o < suc (length bs) → b ≡ get_or (b ∷ bs) o 0 → 0 ≡ o) [ zero ↦ λ a c e. refl | suc o ↦ λ a c e. absurd (other o (omega arith) (sym e)) ]
          | suc m ↦ λ l. elim l as (λ o. suc m < suc (length bs) → o < suc (length bs) → get_or bs m 0 ≡ get_or (b ∷ bs) o 0 → suc m ≡ o) [
            | zero ↦ λ a c e. absurd (other m (omega arith) e)
            | suc o ↦ λ a c e. ap suc (rest.once m o (omega arith) (omega arith) e)
          ]
        ];
      }

  fresh_rest : Fresh n seen (b ∷ bs) → Fresh n (λ k. eqb k b || seen k) bs
  fresh_rest f = record {
    low = λ k lt. f.low (suc k) (omega arith);
    high = λ k lt. f.high (suc k) (omega arith);
    unseen = λ k lt. or_from _ _ (ne_eqb _ b (λ e. let z : suc k ≡ 0 = f.once (suc k) 0 (omega arith) (omega arith) e in let none : ⊥ = omega arith in none)) (f.unseen (suc k) (omega arith));
    once = λ k l a c e. let s : suc k ≡ suc l = f.once (suc k) (suc l) (omega arith) (omega arith) e in omega arith;
  }

pub fresh_decides : (n : ℕ) (seen : ℕ → Bool) (bs : List ℕ) → Decides (blocks_ok n seen bs) (Fresh n seen bs)
unfolding block_ok blocks_ok
fresh_decides n seen [] = (
  λ _. record { low = λ k lt. absurd (omega arith); high = λ k lt. absurd (omega arith); unseen = λ k lt. absurd (omega arith); once = λ k l lt. absurd (omega arith) },
  λ _. refl,
)
fresh_decides n seen (b ∷ bs) =
    let rest = fresh_decides n (λ k. eqb k b || seen k) bs in (
      λ is.
          let parts = and_parts (block_ok n seen b) _ is in
          let head = and_parts (leb 8 b) (ltb b n && not (seen b)) parts.0 in
          let more = and_parts (ltb b n) (not (seen b)) head.1 in
          fresh_cons n seen b bs (leb-true 8 b head.0) (ltb-true b n more.0) (not-true (seen b) more.1) (rest.0 parts.1),
      λ f.
          and_from _ _ (and_from _ _ (le-leb 8 b (f.low 0 (omega arith))) (and_from _ _ (lt-ltb b n (f.high 0 (omega arith))) (not_from_false _ (f.unseen 0 (omega arith))))) (rest.1 (fresh_rest n seen b bs f)),
    )

-- entry i, judged against those before it
pub record EntryRight (d : List ℕ) (i : ℕ) : Type 0 where
  pub flag : get_or (entry_bytes d i) 0 0 ≤ 1
  pub short : Used d i → (entry_at d i).len ≤ 1024
  pub first : Used d i → find d (entry_at d i).name.bytes ≡ i
  pub fresh : Used d i → Fresh (size d) (has (blocks_to d i)) (blocks_of (entry_at d i))

pub entry_decides : (d : List ℕ) (i : ℕ) → Decides (entry_ok d i) (EntryRight d i)
unfolding entry_ok
entry_decides d i =
    let e = entry_at d i in
    let fresh = fresh_decides (size d) (has (blocks_to d i)) (blocks_of e) in
    let rules : (e.used ≡ true) → (not e.used || (leb e.len 1024 && (eqb (find d e.name.bytes) i && blocks_ok (size d) (has (blocks_to d i)) (blocks_of e)))) ≡ true → (leb e.len 1024 && (eqb (find d e.name.bytes) i && blocks_ok (size d) (has (blocks_to d i)) (blocks_of e))) ≡ true =
    λ used is. ⊎_elim (λ unused. absurd (both_ways _ (not-true _ unused) used)) (λ r. r) (or_cases (not e.used) _ is) in (
      λ is.
          let parts = and_parts (leb (get_or (entry_bytes d i) 0 0) 1) _ is in
          record {
            flag = leb-true _ 1 parts.0;
            short = λ used. leb-true e.len 1024 (and_parts (leb e.len 1024) _ (rules used parts.1)).0;
            first = λ used. eqb-true _ i (and_parts (eqb (find d e.name.bytes) i) _ (and_parts (leb e.len 1024) _ (rules used parts.1)).1).0;
            fresh = λ used. fresh.0 (and_parts (eqb (find d e.name.bytes) i) _ (and_parts (leb e.len 1024) _ (rules used parts.1)).1).1;
          },
      λ r.
          and_from _ _ (le-leb _ 1 r.flag) (⊎_elim
          (λ used. or_right _ _ (and_from _ _ (le-leb e.len 1024 (r.short used)) (and_from _ _ (eq-eqb _ i (r.first used)) (fresh.1 (r.fresh used)))))
          (λ unused. or_left _ _ (not_from_false _ unused))
          (cases_Bool e.used)),
    )

-- a place among the first n entries is one among more
pub place_more : (d : List ℕ) (n i k : ℕ) → Place d n i k → Place d (suc n) i k
place_more d n i k p = record { entry = omega (arith, p.entry); used = p.used; within = p.within }

place_before : (d : List ℕ) (n i k : ℕ) → Place d (suc n) i k → (i ≡ n → ⊥) → Place d n i k
place_before d n i k p other = record { entry = omega (arith, p.entry); used = p.used; within = p.within }

module _ (d : List ℕ) (i : ℕ) (in_table : i < 16) where
  -- one entry more that is right
  pub sound_more : SoundTo d i → EntryRight d i → SoundTo d (suc i)
  sound_more s r =
      let here : (j : ℕ) → j ≡ i → Used d j → Used d i = λ j same used. subst (Used d) same used in
      let within_here : (j k : ℕ) → j ≡ i → k < length (blocks_of (entry_at d j)) → k < length (blocks_of (entry_at d i)) = λ j k same. subst (λ m. k < length (blocks_of (entry_at d m))) same in
      let at_here : (j k : ℕ) → j ≡ i → block_of d j k ≡ block_of d i k = λ j k. ap (λ m. block_of d m k) in
      let bs = blocks_of (entry_at d i) in
      let new : (j k l : ℕ) → Place d i j k → Used d i → l < length bs → block_of d j k ≡ block_of d i l → ⊥ =
      λ j k l p used lt same. both_ways _ ((r.fresh used).unseen l lt) (ap (has (blocks_to d i)) (sym same) ∙ place_has d i j k p) in
      let first : (j : ℕ) → j < i → Used d j → Used d i → (entry_at d j).name ≡ (entry_at d i).name → ⊥ =
      λ j lt used used_i same. (find_first d (entry_at d i).name.bytes).before j (subst (λ m. j < m) (sym (r.first used_i)) lt) (used, ap (λ (x : Name). x.bytes) same) in
      record {
        whole = s.whole;
        least = s.least;
        most = s.most;
        flag = λ j lt. ⊎_elim (λ same. subst (λ m. get_or (entry_bytes d m) 0 0 ≤ 1) (sym same) r.flag) (λ other. s.flag j (omega arith)) (cases_eq j i);
        short = λ j lt used. ⊎_elim (λ same. subst (λ m. (entry_at d m).len ≤ 1024) (sym same) (r.short (here j same used))) (λ other. s.short j (omega arith) used) (cases_eq j i);
        from_8 = λ j k p. ⊎_elim (λ same. subst (λ m. 8 ≤ block_of d m k) (sym same) ((r.fresh (here j same p.used)).low k (within_here j k same p.within))) (λ other. s.from_8 j k (place_before d i j k p other)) (cases_eq j i);
        on_disk = λ j k p. ⊎_elim (λ same. subst (λ m. block_of d m k < size d) (sym same) ((r.fresh (here j same p.used)).high k (within_here j k same p.within))) (λ other. s.on_disk j k (place_before d i j k p other)) (cases_eq j i);
        one_block = λ a k b l p q same.
            ⊎_elim
            (λ a_new.
            let used = here a a_new p.used in
            let k_in = within_here a k a_new p.within in
            ⊎_elim
            (λ b_new. (a_new ∙ sym b_new, (r.fresh used).once k l k_in (within_here b l b_new q.within) (sym (at_here a k a_new) ∙ same ∙ at_here b l b_new)))
            (λ b_old. absurd (new b l k (place_before d i b l q b_old) used k_in (sym same ∙ at_here a k a_new)))
            (cases_eq b i))
            (λ a_old.
            ⊎_elim
            (λ b_new. absurd (new a k l (place_before d i a k p a_old) (here b b_new q.used) (within_here b l b_new q.within) (same ∙ at_here b l b_new)))
            (λ b_old. s.one_block a k b l (place_before d i a k p a_old) (place_before d i b l q b_old) same)
            (cases_eq b i))
            (cases_eq a i);
        one_name = λ a b a_in b_in a_used b_used same.
            ⊎_elim
            (λ a_new.
            ⊎_elim
            (λ b_new. a_new ∙ sym b_new)
            (λ b_old. absurd (first b (omega arith) b_used (here a a_new a_used) (sym same ∙ ap (λ m. (entry_at d m).name) a_new)))
            (cases_eq b i))
            (λ a_old.
            ⊎_elim
            (λ b_new. absurd (first a (omega arith) a_used (here b b_new b_used) (same ∙ ap (λ m. (entry_at d m).name) b_new)))
            (λ b_old. s.one_name a b (omega arith) (omega arith) a_used b_used same)
            (cases_eq b i))
            (cases_eq a i);
      }

  -- an entry of a sound disk is right
  pub sound_right : SoundTo d (suc i) → EntryRight d i
  sound_right s =
      let place : (k : ℕ) → Used d i → k < length (blocks_of (entry_at d i)) → Place d (suc i) i k = λ k used lt. record { entry = omega arith; used = used; within = lt } in
      record {
        flag = s.flag i (omega arith);
        short = s.short i (omega arith);
        first = λ used.
            let x = (entry_at d i).name in
            let f = find_first d x.bytes in
            let at_most : find d x.bytes ≤ i = ⊎_elim (λ less. absurd (f.before i less (used, refl))) (λ le. le) (cases_lt i (find d x.bytes)) in
            let named = f.here (omega arith) in
            s.one_name (find d x.bytes) i (omega arith) (omega arith) named.0 used (ap as_name named.1);
        fresh = λ used. record {
          low = λ k lt. s.from_8 i k (place k used lt);
          high = λ k lt. s.on_disk i k (place k used lt);
          unseen = λ k lt.
              ⊎_elim
              (λ seen.
              let p = has_places d i (block_of d i k) seen in
              let same = s.one_block p.entry p.place i k (place_more d i _ _ p.there) (place k used lt) p.is in
              absurd (omega (arith, same.0, p.there.entry)))
              (λ unseen. unseen)
              (cases_Bool (has (blocks_to d i) (block_of d i k)));
          once = λ k l k_in l_in same. (s.one_block i k i l (place k used k_in) (place l used l_in) same).1;
        };
      }

  pub sound_fewer : SoundTo d (suc i) → SoundTo d i
  sound_fewer s = record {
    whole = s.whole;
    least = s.least;
    most = s.most;
    flag = λ j lt. s.flag j (omega arith);
    short = λ j lt. s.short j (omega arith);
    from_8 = λ j k p. s.from_8 j k (place_more d i j k p);
    on_disk = λ j k p. s.on_disk j k (place_more d i j k p);
    one_block = λ a k b l p q. s.one_block a k b l (place_more d i a k p) (place_more d i b l q);
    one_name = λ a b a_in b_in. s.one_name a b (omega arith) (omega arith);
  }

size_decides : (d : List ℕ) → Decides (size_ok d) (SoundTo d 0)
unfolding size_ok
size_decides d = (
  λ is.
      let parts = and_parts (eqb (length d) (64 * size d)) _ is in
      let range = and_parts (leb 9 (size d)) (leb (size d) 250) parts.1 in
      record {
        whole = eqb-true _ _ parts.0;
        least = leb-true 9 (size d) range.0;
        most = leb-true (size d) 250 range.1;
        flag = λ i lt. absurd (omega arith);
        short = λ i lt. absurd (omega arith);
        from_8 = λ i k p. absurd (omega (arith, p.entry));
        on_disk = λ i k p. absurd (omega (arith, p.entry));
        one_block = λ i k j l p. absurd (omega (arith, p.entry));
        one_name = λ i j lt. absurd (omega arith);
      },
  λ s. and_from _ _ (eq-eqb _ _ s.whole) (and_from _ _ (le-leb 9 (size d) s.least) (le-leb (size d) 250 s.most)),
)

-- what is computed says just what the rules say
pub sound_decides : (d : List ℕ) (n : ℕ) → n ≤ 16 → Decides (sound_to d n) (SoundTo d n)
unfolding sound_to
sound_decides d zero le = size_decides d
sound_decides d (suc i) le =
    let before = sound_decides d i (omega arith) in (
      λ is.
          let parts = and_parts (sound_to d i) (entry_ok d i) is in
          sound_more d i (omega arith) (before.0 parts.0) ((entry_decides d i).0 parts.1),
      λ s. and_from _ _ (before.1 (sound_fewer d i (omega arith) s)) ((entry_decides d i).1 (sound_right d i (omega arith) s)),
    )

-- the same of the whole disk, each way
pub sound_to_rules : (d : List ℕ) → sound d ≡ true → Sound d
unfolding sound
sound_to_rules d ok = (sound_decides d 16 (omega arith)).0 ok

pub rules_to_sound : (d : List ℕ) → Sound d → sound d ≡ true
unfolding sound
rules_to_sound d s = (sound_decides d 16 (omega arith)).1 s
