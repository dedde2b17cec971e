-- The writes of a command, made on another medium and stopped anywhere. Assumes nothing.
use Rattle.std.proofs.Common.{◌≡◌, ℕ, zero, suc, min, true, false, ◌&&◌, List, [], ◌∷◌, length, take, Option, sym, refl, ap, ◌∙◌, subst, inl, inr, ⊎_elim, arith, length-take}
use Rattle.std.proofs.lemmas.Bool.{cases_Bool, cases_lt, cond-true, cond-false, and_left, and_right, and_from, both_ways, eq-eqb}
use Rattle.layout.specs.Files.{file}
use Rattle.fsck.specs.Sound.{sound}
use Rattle.update.specs.declared.write.Write.{Write}
use Rattle.update.specs.Answers.{good_name, good_file, ask_refusal, put_refusal}
use Rattle.update.specs.Writes.{after_write, after_writes}
use Rattle.update.specs.Putting.{room_for}
use Rattle.update.specs.Requests as r
use Rattle.update.specs.Asking.{begun}
use Rattle.update.proofs.Beginning.{accepted}
use Rattle.update.proofs.PlanWrites.{after_all}
use Rattle.update.proofs.Performing.{lawful, ask_good, put_good}
use Rattle.console.specs.Commands.{Said, disk, power, put, away, read, entry, list, check, unread, map_of, bad}
use Rattle.session.specs.Obeyed.{lasting, asked_of, made_writes, disk_after, writes_of}
use Rattle.session.specs.Kept.{Stopped, StoppedAt}

after_none : (k : ℕ) (d : List ℕ) → after_writes k d [] ≡ d
unfolding after_writes
after_none zero d = refl
after_none (suc k) d = refl

-- of as many writes as power lasts for, so many are made
after-take : (k n : ℕ) (d : List ℕ) (ws : List Write) → after_writes k d (take n ws) ≡ after_writes (min k n) d ws
unfolding after_writes
after-take zero n d ws = let none : min 0 n ≡ 0 = omega arith in ap (λ m. after_writes m d ws) (sym none)
after-take (suc k) zero d ws = let none : min (suc k) 0 ≡ 0 = omega arith in ap (λ m. after_writes m d ws) (sym none)
after-take (suc k) (suc n) d [] = sym (after_none (min (suc k) (suc n)) d)
after-take (suc k) (suc n) d (w ∷ ws) =
    let one : min (suc k) (suc n) ≡ suc (min k n) = omega arith in
    after-take k n (after_write d w) ws ∙ ap (λ m. after_writes m d (w ∷ ws)) (sym one)

-- nothing is written, and the disk is the same
pub stopped_idle : (d : List ℕ) → Stopped d [] d
stopped_idle d = record {
  sound_there = λ ok k. ap sound (after_none k d) ∙ ok;
  either = λ ok k y. inl (ap (λ e. file e y) (after_none k d));
  all = after_none 0 d;
}

-- on a sound disk a request is begun exactly if it may be
may-begun : (d : List ℕ) (a : r.Asked) → sound d ≡ true → begun d a ≡ false → r.may d a ≡ false
unfolding r.may
may-begun d (r.put x c n) ok idle =
    ⊎_elim
    (λ good.
    ⊎_elim
    (λ short. and_right (good_name x) _ (and_right (good_file c) _ (sym (ap (λ b. b && room_for d x c) (eq-eqb (put_refusal d x c) 0 (put_good d x c ok good short))) ∙ idle)))
    (λ long. and_right (good_name x) _ (and_left _ _ long))
    (cases_Bool (good_file c)))
    (λ unnamed. and_left _ _ unnamed)
    (cases_Bool (good_name x))
may-begun d (r.away x n) ok idle =
    ⊎_elim
    (λ good. absurd (both_ways (begun d (r.away x n)) idle (and_from _ _ (eq-eqb (ask_refusal d x) 0 (ask_good d x ok good)) refl)))
    (λ unnamed. unnamed)
    (cases_Bool (good_name x))

-- a request that isn't begun leaves the disk
asked_idle : (d : List ℕ) (a : r.Asked) → begun d a ≡ false → d ≡ asked_of d a
unfolding r.step
asked_idle d a idle =
    ⊎_elim
    (λ ok. sym (cond-true (sound d) _ _ ok ∙ cond-false (r.may d a) _ _ (may-begun d a ok idle)))
    (λ bad'. sym (cond-false (sound d) _ _ bad'))
    (cases_Bool (sound d))

-- one that is makes its writes while power lasts
module _ (d : List ℕ) (a : r.Asked) (is : begun d a ≡ true) where
  n : ℕ
  n = r.lasts a

  ws : List Write
  ws = r.writes d a

  may : r.may d a ≡ true
  may = (accepted d a is).may_be

  left : asked_of d a ≡ after_writes n d ws
  unfolding r.step n ws
  left = cond-true (sound d) _ _ (accepted d a is).is_sound ∙ cond-true (r.may d a) _ _ may

  -- with all that were made
  all_made : after_writes (length (take n ws)) d (take n ws) ≡ after_writes n d ws
  all_made =
      let long : length (take n ws) ≡ min n (length ws) = length-take n ws in
      after-take (length (take n ws)) n d ws
      ∙ ⊎_elim
      (λ lt. ap (λ m. after_writes m d ws) (let same : min (length (take n ws)) n ≡ n = omega arith in same))
      (λ ge. after_all ws d (min (length (take n ws)) n) n (omega arith) ge)
      (cases_lt n (length ws))

  stopped_begun : Stopped d (take n ws) (after_writes n d ws)
  unfolding n ws
  stopped_begun = record {
    sound_there = λ ok k. ap sound (after-take k n d ws) ∙ (lawful d a).sound_cut ok may (min k n);
    either = λ ok k y.
        let here : file (after_writes k d (take n ws)) y ≡ file (after_writes (min k n) d ws) y = ap (λ e. file e y) (after-take k n d ws) in
        let whole = (lawful d a).whole ok may in
        ⊎_elim
        (λ lt. inl (here ∙ (whole (min k n) y).0 lt))
        (λ ge. inr (here ∙ (whole (min k n) y).1 ge ∙ sym ((whole n y).1 (omega arith))))
        (cases_lt (min k n) (length ws));
    all = all_made;
  }

-- a request
pub stopped_asked : (d : List ℕ) (a : r.Asked) → Stopped d (made_writes d a) (asked_of d a)
unfolding made_writes n ws
stopped_asked d a =
    ⊎_elim
    (λ is. subst (λ vs. Stopped d vs (asked_of d a)) (sym (cond-true (begun d a) _ _ is)) (subst (Stopped d _) (sym (left d a is)) (stopped_begun d a is)))
    (λ idle. subst (λ vs. Stopped d vs (asked_of d a)) (sym (cond-false (begun d a) _ _ idle)) (subst (Stopped d []) (asked_idle d a idle) (stopped_idle d)))
    (cases_Bool (begun d a))

pub stopped_at : (d : List ℕ) (p : Option ℕ) (s : Said) (d₁ : List ℕ) → d₁ ≡ disk_after d p s → StoppedAt s d (writes_of d p s) d₁
unfolding disk_after writes_of
stopped_at d p (disk n l) d₁ is = tt
stopped_at d p (put x c) d₁ is = subst (Stopped d _) (sym is) (stopped_asked d (r.put x.bytes c (lasting p)))
stopped_at d p (away x) d₁ is = subst (Stopped d _) (sym is) (stopped_asked d (r.away x.bytes (lasting p)))
stopped_at d p (power n) d₁ is = subst (Stopped d []) (sym is) (stopped_idle d)
stopped_at d p (read x) d₁ is = subst (Stopped d []) (sym is) (stopped_idle d)
stopped_at d p (entry x) d₁ is = subst (Stopped d []) (sym is) (stopped_idle d)
stopped_at d p list d₁ is = subst (Stopped d []) (sym is) (stopped_idle d)
stopped_at d p check d₁ is = subst (Stopped d []) (sym is) (stopped_idle d)
stopped_at d p unread d₁ is = subst (Stopped d []) (sym is) (stopped_idle d)
stopped_at d p map_of d₁ is = subst (Stopped d []) (sym is) (stopped_idle d)
stopped_at d p (bad o q l) d₁ is = subst (Stopped d []) (sym is) (stopped_idle d)
