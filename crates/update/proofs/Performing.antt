-- Requests performed one after the other. Assumes nothing.
use Rattle.std.proofs.Common.{◌≡◌, ℕ, true, false, cond, ◌&&◌, List, [], ◌∷◌, sym, refl, ap, ◌∙◌, subst, ⊎_elim}
use Rattle.std.proofs.lemmas.Bool.{cases_Bool, cond-true, cond-false, and_left, and_right, and_cases}
use Rattle.fsck.specs.Sound.{sound}
use Rattle.update.specs.declared.answer.Done.{Done}
use Rattle.update.specs.Answers.{good_name, good_file, ask_refusal, put_refusal}
use Rattle.update.specs.Putting.{room_for}
use Rattle.update.specs.Asking.{refusal, roomy}
use Rattle.update.specs.Requests.{Asked, put, away, may, step, after}
use Rattle.update.specs.Said.{Says}
use Rattle.update.proofs.Sequences.{Lawful, sound_step}
use Rattle.update.proofs.TakingAway.{away_lawful}
use Rattle.update.proofs.PuttingLaw.{put_lawful}

pub lawful : (d : List ℕ) (a : Asked) → Lawful d a
lawful d (put x c n) = put_lawful d x c n
lawful d (away x n) = away_lawful d x n

pub ask_unsound : (d x : List ℕ) → sound d ≡ false → ask_refusal d x ≡ 1
unfolding ask_refusal
ask_unsound d x bad = cond-false _ _ _ bad

pub ask_good : (d x : List ℕ) → sound d ≡ true → good_name x ≡ true → ask_refusal d x ≡ 0
unfolding ask_refusal
ask_good d x ok good = cond-true _ _ _ ok ∙ cond-true _ _ _ good

pub ask_bad : (d x : List ℕ) → sound d ≡ true → good_name x ≡ false → ask_refusal d x ≡ 2
unfolding ask_refusal
ask_bad d x ok bad = cond-true _ _ _ ok ∙ cond-false _ _ _ bad

pub put_unsound : (d x c : List ℕ) → sound d ≡ false → put_refusal d x c ≡ 1
unfolding put_refusal
put_unsound d x c bad = cond-false _ _ _ bad

pub put_bad : (d x c : List ℕ) → sound d ≡ true → good_name x ≡ false → put_refusal d x c ≡ 2
unfolding put_refusal
put_bad d x c ok bad = cond-true _ _ _ ok ∙ cond-false _ _ _ bad

pub put_long : (d x c : List ℕ) → sound d ≡ true → good_name x ≡ true → good_file c ≡ false → put_refusal d x c ≡ 3
unfolding put_refusal
put_long d x c ok good long = cond-true _ _ _ ok ∙ cond-true _ _ _ good ∙ cond-false _ _ _ long

-- the disk and the name are looked at as for any request
pub put_asks : (d x c : List ℕ) → (sound d && good_name x) ≡ false → put_refusal d x c ≡ ask_refusal d x
unfolding put_refusal ask_refusal
put_asks d x c unfit =
    ⊎_elim
    (λ bad. cond-false _ _ _ bad ∙ sym (cond-false _ _ _ bad))
    (λ bad.
    ap (λ (n : ℕ). cond (sound d) n 1) (cond-false (good_name x) (cond (good_file c) 0 3) 2 bad ∙ sym (cond-false (good_name x) 0 2 bad)))
    (and_cases _ _ unfit)

pub put_good : (d x c : List ℕ) → sound d ≡ true → good_name x ≡ true → good_file c ≡ true → put_refusal d x c ≡ 0
unfolding put_refusal
put_good d x c ok good short = cond-true _ _ _ ok ∙ cond-true _ _ _ good ∙ cond-true _ _ _ short

step_idle : (d : List ℕ) (a : Asked) → may d a ≡ false → d ≡ step d a
unfolding step
step_idle d a idle = sym (cond-false _ _ _ idle)

-- whatever a request answers, a sound disk is then the one that the definitions say
pub says_step : (d : List ℕ) (a : Asked) (r : Done) (d₁ : List ℕ) → sound d ≡ true → Says (refusal d a) d a (roomy d a) r d₁ → d₁ ≡ step d a
unfolding may
says_step d (put x c n) r d₁ ok says =
    ⊎_elim
    (λ good.
    ⊎_elim
    (λ short.
    let told : Says 0 d (put x c n) (room_for d x c) r d₁ = subst (λ k. Says k d (put x c n) (room_for d x c) r d₁) (put_good d x c ok good short) says in
    ⊎_elim
    (λ room. let made : Says 0 d (put x c n) true r d₁ = subst (λ b. Says 0 d (put x c n) b r d₁) room told in made.0)
    (λ full. let left : Says 0 d (put x c n) false r d₁ = subst (λ b. Says 0 d (put x c n) b r d₁) full told in left.1 ∙ step_idle d (put x c n) (and_right (good_name x) _ (and_right (good_file c) _ full)))
    (cases_Bool (room_for d x c)))
    (λ long. (subst (λ k. Says k d (put x c n) (room_for d x c) r d₁) (put_long d x c ok good long) says).1 ∙ step_idle d (put x c n) (and_right (good_name x) _ (and_left _ _ long)))
    (cases_Bool (good_file c)))
    (λ bad. (subst (λ k. Says k d (put x c n) (room_for d x c) r d₁) (put_bad d x c ok bad) says).1 ∙ step_idle d (put x c n) (and_left _ _ bad))
    (cases_Bool (good_name x))
says_step d (away x n) r d₁ ok says =
    ⊎_elim
    (λ good. (subst (λ k. Says k d (away x n) true r d₁) (ask_good d x ok good) says).0)
    (λ bad. (subst (λ k. Says k d (away x n) true r d₁) (ask_bad d x ok bad) says).1 ∙ step_idle d (away x n) bad)
    (cases_Bool (good_name x))

-- and one that isn't sound is as it was
pub says_unsound : (d : List ℕ) (a : Asked) (r : Done) (d₁ : List ℕ) → sound d ≡ false → Says (refusal d a) d a (roomy d a) r d₁ → d₁ ≡ d
says_unsound d (put x c n) r d₁ bad says = (subst (λ k. Says k d (put x c n) (room_for d x c) r d₁) (put_unsound d x c bad) says).1
says_unsound d (away x n) r d₁ bad says = (subst (λ k. Says k d (away x n) true r d₁) (ask_unsound d x bad) says).1

-- some requests were performed, and these are left
pub record Sofar (d : List ℕ) (rs : List Asked) (now : List ℕ) (left : List Asked) : Type 0 where
  pub still : sound d ≡ true → sound now ≡ true
  pub rest : sound d ≡ true → after now left ≡ after d rs
  pub untouched : sound d ≡ false → now ≡ d

pub sofar_more : (d : List ℕ) (rs : List Asked) (now : List ℕ) (a : Asked) (left : List Asked) (r : Done) (next : List ℕ) → Sofar d rs now (a ∷ left) → Says (refusal now a) now a (roomy now a) r next → Sofar d rs next left
unfolding after
sofar_more d rs now a left r next so_far says = record {
  still = λ ok. ap sound (says_step now a r next (so_far.still ok) says) ∙ sound_step now a (lawful now a) (so_far.still ok);
  rest = λ ok. ap (λ e. after e left) (says_step now a r next (so_far.still ok) says) ∙ so_far.rest ok;
  untouched = λ bad. says_unsound now a r next (ap sound (so_far.untouched bad) ∙ bad) says ∙ so_far.untouched bad;
}

pub after_no_more : (d : List ℕ) → after d [] ≡ d
unfolding after
after_no_more d = refl
