-- The promise for every sequence of requests, from what each request does. Assumes nothing.
use Rattle.std.proofs.Common.{◌≡◌, ℕ, Bool, true, false, cond, List, [], ◌∷◌, ◌++◌, length, sym, refl, ap, ◌∙◌, subst, ⊎_elim}
use Rattle.std.proofs.lemmas.Bool.{cases_Bool, cases_lt, cond-true, cond-false, and_from, and_left, and_right, le-leb, lt-leb}
use Rattle.layout.specs.Files.{file}
use Rattle.fsck.specs.Sound.{sound}
use Rattle.update.specs.Writes.{after_writes}
use Rattle.update.specs.Requests.{Asked, Files, lasts, writes, may, step, done, after, changed, should}
use Rattle.update.specs.Promise.{AsDone, AsDoneNext, AllOrNothing}

-- a request leaves a sound disk wherever it is cut off, and is seen whole or not at all
pub record Lawful (d : List ℕ) (a : Asked) : Type 0 where
  pub sound_cut : sound d ≡ true → may d a ≡ true → (n : ℕ) → sound (after_writes n d (writes d a)) ≡ true
  pub whole : AllOrNothing d a

module _ (d : List ℕ) (a : Asked) (l : Lawful d a) (ok : sound d ≡ true) where
  pub sound_step : sound (step d a) ≡ true
  unfolding step
  sound_step =
      ⊎_elim
      (λ begun. ap sound (cond-true _ _ d begun) ∙ l.sound_cut ok begun (lasts a))
      (λ idle. ap sound (cond-false _ (after_writes (lasts a) d (writes d a)) _ idle) ∙ ok)
      (cases_Bool (may d a))

  pub file_step : (y : List ℕ) → file (step d a) y ≡ cond (done d a) (changed (file d) a) (file d) y
  unfolding step done
  file_step y =
      let at : (b : Bool) → done d a ≡ b → cond (done d a) (changed (file d) a) (file d) y ≡ cond b (changed (file d) a) (file d) y = λ b is. ap (λ c. cond c (changed (file d) a) (file d) y) is in
      ⊎_elim
      (λ begun.
      let moved = ap (λ e. file e y) (cond-true (may d a) (after_writes (lasts a) d (writes d a)) d begun) in
      ⊎_elim
      (λ short. moved ∙ (l.whole ok begun (lasts a) y).0 short ∙ sym (at false (and_right (may d a) _ (lt-leb _ _ short))))
      (λ all. moved ∙ (l.whole ok begun (lasts a) y).1 all ∙ sym (at true (and_from _ _ begun (le-leb _ _ all))))
      (cases_lt (lasts a) (length (writes d a))))
      (λ idle. ap (λ e. file e y) (cond-false (may d a) (after_writes (lasts a) d (writes d a)) d idle) ∙ sym (at false (and_left _ _ idle)))
      (cases_Bool (may d a))

-- the promise, of requests that are each lawful
pub as_done : ((d : List ℕ) (a : Asked) → Lawful d a) → (d : List ℕ) (rs : List Asked) → AsDone d rs (after d rs)
unfolding after should
as_done l d [] = record { sound_still = λ ok. ok; files = λ ok y. refl }
as_done l d (a ∷ rs) =
    let rest = as_done l (step d a) rs in
    let files : sound d ≡ true → file (step d a) ≡ cond (done d a) (changed (file d) a) (file d) = λ ok i y. file_step d a (l d a) ok y i in
    record {
      sound_still = λ ok. rest.sound_still (sound_step d a (l d a) ok);
      files = λ ok y. rest.files (sound_step d a (l d a) ok) y ∙ ap (λ (f : Files). should (step d a) f rs y) (files ok);
    }

pub after-append : (d : List ℕ) (rs : List Asked) (a : Asked) → after d (rs ++ a ∷ []) ≡ step (after d rs) a
unfolding after
after-append d [] a = refl
after-append d (r ∷ rs) a = after-append (step d r) rs a

-- the promise for one request more
pub as_done_next : ((d : List ℕ) (a : Asked) → Lawful d a) → (d : List ℕ) (a : Asked) (d₁ : List ℕ) → (sound d ≡ true → d₁ ≡ step d a) → AsDoneNext d a d₁
as_done_next l d a d₁ is d₀ rs ok from =
    let sound_here : sound d ≡ true = ap sound from ∙ (as_done l d₀ rs).sound_still ok in
    let there : after d₀ (rs ++ a ∷ []) ≡ d₁ = after-append d₀ rs a ∙ ap (λ e. step e a) (sym from) ∙ sym (is sound_here) in
    subst (AsDone d₀ (rs ++ a ∷ [])) there (as_done l d₀ (rs ++ a ∷ []))
