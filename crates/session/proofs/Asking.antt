-- What a request leaves, whatever it answers. Assumes nothing.
use Rattle.std.proofs.Common.{◌≡◌, ℕ, List, IfOk, Ok, Err, Result, sym, ◌∙◌, ⊎_elim}
use Rattle.std.proofs.lemmas.Bool.{cases_Bool, cond-true, cond-false}
use Rattle.fsck.specs.Sound.{sound}
use Rattle.update.specs.declared.answer.Done.{Done}
use Rattle.update.specs.Asking.{refusal, roomy}
use Rattle.update.specs.Requests.{Asked}
use Rattle.update.specs.Said.{Says}
use Rattle.update.proofs.Performing.{says_step, says_unsound}
use Rattle.session.specs.Obeyed.{asked_of}

-- what holds in any case holds if all went well
pub made_anyway : {T E P : Type 0} (r : Result T E) → P → IfOk r (λ _. P)
made_anyway (Ok x) p = p
made_anyway (Err e) p = tt

pub says_asked : (d : List ℕ) (a : Asked) (r : Done) (d₁ : List ℕ) → Says (refusal d a) d a (roomy d a) r d₁ → d₁ ≡ asked_of d a
says_asked d a r d₁ says =
    ⊎_elim
    (λ ok. says_step d a r d₁ ok says ∙ sym (cond-true (sound d) _ _ ok))
    (λ bad. says_unsound d a r d₁ bad says ∙ sym (cond-false (sound d) _ _ bad))
    (cases_Bool (sound d))
