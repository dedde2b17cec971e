use Rattle.std.proofs.Common.{◌≡◌, ◌++◌, Some, None, vec_items, sym, refl, ap, ◌∙◌, subst, append-nil}
use Rattle.std.proofs.lemmas.List.{with_items_is}
use Rattle.fsck.specs.Sound.{first_fault}
use Rattle.fsck.specs.Faults.{place}
use Rattle.fsck.proofs.Judging.{unsound_from_some}
use Rattle.update.specs.Asking.{asked, refusal, roomy}
use Rattle.update.specs.Said.{Says}
use Rattle.session.specs.Obeyed.{asked_of}
use Rattle.session.specs.Printed.{answer_line}
use Rattle.session.specs.Prints.{RequestPrints}
use Rattle.session.specs.Answered.{RequestAnswers}
use Rattle.session.proofs.Asking.{made_anyway, says_asked}
use Rattle.session.proofs.Obeying.{nothing_made, printed, answered}
use Rattle.session.proofs.session.Session.ask.Goals as goal

pub returns-in-Some-clause-log : goal.returns-in-Some-clause-log
returns-in-Some-clause-log c =
    let d = vec_items c.args.self.now.disk in
    let log = vec_items c.args.log.now in
    let found : Some (place c.in-Some.fault) ≡ first_fault d = c.in-Some.ensures.places ∙ ap first_fault c.as_slice.ensures.value in
    made_anyway c.refuse.result (sym (append-nil log) ∙ ap (λ ws. log ++ ws) (sym (nothing_made d (asked c.args.request) (unsound_from_some d _ found refl))))

-- what is answered, of the disk as it was
says : (c : goal.In_ok-push_answer) → RequestAnswers (vec_items c.args.self.now.disk) (asked c.args.request) c.perform-answer.result × (c.perform-answer.new.disk ≡ asked_of (vec_items c.args.self.now.disk) (asked c.args.request))
says c =
    let d = vec_items c.args.self.now.disk in
    let a = asked c.args.request in
    let answer = c.perform-answer.result in
    let d₁ = c.perform-answer.new.disk in
    let told : Says (refusal d a) d a (roomy d a) answer d₁ = subst (λ e. Says (refusal e a) e a (roomy e a) answer d₁) c.as_mut_slice.ensures.value c.perform-answer.ensures.says in
    let left = says_asked d a answer d₁ told in
    (subst (Says (refusal d a) d a (roomy d a) answer) left told, left)

faultless : (c : goal.In_ok-push_answer) → first_fault (vec_items c.args.self.now.disk) ≡ None
faultless c = sym (c.in_default.ensures.places ∙ ap first_fault c.as_slice.ensures.value)

pub returns-clause-disk : goal.returns-clause-disk
returns-clause-disk c = with_items_is c.args.self.now.disk c.perform-answer.new.disk (c.perform-answer.auto.disk ∙ c.as_mut_slice.ensures.len) ∙ (says c).1

pub returns-clause-out : goal.returns-clause-out
returns-clause-out c =
    let d = vec_items c.args.self.now.disk in
    let a = asked c.args.request in
    let answer = c.perform-answer.result in
    let t = answer_line answer c.args.place in
    record { text = t; fits = printed (first_fault d) t (RequestPrints d a c.args.place t) (faultless c) (record { answer = answer; says = (says c).0; text = refl }); put_behind = c.in_ok-push_answer.ensures }

pub returns-clause-answer : goal.returns-clause-answer
returns-clause-answer c = answered _ _ _ (faultless c) (says c).0
