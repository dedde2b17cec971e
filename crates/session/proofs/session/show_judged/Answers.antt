use Rattle.std.proofs.Common.{◌++◌, vec_items, ap, ◌∙◌, subst}
use Rattle.fsck.specs.Faults.{place}
use Rattle.std.proofs.lemmas.Result.{IfOk-weaker}
use Rattle.update.specs.declared.answer.Refusal.TheVariants.{Unsound}
use Rattle.console.specs.Commands.{said_of}
use Rattle.session.specs.Obeyed.{fault_of}
use Rattle.session.specs.Printed.{refused_line}
use Rattle.session.specs.Prints.{Shows}
use Rattle.session.specs.Answered.{AnswersOf}
use Rattle.session.proofs.Obeying.{behind_as, printed, answered, printed_fault, fault_asked}
use Rattle.session.proofs.session.show_judged.Goals as goal

pub returns-in-Ok-clause-text : goal.returns-in-Ok-clause-text
returns-in-Ok-clause-text c =
    let d = c.args.disk.now in
    let s = said_of c.args.question in
    let none = fault_asked d c.args.question ∙ c.in-Ok.ensures.faultless in
    IfOk-weaker c.show.result _ _
    (λ _ so p. behind_as (λ t fits. printed (fault_of d s) t (Shows d p s t) none (subst (λ e. Shows e p s t) (λ j. (c.in-Ok.ensures.answer.1 j).now) fits)) (so p))
    c.show.ensures.text

pub returns-in-Ok-clause-answer : goal.returns-in-Ok-clause-answer
returns-in-Ok-clause-answer c =
    let d = c.args.disk.now in
    let s = said_of c.args.question in
    let none = fault_asked d c.args.question ∙ c.in-Ok.ensures.faultless in
    IfOk-weaker c.show.result _ _
    (λ done so p. answered (fault_of d s) done (AnswersOf d p s done) none (subst (λ e. AnswersOf e p s done) (λ j. (c.in-Ok.ensures.answer.1 j).now) (so p)))
    c.show.ensures.answer

pub returns-in-Err-clause-text : goal.returns-in-Err-clause-text
returns-in-Err-clause-text c =
    let d = c.args.disk.now in
    let s = said_of c.args.question in
    let found = fault_asked d c.args.question ∙ c.in-Err.ensures.place in
    IfOk-weaker c.refuse.result _ _
    (λ _ is p. printed_fault (fault_of d s) (place c.in-Err.fault) (λ t. Shows d p s t) _ _ found (is ∙ ap (λ n. vec_items c.args.out.now ++ refused_line Unsound n) c.place.ensures))
    c.refuse.ensures.text
