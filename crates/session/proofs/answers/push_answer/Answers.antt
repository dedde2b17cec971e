use Rattle.std.proofs.Common.{◌≡◌, ℕ, List, ◌++◌, vec_items, sym, ap, ⊎_elim}
use Rattle.update.specs.declared.answer.Done.{Done}
use Rattle.console.proofs.Printing.{made_same}
use Rattle.session.specs.Printed.{answer_line}
use Rattle.session.proofs.Texts.{made_behind}
use Rattle.session.proofs.answers.push_answer.Goals as goal

-- one answer for another that it is
same_answer : (was : List ℕ) (a b : Done) (place : ℕ) → a ≡ b → was ++ answer_line b place ≡ was ++ answer_line a place
same_answer was a b place is = ap (λ x. was ++ answer_line x place) (sym is)

pub returns-in-Finished : goal.returns-in-Finished
unfolding answer_line
returns-in-Finished c =
    made_behind c.extend_from_slice.result _ _ _ _ c.extend_from_slice.ensures.items (same_answer (vec_items c.args.out.now) _ _ c.args.place c.in-Finished.is)

pub returns-in-Cut : goal.returns-in-Cut
unfolding answer_line
returns-in-Cut c =
    made_behind c.extend_from_slice-in-Cut.result _ _ _ _ c.extend_from_slice-in-Cut.ensures.items (same_answer (vec_items c.args.out.now) _ _ c.args.place c.in-Cut.is)

pub returns-in-Full : goal.returns-in-Full
unfolding answer_line
returns-in-Full c =
    made_behind c.extend_from_slice-in-Full.result _ _ _ _ c.extend_from_slice-in-Full.ensures.items (same_answer (vec_items c.args.out.now) _ _ c.args.place c.in-Full.is)

pub returns-in-Refused : goal.returns-in-Refused
unfolding answer_line
returns-in-Refused c = made_same c.push_refused.result _ _ _ (same_answer (vec_items c.args.out.now) _ _ c.args.place c.in-Refused.is) c.push_refused.ensures

pub returns-in-Read : goal.returns-in-Read
unfolding answer_line
returns-in-Read c =
    let same = same_answer (vec_items c.args.out.now) c.args.answer in
    let place = c.args.place in
    made_behind c.extend_from_slice-in-Read.result _ _ _ _ c.extend_from_slice-in-Read.ensures.items
    (⊎_elim (λ read. same _ place read.1) (λ others. ⊎_elim (λ absent. same _ place absent) (λ short. same _ place short.1) others) c.in-Read.is)
