use Rattle.std.proofs.Common.{[], ◌∷◌, ◌++◌, vec_items, codes, ap, ◌∙◌}
use Rattle.update.specs.Answers.{number}
use Rattle.console.specs.Shown.{shown_number}
use Rattle.session.specs.Printed.{line, refused_line}
use Rattle.session.proofs.Texts.{behind, made_behind}
use Rattle.session.proofs.answers.push_refused.Goals as goal

pub returns : goal.returns
unfolding refused_line
returns c =
    let n = shown_number (number c.args.refusal) in
    let p = shown_number c.args.place in
    let at_place = codes " at " ++ line p in
    let numbered = c.in_ok-push_number.ensures.text ∙ ap (λ m. vec_items c.extend_from_slice.new.self ++ shown_number m) c.number.ensures in
    made_behind c.extend_from_slice-3.result _ _ _ _ c.extend_from_slice-3.ensures.items
    (behind _ p (10 ∷ []) c.in_ok-push_number-2.ensures.text
    ∙ behind _ (codes " at ") (line p) c.in_ok-extend_from_slice-2.ensures.items
    ∙ behind _ n at_place numbered
    ∙ behind _ (codes "refused ") (n ++ at_place) c.in_ok-extend_from_slice.ensures.items)
