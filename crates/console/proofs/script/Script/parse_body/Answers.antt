use Rattle.std.proofs.Common.{is_some, Some, Ok, vec_items, sym, ap, ◌∷◌, ◌++◌, ◌∙◌, ◌≡◌, subst, ◌+◌}
use Rattle.std.specs.Option.{option_map}
use Rattle.std.proofs.lemmas.Bool.{eqb-true}
use Rattle.console.specs.Commands.{clean_lines}
use Rattle.console.specs.Parsed.{items_or_line}
use Rattle.console.proofs.Bodies.{Read, Ended, read_passed, read_line, read_bad, read_behind, ended_empty, ended_verb, all_read}
use Rattle.console.proofs.script.Script.parse_body.Goals as goal
use Rattle.console.proofs.script.Script.parse_body.Goals.{else-loop-heap-test, then-loop-heap-test+then-not-is_passed_over+then-is_some}
use Rattle.console.proofs.script.Script.parse_body.Goals.{then-not-is_passed_over+else-is_some+in-Ok+in_ok-more+in-Some+in_ok-extend_from_slice-in-Some, then-not-is_passed_over+else-is_some+in-Ok+in_ok-more+in-None, then-not-is_passed_over+else-is_some+in_default, else-not-is_passed_over}

pub loop-heap-preserved : goal.loop-heap-preserved
loop-heap-preserved c =
    let n = c.args.self.now.line in
    let ls = clean_lines c.args.self.now.text.now in
    let m = c.loop-heap.self.line in
    let l = c.first_line.result.0.now in
    let ks = clean_lines c.first_line.result.1.now in
    let so_far = subst (Read n ls (items_or_line vec_items c.loop-heap.body) m) c.first_line.ensures.lines c.loop-heap.invariant in
    elim c.if-not-is_passed_over.branch [
      | then-not-is_passed_over+else-is_some+in-Ok+in_ok-more+in-Some+in_ok-extend_from_slice-in-Some w ↦
          let old = vec_items w.in-Ok.bytes in
          let more = w.as_slice.result.now in
          let h = subst (λ b. Read n ls (items_or_line vec_items b) m (l ∷ ks)) w.in-Ok.is so_far in
          let is = ap Some w.as_slice.ensures.value ∙ ap (option_map vec_items) (sym w.in-Some.is) ∙ w.in_ok-more.ensures in
          let grown : vec_items w.extend_from_slice.new.self ≡ old ++ more = w.in_ok-extend_from_slice-in-Some.ensures.items in
          subst (λ b. Read n ls (items_or_line vec_items b) (m + 1) ks) (sym w.body-is) (subst (λ bs. Read n ls (Ok bs) (m + 1) ks) (sym grown) (read_line n ls m l ks w.if-not-is_passed_over.ensures w.verb_of.ensures w.if-is_some.ensures old more h is))
      | then-not-is_passed_over+else-is_some+in-Ok+in_ok-more+in-None w ↦
          let h = subst (λ b. Read n ls (items_or_line vec_items b) m (l ∷ ks)) w.in-Ok.is so_far in
          let is = ap (option_map vec_items) (sym w.in-None.is) ∙ w.in_ok-more.ensures in
          subst (λ b. Read n ls (items_or_line vec_items b) (m + 1) ks) (sym w.body-is) (read_bad n ls m l ks w.if-not-is_passed_over.ensures w.verb_of.ensures w.if-is_some.ensures (vec_items w.in-Ok.bytes) h is)
      | then-not-is_passed_over+else-is_some+in_default w ↦
          let h = subst (λ b. Read n ls (items_or_line vec_items b) m (l ∷ ks)) w.in_default.is so_far in
          subst (λ b. Read n ls (items_or_line vec_items b) (m + 1) ks) (sym (w.body-is ∙ w.in_default.is)) (read_behind n ls m l ks w.if-not-is_passed_over.ensures w.verb_of.ensures w.if-is_some.ensures w.in_default.field-0.line h)
      | else-not-is_passed_over w ↦
          subst (λ b. Read n ls (items_or_line vec_items b) (m + 1) ks) (sym w.body-is) (read_passed n ls m l ks (items_or_line vec_items c.loop-heap.body) so_far (sym w.if-not-is_passed_over.ensures))
    ]

pub returns : goal.returns
returns c =
    let m = c.loop-heap.self.line in
    let u = c.loop-heap.self.text.now in
    let end : Ended m (clean_lines u) = elim c.loop-heap-test.branch [
      | else-loop-heap-test w ↦ ended_empty m u (eqb-true _ _ (sym w.loop-heap-test.ensures))
      | then-loop-heap-test+then-not-is_passed_over+then-is_some w ↦
          ended_verb m u _ _ w.first_line.ensures.lines (sym w.if-not-is_passed_over.ensures) (ap is_some (sym w.verb_of.ensures) ∙ sym w.if-is_some.ensures)
    ] in
    all_read _ c.args.self.now.text.now _ m u end c.loop-heap.invariant
