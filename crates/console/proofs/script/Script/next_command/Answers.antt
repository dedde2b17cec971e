use Rattle.std.proofs.Common.{◌≡◌, ◌∷◌, Some, vec_items, sym, ap, ◌∙◌}
use Rattle.console.specs.Words.{behind}
use Rattle.console.specs.Verbs.{verb}
use Rattle.console.specs.Commands.{said, asks, text_asks}
use Rattle.console.specs.Parsed.{items_or_line}
use Rattle.console.proofs.Commands.{asks_put, asks_other}
use Rattle.console.proofs.script.Script.next_command.Goals as goal
use Rattle.console.proofs.script.Script.next_command.Goals.{in-Put+in_ok-body-in-Put, in_default-verb}

pub returns-in-loop-heap : goal.returns-in-loop-heap
returns-in-loop-heap c =
    let n = c.loop-heap.self.line in
    let t = c.loop-heap.self.text.now in
    let l = c.first_line.result.0.now in
    let u = c.first_line.result.1.now in
    let v = c.in-Some.verb in
    let self = c.match-verb.self in
    let body = items_or_line vec_items c.match-verb.body in
    let first = c.first_line.ensures.lines in
    let counts = sym c.if-is_passed_over.ensures in
    let some = ap verb (sym c.split_word.ensures.first) ∙ sym c.of.ensures ∙ c.in-Some.is in
    let command : said c.in_ok-command.field-0 ≡ asks v n (behind l) body = c.in_ok-command.ensures ∙ ap (λ r. asks v n r body) c.split_word.ensures.rest in
    let asked : text_asks n t ≡ asks v n (behind l) body ∷ text_asks self.line self.text.now = elim c.match-verb.branch [
      | in-Put+in_ok-body-in-Put w ↦
          asks_put n t l u first counts (some ∙ ap Some w.in-Put.is) w.in_ok-body-in-Put.ensures
          ∙ (λ i. asks (sym w.in-Put.is i) n (behind l) (items_or_line vec_items (sym w.body-is i)) ∷ text_asks (sym w.self-is i).line (sym w.self-is i).text.now)
      | in_default-verb w ↦
          asks_other n t l u first counts v body some w.in_default-verb.not-Put
          ∙ (λ i. asks v n (behind l) body ∷ text_asks (sym w.self-is i).line (sym w.self-is i).text.now)
    ] in
    c.loop-heap.invariant ∙ asked ∙ ap (λ s. s ∷ text_asks self.line self.text.now) (sym command)
