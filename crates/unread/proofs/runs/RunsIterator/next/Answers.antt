use Rattle.std.proofs.Common.{length, sym, refl, ◌∙◌}
use Rattle.unread.proofs.Stepping.{none_left, next_run}
use Rattle.unread.proofs.runs.RunsIterator.next.Goals as goal

pub returns-then-start-bytes-clause-steps : goal.returns-then-start-bytes-clause-steps
returns-then-start-bytes-clause-steps c =
    let self = c.args.self.now in
    (refl, none_left self.disk.bytes.now self.at _ c.next_place-start.ensures (c.if-start-bytes.true ∙ (λ j. length (c.bytes.ensures j).now)))

pub returns-clause-steps : goal.returns-clause-steps
returns-clause-steps c =
    let self = c.args.self.now in
    (refl, (next_run self.disk.bytes.now self.at _ _ c.next_place-start.ensures (λ end. c.if-start-bytes.false (end ∙ sym (λ j. length (c.bytes.ensures j).now))) c.next_place-end.ensures, refl))
