use Rattle.std.proofs.Common.{◌≡◌}
use Rattle.update.specs.Listed.{listed}
use Rattle.update.proofs.choose.choose_blocks.Given as goal

abbrev pub invariant-loop-b : goal.invariant-loop-b
invariant-loop-b l =
    (goal.iterator-loop-b).can_next l.b-iterator ×
    (goal.iterator-loop-b).is_finite l.b-iterator ×
    (listed l.chosen ≡ l.yielded)
