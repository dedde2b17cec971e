use Rattle.std.proofs.Common.{vec_items}
use Rattle.console.proofs.Printing.{CharsTo}
use Rattle.console.proofs.show.push_chars.Given as goal

abbrev pub invariant-loop-b : goal.invariant-loop-b
invariant-loop-b l = CharsTo (vec_items l.initial.out) l.bytes (vec_items l.out) l.b-index
