use Rattle.std.proofs.Common.{length, vec_items}
use Rattle.console.specs.Commands.{clean_lines}
use Rattle.console.specs.Parsed.{items_or_line}
use Rattle.console.proofs.Bodies.{Read}
use Rattle.console.proofs.script.Script.parse_body.Given as goal

abbrev pub invariant-loop-heap : goal.invariant-loop-heap
invariant-loop-heap l = Read l.initial.self.line (clean_lines l.initial.self.text.now) (items_or_line vec_items l.body) l.self.line (clean_lines l.self.text.now)

abbrev pub decreases-loop-heap : goal.decreases-loop-heap
decreases-loop-heap l = length l.self.text.now
