use Rattle.std.proofs.Common.{◌≡◌, length}
use Rattle.console.specs.Commands.{text_asks}
use Rattle.console.proofs.script.Script.next_command.Given as goal

abbrev pub invariant-loop-heap : goal.invariant-loop-heap
invariant-loop-heap l = text_asks l.initial.self.line l.initial.self.text.now ≡ text_asks l.self.line l.self.text.now

abbrev pub decreases-loop-heap : goal.decreases-loop-heap
decreases-loop-heap l = length l.self.text.now
