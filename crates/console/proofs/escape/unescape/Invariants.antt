use Rattle.std.proofs.Common.{length, vec_items}
use Rattle.console.specs.Names.{Plain, spelled}
use Rattle.console.proofs.Spelling.{ReadTo}
use Rattle.console.proofs.escape.unescape.Given as goal

abbrev pub invariant-loop-rest : goal.invariant-loop-rest
invariant-loop-rest l = ReadTo (spelled Plain l.text) (vec_items l.bytes) (spelled Plain l.rest)

abbrev pub decreases-loop-rest : goal.decreases-loop-rest
decreases-loop-rest l = length l.rest
