use Rattle.std.proofs.Common.{length, vec_items}
use Rattle.console.specs.Bytes.{line_bytes}
use Rattle.console.proofs.Spelling.{ReadTo}
use Rattle.console.proofs.bytes.parse_bytes.Given as goal

abbrev pub invariant-loop-rest : goal.invariant-loop-rest
invariant-loop-rest l = ReadTo (line_bytes l.line) (vec_items l.bytes) (line_bytes l.rest)

abbrev pub decreases-loop-rest : goal.decreases-loop-rest
decreases-loop-rest l = length l.rest
