use Rattle.std.proofs.Common.{◌≡◌, vec_items}
use Rattle.std.specs.Slice.Iter.{chunks_rest, chunks_size}
use Rattle.console.proofs.Printing.{ShownTo}
use Rattle.console.proofs.show.push_bytes.Given as goal

abbrev pub invariant-loop-line : goal.invariant-loop-line
invariant-loop-line l = goal.iterator-loop-line.can_next l.line-iterator × goal.iterator-loop-line.is_finite l.line-iterator
    × (chunks_size l.line-iterator ≡ 16) × ShownTo (vec_items l.fn.out) l.bytes (vec_items l.out) (chunks_rest l.line-iterator)
