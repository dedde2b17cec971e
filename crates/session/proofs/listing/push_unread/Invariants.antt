use Rattle.std.proofs.Common.{◌≡◌, vec_items}
use Rattle.unread.specs.Unread.{unread}
use Rattle.session.proofs.Ranges.{ListedTo}
use Rattle.session.proofs.listing.push_unread.Given as goal

abbrev pub invariant-loop-run : goal.invariant-loop-run
invariant-loop-run l =
    (goal.iterator-loop-run).can_next l.run-iterator ×
    (goal.iterator-loop-run).is_finite l.run-iterator ×
    (l.run-iterator.disk.bytes.now ≡ l.fn.disk.bytes.now) × ListedTo (unread l.fn.disk.bytes.now) (vec_items l.initial.out) (vec_items l.out) l.run-iterator.at
