use Rattle.std.proofs.Common.{◌≡◌, ℕ, ◌-◌, ◌<◌, ◌≤◌, not, length}
use Rattle.unread.specs.Unread.{unread}
use Rattle.unread.proofs.runs.next_place.Given as goal

abbrev pub invariant-loop-at : goal.invariant-loop-at
invariant-loop-at l = (l.initial.at ≤ l.at) × (l.at ≤ length l.disk.bytes.now) × ((k : ℕ) → l.initial.at ≤ k → k < l.at → unread l.disk.bytes.now k ≡ not l.is_unread)

abbrev pub decreases-loop-at : goal.decreases-loop-at
decreases-loop-at l = length l.disk.bytes.now - l.at
