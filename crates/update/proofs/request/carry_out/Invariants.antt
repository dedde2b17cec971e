use Rattle.std.proofs.Common.{◌≡◌, ◌+◌, length}
use Rattle.update.specs.Writes.{after_writes}
use Rattle.update.specs.Plans.{plan_writes, writes_left, OnDisk}
use Rattle.update.proofs.request.carry_out.Given as goal

-- what is left leads to where all writes do
abbrev pub invariant-loop-write : goal.invariant-loop-write
invariant-loop-write l = record {
  can : (goal.iterator-loop-write).can_next l.write-iterator;
  ends : (goal.iterator-loop-write).is_finite l.write-iterator;
  fit : OnDisk l.initial.disk (writes_left l.write-iterator);
  disk : after_writes l.lasts l.initial.disk (plan_writes l.plan) ≡ after_writes l.power l.disk (writes_left l.write-iterator);
  count : length (plan_writes l.plan) + l.power ≡ length (writes_left l.write-iterator) + l.lasts;
}
