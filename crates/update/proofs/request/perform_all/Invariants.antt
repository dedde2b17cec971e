use Rattle.std.proofs.Common.{map, drop}
use Rattle.update.specs.Asking.{asked}
use Rattle.update.proofs.Performing.{Sofar}
use Rattle.update.proofs.request.perform_all.Given as goal

abbrev pub invariant-loop-request : goal.invariant-loop-request
invariant-loop-request l = Sofar l.initial.disk (map asked l.requests) l.disk (map asked (drop l.request-index l.requests))
