use Rattle.std.proofs.Common.{◌≡◌, [], length, sym, ap, subst, arith}
use Rattle.std.specs.Iterator.{YieldsFirst}
use Rattle.std.proofs.iter.Next.{firm}
use Rattle.std.proofs.lemmas.List.{drop_all}
use Rattle.update.specs.Plans.{plan_writes, writes_left}
use Rattle.update.proofs.PlanWrites.{nth_within, nth_beyond, drop_write, few_planned}
use Rattle.update.proofs.writes.WritesIterator.next.Goals as goal

pub returns-in_err-write-clause-steps : goal.returns-in_err-write-clause-steps
returns-in_err-write-clause-steps c =
    let s = c.args.self.now in
    let none : writes_left s ≡ [] = drop_all s.given (plan_writes s.plan.now) (nth_beyond (plan_writes s.plan.now) s.given c.in_err-write.ensures) in
    subst (λ r. YieldsFirst writes_left s r s) (sym c.from_residual.ensures) (none, none)

pub overflow_add-self : goal.overflow_add-self
overflow_add-self c =
    let s = c.args.self.now in
    omega (arith, nth_within (plan_writes s.plan.now) s.given c.in_ok-write.write c.in_ok-write.ensures, few_planned s.plan.now)

pub returns-clause-steps : goal.returns-clause-steps
returns-clause-steps c =
    let s = c.args.self.now in
    drop_write (plan_writes s.plan.now) s.given c.in_ok-write.write c.in_ok-write.ensures

pub returns-clause-goes : goal.returns-clause-goes
returns-clause-goes c =
    let s = c.args.self.now in
    let more = drop_write (plan_writes s.plan.now) s.given c.in_ok-write.write c.in_ok-write.ensures in
    firm (tt, tt, omega (arith, ap length more)) (λ h. h)
