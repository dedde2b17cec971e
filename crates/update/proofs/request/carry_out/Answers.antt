use Rattle.std.proofs.Common.{◌≡◌, ◌<◌, length, sym, ap, ◌∙◌, arith}
use Rattle.std.proofs.lemmas.Bool.{ltb-true, ltb-false}
use Rattle.update.specs.Writes.{after_writes}
use Rattle.update.specs.Plans.{writes_left}
use Rattle.update.proofs.Places.{after_none, after_nothing}
use Rattle.update.proofs.PlanWrites.{first_on_disk, rest_on_disk, after_first}
use Rattle.update.proofs.request.carry_out.Goals as goal

pub write_powered-requires : goal.write_powered-requires
write_powered-requires c = omega (arith, first_on_disk _ _ _ c.in-Some.ensures.steps c.args.disk.now c.loop-write.invariant.fit, c.loop-write.auto.disk)

pub returns-then-not-write_powered-clause-disk : goal.returns-then-not-write_powered-clause-disk
returns-then-not-write_powered-clause-disk c =
    let made = c.if-not-write_powered.ensures in
    let off : c.loop-write.power ≡ 0 = omega (arith, ltb-false 0 c.loop-write.power (sym made.made)) in
    made.disk ∙ sym (c.loop-write.invariant.disk ∙ ap (λ n. after_writes n c.loop-write.disk (writes_left c.loop-write.write-iterator)) off ∙ after_nothing c.loop-write.disk (writes_left c.loop-write.write-iterator))

pub loop-write-preserved : goal.loop-write-preserved
loop-write-preserved c =
    let inv = c.loop-write.invariant in
    let first = c.in-Some.ensures.steps in
    let made = c.if-not-write_powered.ensures in
    let on : 0 < c.loop-write.power = ltb-true 0 c.loop-write.power (sym made.made) in
    record {
      can = tt;
      ends = tt;
      fit = rest_on_disk _ _ _ first c.args.disk.now inv.fit;
      disk = inv.disk ∙ after_first _ _ _ first c.loop-write.disk c.loop-write.power _ on made.power ∙ ap (λ e. after_writes c.write_powered.new.power e (writes_left c.next.new.self)) (sym made.disk);
      count = omega (arith, inv.count, ap length first, made.power);
    }

pub returns-clause-disk : goal.returns-clause-disk
returns-clause-disk c = sym (c.loop-write.invariant.disk ∙ ap (after_writes c.loop-write.power c.loop-write.disk) c.in-None.ensures.steps.0 ∙ after_none c.loop-write.power c.loop-write.disk)
