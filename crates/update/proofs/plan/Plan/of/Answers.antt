use Rattle.std.proofs.Common.{◌≡◌, ℕ, Bor, List, length, Ok, Err, sym, refl, ap, ◌∙◌, subst}
use Rattle.std.proofs.lemmas.Bool.{le-leb, lt-leb}
use Rattle.layout.specs.declared.name.Name.{Name}
use Rattle.update.specs.declared.answer.Refusal.TheVariants.{TooLong}
use Rattle.update.specs.declared.answer.Done.TheVariants.{Refused}
use Rattle.update.specs.Requests.{put, away, take_writes, writes}
use Rattle.update.specs.Asking.{asked}
use Rattle.update.specs.Plans.{plan_writes, PutPlan, PlanSays}
use Rattle.update.proofs.Admission.{admitted_ok, admitted_err}
use Rattle.update.proofs.Performing.{put_asks, put_long, put_good}
use Rattle.update.proofs.Beginning.{plan_refused, plan_passed, plan_put, plan_made}
use Rattle.update.proofs.plan.Plan.of.Goals as goal

pub returns-in_err-disk-in-Put : goal.returns-in_err-disk-in-Put
returns-in_err-disk-in-Put c =
    let d = c.args.disk.now in
    let x = c.in-Put.name.now in
    let xs = c.in-Put.content.now in
    let turned = admitted_err d x c.in_err-disk-in-Put.field-0.0 (sym c.in_err-disk-in-Put.ensures) in
    subst (λ a. PlanSays d a c.from_residual.result) (sym (ap asked c.in-Put.is)) (plan_passed d (put x xs c.in-Put.lasts) _ _ c.from_residual.ensures.1 (put_asks d x xs turned.unfit ∙ turned.why))

pub returns-in_err-disk-in-Away : goal.returns-in_err-disk-in-Away
returns-in_err-disk-in-Away c =
    let d = c.args.disk.now in
    let x = c.in-Away.name.now in
    let turned = admitted_err d x c.in_err-disk-in-Away.field-0.0 (sym c.in_err-disk-in-Away.ensures) in
    subst (λ a. PlanSays d a c.from_residual-in_err-disk-in-Away.result) (sym (ap asked c.in-Away.is)) (plan_passed d (away x c.in-Away.lasts) _ _ c.from_residual-in_err-disk-in-Away.ensures.1 turned.why)

pub returns-then-content-gt-LONGEST : goal.returns-then-content-gt-LONGEST
returns-then-content-gt-LONGEST c =
    let d = c.args.disk.now in
    let x = c.in-Put.name.now in
    let xs = c.in-Put.content.now in
    let in' = admitted_ok d x c.in_ok-disk-in-Put.name (sym c.in_ok-disk-in-Put.ensures.1) in
    let long = put_long d x xs in'.sound_disk in'.eleven (lt-leb (length xs) 1024 c.if-content-gt-LONGEST.true) in
    subst (λ a. PlanSays d a (Err (Refused TooLong))) (sym (ap asked c.in-Put.is)) (plan_refused d (put x xs c.in-Put.lasts) TooLong long)

pub returns-else-content-gt-LONGEST : goal.returns-else-content-gt-LONGEST
returns-else-content-gt-LONGEST c =
    let d = c.args.disk.now in
    let x = c.in-Put.name.now in
    let xs = c.in-Put.content.now in
    let told = c.in_ok-disk-in-Put.ensures in
    let in' = admitted_ok d x c.in_ok-disk-in-Put.name (sym told.1) in
    let fine = put_good d x xs in'.sound_disk in'.eleven (le-leb (length xs) 1024 c.if-content-gt-LONGEST.false) in
    let plan : PutPlan d x xs c.of_put.result = subst (λ (m : Name). PutPlan d m.bytes xs c.of_put.result) in'.name (subst (λ (b : Bor (List ℕ)). PutPlan b.now c.in_ok-disk-in-Put.name.bytes xs c.of_put.result) told.0 c.of_put.ensures) in
    subst (λ a. PlanSays d a c.ok_or.result) (sym (ap asked c.in-Put.is)) (subst (PlanSays d (put x xs c.in-Put.lasts)) (sym c.ok_or.ensures.value) (plan_put d x xs c.in-Put.lasts c.of_put.result fine plan))

pub returns-in_ok-disk-in-Away : goal.returns-in_ok-disk-in-Away
unfolding writes
returns-in_ok-disk-in-Away c =
    let d = c.args.disk.now in
    let x = c.in-Away.name.now in
    let told = c.in_ok-disk-in-Away.ensures in
    let in' = admitted_ok d x c.in_ok-disk-in-Away.name (sym told.1) in
    let ws : plan_writes c.of_away.result ≡ take_writes d x = c.of_away.ensures ∙ (λ j. take_writes (told.0 j).now (in'.name j).bytes) in
    subst (λ a. PlanSays d a (Ok c.of_away.result)) (sym (ap asked c.in-Away.is)) (plan_made d (away x c.in-Away.lasts) c.of_away.result in'.unrefused refl ws)
