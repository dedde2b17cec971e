use Rattle.std.proofs.Common.{cond, leb, length, sym, ◌∙◌, subst}
use Rattle.update.specs.declared.answer.Done.TheVariants.{Finished, Cut}
use Rattle.update.specs.Writes.{after_writes}
use Rattle.update.specs.Asking.{asked, refusal, roomy}
use Rattle.update.specs.Plans.{OnDisk}
use Rattle.update.specs.Said.{Says}
use Rattle.update.proofs.Sequences.{as_done_next}
use Rattle.update.proofs.Performing.{lawful, says_step}
use Rattle.update.proofs.Beginning.{accepted, few_writes, on_disk, says_begun}
use Rattle.update.proofs.request.perform.Goals as goal

pub carry_out-requires : goal.carry_out-requires
carry_out-requires c =
    let d = c.args.disk.now in
    let a = asked c.args.request in
    let told = c.in-Ok.ensures in
    let in' = accepted d a told.0 in
    subst (OnDisk d) (sym told.1) (on_disk d a in')

pub returns-in-Ok : goal.returns-in-Ok
returns-in-Ok c =
    let d = c.args.disk.now in
    let a = asked c.args.request in
    let told = c.in-Ok.ensures in
    let says : Says (refusal d a) d a (roomy d a) c.carry_out.result c.carry_out.new.disk = says_begun d a _ _ (accepted d a told.0)
    (c.carry_out.ensures.disk ∙ (λ j. after_writes (c.lasts.ensures j) d (told.1 j)))
    (c.carry_out.ensures.answer ∙ (λ j. cond (leb (length (told.1 j)) (c.lasts.ensures j)) Finished Cut)) in
    record { says = says; promise = as_done_next lawful d a _ (λ ok. says_step d a _ _ ok says); whole = (lawful d a).whole; few = few_writes d a }

pub returns-in-Err : goal.returns-in-Err
returns-in-Err c =
    let d = c.args.disk.now in
    let a = asked c.args.request in
    let says = c.in-Err.ensures.1 in
    record { says = says; promise = as_done_next lawful d a _ (λ ok. says_step d a _ _ ok says); whole = (lawful d a).whole; few = few_writes d a }
