use Rattle.std.proofs.Common.{◌++◌, take, vec_items, sym, ap, ◌∙◌, append-nil}
use Rattle.std.proofs.lemmas.Bool.{cond-true, cond-false}
use Rattle.std.proofs.lemmas.Iterator.{YieldsList-from_take}
use Rattle.std.proofs.lemmas.Iterator.Adapters.{fact_from_extend}
use Rattle.std.proofs.lemmas.Iterator.Consumers.{YieldsList-at, YieldsList-from_first}
use Rattle.std.proofs.lemmas.List.{map-id}
use Rattle.update.specs.Plans.{plan_writes, writes_left}
use Rattle.session.specs.Obeyed.{made_writes}
use Rattle.session.proofs.session.log_writes.Goals as goal

-- a request that isn't begun makes no write
pub returns-in_default : goal.returns-in_default
unfolding made_writes
returns-in_default c =
    let log = vec_items c.args.log.now in
    sym (append-nil log) ∙ ap (λ ws. log ++ ws) (sym (cond-false _ _ _ c.in_default.ensures.0))

pub returns : goal.returns
unfolding made_writes
returns c =
    let log = vec_items c.args.log.now in
    let ws = plan_writes c.in-Ok.plan in
    let n = c.lasts.result in
    let told = c.in-Ok.ensures in
    fact_from_extend (λ x. x) c.extend.result c.extend.ensures.ran
    (λ it begun. YieldsList-at begun (YieldsList-from_take n (YieldsList-at c.take.ensures.source (YieldsList-from_first (λ x. x) writes_left ws c.writes.ensures)) c.take.ensures.count))
    (λ xs given added. added.0 ∙ ap (λ l. log ++ l) (sym (map-id xs) ∙ given ∙ (λ j. take (c.lasts.ensures j) (told.1 j)) ∙ sym (cond-true _ _ _ told.0)))
