use Rattle.std.proofs.Common.{◌++◌, vec_items, sym, ap, ◌∙◌, subst}
use Rattle.unread.specs.Unread.{unread}
use Rattle.unread.specs.Runs.{NextRun}
use Rattle.console.specs.Shown.{shown_number}
use Rattle.session.specs.Printed.{pair_line}
use Rattle.session.proofs.Ranges.{ListedTo, listed_none, listed_more, listed_all}
use Rattle.session.proofs.listing.push_unread.Goals as goal

pub loop-run-init : goal.loop-run-init
loop-run-init c =
    let was = vec_items c.args.out.now in
    let begun = c.into_iter-run-iterator.ensures.into_iter_gives in
    let runs = c.of-run-items.ensures in (
      tt,
      tt,
      (λ j. (begun j).disk.bytes.now) ∙ (λ j. (runs.disk j).now),
      subst (ListedTo (unread c.args.disk.bytes.now) was was) (sym ((λ j. (begun j).at) ∙ runs.at)) (listed_none (unread c.args.disk.bytes.now) was),
    )

pub loop-run-preserved : goal.loop-run-preserved
loop-run-preserved c =
    let p = unread c.args.disk.bytes.now in
    let was = vec_items c.args.out.now in
    let out = vec_items c.loop-run.out in
    let now = vec_items c.push_pair.new.out in
    let at = c.loop-run.run-iterator.at in
    let inv = c.loop-run.invariant in
    let r = c.in-Some.run' in
    let step = c.in-Some.ensures.steps in
    let next = subst (λ d. NextRun (unread d) at r) inv.2 step.1.0 in
    let text = c.in_ok-push_pair.ensures ∙ ap (λ n. out ++ pair_line (shown_number r.start) (shown_number n)) c.saturating_sub.ensures in
    (tt, tt, (λ j. (step.0 j).now) ∙ inv.2, subst (ListedTo p was now) (sym step.1.1) (listed_more p was out at inv.3 r now next text))

pub returns : goal.returns
returns c =
    let inv = c.loop-run.invariant in
    listed_all (unread c.args.disk.bytes.now) (vec_items c.args.out.now) (vec_items c.loop-run.out) c.loop-run.run-iterator.at inv.3 (λ k from. ap (λ d. unread d k) (sym inv.2) ∙ c.in-None.ensures.steps.1 k from)
