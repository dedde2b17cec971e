use Rattle.std.proofs.Common.{◌∙◌, arith}
use Rattle.console.specs.Shown.{shown_bytes}
use Rattle.console.proofs.Printing.{line_shown, shown_all}
use Rattle.console.proofs.ReadBack.{bytes_read_back}
use Rattle.console.proofs.show.push_bytes.Goals as goal

pub loop-line-preserved : goal.loop-line-preserved
loop-line-preserved c =
    let so_far = c.loop-line.invariant in
    let size = so_far.2 in
    let steps = c.in-Some.ensures.steps in
    (omega (arith, steps.0, size), tt, steps.0 ∙ size, line_shown _ c.args.bytes.now _ _ so_far.3 _ c.in-Some.line.now _ _ size steps.1.0 steps.1.1 steps.1.2 c.in_ok-push_line.ensures)

pub returns-in_err-push_line-clause-back : goal.returns-in_err-push_line-clause-back
returns-in_err-push_line-clause-back c = bytes_read_back c.args.bytes.now (λ k. (c.type_inv.bytes k).fits)

pub returns-clause-text : goal.returns-clause-text
unfolding shown_bytes
returns-clause-text c = shown_all _ c.args.bytes.now _ _ c.loop-line.invariant.3 c.in-None.ensures.steps.1.0

pub returns-clause-back : goal.returns-clause-back
returns-clause-back c = bytes_read_back c.args.bytes.now (λ k. (c.type_inv.bytes k).fits)
