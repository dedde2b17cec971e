use Rattle.std.proofs.Common.{drop, Some, sym, ap, ◌∙◌, ◌+◌}
use Rattle.std.proofs.lemmas.Bool.{eqb-false}
use Rattle.std.proofs.lemmas.List.{at_drop_more}
use Rattle.console.specs.Numbers.{more_digits}
use Rattle.console.proofs.Digits.{decimal_of_some, more_none}
use Rattle.console.proofs.number.parse_decimal.Goals as goal

pub loop-b-init : goal.loop-b-init
loop-b-init c = decimal_of_some c.args.word.now (eqb-false _ 0 (sym c.is_empty.ensures ∙ c.if-is_empty.false))

pub returns-in_err-n : goal.returns-in_err-n
returns-in_err-n c =
    let w = c.args.word.now in
    let i = c.loop-b.b-index in
    let rest = drop (i + 1) w in
    c.from_residual.ensures ∙ sym (more_none rest) ∙ ap (λ o. more_digits o rest) c.in_err-n.ensures ∙ sym (at_drop_more (more_digits (Some c.loop-b.n)) w i 0 c.loop-b-test.true) ∙ c.loop-b.invariant
