use Rattle.std.proofs.Common.{◌≡◌, drop, Some}
use Rattle.console.specs.Numbers.{more_digits, decimal}
use Rattle.console.proofs.number.parse_decimal.Given as goal

abbrev pub invariant-loop-b : goal.invariant-loop-b
invariant-loop-b l = more_digits (Some l.n) (drop l.b-index l.word) ≡ decimal l.word
