use Rattle.std.proofs.Common.{ap, ◌∙◌}
use Rattle.std.specs.Option.{ok_or}
use Rattle.update.specs.declared.answer.Refusal.TheVariants.{BadName}
use Rattle.update.proofs.Admission.{admitted-sound, answers_unsound, answers_bad_name}
use Rattle.update.proofs.admit.admit.Goals as goal

pub returns-in_err-disk : goal.returns-in_err-disk
returns-in_err-disk c = answers_unsound c.args.disk.now c.args.name.now _ _ _ c.in_err-disk.ensures.place c.from_residual.ensures.1

pub returns-in_err-name : goal.returns-in_err-name
returns-in_err-name c = answers_bad_name c.args.disk.now c.args.name.now _ _ c.in_ok-disk.ensures.answer.0 c.in_err-name.ensures.0 c.from_residual-in_err-name.ensures.1

pub returns : goal.returns
returns c = (c.in_ok-disk.ensures.answer.1, admitted-sound c.args.disk.now c.args.name.now c.in_ok-disk.ensures.answer.0 ∙ ap (λ o. ok_or o BadName) c.in_ok-name.ensures)
