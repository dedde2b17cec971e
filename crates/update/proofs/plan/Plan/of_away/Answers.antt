use Rattle.std.proofs.Common.{[], ◌++◌, ap, ◌∙◌}
use Rattle.std.specs.Option.{option_to_list}
use Rattle.update.specs.Putting.{data_writes}
use Rattle.update.specs.Plans.{plan_writes}
use Rattle.update.proofs.plan.Plan.of_away.Goals as goal

pub returns : goal.returns
unfolding plan_writes data_writes
returns c = ap (λ bs. data_writes bs [] ++ option_to_list c.write_without.result) c.new.ensures ∙ c.write_without.ensures
