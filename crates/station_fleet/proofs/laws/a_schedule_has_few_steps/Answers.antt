use Rattle.station_fleet.proofs.FewSteps.{few_steps}
use Rattle.station_fleet.proofs.laws.a_schedule_has_few_steps.Goals as goal

pub returns : goal.returns
returns c = few_steps
