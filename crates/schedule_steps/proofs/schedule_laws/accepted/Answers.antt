use Rattle.std.proofs.Common.{◌∙◌, subst}
use Rattle.std.specs.List.{AllByRecursion}
use Rattle.station_base.specs.Period.{IsPeriod}
use Rattle.schedule_steps.specs.Accepted.{HasRecord}
use Rattle.schedule_steps.proofs.AcceptedSchedules.{accepted}
use Rattle.schedule_steps.proofs.schedule_laws.accepted.Goals as goal

pub returns : goal.returns
returns c =
    accepted c.requires.0 c.args.schedule.now (subst IsPeriod (c.minutes.ensures.minutes ∙ c.period.ensures) c.minutes.ensures.period)
    (subst (AllByRecursion HasRecord) c.steps.ensures c.records_known.ensures) c.requires.1
