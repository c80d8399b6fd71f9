use Rattle.schedule_steps.proofs.AcceptedSchedules.{accepted}
use Rattle.schedule_steps.proofs.schedule_laws.accepted_schedules.Goals as goal

pub returns : goal.returns
returns c = accepted
