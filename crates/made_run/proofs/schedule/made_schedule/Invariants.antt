use Rattle.std.proofs.Common.{◌≡◌, ◌<◌, ◌+◌, ◌^◌, ◌-◌, ◌*◌, ◌++◌}
use Rattle.station_base.specs.CivilMinute.{IsCivilMinute, minute_of}
use Rattle.schedule_file.specs.Steps.{steps_seen}
use Rattle.made_run.specs.Made.{first_due, made_steps, steps_from}
use Rattle.made_run.proofs.schedule.made_schedule.Given as goal

abbrev pub invariant-loop-number : goal.invariant-loop-number
invariant-loop-number l = record {
  made : steps_seen 5 l.steps.items ++ steps_from (l.count - l.number) l.number l.draws.number ≡ made_steps l.seed l.count;
  below : l.draws.number < 2 ^ 31;
  minute : minute_of l.stamp ≡ minute_of first_due + 5 * l.number;
  civil : IsCivilMinute l.stamp;
}
