use Rattle.std.proofs.Common.{◌≡◌, drop}
use Rattle.std.specs.List.{list_any}
use Rattle.schedule_file.specs.Steps.{steps_seen}
use Rattle.schedule_file.specs.Kinds.{is_due}
use Rattle.schedule_file.proofs.schedule.reader.Reader.was_due.Given as goal

abbrev pub invariant-loop-step : goal.invariant-loop-step
invariant-loop-step l = list_any is_due (steps_seen l.self.period l.self.since.items) ≡ list_any is_due (steps_seen l.self.period (drop l.step-index l.self.since.items))
