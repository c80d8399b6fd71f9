use Rattle.std.proofs.Common.{take}
use Rattle.std.specs.List.{AllByRecursion}
use Rattle.schedule_steps.specs.Accepted.{HasRecord}
use Rattle.schedule_steps.proofs.schedule_laws.records_known.Given as goal

abbrev pub invariant-loop-step : goal.invariant-loop-step
invariant-loop-step l = AllByRecursion HasRecord (take l.step-index l.steps)
