use Rattle.some_run_laws.proofs.SomeRun.{run_law}
use Rattle.replay_laws.proofs.WholeRun.{schedules_law}
use Rattle.promise_laws.proofs.kept_laws.each_schedule_has_a_kept_run.Goals as goal

pub returns : goal.returns
returns c = λ settings eeprom packet steps are.
    let (items, run) = run_law settings eeprom packet steps are in
    (items, run, schedules_law settings eeprom packet steps are items run)
