-- The steps of a schedule, as those of a run.
use Rattle.std.specs.Prelude.{ℕ, List, [], ◌∷◌, map}
use Rattle.schedule_file.specs.declared.schedule.step.Step as code_step
use Rattle.schedule_file.specs.declared.schedule.step.Step.TheVariants as code
use Rattle.station_sim.specs.Line.{Line, waited}
use Rattle.schedule_file.specs.Lists.{fates_of, records_left_in}
use Rattle.station_sim.specs.Talk.{idles}
use Rattle.replay_laws.specs.Schedule.{ReplayStep}
use Rattle.schedule_file.specs.Lists.{no_fates}
use Rattle.schedule_steps.specs.Runs.{run_records}

-- a step of a schedule of this period
abbrev pub step_of : ℕ → code_step.Step → ReplayStep
step_of period (code.Due rec) = ReplayStep.Due (rec ∷ [])
step_of period (code.Run first count) = ReplayStep.Due (run_records period first count)
step_of period (code.Idle ticks) = ReplayStep.Idle ticks
step_of period (code.Open stop) = ReplayStep.Open stop
step_of period (code.Round fates stop) = ReplayStep.Round (fates_of fates) (records_left_in fates.mids.items) stop

-- the steps of a schedule of this period
abbrev pub steps_for : ℕ → List code_step.Step → List ReplayStep
steps_for period steps = map (step_of period) steps

-- the line after a step that neither opens a session nor makes a round
abbrev pub passed : ReplayStep → Line → Line
passed (ReplayStep.Due records) w = waited records w
passed (ReplayStep.Idle ticks) w = idles no_fates ticks w
passed (ReplayStep.Open stop) w = w
passed (ReplayStep.Round fates left stop) w = w
