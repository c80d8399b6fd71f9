-- How many turns a run has left at most.
use Rattle.std.specs.Prelude.{ℕ, ◌+◌, ◌*◌, ◌^◌, List, length, drop, Some, None}
use Rattle.std.specs.declared.option.Option.{Option}
use Rattle.station_session.specs.RoundAt.{round_turns_left}
use Rattle.station_session.specs.declared.session.Session.{Session}
use Rattle.schedule_file.specs.declared.schedule.step.Step as code_step
use Rattle.replay_laws.specs.Room.{lines}
use Rattle.round_play.specs.declared.playing.Playing.{Playing}
use Rattle.schedule_steps.specs.Steps.{steps_for}

-- so many turns are left at most behind the steps before: one for each step, and 2 ^ 33 for each that opens the
-- archive or makes a round
abbrev pub turns_left_in : ℕ → List code_step.Step → ℕ
turns_left_in period steps = length steps + 2 ^ 33 * lines (steps_for period steps)

-- one turn for a recovery, if the archive is closed
abbrev pub left_to_open : Option Session → ℕ
left_to_open None = 1
left_to_open (Some session) = 0

-- where a round is under way, its own, and those behind its step
abbrev pub turns_left_by : Option Playing → ℕ → List code_step.Step → ℕ → Option Session → ℕ
turns_left_by None period steps taken session = turns_left_in period (drop taken steps) + left_to_open session
turns_left_by (Some playing) period steps taken session =
    round_turns_left playing.round + 2 + turns_left_in period (drop (taken + 1) steps)
