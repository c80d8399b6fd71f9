-- What a station prints is a prefix of the text of its run.
use Rattle.std.proofs.Common.{ℕ, suc, ◌≡◌, ◌⊎◌, List, [], ◌∷◌, ◌++◌, Option, Some, None, take, drop, refl, sym, ap, subst, ◌∙◌, append-nil, inl, inr}
use Rattle.causes.specs.Lists.{IsFrontOf}
use Rattle.settings_file.specs.StationSettings.{StationSettings}
use Rattle.disk_model.specs.declared.mem_disk.MemDisk.{MemDisk}
use Rattle.disk_model.specs.declared.stopping.Stopping.{Stopping}
use Rattle.schedule_file.specs.declared.schedule.step.Step as code_step
use Rattle.station_sim.specs.declared.sim.Sim.{Sim}
use Rattle.fleet.specs.declared.member.MemberTurn.{MemberTurn}
use Rattle.fleet.specs.declared.member.MemberTurn.TheVariants.{More, Ended, Unseen, WriteFault, OutOfMemory}
use Rattle.replay_laws.specs.Kept.{Kept}
use Rattle.replay_laws.specs.Replay.{Item, OpensNext, RunIsBegun, Stage, start}
use Rattle.replay_laws.specs.Schedule.{ReplayStep, records}
use Rattle.replay_laws.specs.Texts.{text}
use Rattle.replay_laws.proofs.WholeRun.{begun_law}
use Rattle.round_play.specs.declared.playing.Playing.{Playing}
use Rattle.schedule_replay.specs.declared.run.Run.{Run}
use Rattle.schedule_replay.specs.Replaying.{Course, StandsAt, StandsBy}
use Rattle.schedule_replay.proofs.StepsSoFar.{steps_parts}
use Rattle.schedule_replay.proofs.Turned.{comes_next}
use Rattle.schedule_steps.specs.Steps.{steps_for}
use Rattle.station_fleet.specs.declared.station.Station.{Station}
use Rattle.station_fleet.specs.Fleets.{BeginsReplayText}
use Rattle.station_fleet.specs.Outcomes.{Cuts, StationStands, TurnsComeTo, course_start, course_steps}

-- wherever a run stands, the items so far are those of its beginning
begun_by : (playing : Option Playing) (c : Course) (settings : StationSettings) (taken : ℕ) (items : List Item) (run : Run)
    (line : Sim) (disk : Stopping MemDisk) → StandsBy playing c settings taken items run line disk
    → RunIsBegun settings (course_start c) (course_steps settings c) items
begun_by None c settings taken items run line disk (inl so) = record {
  before = steps_for settings.period (take taken c.steps);
  behind = steps_for settings.period (drop taken c.steps);
  steps_are = sym (steps_parts settings.period c.steps taken);
  given = items;
  last = so.stage;
  runs = so.runs;
  items_are = inl refl;
}
begun_by None c settings taken items run line disk (inr ahead) = record {
  before = steps_for settings.period (take taken c.steps);
  behind = steps_for settings.period (drop taken c.steps);
  steps_are = sym (steps_parts settings.period c.steps taken);
  given = ahead.given;
  last = ahead.stage;
  runs = ahead.runs;
  items_are = inr (ahead.next, ahead.items_are);
}
begun_by (Some playing) c settings taken items run line disk (step, next, within) =
    let comes = comes_next settings.period c.steps taken step next
    ∙ ap (λ (x : ReplayStep). x ∷ steps_for settings.period (drop (suc taken) c.steps)) within.is_round in
    record {
      before = steps_for settings.period (take taken c.steps);
      behind = steps_for settings.period (drop taken c.steps);
      steps_are = sym (steps_parts settings.period c.steps taken);
      given = within.given;
      last = within.stage;
      runs = within.runs;
      items_are = inr (subst OpensNext (sym comes) tt, within.items_are);
    }

-- These are the items of the beginning of a run of these steps, and all is kept of them.
record IsBegun (settings : StationSettings) (c : Course) (steps : List code_step.Step) (items : List Item) : Type 0 where
  begun : RunIsBegun settings (course_start c) (steps_for settings.period steps) items
  kept : Kept settings (records (steps_for settings.period steps)) items

begun_at : (playing : Option Playing) (c : Course) (settings : StationSettings) (taken turns : ℕ) (items : List Item)
    (run : Run) (line : Sim) (disk : Stopping MemDisk) → StandsAt playing c settings taken turns items run line disk
    → IsBegun settings c c.steps items
begun_at playing c settings taken turns items run line disk at =
    let begun = begun_by playing c settings taken items run line disk at.stands in
    record {
      begun = begun;
      kept = begun_law settings c.eeprom c.packet (course_steps settings c) at.accepted.rules items begun;
    }

-- so they are of a station
station_begun : (settings : StationSettings) (c : Course) (items : List Item) (s : Station) → StationStands settings c items s
    → IsBegun settings c c.steps items
station_begun settings c items s is =
    let own : Course = record {
      eeprom = c.eeprom;
      packet = c.packet;
      steps = s.schedule.steps.items;
      before = c.before;
      made = c.made;
    } in
    let at = begun_at s.run.playing own s.run.settings s.run.taken s.run.turns items s.run.run s.line s.disk is.stands in
    let here : IsBegun s.run.settings c s.schedule.steps.items items = record { begun = at.begun; kept = at.kept } in
    subst (λ (xs : List code_step.Step). IsBegun settings c xs items) is.steps_are
    (subst (λ (x : StationSettings). IsBegun x c s.schedule.steps.items items) is.settings_are here)

-- a whole text is a prefix of itself
whole_front : (bytes lines : List ℕ) → bytes ≡ lines → IsFrontOf lines bytes
whole_front bytes lines same = ([], append-nil lines ∙ sym same)

-- the lines of turns that were cut off
text_cut : (settings : StationSettings) (c : Course) (lines : List ℕ) → Cuts settings c [] (λ bytes. bytes ≡ lines)
    → BeginsReplayText settings c lines
text_cut settings c lines cut = record {
  run = cut.given;
  is_begun = cut.is_begun;
  kept = cut.kept;
  front = subst (λ (bytes : List ℕ). IsFrontOf bytes (text cut.given)) cut.writes cut.front;
}

-- whatever the last answer of a station is, its lines are a prefix of the text of its run
pub text_begun : (answer : MemberTurn) (settings : StationSettings) (c : Course) (lines : List ℕ) (s : Station)
    → TurnsComeTo (Some answer) settings c [] (λ bytes. bytes ≡ lines) s → BeginsReplayText settings c lines
text_begun More settings c lines s came =
    let is = station_begun settings c came.given s came.stands in
    record {
      run = came.given;
      is_begun = inl is.begun;
      kept = is.kept;
      front = whole_front (text came.given) lines came.writes;
    }
text_begun Ended settings c lines s came = record {
  run = came.given;
  is_begun = inr (inl came.took_part.run);
  kept = came.kept;
  front = whole_front (text came.given) lines came.writes;
}
text_begun Unseen settings c lines s came = record {
  run = came.given;
  is_begun = inr (inr came.is_unseen);
  kept = came.kept;
  front = whole_front (text came.given) lines came.writes;
}
text_begun WriteFault settings c lines s came = text_cut settings c lines came
text_begun OutOfMemory settings c lines s came = text_cut settings c lines came
