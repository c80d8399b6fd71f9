-- What new stations print that take turns.
use Rattle.std.proofs.Common.{◌≡◌, ℕ, zero, suc, ◌≤◌, ◌<◌, ◌-◌, List, [], ◌∷◌, length, Some, None, refl, sym, ap, subst, ◌∙◌, arith}
use Rattle.std.specs.List.{AllZip}
use Rattle.std.specs.Prelude.{All, slice_get, slice_index_or}
use Rattle.std.specs.declared.result.Result.{Result}
use Rattle.std.proofs.lemmas.List.Elements.{All-head, All-tail}
use Rattle.std.proofs.lemmas.Option.{same_Some, slice_get_within}
use Rattle.eeprom_map.specs.Memory.{new_memory}
use Rattle.fleet.specs.Crew.{Crew}
use Rattle.fleet.specs.StationLines.{station_lines}
use Rattle.fleet.specs.declared.member.MemberTurn.TheVariants.{Ended, More}
use Rattle.fleet.specs.declared.run.FleetEnd.{FleetEnd}
use Rattle.fleet.specs.declared.run.FleetEnd.TheVariants as fleet_end
use Rattle.one_text_laws.proofs.OneRun.{one_text}
use Rattle.run_output.specs.Ended.{IsOneOf, Lines}
use Rattle.run_output.specs.Output.{Output}
use Rattle.schedule_file.specs.declared.schedule.Schedule.{Schedule}
use Rattle.schedule_replay.specs.Replayed.{steps_in}
use Rattle.schedule_replay.specs.Replaying.{Course}
use Rattle.schedule_steps.specs.Steps.{steps_for}
use Rattle.settings_file.specs.StationSettings.{StationSettings}
use Rattle.station_fleet.specs.Fleets.{AllOver, Begin, BeginsReplayText, IsReplayText, NoneEnded}
use Rattle.station_fleet.specs.Outcomes.{StationStands}
use Rattle.station_fleet.specs.declared.station.Station.{Station}
use Rattle.station_fleet.proofs.OwnRuns.{is_member}
use Rattle.station_fleet.proofs.OwnTexts.{each_begins, each_replays}
use Rattle.station_io.specs.Sink.{Outlet}
use Rattle.replay_laws.specs.Replay.{IsReplay, start}
use Rattle.replay_laws.specs.Schedule.{ReplayStep}
use Rattle.model_commands.specs.BlankPacket.{blank_packet}
use Rattle.model_commands.specs.FleetPrints.{BeginsReplays, EachPrintsItsRun, IsFrontOfRun, IsTextOfRun, IsToldToEnd, PrintsReplays, told_to_end}
use Rattle.model_commands.specs.FleetRun.{IsNewStation, fleet_output, takes_turns}
use Rattle.model_commands.proofs.OneReplay.{never, replays_write}

-- the course that a new station begins
course_of : (settings : StationSettings) (schedule : Schedule) (s : Station) → IsNewStation settings schedule s → Course
course_of settings schedule s new = record {
  eeprom = new_memory settings.period;
  packet = blank_packet;
  steps = schedule.steps.items;
  before = new.before;
  made = new.made;
}

module _ (settings : StationSettings) (d : Course) where
  -- the courses of new stations, by their places
  course_at : (schedules : List Schedule) (stations : List Station) → AllZip (IsNewStation settings) schedules stations → ℕ → Course
  course_at [] stations new k = d
  course_at (schedule ∷ schedules) [] new k = d
  course_at (schedule ∷ schedules) (s ∷ stations) new zero = course_of settings schedule s new.0
  course_at (schedule ∷ schedules) (s ∷ stations) new (suc k) = course_at schedules stations new.1 k

  -- each stands where its run begins
  stands_at : (schedules : List Schedule) (stations : List Station) (new : AllZip (IsNewStation settings) schedules stations) (k : ℕ) (s : Station)
      → slice_get stations k ≡ Some s → StationStands settings (course_at schedules stations new k) [] s
  unfolding course_at course_of
  stands_at [] [] new k s is = absurd (let no : None ≡ Some s = is in cc)
  stands_at [] (x ∷ stations) new k s is = absurd new
  stands_at (schedule ∷ schedules) [] new k s is = absurd new
  stands_at (schedule ∷ schedules) (x ∷ stations) new zero s is =
      subst (λ (t : Station). StationStands settings (course_of settings schedule x new.0) [] t) (same_Some x s is) new.0.stands
  stands_at (schedule ∷ schedules) (x ∷ stations) new (suc k) s is = stands_at schedules stations new.1 k s is

  -- there is a station for each schedule
  station_at : (schedules : List Schedule) (stations : List Station) → AllZip (IsNewStation settings) schedules stations → (k : ℕ) (schedule : Schedule)
      → slice_get schedules k ≡ Some schedule → (s : Station) × slice_get stations k ≡ Some s
  station_at [] stations new k schedule is = absurd (let no : None ≡ Some schedule = is in cc)
  station_at (x ∷ schedules) [] new k schedule is = absurd new
  station_at (x ∷ schedules) (s ∷ stations) new zero schedule is = (s, refl)
  station_at (x ∷ schedules) (s ∷ stations) new (suc k) schedule is = station_at schedules stations new.1 k schedule is

  same_steps : (x schedule : Schedule) → x ≡ schedule → x.period ≡ settings.period → steps_for settings.period x.steps.items ≡ steps_in schedule
  same_steps x schedule same period =
      ap (λ (p : ℕ). steps_for p x.steps.items) (sym period) ∙ ap steps_in same

  -- what replays its course is the text of a run of its schedule
  text_at : (schedules : List Schedule) (stations : List Station) (new : AllZip (IsNewStation settings) schedules stations)
      → All (λ x. x.period ≡ settings.period) schedules → (k : ℕ) (schedule : Schedule) (lines : List ℕ) → slice_get schedules k ≡ Some schedule
      → IsReplayText settings (course_at schedules stations new k) lines → IsTextOfRun settings schedule lines
  unfolding course_at course_of
  text_at [] stations new period k schedule lines is wrote = absurd (let no : None ≡ Some schedule = is in cc)
  text_at (x ∷ schedules) [] new period k schedule lines is wrote = absurd new
  text_at (x ∷ schedules) (s ∷ stations) new period zero schedule lines is wrote = record {
    run = wrote.run;
    is_run = subst (λ (steps : List ReplayStep). IsReplay settings (start (new_memory settings.period) blank_packet) steps wrote.run)
        (same_steps x schedule (same_Some x schedule is) (All-head (λ (y : Schedule). y.period ≡ settings.period) x schedules period)) wrote.is_run;
    lines_are = wrote.lines_are;
  }
  text_at (x ∷ schedules) (s ∷ stations) new period (suc k) schedule lines is wrote =
      text_at schedules stations new.1 (All-tail (λ (y : Schedule). y.period ≡ settings.period) x schedules period) k schedule lines is wrote

  -- so what begins it is a prefix of that text
  front_at : (schedules : List Schedule) (stations : List Station) (new : AllZip (IsNewStation settings) schedules stations)
      → All (λ x. x.period ≡ settings.period) schedules → (k : ℕ) (schedule : Schedule) (lines : List ℕ) → slice_get schedules k ≡ Some schedule
      → BeginsReplayText settings (course_at schedules stations new k) lines → IsFrontOfRun settings (steps_in schedule) lines
  unfolding course_at course_of
  front_at [] stations new period k schedule lines is begins = absurd (let no : None ≡ Some schedule = is in cc)
  front_at (x ∷ schedules) [] new period k schedule lines is begins = absurd new
  front_at (x ∷ schedules) (s ∷ stations) new period zero schedule lines is begins =
      let here : IsFrontOfRun settings (steps_for settings.period x.steps.items) lines = record {
        run = begins.run;
        is_begun = begins.is_begun;
        kept = begins.kept;
        front = begins.front;
      } in
      subst (λ (steps : List ReplayStep). IsFrontOfRun settings steps lines)
      (same_steps x schedule (same_Some x schedule is) (All-head (λ (y : Schedule). y.period ≡ settings.period) x schedules period)) here
  front_at (x ∷ schedules) (s ∷ stations) new period (suc k) schedule lines is begins =
      front_at schedules stations new.1 (All-tail (λ (y : Schedule). y.period ≡ settings.period) x schedules period) k schedule lines is begins

  -- a crew of them stands where its runs begin, and none has ended
  begin_at : (schedules : List Schedule) (stations : List Station) (new : AllZip (IsNewStation settings) schedules stations) (crew : Crew Station)
      → crew.members ≡ stations → Begin (λ station. settings) (λ station. course_at schedules stations new (station - 1)) crew
  begin_at schedules stations new crew members station s from is =
      stands_at schedules stations new (station - 1) s (subst (λ (xs : List Station). slice_get xs (station - 1) ≡ Some s) members is)

open_all : (stations : List Station) (crew : Crew Station) → crew.members ≡ stations
    → ((k : ℕ) → k < length stations → slice_index_or crew.last k Ended ≡ More) → NoneEnded crew
open_all stations crew members none_ended station s from is =
    let within = slice_get_within stations (station - 1) s (subst (λ (xs : List Station). slice_get xs (station - 1) ≡ Some s) members is) in
    let as_long = ap (λ (xs : List Station). length xs) members in
    record { from = from; to = omega (arith, within, as_long, from); more = none_ended (station - 1) within }

-- turns that are told to their end came to the end of all stations
over_by : (n : ℕ) (end : FleetEnd) → IsOneOf told_to_end (fleet_output n end).status → AllOver end
over_by n (fleet_end.Done turns switches) told = tt
over_by n (fleet_end.Unseen station) told = tt
over_by n fleet_end.WriteFault told = never (fleet_output n fleet_end.WriteFault).status (λ is. cc) (λ is. cc) told
over_by n fleet_end.OutOfMemory told = never (fleet_output n fleet_end.OutOfMemory).status (λ is. cc) (λ is. cc) told

-- the lines of a station have one text, whatever the seed is
pub same_lines : (settings : StationSettings) (schedules : List Schedule) (bytes others : List ℕ) → EachPrintsItsRun settings schedules bytes
    → EachPrintsItsRun settings schedules others → (station : ℕ) (schedule : Schedule) → 1 ≤ station
    → slice_get schedules (station - 1) ≡ Some schedule → station_lines station bytes ≡ station_lines station others
same_lines settings schedules bytes others one two station schedule from is =
    let a = one station schedule from is in
    let b = two station schedule from is in
    a.lines_are ∙ (one_text settings (start (new_memory settings.period) blank_packet) (steps_in schedule) a.run b.run a.is_run b.is_run ∙ sym b.lines_are)

module _ {K S : Type 0} (outlet : Outlet K) (other : Outlet S) (settings : StationSettings) (seed : ℕ) where
  -- turns of stations for which there is a course
  prints_by : (d : Course) (schedules : List Schedule) (stations : List Station) (old new : K) (ended : Result Lines Output)
      → All (λ x. x.period ≡ settings.period) schedules → AllZip (IsNewStation settings) schedules stations
      → takes_turns outlet seed stations old ended new → IsToldToEnd ended → PrintsReplays outlet other settings schedules old new
  prints_by d schedules stations old new ended period fresh did told =
      let course : ℕ → Course = λ station. course_at settings d schedules stations fresh (station - 1) in
      let begin : Begin (λ station. settings) course did.opening = begin_at settings d schedules stations fresh did.opening did.members in
      let ready : NoneEnded did.opening = open_all stations did.opening did.members did.none_ended in
      let over = over_by (length stations) did.end (subst (λ (o : Output). IsOneOf told_to_end o.status) did.given told) in
      let all = each_replays outlet (λ station. settings) course seed did.opening did.after old new did.end did.ran over begin ready in
      let runs : EachPrintsItsRun settings schedules all.0 = λ station schedule from is.
      let s = station_at settings d schedules stations fresh (station - 1) schedule is in
      let t = is_member outlet did.opening did.after old new did.ran.log (station - 1) s.0 did.ran.turns
      (subst (λ (xs : List Station). slice_get xs (station - 1) ≡ Some s.0) (sym did.members) s.1) in
      text_at settings d schedules stations fresh period (station - 1) schedule (station_lines station all.0) is (all.2 station t.0 from t.1) in
      record {
        bytes = all.0;
        wrote = all.1;
        taken = λ tells. tells old new all.0 all.1;
        runs = runs;
        replays = λ station schedule from is. replays_write other settings schedule (station_lines station all.0) (runs station schedule from is);
      }

  pub prints : (schedules : List Schedule) (stations : List Station) (old new : K) (ended : Result Lines Output)
      → All (λ x. x.period ≡ settings.period) schedules → AllZip (IsNewStation settings) schedules stations
      → takes_turns outlet seed stations old ended new → IsToldToEnd ended → PrintsReplays outlet other settings schedules old new
  prints [] stations old new ended period fresh did told = record {
    bytes = did.ran.text;
    wrote = did.ran.wrote;
    taken = λ tells. tells old new did.ran.text did.ran.wrote;
    runs = λ station schedule from is. absurd (let no : None ≡ Some schedule = is in cc);
    replays = λ station schedule from is. absurd (let no : None ≡ Some schedule = is in cc);
  }
  prints (schedule ∷ schedules) [] old new ended period fresh did told = absurd fresh
  prints (schedule ∷ schedules) (s ∷ stations) old new ended period fresh did told =
      prints_by (course_of settings schedule s fresh.0) (schedule ∷ schedules) (s ∷ stations) old new ended period fresh did told

module _ {K : Type 0} (outlet : Outlet K) (settings : StationSettings) (seed : ℕ) where
  -- however the turns ended
  begins_by : (d : Course) (schedules : List Schedule) (stations : List Station) (old new : K) (ended : Result Lines Output)
      → All (λ x. x.period ≡ settings.period) schedules → AllZip (IsNewStation settings) schedules stations
      → takes_turns outlet seed stations old ended new → BeginsReplays outlet settings schedules old new
  begins_by d schedules stations old new ended period fresh did =
      let course : ℕ → Course = λ station. course_at settings d schedules stations fresh (station - 1) in
      let begin : Begin (λ station. settings) course did.opening = begin_at settings d schedules stations fresh did.opening did.members in
      let ready : NoneEnded did.opening = open_all stations did.opening did.members did.none_ended in
      let all = each_begins outlet (λ station. settings) course seed did.opening did.after old new did.end did.ran begin ready in
      record {
        bytes = all.0;
        wrote = all.1;
        taken = λ tells. tells old new all.0 all.1;
        runs = λ station schedule from is.
            let s = station_at settings d schedules stations fresh (station - 1) schedule is in
            let t = is_member outlet did.opening did.after old new did.ran.log (station - 1) s.0 did.ran.turns
            (subst (λ (xs : List Station). slice_get xs (station - 1) ≡ Some s.0) (sym did.members) s.1) in
            front_at settings d schedules stations fresh period (station - 1) schedule (station_lines station all.0) is (all.2 station t.0 from t.1);
      }

  pub begins : (schedules : List Schedule) (stations : List Station) (old new : K) (ended : Result Lines Output)
      → All (λ x. x.period ≡ settings.period) schedules → AllZip (IsNewStation settings) schedules stations
      → takes_turns outlet seed stations old ended new → BeginsReplays outlet settings schedules old new
  begins [] stations old new ended period fresh did = record {
    bytes = did.ran.text;
    wrote = did.ran.wrote;
    taken = λ tells. tells old new did.ran.text did.ran.wrote;
    runs = λ station schedule from is. absurd (let no : None ≡ Some schedule = is in cc);
  }
  begins (schedule ∷ schedules) [] old new ended period fresh did = absurd fresh
  begins (schedule ∷ schedules) (s ∷ stations) old new ended period fresh did =
      begins_by (course_of settings schedule s fresh.0) (schedule ∷ schedules) (s ∷ stations) old new ended period fresh did
