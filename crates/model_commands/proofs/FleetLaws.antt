-- Stations that take turns: their causes, and how they end over good files.
use Rattle.std.proofs.Common.{◌≡◌, ◌⊎◌, ℕ, List, [], ◌∷◌, ◌++◌, length, Ok, Err, refl, sym, ap, subst, ◌∙◌, arith, inl, inr}
use Rattle.std.specs.Global.{Vec}
use Rattle.std.specs.Prelude.{IfErr, IsOkAnd, IsSomeAnd}
use Rattle.std.specs.declared.option.Option.{Option}
use Rattle.std.specs.declared.result.Result.{Result}
use Rattle.command_words.specs.Command.{FleetNames}
use Rattle.fleet.specs.declared.run.FleetEnd.{FleetEnd}
use Rattle.fleet.specs.declared.run.FleetEnd.TheVariants as fleet_end
use Rattle.run_output.specs.Ended.{EndsBy, Lines, output_of}
use Rattle.run_output.specs.Output.{Output, no_memory}
use Rattle.run_output.specs.Outside.{Meanings, over_out}
use Rattle.run_output.specs.declared.outside.Outside.{Outside}
use Rattle.run_output.specs.declared.status.Status.{Status}
use Rattle.run_output.specs.declared.status.Status.TheVariants as ends
use Rattle.run_output.proofs.CallCauses.{IsQuiet, by_sink, memory_quiet, quiet_causes, settles_causes}
use Rattle.run_output.proofs.Causes.{Causes, then_causes}
use Rattle.run_output.proofs.GoodFiles.{GivesUnlessHindered, IsHindrance, good-settles, settles-stay}
use Rattle.run_output.proofs.Statuses.{ends_so, has_status}
use Rattle.schedule_file.specs.declared.schedule.Schedule.{Schedule}
use Rattle.settings_file.specs.StationSettings.{StationSettings}
use Rattle.station_fleet.specs.declared.station.Station.{Station}
use Rattle.station_io.specs.Files.{Shelf}
use Rattle.model_commands.specs.FleetRun.{AreGoodSchedules, HasGoodFleet, finds_memory, fleet_output, fleets, makes_stations, reads_schedules, takes_turns}
use Rattle.model_commands.specs.ReplayRun.{IsGoodSchedule}
use Rattle.model_commands.proofs.GoodSchedule.{good-reads_schedule, reads_schedule-stays, then_ends}
use Rattle.model_commands.proofs.ReplayLaws.{IsReplayedOrHindered, reads_schedule_causes}

memory_causes : {F K L D : Type 0} (m : Meanings F K L D) → Causes m (finds_memory {W = Outside F K L D})
memory_causes m old new result did = quiet_causes m old new result (memory_quiet result did.0) did.1

given_quiet : (given : List Schedule) (result : Result (Vec Schedule) Output) → IsOkAnd result (λ schedules. schedules.items ≡ given) → IsQuiet result
given_quiet given (Ok schedules) is = memory_quiet {A = Vec Schedule} (Ok schedules) tt
given_quiet given (Err output) is = absurd is

-- readings of schedules
reads_schedules_causes : {F K L D : Type 0} (m : Meanings F K L D) (period : ℕ) (given : List Schedule) (names : List (List ℕ))
    → Causes m (reads_schedules m period given names)
reads_schedules_causes m period given [] = λ old new result did. quiet_causes m old new result (given_quiet given result did.0) did.1
reads_schedules_causes m period given (name ∷ names) = then_causes m _ _ (reads_schedule_causes m name period) (λ schedule.
    then_causes m _ _ (memory_causes m) (λ _. reads_schedules_causes m period (given ++ schedule ∷ []) names))

stations_causes : {F K L D : Type 0} (m : Meanings F K L D) (settings : StationSettings) (schedules : List Schedule)
    → Causes m (makes_stations settings schedules)
stations_causes m settings schedules old new result did = quiet_causes m old new result (memory_quiet result did.1) did.2

-- how the turns end, by the status
ended_as : (n : ℕ) (end : FleetEnd) (status : Status) → (fleet_output n end).status ≡ status
    → (status ≡ ends.Done) ⊎ (status ≡ ends.Unseen) ⊎ ((status ≡ ends.WriteFault) × (end ≡ fleet_end.WriteFault)) ⊎ (status ≡ ends.OutOfMemory)
ended_as n (fleet_end.Done turns switches) status is = inl (sym is)
ended_as n (fleet_end.Unseen station) status is = inr (inl (sym is))
ended_as n fleet_end.WriteFault status is = inr (inr (inl (sym is, refl)))
ended_as n fleet_end.OutOfMemory status is = inr (inr (inr (sym is)))

turns_causes : {F K L D : Type 0} (m : Meanings F K L D) (seed : ℕ) (stations : List Station) → Causes m (over_out (takes_turns m.outlet seed stations))
turns_causes m seed stations = by_sink m (takes_turns m.outlet seed stations) (λ old new ended did.
    let so = λ (status : Status) (is : EndsBy status ended). ended_as _ did.end status (has_status status ended _ did.given is) in
    record {
      cause = record { never_falls = did.ran.cause.never_falls; rose = λ is. did.ran.cause.rose (let e = so ends.WriteFault is in grind arith) };
      still = λ no. did.ran.still (λ is. no (ends_so ends.WriteFault ended _ did.given (λ e. cc) (ap (λ (end : FleetEnd). (fleet_output (length stations) end).status) is)));
      others = (
        λ is. let e = so ends.ReadFault is in grind arith,
        λ is. let e = so ends.LinkFault is in grind arith,
        λ is. let e = so ends.DiskFault is in grind arith,
      );
    })

pub fleets_causes : {F K L D : Type 0} (m : Meanings F K L D) (names : FleetNames) → Causes m (fleets m names)
fleets_causes m names =
    then_causes m _ _ (settles_causes m names.settings) (λ settings.
    then_causes m _ _ (reads_schedules_causes m settings.period [] names.schedules) (λ schedules.
    then_causes m _ _ (stations_causes m settings schedules.items) (λ stations. turns_causes m names.seed stations.items)))

-- files that hold what they held are as good
good_still : {F : Type 0} (shelf : Shelf F) (old new : F) (period : ℕ) (names : List (List ℕ))
    → ((name : List ℕ) → shelf.held new name ≡ shelf.held old name) → AreGoodSchedules shelf old period names → AreGoodSchedules shelf new period names
good_still shelf old new period [] stays good = tt
good_still shelf old new period (name ∷ names) stays good = (
  subst (λ (told : Option (List ℕ)). IsSomeAnd told (IsGoodSchedule period)) (sym (stays name)) good.0,
  good_still shelf old new period names stays good.1,
)

given_all : (given : List Schedule) (result : Result (Vec Schedule) Output) → IsOkAnd result (λ schedules. schedules.items ≡ given)
    → GivesUnlessHindered (λ schedules. Unit {0}) result
given_all given (Ok schedules) is = tt
given_all given (Err output) is = absurd is

memory_hinders : (result : Result (Unit {0}) Output) → IfErr result (λ output. output ≡ no_memory) → GivesUnlessHindered (λ _. Unit {0}) result
memory_hinders (Ok _) none = tt
memory_hinders (Err output) none = inr (ap (λ (o : Output). o.status) none)

-- good schedules are given
good-reads_schedules : {F K L D : Type 0} (m : Meanings F K L D) (period : ℕ) (given : List Schedule) (names : List (List ℕ))
    (old new : Outside F K L D) (result : Result (Vec Schedule) Output) → AreGoodSchedules m.shelf old.files period names
    → reads_schedules m period given names old result new → GivesUnlessHindered (λ schedules. Unit {0}) result
good-reads_schedules m period given [] old new result good did = given_all given result did.0
good-reads_schedules {F} {K} {L} {D} m period given (name ∷ names) old new result good did =
    let Q : Result (Vec Schedule) Output → Type 0 = λ r. GivesUnlessHindered (λ schedules. Unit {0}) r in
    let R : Output → Type 0 = λ output. IsHindrance output.status in
    then_ends (λ (schedule : Schedule). Unit {0}) R Q (λ output is. is) did
    (good-reads_schedule m.shelf name period old.files did.mid.files did.answer good.0 did.first.0)
    (λ schedule _ kept. then_ends (λ (found : Unit {0}). Unit {0}) R Q (λ output is. is) kept (memory_hinders kept.answer kept.first.0)
    (λ found _ more. good-reads_schedules m period (given ++ schedule ∷ []) names kept.mid new result
    (good_still m.shelf old.files kept.mid.files period names
    (λ other. ap (λ (w : Outside F K L D). m.shelf.held w.files other) kept.first.1
    ∙ reads_schedule-stays m.shelf name other period old.files did.mid.files did.answer did.first.0) good.1) more))

-- over good files stations take turns to the end, or to a delivery that was unseen, unless the outside or the memory fails
pub fleets_complete : {F K L D : Type 0} (m : Meanings F K L D) (names : FleetNames) (old new : Outside F K L D) (ended : Result Lines Output)
    → HasGoodFleet m.shelf names old.files → fleets m names old ended new → IsReplayedOrHindered (output_of ended).status
fleets_complete m names old new ended good did =
    let Q : Result Lines Output → Type 0 = λ r. IsReplayedOrHindered (output_of r).status in
    let R : Output → Type 0 = λ output. IsHindrance output.status in
    let hindered : (output : Output) → IsHindrance output.status → IsReplayedOrHindered output.status = λ output is. grind arith in
    let Good : StationSettings → Type 0 = λ s. AreGoodSchedules m.shelf old.files s.period names.schedules in
    then_ends Good R Q hindered did (good-settles m.shelf Good names.settings old.files did.mid.files did.answer good did.first.0)
    (λ settings has read. then_ends (λ (schedules : Vec Schedule). Unit {0}) R Q hindered read
    (good-reads_schedules m settings.period [] names.schedules did.mid read.mid read.answer
    (good_still m.shelf old.files did.mid.files settings.period names.schedules
    (λ other. settles-stay m.shelf names.settings other old.files did.mid.files did.answer did.first.0) has) read.first)
    (λ schedules _ make. then_ends (λ (stations : Vec Station). Unit {0}) (λ output. output ≡ no_memory) Q
    (λ output is. inr (inr (inr (inr (ap (λ (o : Output). o.status) is))))) make make.first.1
    (λ stations _ last. let e = ended_as _ last.0.end (output_of ended).status (ap (λ (o : Output). o.status) (sym last.0.given)) in grind arith)))
