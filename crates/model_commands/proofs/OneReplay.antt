-- A replay that comes to its end has one status and one text.
use Rattle.std.proofs.Common.{◌≡◌, ◌≢◌, ℕ, Bool, true, false, List, [], refl, sym, ap, subst, ◌∙◌, inl, inr}
use Rattle.std.specs.Io.KnownBytes.{Appends}
use Rattle.std.specs.declared.option.Option.{Option}
use Rattle.std.specs.declared.result.Result.{Result}
use Rattle.eeprom_map.specs.Memory.{new_memory}
use Rattle.one_text_laws.proofs.OneRun.{not_both, one_text}
use Rattle.run_output.specs.Ended.{IsOneOf, Lines, output_of}
use Rattle.run_output.specs.Output.{Output}
use Rattle.run_output.specs.declared.status.Status.{Status}
use Rattle.run_output.specs.declared.status.Status.TheVariants as ends
use Rattle.schedule_file.specs.declared.schedule.Schedule.{Schedule}
use Rattle.schedule_replay.specs.Replayed.{IsReplayed, steps_in}
use Rattle.schedule_replay.specs.declared.replaying.ReplayEnd.{ReplayEnd}
use Rattle.schedule_replay.specs.declared.replaying.ReplayEnd.TheVariants as replay_end
use Rattle.settings_file.specs.StationSettings.{StationSettings}
use Rattle.station_io.specs.Sink.{Outlet}
use Rattle.replay_laws.specs.Replay.{IsReplay, IsReplayBy, Item, Stage, start}
use Rattle.replay_laws.specs.Schedule.{ReplayStep}
use Rattle.replay_laws.specs.Texts.{text}
use Rattle.model_commands.specs.BlankPacket.{blank_packet}
use Rattle.model_commands.specs.FleetPrints.{IsTextOfRun, IsToldToEnd, IsWhatReplaysWrite, ReplayedAlike, told_to_end}
use Rattle.model_commands.specs.ReplayRun.{WritesRun, replay_status, replays}

status_of : (result : Result Lines Output) (end : ReplayEnd) → output_of result ≡ record { text = []; status = replay_status end }
    → (output_of result).status ≡ replay_status end
status_of result end given = ap (λ (o : Output). o.status) given

ended_so : (result : Result Lines Output) (end : ReplayEnd) → output_of result ≡ record { text = []; status = replay_status end }
    → IsToldToEnd result → IsOneOf told_to_end (replay_status end)
ended_so result end given told = subst (IsOneOf told_to_end) (status_of result end given) told

pub never : {A : Type 0} (status : Status) → status ≢ ends.Done → status ≢ ends.Unseen → IsOneOf told_to_end status → A
never status done unseen (inl is) = absurd (done is)
never status done unseen (inr is) = absurd (unseen is)

-- the status by whether a delivery was unseen
told_status : Bool → Status
told_status true = ends.Unseen
told_status false = ends.Done

-- What a replay wrote that was told to its end.
record ToldBy (end : ReplayEnd) (settings : StationSettings) (from : Stage) (steps : List ReplayStep) (old new : Option (List ℕ)) : Type 0 where
  unseen : Bool
  status : replay_status end ≡ told_status unseen
  replayed : IsReplayed unseen settings from steps old new

told_by : (end : ReplayEnd) (settings : StationSettings) (from : Stage) (steps : List ReplayStep) (old new : Option (List ℕ))
    → IsOneOf told_to_end (replay_status end) → WritesRun end settings from steps old new → ToldBy end settings from steps old new
unfolding told_status
told_by replay_end.Done settings from steps old new told wrote = record { unseen = false; status = refl; replayed = wrote }
told_by replay_end.Unseen settings from steps old new told wrote = record { unseen = true; status = refl; replayed = wrote }
told_by replay_end.WriteFault settings from steps old new told wrote = never ends.WriteFault (λ is. cc) (λ is. cc) told
told_by replay_end.OutOfMemory settings from steps old new told wrote = never ends.OutOfMemory (λ is. cc) (λ is. cc) told

either : (unseen : Bool) (settings : StationSettings) (from : Stage) (steps : List ReplayStep) (o : List Item)
    → IsReplayBy unseen settings from steps o → IsReplay settings from steps o
either true settings from steps o run = inr run
either false settings from steps o run = inl run

one_kind : (unseen other : Bool) (settings : StationSettings) (from : Stage) (steps : List ReplayStep) (o p : List Item)
    → IsReplayBy unseen settings from steps o → IsReplayBy other settings from steps p → unseen ≡ other
one_kind true true settings from steps o p one two = refl
one_kind true false settings from steps o p one two = not_both settings from steps p o two one
one_kind false true settings from steps o p one two = not_both settings from steps o p one two
one_kind false false settings from steps o p one two = refl

-- each replay of a schedule writes the text of a run of it
pub replays_write : {S : Type 0} (outlet : Outlet S) (settings : StationSettings) (schedule : Schedule) (lines : List ℕ)
    → IsTextOfRun settings schedule lines → IsWhatReplaysWrite outlet settings schedule lines
replays_write outlet settings schedule lines is old new result did told =
    let from = start (new_memory settings.period) blank_packet in
    let so = told_by did.end settings from (steps_in schedule) (outlet.taken old) (outlet.taken new) (ended_so result did.end did.given told) did.written in
    let run = either so.unseen settings from (steps_in schedule) so.replayed.items so.replayed.is_replay in
    subst (λ (bytes : List ℕ). Appends (outlet.taken old) (outlet.taken new) bytes)
    (one_text settings from (steps_in schedule) so.replayed.items is.run run is.is_run ∙ sym is.lines_are) so.replayed.written

pub replayed_alike : {K S : Type 0} (outlet : Outlet K) (other : Outlet S) (settings : StationSettings) (steps : List ReplayStep) (old new : K) (from to : S)
    (first second : Result Lines Output) → replays outlet settings steps old first new → replays other settings steps from second to
    → IsToldToEnd first → IsToldToEnd second → ReplayedAlike outlet other old new from to first second
replayed_alike outlet other settings steps old new from to first second one two told also =
    let begin = start (new_memory settings.period) blank_packet in
    let a = told_by one.end settings begin steps (outlet.taken old) (outlet.taken new) (ended_so first one.end one.given told) one.written in
    let b = told_by two.end settings begin steps (other.taken from) (other.taken to) (ended_so second two.end two.given also) two.written in
    let run = either a.unseen settings begin steps a.replayed.items a.replayed.is_replay in
    let again = either b.unseen settings begin steps b.replayed.items b.replayed.is_replay in
    record {
      status = status_of first one.end one.given ∙ (a.status
          ∙ (ap told_status (one_kind a.unseen b.unseen settings begin steps a.replayed.items b.replayed.items a.replayed.is_replay b.replayed.is_replay)
          ∙ (sym b.status ∙ sym (status_of second two.end two.given))));
      bytes = text a.replayed.items;
      one = a.replayed.written;
      two = subst (λ (bytes : List ℕ). Appends (other.taken from) (other.taken to) bytes)
          (one_text settings begin steps b.replayed.items a.replayed.items again run) b.replayed.written;
    }
