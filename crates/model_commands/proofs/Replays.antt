-- What a replay wrote.
use Rattle.std.proofs.Common.{◌≡◌, ◌⊎◌, ℕ, List, [], true, false, refl, inl, inr, arith}
use Rattle.std.specs.declared.option.Option.{Option}
use Rattle.std.specs.declared.result.Result.{Result}
use Rattle.causes.proofs.WritesInTurn.{writes_nothing}
use Rattle.eeprom_map.specs.Memory.{new_memory}
use Rattle.run_output.specs.Ended.{Lines, output_of}
use Rattle.run_output.specs.Output.{Output, no_memory}
use Rattle.schedule_replay.specs.Replayed.{ReplayIsCutOff, IsReplayed}
use Rattle.schedule_replay.specs.declared.replaying.ReplayEnd.{ReplayEnd}
use Rattle.schedule_replay.specs.declared.replaying.ReplayEnd.TheVariants as replay_end
use Rattle.settings_file.specs.StationSettings.{StationSettings}
use Rattle.station_io.specs.Sink.{Outlet}
use Rattle.replay_laws.specs.Replay.{Stage, start}
use Rattle.replay_laws.specs.Schedule.{ReplayStep}
use Rattle.model_commands.specs.BlankPacket.{blank_packet}
use Rattle.model_commands.specs.ReplayRun.{WritesRun, replays}

-- by each end of a replay what it promises there was written
pub writes_run : (end : ReplayEnd) (settings : StationSettings) (from : Stage) (steps : List ReplayStep) (old new : Option (List ℕ))
    → (end ≡ replay_end.Done → IsReplayed false settings from steps old new)
    → (end ≡ replay_end.Unseen → IsReplayed true settings from steps old new)
    → ((end ≡ replay_end.WriteFault) ⊎ (end ≡ replay_end.OutOfMemory) → ReplayIsCutOff settings from steps old new)
    → WritesRun end settings from steps old new
writes_run replay_end.Done settings from steps old new done unseen cut_off = done refl
writes_run replay_end.Unseen settings from steps old new done unseen cut_off = unseen refl
writes_run replay_end.WriteFault settings from steps old new done unseen cut_off = cut_off (inl refl)
writes_run replay_end.OutOfMemory settings from steps old new done unseen cut_off = cut_off (inr refl)

-- of a run that did not begin nothing was written
not_begun : (settings : StationSettings) (from : Stage) (steps : List ReplayStep) (known : Option (List ℕ))
    → ReplayIsCutOff settings from steps known known
not_begun settings from steps known = record {
  items = [];
  is_begun = inl (record { before = []; behind = steps; steps_are = refl; given = []; last = from; runs = (refl, refl); items_are = inl refl });
  kept = tt;
  written = writes_nothing known [];
}

-- for want of memory it did not begin
pub replays_nothing : {S : Type 0} (outlet : Outlet S) (settings : StationSettings) (steps : List ReplayStep) (out : S)
    (result : Result Lines Output) → output_of result ≡ no_memory → replays outlet settings steps out result out
replays_nothing outlet settings steps out result given = record {
  end = replay_end.OutOfMemory;
  written = not_begun settings (start (new_memory settings.period) blank_packet) steps (outlet.taken out);
  cause = record { never_falls = omega arith; rose = λ no. absurd cc };
  still = λ no. refl;
  given = given;
}
