-- What the run of made steps comes to, told to counts.
use Rattle.std.proofs.Common.{◌≡◌, ◌≤◌, ℕ, Bool, true, false, List, length, sym, ap, subst, ◌∙◌, arith}
use Rattle.std.specs.List.{AllByRecursion}
use Rattle.causes.specs.Cause.{Rose}
use Rattle.eeprom_map.specs.Memory.{new_memory}
use Rattle.loop_packet.specs.Blank.{PacketIsBlank}
use Rattle.loop_packet.specs.declared.packet.LoopPacket.{LoopPacket}
use Rattle.settings_file.specs.StationSettings.{StationSettings, plain_settings}
use Rattle.schedule_file.specs.declared.schedule.step.Step as code_step
use Rattle.schedule_file.specs.Steps.{steps_seen}
use Rattle.replay_laws.specs.Replay.{start}
use Rattle.replay_laws.specs.Schedule.{records}
use Rattle.schedule_steps.specs.Accepted.{AreAccepted, HasRecord}
use Rattle.schedule_replay.specs.Counting.{count_telling, counts_after, no_counts}
use Rattle.schedule_replay.specs.declared.counts.Counts.{Counts}
use Rattle.schedule_steps.specs.Steps.{steps_for}
use Rattle.schedule_replay.specs.Told.{TellsRun}
use Rattle.made_run.specs.CountsRun.{CountsRun}
use Rattle.made_run.specs.Made.{made_steps}
use Rattle.made_run.proofs.MadeSchedules.{made_accepted}
use Rattle.made_run.proofs.Unseen.{none_unseen}

-- a count that stands at 0 did not rise
pub no_rise : Rose 0 0 → ⊥
no_rise rose = omega (arith, rose)

module _ (seed count : ℕ) (settings : StationSettings) (plain : settings ≡ plain_settings) (steps : List code_step.Step) (made : steps_seen 5 steps ≡ made_steps seed count) where
  -- what counts were told of a run, with plain settings
  told_plainly : (unseen : Bool) (packet : LoopPacket) (old new : Counts) → TellsRun count_telling unseen settings (start (new_memory settings.period) packet) (steps_for settings.period steps) old new
      → TellsRun count_telling unseen plain_settings (start (new_memory 5) packet) (steps_for 5 steps) old new
  told_plainly unseen packet old new told = subst (λ (s : StationSettings). TellsRun count_telling unseen s (start (new_memory s.period) packet) (steps_for s.period steps) old new) plain told

  pub counts_run : (packet : LoopPacket) (old new : Counts) → PacketIsBlank packet → old ≡ no_counts → TellsRun count_telling false settings (start (new_memory settings.period) packet) (steps_for settings.period steps) old new → CountsRun seed count new
  counts_run packet old new blank none told =
      let h = told_plainly false packet old new told in
      record {
        steps = steps;
        made = made;
        packet = packet;
        blank = blank;
        items = h.items;
        whole = h.is_replay;
        kept = h.kept;
        counts_are = h.told ∙ ap (λ (c : Counts). counts_after c h.items) none;
      }

  pub never_unseen : (packet : LoopPacket) (old new : Counts) → TellsRun count_telling true settings (start (new_memory settings.period) packet) (steps_for settings.period steps) old new → ⊥
  never_unseen packet old new told =
      let h = told_plainly true packet old new told in
      none_unseen seed count plain_settings (start (new_memory 5) packet) steps h.items made h.is_replay

  pub are_accepted : count ≤ 5000 → AllByRecursion HasRecord steps → AreAccepted settings.period steps × (length (records (steps_for settings.period steps)) ≡ count)
  are_accepted few has =
      subst (λ (s : StationSettings). AreAccepted s.period steps × (length (records (steps_for s.period steps)) ≡ count)) (sym plain) (made_accepted seed count steps few made has)
