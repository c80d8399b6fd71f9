-- What the counts of a made run are.
use Rattle.std.specs.Prelude.{◌≡◌, ℕ, List}
use Rattle.eeprom_map.specs.Memory.{new_memory}
use Rattle.loop_packet.specs.Blank.{PacketIsBlank}
use Rattle.loop_packet.specs.declared.packet.LoopPacket.{LoopPacket}
use Rattle.settings_file.specs.StationSettings.{plain_settings}
use Rattle.schedule_file.specs.declared.schedule.step.Step as code_step
use Rattle.schedule_file.specs.Steps.{steps_seen}
use Rattle.replay_laws.specs.Kept.{Kept}
use Rattle.replay_laws.specs.Replay.{IsWhole, Item, start}
use Rattle.replay_laws.specs.Schedule.{records}
use Rattle.schedule_replay.specs.Counting.{counts_after, no_counts}
use Rattle.schedule_replay.specs.declared.counts.Counts.{Counts}
use Rattle.schedule_steps.specs.Steps.{steps_for}
use Rattle.made_run.specs.Made.{made_steps}

-- The counts are those of items that are the run of the steps made from the seed, over a new console and a new
-- archive, with plain settings. All is kept of these items, and no delivery was unseen.
pub record CountsRun (seed count : ℕ) (counts : Counts) : Type 0 where
  pub steps : List code_step.Step
  pub made : steps_seen 5 steps ≡ made_steps seed count
  pub packet : LoopPacket
  pub blank : PacketIsBlank packet
  pub items : List Item
  pub whole : IsWhole plain_settings (start (new_memory 5) packet) (steps_for 5 steps) items
  pub kept : Kept plain_settings (records (steps_for 5 steps)) items
  pub counts_are : counts ≡ counts_after no_counts items
