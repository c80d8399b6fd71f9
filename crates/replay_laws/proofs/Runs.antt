-- Runs, and what is written of them.
use Rattle.std.proofs.Common.{ℕ, List, [], ◌∷◌, refl, inl}
use Rattle.loop_packet.specs.declared.packet.LoopPacket.{LoopPacket}
use Rattle.settings_file.specs.StationSettings.{StationSettings}
use Rattle.replay_laws.specs.Schedule.{ReplayStep}
use Rattle.replay_laws.specs.Replay.{Item, IsReplay, start, recovered}
use Rattle.replay_laws.specs.Kept.{Kept}
use Rattle.replay_laws.proofs.WholeRun.{schedules_law}

-- of no steps
empty_run : (settings : StationSettings) (eeprom : List ℕ) (packet : LoopPacket) → IsReplay settings (start eeprom packet) [] (Item.Opened [] 0 ∷ Item.Ended [] ∷ [])
empty_run settings eeprom packet = inl (record { given = []; last = start eeprom packet; runs = (refl, refl); items_are = refl })

-- of ticks and an opening
opened_run : (settings : StationSettings) (eeprom : List ℕ) (packet : LoopPacket) → IsReplay settings (start eeprom packet) (ReplayStep.Open Rattle.std.specs.Prelude.None ∷ []) (Item.Opened [] 0 ∷ Item.Ended [] ∷ [])
opened_run settings eeprom packet = inl (record {
  given = Item.Opened [] 0 ∷ [];
  last = recovered (start eeprom packet);
  runs = (recovered (start eeprom packet), Item.Opened [] 0 ∷ [], [], refl, (refl, refl), (refl, refl));
  items_are = refl;
})

-- so something is kept
empty_kept : (settings : StationSettings) (eeprom : List ℕ) (packet : LoopPacket) → Kept settings [] (Item.Opened [] 0 ∷ Item.Ended [] ∷ [])
empty_kept settings eeprom packet = schedules_law settings eeprom packet [] (record { each = tt; rises = tt; are_records = tt }) (Item.Opened [] 0 ∷ Item.Ended [] ∷ []) (empty_run settings eeprom packet)
