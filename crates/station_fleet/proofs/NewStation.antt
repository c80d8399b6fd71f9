-- A station that has taken no turn.
use Rattle.std.proofs.Common.{ℕ, ◌≡◌, List, length, sym, ap, subst, ◌∙◌}
use Rattle.loop_packet.specs.declared.packet.LoopPacket.{LoopPacket}
use Rattle.disk_model.specs.declared.mem_disk.MemDisk.{MemDisk}
use Rattle.disk_model.specs.declared.stopping.Stopping.{Stopping}
use Rattle.schedule_file.specs.declared.schedule.Schedule.{Schedule}
use Rattle.replay_laws.specs.Schedule.{records}
use Rattle.schedule_steps.specs.Accepted.{AreAccepted, ScheduleIsAccepted}
use Rattle.schedule_replay.specs.Replayed.{IsNewDisk}
use Rattle.schedule_steps.specs.Steps.{steps_for}

-- the steps of a schedule that is accepted, for its period
pub accepted_steps : (schedule : Schedule) (period : ℕ) → schedule.period ≡ period → ScheduleIsAccepted schedule
    → AreAccepted period schedule.steps.items
accepted_steps schedule period same accepted =
    subst (λ (p : ℕ). AreAccepted p schedule.steps.items) same
    (record {
      rules = accepted.rules;
      ranges = accepted.ranges;
      few_lines = accepted.few_lines;
      few_records = accepted.few_records;
    })

-- the disk has room for the records of the steps
pub new_disk : (schedule : Schedule) (period : ℕ) (eeprom : List ℕ) (packet : LoopPacket) (disk : Stopping MemDisk)
    → schedule.period ≡ period → ScheduleIsAccepted schedule → IsNewDisk schedule.records eeprom packet disk
    → IsNewDisk (length (records (steps_for period schedule.steps.items))) eeprom packet disk
new_disk schedule period eeprom packet disk same accepted is =
    let count : schedule.records ≡ length (records (steps_for period schedule.steps.items)) =
    sym accepted.counted ∙ ap (λ (p : ℕ). length (records (steps_for p schedule.steps.items))) same in
    subst (λ (n : ℕ). IsNewDisk n eeprom packet disk) count is
