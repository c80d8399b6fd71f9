use Rattle.std.proofs.Common.{◌≡◌, ℕ, [], length, sym, ◌∙◌, ap, subst, rules}
use Rattle.eeprom_map.specs.Memory.{new_memory}
use Rattle.replay_laws.specs.Schedule.{records}
use Rattle.schedule_steps.specs.Accepted.{AreAccepted}
use Rattle.schedule_replay.specs.Replayed.{IsNewDisk}
use Rattle.schedule_steps.specs.Steps.{steps_for}
use Rattle.round_tests.proofs.replay_member.Member.new.Goals as goal

pub returns : goal.returns
returns g c =
    let period : c.expect-schedule.result.period ≡ c.plain-settings.result.period = search rules in
    let a = c.accepted.ensures in
    let steps = c.expect-schedule.result.steps.items in
    let own : AreAccepted c.expect-schedule.result.period steps = record { rules = a.rules; ranges = a.ranges; few_lines = a.few_lines; few_records = a.few_records } in
    let eeprom = new_memory c.period-2.result in let packet = c.blank.result in
    let count : c.records.result ≡ length (records (steps_for c.plain-settings.result.period steps)) = c.records.ensures ∙ sym c.expect-schedule.result.counted ∙ sym a.counted ∙ ap (λ (p : ℕ). length (records (steps_for p steps))) period in (
      eeprom,
      packet,
      [],
      c.in_ok-line.line,
      c.in_ok-disk.disk,
      c.new-2.ensures.begins steps eeprom packet c.in_ok-line.line c.in_ok-disk.disk (subst (λ (p : ℕ). AreAccepted p steps) period own) c.in_ok-line.ensures
          (subst (λ (n : ℕ). IsNewDisk n eeprom packet c.in_ok-disk.disk) count (c.in_ok-disk.ensures eeprom packet)),
    )
