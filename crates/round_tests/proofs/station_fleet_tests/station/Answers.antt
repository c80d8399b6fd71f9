use Rattle.std.proofs.Common.{ℕ, ◌≡◌, sym, subst, ◌∙◌, arith, rules, Ok, Result}
use Rattle.eeprom_map.specs.Memory.{new_memory}
use Rattle.schedule_file.specs.Answer.{ScheduleReadsAs}
use Rattle.schedule_file.specs.Reading.{said_by_text}
use Rattle.schedule_file.specs.declared.schedule.Schedule.{Schedule}
use Rattle.schedule_file.specs.declared.schedule.ScheduleFault.{ScheduleFault}
use Rattle.schedule_replay.specs.Replayed.{IsNewDisk}
use Rattle.station_fleet.proofs.FewSteps.{few_steps}
use Rattle.round_tests.proofs.station_fleet_tests.station.Goals as goal

pub new-requires-clause-line : goal.new-requires-clause-line
new-requires-clause-line g c =
    let eeprom = new_memory c.period-2.result in
    let packet = c.blank.result in
    let count : c.records.result ≡ c.expect-schedule.result.records = c.records.ensures ∙ sym c.expect-schedule.result.counted in (
      eeprom,
      packet,
      c.in_ok-line.ensures,
      subst (λ (n : ℕ). IsNewDisk n eeprom packet c.in_ok-disk.disk) count (c.in_ok-disk.ensures eeprom packet),
    )

pub returns-clause-left : goal.returns-clause-left
returns-clause-left g c =
    let is : c.read.result ≡ Ok c.expect-schedule.result = search rules in
    let reads : ScheduleReadsAs (said_by_text c.as_bytes.result.now c.period.result) (Ok c.expect-schedule.result) =
    subst (λ (r : Result Schedule ScheduleFault). ScheduleReadsAs (said_by_text c.as_bytes.result.now c.period.result) r) is c.read.ensures.said in
    let few = few_steps c.as_bytes.result.now c.period.result c.expect-schedule.result reads in
    c.new.ensures.left (omega (arith, few))
