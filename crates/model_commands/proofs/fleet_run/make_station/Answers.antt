use Rattle.std.proofs.Common.{sym}
use Rattle.eeprom_map.specs.Memory.{new_memory}
use Rattle.model_commands.specs.BlankPacket.{blank_packet}
use Rattle.model_commands.proofs.fleet_run.make_station.Goals as goal

pub new-requires-clause-line : goal.new-requires-clause-line
new-requires-clause-line c = (
  new_memory c.args.settings.now.period,
  c.blank_packet.result,
  rw c.period.ensures at c.in_ok-line.ensures,
  rw (c.records.ensures, sym c.args.schedule.counted) at (c.in_ok-disk.ensures (new_memory c.args.settings.now.period) c.blank_packet.result),
)

pub returns : goal.returns
returns c =
    let line = rw (c.period.ensures, c.blank_packet.ensures) at c.in_ok-line.ensures in
    let disk = rw (c.records.ensures, sym c.args.schedule.counted) at (c.in_ok-disk.ensures (new_memory c.args.settings.now.period) blank_packet) in
    record {
      is_new = c.new.ensures.is_new;
      before = c.in_ok-line.line;
      made = c.in_ok-disk.disk;
      line = line;
      disk = disk;
      stands = c.new.ensures.begins (new_memory c.args.settings.now.period) blank_packet line disk;
    }
