use Rattle.std.proofs.Common.{sym}
use Rattle.eeprom_map.specs.Memory.{new_memory}
use Rattle.model_commands.proofs.Replays.{replays_nothing, writes_run}
use Rattle.model_commands.proofs.replaying.replay_anew.Goals as goal

pub returns-in_default : goal.returns-in_default
returns-in_default g c = replays_nothing g.K.Sink.outlet c.args.settings.now _ c.args.out.now _ c.ended.ensures

pub returns-in_default-new_disk : goal.returns-in_default-new_disk
returns-in_default-new_disk g c =
    replays_nothing g.K.Sink.outlet c.args.settings.now _ c.args.out.now _ c.ended-in_default-new_disk.ensures

pub replay-requires-clause-line : goal.replay-requires-clause-line
replay-requires-clause-line g c = (
  new_memory c.args.settings.now.period,
  c.blank_packet-packet.result,
  rw c.period.ensures at c.in-Ok.ensures,
  rw (c.records.ensures, sym c.args.schedule.now.counted) at (c.in-Ok-new_disk.ensures (new_memory c.args.settings.now.period) c.blank_packet-packet.result),
)

pub returns : goal.returns
returns g c =
    let line = rw (c.period.ensures, c.blank_packet-packet.ensures) at c.in-Ok.ensures in
    let r = c.replay.ensures in
    record {
      end = c.replay.result;
      written = writes_run c.replay.result _ _ _ _ _ (λ is. r.done is _ _ line) (λ is. r.unseen is _ _ line) (λ is. r.cut_off is _ _ line);
      cause = r.write_fault;
      still = r.sink_still;
      given = c.ended-2.ensures;
    }
