use Rattle.std.proofs.Common.{rules, ◌≢◌}
use Rattle.station_io.specs.declared.sink.Put.TheVariants.{Failed}
use Rattle.station_outside.proofs.SinkWrites.{emits_done}
use Rattle.station_outside.proofs.std_sink.StdSinkSink.put.Goals as goal

pub returns-else-eq : goal.returns-else-eq
returns-else-eq g c =
    let fits : c.write_whole-answer.result ≢ Failed = search rules in
    emits_done (λ sink. sink.faults) c.args.self.now c.args.bytes.now c.write_whole-answer.result fits
