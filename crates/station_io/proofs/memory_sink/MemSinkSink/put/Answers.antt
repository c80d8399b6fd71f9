use Rattle.std.proofs.Common.{subst, arith}
use Rattle.station_io.specs.declared.sink.Put.TheVariants.{Failed}
use Rattle.station_io.specs.Memory.{Bucket, bucket_outlet}
use Rattle.station_io.specs.Sink.{Emits}
use Rattle.station_io.proofs.RefusedWrites.{refused}
use Rattle.station_io.proofs.memory_sink.MemSinkSink.put.Goals as goal

pub returns-then-bytes-self-clause-emits : goal.returns-then-bytes-self-clause-emits
returns-then-bytes-self-clause-emits c =
    let inside = c.self.inside in
    let counted = c.raised-self-inside in
    let old : Bucket = record { bytes = inside.bytes.items; capacity = inside.capacity; faults = inside.faults } in
    let new : Bucket = record { bytes = inside.bytes.items; capacity = inside.capacity; faults = counted.result } in
    let P : Bucket → Type 0 = λ (b : Bucket). Emits bucket_outlet b c.args.bytes.now Failed new in
    subst P c.self.view_is
    (refused old c.args.bytes.now counted.result (record {
      never_falls = counted.ensures.never_falls;
      rose = λ _. omega (arith, counted.ensures.exact);
    }))
