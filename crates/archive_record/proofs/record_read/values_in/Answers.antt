use Rattle.std.proofs.Common.{◌∙◌, arith, length-set}
use Rattle.archive_record.specs.Place.{value_in}
use Rattle.archive_record.specs.Table.{place_of}
use Rattle.archive_record.proofs.Tiles.{place_is, place_at}
use Rattle.archive_record.proofs.Values.{values_more, values_all}
use Rattle.archive_record.proofs.record_read.values_in.Goals as goal

pub value_in-requires : goal.value_in-requires
value_in-requires c =
    rw (c.places-place-items.ensures, place_at c.loop-field.field _ c.loop-field-test.true) (place_is c.loop-field.field c.loop-field-test.true)

pub loop-field-preserved : goal.loop-field-preserved
loop-field-preserved c =
    let bytes = c.args.bytes.now in
    let here = rw (c.places-place-items.ensures, place_at c.loop-field.field _ c.loop-field-test.true) at c.value_in.ensures in
    record {
      long = length-set _ _ _ ∙ c.loop-field.invariant.long;
      read = values_more c.loop-field.values c.loop-field.field c.value_in.result (λ k. value_in bytes (place_of k)) (omega arith) here c.loop-field.invariant.read;
    }

pub returns : goal.returns
returns c = values_all c.loop-field.values c.args.bytes.now c.loop-field.invariant.long (λ k h. c.loop-field.invariant.read k (omega arith))
