use Rattle.std.proofs.Common.{◌<◌, arith, sym, ◌∙◌}
use Rattle.archive_record.proofs.Tiles.{place_is, place_at}
use Rattle.archive_record.proofs.Values.{value_of_field}
use Rattle.archive_record.proofs.record_read.value_in.Goals as goal
use Rattle.station_base.specs.Fields.{field_count}

pub value_in-requires : goal.value_in-requires
value_in-requires c =
    let within : c.index.result < field_count = omega arith in
    rw (c.places.ensures, place_at c.index.result _ within) (place_is c.index.result within)

pub returns-clause-value : goal.returns-clause-value
returns-clause-value c =
    let within : c.index.result < field_count = omega arith in
    rw (← c.index.ensures.index)
    ((rw (c.places.ensures, place_at c.index.result _ within) at c.value_in.ensures)
    ∙ sym (value_of_field c.args.bytes.now c.index.result within))
