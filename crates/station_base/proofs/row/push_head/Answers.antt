use Rattle.std.proofs.Common.{◌≡◌, arith, rules, length}
use Rattle.station_base.specs.Fields.{name_of}
use Rattle.station_base.proofs.FieldTexts.{name_width}
use Rattle.station_base.proofs.row.push_head.Goals as goal

pub put_front-requires : goal.put_front-requires
put_front-requires c =
    let width = name_width c.args.field c.requires.field in
    let same : length c.name.result.now ≡ length (name_of c.args.field) = search rules in
    (search rules, (omega arith, omega arith))

pub returns-clause-length : goal.returns-clause-length
returns-clause-length c =
    let width = name_width c.args.field c.requires.field in
    let same : length c.name.result.now ≡ length (name_of c.args.field) = search rules in
    omega arith
