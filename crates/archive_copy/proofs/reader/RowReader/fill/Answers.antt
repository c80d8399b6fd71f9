use Rattle.std.proofs.Common.{List, length, min, refl}
use Rattle.station_base.specs.declared.row.Row.{Row}
use Rattle.packed_rows.specs.Days.{day_rest}
use Rattle.archive_copy.specs.declared.reader.RowReader.{RowReader}
use Rattle.archive_copy.proofs.ReadAhead.{ahead_piece, ahead_stays}
use Rattle.archive_copy.proofs.reader.RowReader.fill.Goals as goal

pub returns-clause-ahead : goal.returns-clause-ahead
returns-clause-ahead g c =
    let m = g.D.Disk.medium in let at = c.args.self.now.at in let book = c.args.theirs.now in
    let read = c.in_default.ensures in
    let reader : RowReader = record { piece = c.rows_at.new.into; used = 0; at = c.args.self.now.at } in
    ahead_stays m book c.args.from.now c.rows_at.new.disk reader
    (ahead_piece m book c.args.from.now reader (λ (rows : List Row). min 16 (length (day_rest rows at))) refl read.some.1 read.printable read.limited read.rows)
    c.rows_at.ensures.stays

pub returns-in-DiskFault-clause-ahead : goal.returns-in-DiskFault-clause-ahead
returns-in-DiskFault-clause-ahead g c =
    ahead_stays g.D.Disk.medium c.args.theirs.now c.args.from.now c.rows_at.new.disk c.args.self.now c.requires.ahead c.rows_at.ensures.stays
