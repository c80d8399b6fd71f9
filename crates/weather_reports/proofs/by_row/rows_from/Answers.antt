use Rattle.std.proofs.Common.{◌-◌, drop, arith, ap, map}
use Rattle.std.proofs.lemmas.List.{take_all, length-drop}
use Rattle.station_base.specs.RowLine.{row_line}
use Rattle.weather_reports.proofs.MadeReports.{made_as}
use Rattle.weather_reports.proofs.by_row.rows_from.Goals as goal

pub returns : goal.returns
returns g c =
    made_as g.K.Sink.outlet g.D.Disk.medium c.args.book.now _ _ _ c.args.disk.now _ c.args.out.now _ (λ rows stands_for.
    ap (map row_line) (take_all (c.len.result - c.args.from) (drop c.args.from rows)
    (omega (arith, length-drop c.args.from rows, c.len.ensures.rows rows stands_for)))) c.rows_between.ensures
