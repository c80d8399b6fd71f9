use Rattle.std.proofs.Common.{◌-◌, List}
use Rattle.station_base.specs.declared.row.Row.{Row}
use Rattle.weather_reports.specs.Report.{later_lines}
use Rattle.query_service.specs.Answers.{last_row_line}
use Rattle.query_service.proofs.WrittenAnswer.{last_of, replies_report}
use Rattle.query_service.proofs.reply.say_last.Goals as goal

pub returns : goal.returns
returns g c =
    replies_report g.K.Sink.outlet g.D.Disk.medium c.args.book.now (λ (rows : List Row). later_lines (c.len-count.result - 1) rows) c.rows_from.result
    c.args.disk.now _ c.args.out.now _ c.rows_from.ensures last_row_line
    (λ rows stands. last_of c.len-count.result rows c.if-count-eq0.false (c.len-count.ensures.rows rows stands))
