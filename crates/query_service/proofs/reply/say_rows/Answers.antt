use Rattle.std.proofs.Common.{◌≡◌, List, refl}
use Rattle.std.specs.Prelude.{codes}
use Rattle.station_base.specs.declared.row.Row.{Row}
use Rattle.weather_reports.specs.Report.{listing_lines}
use Rattle.weather_reports.specs.declared.end.ReportEnd.TheVariants.{Done, DiskFault, WriteFault}
use Rattle.query_service.proofs.WrittenAnswer.{replies_behind, replies_cut, replies_report}
use Rattle.query_service.proofs.reply.say_rows.Goals as goal

pub returns-in-Done : goal.returns-in-Done
returns-in-Done g c =
    replies_behind g.K.Sink.outlet g.D.Disk.medium c.args.book.now (λ (rows : List Row). listing_lines c.args.first c.args.last rows) (codes "end\n") c.say.result c.args.disk.now _ c.args.out.now _ _
    (replies_report g.K.Sink.outlet g.D.Disk.medium c.args.book.now (λ (rows : List Row). listing_lines c.args.first c.args.last rows) Done c.args.disk.now _ c.args.out.now _ c.in-Done.ensures _ (λ rows stands. refl))
    c.say.ensures

pub returns-in-DiskFault : goal.returns-in-DiskFault
returns-in-DiskFault g c =
    replies_cut g.K.Sink.outlet g.D.Disk.medium c.args.book.now (λ (rows : List Row). listing_lines c.args.first c.args.last rows) DiskFault c.args.disk.now _ c.args.out.now _ c.in-DiskFault.ensures (codes "end\n") (λ e. absurd (let bad : DiskFault ≡ Done = e in cc))

pub returns-in-WriteFault : goal.returns-in-WriteFault
returns-in-WriteFault g c =
    replies_cut g.K.Sink.outlet g.D.Disk.medium c.args.book.now (λ (rows : List Row). listing_lines c.args.first c.args.last rows) WriteFault c.args.disk.now _ c.args.out.now _ c.in-WriteFault.ensures (codes "end\n") (λ e. absurd (let bad : WriteFault ≡ Done = e in cc))
