-- How the service ends.
use Rattle.std.specs.Prelude.{Option, Some, None}
use Rattle.weather_reports.specs.declared.end.ReportEnd.{ReportEnd}
use Rattle.weather_reports.specs.declared.end.ReportEnd.TheVariants as report
use Rattle.query_service.specs.declared.link_sink.Refusal.{Refusal}
use Rattle.query_service.specs.declared.link_sink.Refusal.TheVariants as refusal
use Rattle.query_service.specs.declared.service.QueryEnd.{QueryEnd}
use Rattle.query_service.specs.declared.service.QueryEnd.TheVariants.{Done, LinkFault, DiskFault, OutOfMemory}

-- By the end of an answer, and by why a piece of it was refused. What the link answered goes before a fault of the
-- disk.
abbrev pub query_end : ReportEnd → Option Refusal → QueryEnd
query_end report.Done why = Done
query_end report.DiskFault why = DiskFault
query_end report.WriteFault None = LinkFault
query_end report.WriteFault (Some refusal.LinkFault) = LinkFault
query_end report.WriteFault (Some refusal.OutOfMemory) = OutOfMemory
