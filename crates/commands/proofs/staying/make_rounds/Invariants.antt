use Rattle.std.proofs.Common.{◌≡◌, ◌+◌, ◌-◌, ◌*◌, ◌<◌, ◌≤◌, false, List}
use Rattle.std.specs.declared.result.Result.{Result}
use Rattle.station_base.specs.declared.row.Row.{Row}
use Rattle.station_session.specs.Report.{HasRoom}
use Rattle.station_session.specs.Session.{book_of, session_is_stale}
use Rattle.station_session.specs.declared.limits.TheConstants.{MOST_CHANGES}
use Rattle.weather_book.specs.Stands.{StandsOn}
use Rattle.run_output.specs.Ended.{Lines}
use Rattle.run_output.specs.Output.{Output}
use Rattle.run_output.specs.Outside.{means}
use Rattle.commands.specs.StayRun.{most_give_ups, standing, stays}
use Rattle.commands.proofs.staying.make_rounds.Given as goal

abbrev pub decreases-rounds : goal.decreases-rounds
decreases-rounds g l = l.rounds - l.made

-- What follows from here on follows the rounds so far.
abbrev pub invariant-rounds : goal.invariant-rounds
invariant-rounds g l = record {
  so_far : (rows : List Row) → StandsOn g.D.Disk.medium (book_of l.fn.session) l.fn.outside.disk rows
      → (now : List Row) × StandsOn g.D.Disk.medium (book_of l.series.session) l.outside.disk now
      × ((result : Result Lines Output) (new : _)
      → stays (means g.F.Files.shelf g.K.Sink.outlet g.L.Link.traffic g.D.Disk.medium) l.waits (l.rounds - l.made) l.made (standing l.series.session l.series.give_ups now) l.outside result new
      → stays (means g.F.Files.shelf g.K.Sink.outlet g.L.Link.traffic g.D.Disk.medium) l.waits l.rounds 0 (standing l.fn.session 0 rows) l.fn.outside result new);
  fresh : session_is_stale l.series.session ≡ false;
  give_ups : l.series.give_ups < most_give_ups;
  room : g.D.Disk.medium.moment l.outside.disk ≤ g.D.Disk.medium.moment l.fn.outside.disk + MOST_CHANGES * l.made;
  within : l.made ≤ l.rounds;
  marks : HasRoom l.report;
}
