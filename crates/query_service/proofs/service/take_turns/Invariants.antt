use Rattle.std.proofs.Common.{◌≤◌, ◌*◌}
use Rattle.query_service.specs.Service.{ServesQueries}
use Rattle.query_service.specs.Turns.{TakesTurns}
use Rattle.query_service.specs.declared.service.QueryEnd.TheVariants.{Done}
use Rattle.query_service.proofs.service.take_turns.Given as goal

-- the turns so far were taken
abbrev pub invariant-loop : goal.invariant-loop
invariant-loop g l = record {
  serves : ServesQueries g.L.Link.traffic g.D.Disk.medium l.book Done (TakesTurns g.D.Disk.medium l.book l.fn.disk Done l.counter
      l.fn.line.items l.line.items l.fn.count.lines l.count.lines) l.fn.link l.link l.fn.disk l.disk;
  within : l.counter ≤ l.turns;
  few : l.count.lines ≤ 256 * l.counter;
}
