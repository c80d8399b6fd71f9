use Rattle.std.proofs.Common.{◌≤◌}
use Rattle.dmpaft_pump.specs.Shown.{steps_left}
use Rattle.dmpaft_driver.specs.Turning.{dump_desk}
use Rattle.dmpaft_driver.proofs.DumpEnds.{DumpSoFar}
use Rattle.dmpaft_driver.proofs.attempt.dump.Given as goal

-- the dump is under way, and no count fell
abbrev pub invariant-turns : goal.invariant-turns
invariant-turns g l = record {
  sofar : DumpSoFar g.L.Link.traffic g.K.Keeper.ledger l.fn.tally l.fn.after l.fn.link l.fn.keeper (dump_desk l.pump l.link l.keeper);
  faults : g.L.Link.traffic.faults l.fn.link ≤ g.L.Link.traffic.faults l.link;
  shortages : g.L.Link.traffic.shortages l.fn.link ≤ g.L.Link.traffic.shortages l.link;
}

abbrev pub decreases-turns : goal.decreases-turns
decreases-turns g l = steps_left l.pump
