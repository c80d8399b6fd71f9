use Rattle.std.proofs.Common.{◌≡◌, ◌-◌}
use Rattle.station_sim.specs.Line.{Line, waited}
use Rattle.schedule_file.specs.Lists.{fates_of}
use Rattle.station_sim.specs.Standing.{SimStandsFor}
use Rattle.schedule_steps.specs.Runs.{run_records}
use Rattle.schedule_steps.proofs.RunRecords.{left_of, IsLeft}
use Rattle.schedule_steps.proofs.steps.run_falls_due.Given as goal

abbrev pub invariant-loop : goal.invariant-loop
invariant-loop l = record {
  left : IsLeft l.period l.next (l.count - l.counter);
  fates : fates_of l.line.fates ≡ fates_of l.initial.line.fates;
  talk : l.line.talk.items ≡ l.initial.line.talk.items;
  stands : (w : Line) → SimStandsFor l.initial.line w → (v : Line) × SimStandsFor l.line v × (waited (left_of l.period l.next (l.count - l.counter)) v ≡ waited (run_records l.period l.first l.count) w);
}
