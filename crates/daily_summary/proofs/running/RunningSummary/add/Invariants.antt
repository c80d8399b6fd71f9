use Rattle.std.proofs.Common.{◌≡◌}
use Rattle.daily_summary.proofs.RunningRows.{IsAdded}
use Rattle.daily_summary.proofs.RunningSums.{blank}
use Rattle.daily_summary.proofs.running.RunningSummary.add.Given as goal

abbrev pub invariant-loop-field : goal.invariant-loop-field
invariant-loop-field l = record {
  fields : IsAdded blank l.field l.seconds l.row l.initial.self.fields l.self.fields;
  rows : l.self.rows ≡ l.initial.self.rows;
  seconds : l.self.seconds ≡ l.initial.self.seconds;
}
