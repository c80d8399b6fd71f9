use Rattle.std.proofs.Common.{◌+◌, ◌-◌, ◌≤◌}
use Rattle.commands.specs.Pause.{most_hearings}
use Rattle.commands.proofs.Pauses.{Listened}
use Rattle.commands.proofs.pausing.pause.Given as goal

abbrev pub decreases-pause : goal.decreases-pause
decreases-pause g l = (l.waits - l.quiets) + (most_hearings - l.hearings)

-- so many quiet waits passed, and so often something was heard
abbrev pub invariant-pause : goal.invariant-pause
invariant-pause g l = record {
  listened : Listened g.L.Link.traffic l.quiets l.hearings l.fn.link l.link;
  few : l.quiets ≤ l.waits;
  seldom : l.hearings ≤ most_hearings;
}
