use Rattle.std.proofs.Common.{◌≡◌, ◌≤◌, take}
use Rattle.archive_copy.proofs.comparing.alike.Given as goal

-- the rows so far are the same
abbrev pub invariant-loop-n : goal.invariant-loop-n
invariant-loop-n l = record { few : l.n ≤ l.most; same : take l.n l.held ≡ take l.n l.rows }
