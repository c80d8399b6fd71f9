-- The rows that marks tell.
use Rattle.std.proofs.Common.{◌≡◌, ℕ, ◌+◌, length, arith, length-append}
use Rattle.dmpaft_pump.specs.Keeper.{Handed}
use Rattle.station_session.specs.Batches.{kept_records}
use Rattle.station_session.specs.Report.{rows_marked, marks_for}

-- the rows of the last mark are all that were kept
pub marked_for : (m held : ℕ) (h : Handed) → rows_marked held (marks_for m held h) ≡ held + length (kept_records h)
marked_for m held Handed.Nothing = omega arith
marked_for m held (Handed.Kept rows more) = omega (arith, marked_for (m + 4) (held + length rows) more, length-append rows (kept_records more))
marked_for m held (Handed.Refused rows why) = omega arith
