use Rattle.std.proofs.Common.{◌≡◌, ◌<◌, ℕ, true}
use Rattle.std.specs.Prelude.{slice_index}
use Rattle.gated_log.specs.Log.{empty_archive}
use Rattle.station_outside.specs.NewArchive.{is_left_of}
use Rattle.station_outside.proofs.new_archive.may_be_new_archive.Given as goal

abbrev pub invariant-loop-i : goal.invariant-loop-i
invariant-loop-i l = (j : ℕ) → j < l.i → is_left_of (slice_index empty_archive j) (slice_index l.bytes j) ≡ true
