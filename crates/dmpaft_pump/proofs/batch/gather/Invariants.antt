use Rattle.std.proofs.Common.{◌≡◌, ◌≤◌, length}
use Rattle.dmpaft_pump.specs.Batch.{slots_in_page}
use Rattle.station_base.specs.LastStamp.{last_stamp}
use Rattle.archive_record.specs.Reading.{stamp_in}
use Rattle.dmpaft_pump.proofs.Rows.{Going}
use Rattle.dmpaft_pump.proofs.batch.gather.Given as goal

-- what the slots give is what was gathered, and what those that are left give
abbrev pub invariant-loop-place : goal.invariant-loop-place
invariant-loop-place l = record {
  going : Going l.fn.last (slots_in_page l.from l.page) l.batch l.last l.skipped (slots_in_page l.place l.page);
  last : l.last ≡ last_stamp stamp_in l.batch l.fn.last;
  few : length l.batch ≤ l.place;
  some : l.skipped ≤ l.place;
}
