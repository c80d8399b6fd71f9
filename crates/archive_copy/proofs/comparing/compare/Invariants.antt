use Rattle.std.proofs.Common.{◌≡◌, ◌≤◌, ◌-◌, List, take, false}
use Rattle.causes.specs.Told.{WhereTold}
use Rattle.disk_model.specs.Disk.{Stays}
use Rattle.station_base.specs.declared.row.Row.{Row}
use Rattle.gated_log.specs.Calls.{Looked}
use Rattle.weather_book.specs.Book.{BookStandsFor}
use Rattle.packed_rows.specs.Rows.{slot_total}
use Rattle.batch_adding.specs.Calls.{slots_end}
use Rattle.weather_book.specs.Stands.{StandsToReadOn}
use Rattle.archive_copy.proofs.comparing.compare.Given as goal

-- the rows so far are the same, and nothing was changed
abbrev pub invariant-loop-at : goal.invariant-loop-at
invariant-loop-at g l = record {
  within : l.at ≤ l.both;
  from_stays : Stays g.D.Disk.medium l.initial.from l.from;
  to_stays : Stays g.E.Disk.medium l.initial.to l.to;
  from_faults : g.D.Disk.medium.faults l.initial.from ≤ g.D.Disk.medium.faults l.from;
  to_faults : g.E.Disk.medium.faults l.initial.to ≤ g.E.Disk.medium.faults l.to;
  from_went : (rows : List Row) → BookStandsFor l.theirs rows → Looked g.D.Disk.medium (slots_end (slot_total rows)) false l.initial.from l.from;
  to_went : (rows : List Row) → BookStandsFor l.mine rows → Looked g.E.Disk.medium (slots_end (slot_total rows)) false l.initial.to l.to;
  same : (theirs_rows mine_rows : List Row) → StandsToReadOn g.D.Disk.medium l.theirs l.initial.from theirs_rows
      → StandsToReadOn g.E.Disk.medium l.mine l.initial.to mine_rows → WhereTold (g.D.Disk.medium.seen l.initial.from) (λ _.
      WhereTold (g.E.Disk.medium.seen l.initial.to) (λ _. take l.at mine_rows ≡ take l.at theirs_rows));
}

abbrev pub decreases-loop-at : goal.decreases-loop-at
decreases-loop-at g l = l.both - l.at
