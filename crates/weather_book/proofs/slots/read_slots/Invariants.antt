use Rattle.std.proofs.Common.{◌≡◌, List, ℕ, take, drop}
use Rattle.causes.specs.Told.{WhereTold}
use Rattle.arrayvec.specs.ArrayVec.{array_vec_len}
use Rattle.station_base.specs.declared.row.Row.{Row}
use Rattle.gated_log.specs.GatedLog.{slot_count, log_version}
use Rattle.gated_log.specs.Stands.{StandsToRead}
use Rattle.packed_rows.specs.Adding.{AreLimited, ArePrintable}
use Rattle.packed_rows.specs.Packed.{AreRowsAt}
use Rattle.weather_book.specs.ReadBack.{rows_back}
use Rattle.weather_book.proofs.slots.read_slots.Given as goal

abbrev pub invariant-loop-k : goal.invariant-loop-k
invariant-loop-k g l = record {
  len : array_vec_len l.into ≡ l.k;
  printable : ArePrintable l.into.items;
  limited : AreLimited l.into.items;
  file : WhereTold (g.D.Disk.medium.seen l.fn.disk) (λ c. l.into.items ≡ rows_back (log_version l.log) c l.place l.k);
  rows : (rows : List Row) (n : ℕ) (slots : List (List ℕ)) → StandsToRead g.D.Disk.medium (slot_count l.log) l.fn.disk slots → AreRowsAt (log_version l.log) slots l.place rows n l.count
      → WhereTold (g.D.Disk.medium.seen l.fn.disk) (λ _. l.into.items ≡ take l.k (drop n rows));
}
