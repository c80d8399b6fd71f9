-- The rows that a reader has read ahead.
use Rattle.std.specs.Prelude.{◌≡◌, ℕ, ◌+◌, ◌<◌, ◌≤◌, List, length, slice_get}
use Rattle.causes.specs.Told.{WhereTold}
use Rattle.disk_model.specs.Medium.{Medium}
use Rattle.station_base.specs.declared.row.Row.{Row}
use Rattle.packed_rows.specs.Adding.{AreLimited, ArePrintable}
use Rattle.weather_book.specs.declared.book.Book.{Book}
use Rattle.weather_book.specs.Book.{len_of}
use Rattle.weather_book.specs.Stands.{StandsToReadOn}
use Rattle.archive_copy.specs.declared.reader.RowReader.{RowReader}

-- The rows of the piece that are not handed out yet are the next rows of the book, where the disk tells its bytes. The
-- book has so many, and each row of the piece can be added.
pub record IsAhead {D : Type 0} (medium : Medium D) (book : Book) (disk : D) (reader : RowReader) : Type 0 where
  pub has_used : reader.used ≤ length reader.piece.items
  pub within : reader.at + length reader.piece.items ≤ len_of book + reader.used
  pub printable : ArePrintable reader.piece.items
  pub limited : AreLimited reader.piece.items
  pub are_next : (rows : List Row) → StandsToReadOn medium book disk rows → WhereTold (medium.seen disk) (λ _.
      (k : ℕ) → reader.used + k < length reader.piece.items
      → slice_get reader.piece.items (reader.used + k) ≡ slice_get rows (reader.at + k))
