-- What a reader has read ahead, as it goes on.
use Rattle.std.proofs.Common.{◌≡◌, ℕ, ◌+◌, ◌<◌, ◌≤◌, All, List, [], length, take, drop, sym, ◌∙◌, ap, arith}
use Rattle.std.specs.Prelude.{slice_get}
use Rattle.std.proofs.lemmas.List.Elements.{All-nil}
use Rattle.causes.specs.Told.{WhereTold}
use Rattle.disk_model.specs.Disk.{Stays}
use Rattle.disk_model.specs.Medium.{Medium}
use Rattle.station_base.specs.FieldSet.{AreMissing}
use Rattle.station_base.specs.RowLine.{IsPrintable}
use Rattle.station_base.specs.declared.row.Row.{Row}
use Rattle.packed_rows.specs.Adding.{AreLimited, ArePrintable}
use Rattle.weather_book.specs.declared.book.Book.{Book}
use Rattle.weather_book.specs.Book.{len_of}
use Rattle.weather_book.specs.Stands.{StandsToReadOn}
use Rattle.weather_book.proofs.BookOnDisk.{to_read_stays}
use Rattle.archive_copy.proofs.Fronts.{in_piece}
use Rattle.archive_copy.specs.Reading.{IsAhead}
use Rattle.archive_copy.specs.declared.reader.RowReader.{RowReader}

-- calls that change nothing, the other way round
stays_back : {D : Type 0} {medium : Medium D} {d e : D} → Stays medium d e → Stays medium e d
stays_back stays = record {
  reads = sym stays.reads;
  at = sym stays.at;
  nothing_else = λ t c now. stays.keeps t c now;
  keeps = λ t c now. stays.nothing_else t c now;
}

module _ {D : Type 0} (medium : Medium D) (book : Book) where
  -- they are so after calls that change nothing
  pub ahead_stays : (d e : D) (reader : RowReader) → IsAhead medium book d reader → Stays medium d e → IsAhead medium book e reader
  ahead_stays d e reader ahead stays = record {
    has_used = ahead.has_used;
    within = ahead.within;
    printable = ahead.printable;
    limited = ahead.limited;
    are_next = λ rows stands x told. ahead.are_next rows (to_read_stays medium book e d rows stands (stays_back stays)) x (sym stays.reads ∙ told);
  }

  -- none was read
  pub ahead_none : (d : D) (reader : RowReader) → reader.piece.items ≡ [] → reader.used ≡ 0 → reader.at ≤ len_of book → IsAhead medium book d reader
  ahead_none d reader none unused within = record {
    has_used = omega (arith, unused);
    within = omega (arith, ap length none, unused, within);
    printable = rw none (All-nil (λ (r : Row). All IsPrintable r.values));
    limited = rw none (All-nil (λ (r : Row). AreMissing r.limited r.values));
    are_next = λ rows stands x told k lt. absurd (omega (arith, ap length none, lt));
  }

  -- a piece of so many of the next rows was read
  pub ahead_piece : (d : D) (reader : RowReader) (many : List Row → ℕ) → reader.used ≡ 0 → reader.at + length reader.piece.items ≤ len_of book
      → ArePrintable reader.piece.items → AreLimited reader.piece.items
      → ((rows : List Row) → StandsToReadOn medium book d rows → WhereTold (medium.seen d) (λ _. reader.piece.items ≡ take (many rows) (drop reader.at rows)))
      → IsAhead medium book d reader
  ahead_piece d reader many unused within printable limited read = record {
    has_used = omega (arith, unused);
    within = omega (arith, unused, within);
    printable = printable;
    limited = limited;
    are_next = λ rows stands x told k lt.
        let is = read rows stands x told in
        let first : reader.used + k ≡ k = omega (arith, unused) in
        ap (λ (n : ℕ). slice_get reader.piece.items n) first ∙ ap (λ (xs : List Row). slice_get xs k) is
        ∙ in_piece rows reader.at (many rows) k (omega (arith, lt, unused, ap length is));
  }

  -- one of them was handed out
  pub ahead_used : (d : D) (old new : RowReader) → IsAhead medium book d old → old.used < length old.piece.items → new.piece.items ≡ old.piece.items
      → new.used ≡ old.used + 1 → new.at ≡ old.at + 1 → IsAhead medium book d new
  ahead_used d old new ahead some piece used at = record {
    has_used = omega (arith, some, ap length piece, used);
    within = omega (arith, ahead.within, ap length piece, used, at);
    printable = rw piece ahead.printable;
    limited = rw piece ahead.limited;
    are_next = λ rows stands x told k lt.
        let from : new.used + k ≡ old.used + (k + 1) = omega (arith, used) in
        let place : old.at + (k + 1) ≡ new.at + k = omega (arith, at) in
        ap (λ (xs : List Row). slice_get xs (new.used + k)) piece ∙ ap (λ (n : ℕ). slice_get old.piece.items n) from
        ∙ ahead.are_next rows stands x told (k + 1) (omega (arith, lt, ap length piece, used))
        ∙ ap (λ (n : ℕ). slice_get rows n) place;
  }
