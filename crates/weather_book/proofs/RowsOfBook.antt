-- The rows that a book stands for.
use Rattle.std.proofs.Common.{◌≡◌, true, List, arith, None}
use Rattle.std.proofs.Math.Logic.{∥∥₁_map}
use Rattle.station_base.specs.declared.row.Row.{Row}
use Rattle.weather_book.specs.declared.book.Book.{Book}
use Rattle.weather_book.specs.Book.{BookStandsFor, slots_of_book}
use Rattle.weather_book.specs.Kept.{KeepsOf}
use Rattle.packed_rows.specs.Rising.{rows_rise}
use Rattle.packed_rows.specs.Rows.{slot_total}
use Rattle.weather_book.proofs.KeptLaws.{total_kept}

-- it stands for the rows of which it keeps days, number and end
pub stands_by : (book : Book) (rows : List Row) → KeepsOf book.kept.days.items book.kept.count book.kept.tail rows → BookStandsFor book rows
stands_by book rows keeps = record { keeps = keeps; held_is = keeps.count_is; stamp_is = keeps.ends.last }

-- so there are such rows
pub some_rows : (book : Book) → ∥ ((rows : List Row) × BookStandsFor book rows) ∥₁
some_rows book = ∥∥₁_map book.kept.some (λ p. (p.0, stands_by book p.0 p.1))

-- the stamps of its rows rise
pub stands_rise : (book : Book) (rows : List Row) → BookStandsFor book rows → rows_rise None rows ≡ true
stands_rise book rows stands = stands.keeps.ends.rising

-- its log has as many slots as its rows take
pub slots_same : (book : Book) (rows : List Row) → BookStandsFor book rows → slots_of_book book ≡ slot_total rows
slots_same book rows stands =
    let total = total_kept book.kept.days.items book.kept.count book.kept.tail rows stands.keeps in omega (arith, book.counted, total)
