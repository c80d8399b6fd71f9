-- Lines that are left, one after another.
use Rattle.std.proofs.Common.{◌≡◌, ℕ, List, length, ◌∷◌, Result, Ok, Err, refl, sym, ◌∙◌, ap}
use Rattle.station_base.specs.declared.row.Row.{Row}
use Rattle.row_text.specs.declared.bad_line.BadLine.{BadLine}
use Rattle.row_text.specs.RowsOfText.{onto_row, row_count_of}
use Rattle.archive_import.specs.Texts.{rows_told}

read_or_not : (rows : List Row) (bad : BadLine) → Ok rows ≡ Err bad → ⊥
read_or_not rows bad is = absurd cc

-- no line of rows is at fault
pub no_fault : (was : Result (List Row) BadLine) (bad : BadLine) → was ≡ Ok (rows_told was) → was ≡ Err bad → ⊥
no_fault was bad is wrong = read_or_not (rows_told was) bad (sym is ∙ wrong)

-- behind the line of a row are the other rows
pub next_told : (was now : Result (List Row) BadLine) (row : Row) → was ≡ Ok (rows_told was) → was ≡ onto_row row now
    → (now ≡ Ok (rows_told now)) × (rows_told was ≡ row ∷ rows_told now)
next_told was (Ok rows) row is step = (refl, ap rows_told step)
next_told was (Err bad) row is step = absurd (no_fault was bad is step)

-- a text that was judged is one of so many rows
pub judged_rows : (read : Result (List Row) BadLine) (count : ℕ) → row_count_of read ≡ Ok count → (read ≡ Ok (rows_told read)) × (count ≡ length (rows_told read))
judged_rows (Ok rows) count is = (refl, cc)
judged_rows (Err bad) count is = absurd cc
