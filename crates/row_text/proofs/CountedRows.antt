-- The rows of a text, counted as they are read.
use Rattle.std.proofs.Common.{◌≡◌, ℕ, ◌+◌, List, [], ◌∷◌, length, Result, Ok, Err, refl, arith}
use Rattle.station_base.specs.declared.row.Row.{Row}
use Rattle.row_text.specs.declared.bad_line.BadLine.{BadLine}
use Rattle.row_text.specs.RowsOfText.{onto_row, row_count_of}

-- how many rows there are, with so many before them
abbrev pub counted : ℕ → Result (List Row) BadLine → Result ℕ BadLine
counted before (Ok rows) = Ok (before + length rows)
counted before (Err bad) = Err bad

pub count_begun : (rows : Result (List Row) BadLine) → counted 0 rows ≡ row_count_of rows
count_begun (Ok rows) = let sum : 0 + length rows ≡ length rows = omega arith in rw sum refl
count_begun (Err bad) = refl

pub count_next : (before : ℕ) (row : Row) (rows : Result (List Row) BadLine) → counted before (onto_row row rows) ≡ counted (before + 1) rows
count_next before row (Ok rows) = let sum : before + length (row ∷ rows) ≡ before + 1 + length rows = omega arith in rw sum refl
count_next before row (Err bad) = refl

pub count_ended : (before : ℕ) → counted before (Ok []) ≡ Ok before
count_ended before = let sum : before + 0 ≡ before = omega arith in rw sum refl
