-- The rows of a text that was judged, as it is read.
use Rattle.std.specs.Prelude.{◌≡◌, ℕ, List, [], ◌++◌, Ok, Err}
use Rattle.std.specs.declared.result.Result.{Result}
use Rattle.station_base.specs.declared.row.Row.{Row}
use Rattle.row_text.specs.declared.bad_line.BadLine.{BadLine}
use Rattle.row_text.specs.declared.text_rows.TextRows.{TextRows}
use Rattle.row_text.specs.RowsLeft.{rows_left}
use Rattle.row_text.specs.RowsOfText.{rows_of_text}

-- the rows that were read, and none if a line is at fault
abbrev pub rows_told : Result (List Row) BadLine → List Row
rows_told (Ok rows) = rows
rows_told (Err bad) = []

-- the rows of a text, if it is one of rows
abbrev pub text_rows : List ℕ → List Row
text_rows text = rows_told (rows_of_text text)

-- the rows of the lines that are left, if they are lines of rows
abbrev pub rows_ahead : TextRows → List Row
rows_ahead lines = rows_told (rows_left lines)

-- the rows of a batch, and then those of the lines that are left
abbrev pub rows_to_come : List Row → TextRows → List Row
rows_to_come batch lines = batch ++ rows_ahead lines

-- the lines that are left are lines of rows whose stamps rise
abbrev pub AreLinesOfRows : TextRows → Type 0
AreLinesOfRows lines = rows_left lines ≡ Ok (rows_ahead lines)
