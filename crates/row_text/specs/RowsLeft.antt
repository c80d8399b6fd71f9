-- What is left of a text that is read line by line.
use Rattle.std.specs.Prelude.{ℕ, List, length}
use Rattle.std.specs.declared.option.Option.{Option}
use Rattle.std.specs.declared.result.Result.{Result}
use Rattle.station_base.specs.declared.row.Row.{Row}
use Rattle.station_base.specs.CivilMinute.{CivilMinute}
use Rattle.row_text.specs.declared.bad_line.BadLine.{BadLine}
use Rattle.row_text.specs.declared.text_rows.TextRows.{TextRows}
use Rattle.row_text.specs.RowsOfText.{first_line_of, rows_behind}

-- the rows of the lines that are left, or the first of them that is at fault
abbrev pub rows_left : TextRows → Result (List Row) BadLine
rows_left lines = rows_behind lines.last lines.line lines.rest.now

-- how many bytes are left
abbrev pub bytes_left : TextRows → ℕ
bytes_left lines = length lines.rest.now

-- the next line, without its line feed
abbrev pub next_line_left : TextRows → List ℕ
next_line_left lines = first_line_of lines.rest.now

-- the stamp of the row before them
abbrev pub stamp_before : TextRows → Option CivilMinute
stamp_before lines = lines.last
