-- The answers to requests, by the rows of an archive. (This project's texts.)
use Rattle.std.specs.Prelude.{ℕ, List, [], ◌∷◌, ◌++◌, length, codes}
use Rattle.std.specs.Fmt.{decimal}
use Rattle.station_base.specs.RowLine.{row_line}
use Rattle.station_base.specs.declared.day.DayNumber.{DayNumber}
use Rattle.station_base.specs.declared.row.Row.{Row}
use Rattle.weather_reports.specs.Report.{listing_lines, day_table_lines}
use Rattle.weather_reports.specs.Reported.{text_of_lines}
use Rattle.query_service.specs.declared.request.Request.{Request}
use Rattle.query_service.specs.declared.request.Request.TheVariants.{Count, Last, Rows, Day, Unknown}

-- `count N`
abbrev pub count_text : ℕ → List ℕ
count_text count = codes "count " ++ (decimal count ++ codes "\n")

-- the line of the last row, or `none`
abbrev pub last_row_line : List Row → List ℕ
last_row_line [] = codes "none\n"
last_row_line (row ∷ []) = row_line row
last_row_line (row ∷ next ∷ rows) = last_row_line (next ∷ rows)

-- the line of each row of these days, and then `end`
abbrev pub rows_answer : DayNumber → DayNumber → List Row → List ℕ
rows_answer first last rows = text_of_lines (listing_lines first last rows) ++ codes "end\n"

-- what the rows of a day come to, and then `end`
abbrev pub day_answer : DayNumber → List Row → List ℕ
day_answer day rows = text_of_lines (day_table_lines day day rows) ++ codes "end\n"

-- the answer to a request
abbrev pub answer_to : List Row → Request → List ℕ
answer_to rows Count = count_text (length rows)
answer_to rows Last = last_row_line rows
answer_to rows (Rows first last) = rows_answer first last rows
answer_to rows (Day day) = day_answer day rows
answer_to rows Unknown = codes "error\n"
