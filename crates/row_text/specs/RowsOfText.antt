-- The rows of a text of lines.
use Rattle.std.specs.Prelude.{ℕ, ◌≡◌, ◌+◌, ◌==◌, Bool, List, [], ◌∷◌, length, take, Ok, Err, Some, None}
use Rattle.std.specs.Prelude.{if◌then◌else◌, flat_map}
use Rattle.std.specs.List.{position_or_len, slice_split}
use Rattle.std.specs.declared.option.Option.{Option}
use Rattle.std.specs.declared.result.Result.{Result}
use Rattle.station_base.specs.declared.row.Row.{Row}
use Rattle.station_base.specs.CivilMinute.{CivilMinute}
use Rattle.station_base.specs.LastStamp.{exceeds, Rises}
use Rattle.station_base.specs.RowLine.{row_line}
use Rattle.row_text.specs.declared.fault.RowFault.{RowFault}
use Rattle.row_text.specs.declared.bad_line.BadLine.{BadLine}
use Rattle.row_text.specs.declared.bad_line.LineFault.{LineFault}
use Rattle.row_text.specs.declared.bad_line.LineFault.TheVariants.{NoRowLine, NotAfter, NotEnded}
use Rattle.row_text.specs.IsLineRow.{IsLineRow}
use Rattle.row_text.specs.RowOfLine.{row_of_line}

-- the byte that ends a line
abbrev pub is_line_feed : ℕ → Bool
is_line_feed byte = byte == 10

-- the first line of a text, without its line feed
abbrev pub first_line_of : List ℕ → List ℕ
first_line_of text = take (position_or_len is_line_feed text) text

-- the line of this number has this fault
abbrev pub bad_line : {A : Type 0} → ℕ → LineFault → Result A BadLine
bad_line line fault = Err (record { line = line; fault = fault })

-- the row that was read of a line, if its stamp exceeds the one before
abbrev pub row_following : Option CivilMinute → ℕ → Result Row RowFault → Result Row BadLine
row_following last line (Ok row) = if exceeds last (Some row.stamp) then Ok row else bad_line line NotAfter
row_following last line (Err fault) = bad_line line (NoRowLine fault)

-- one row before others
abbrev pub onto_row : Row → Result (List Row) BadLine → Result (List Row) BadLine
onto_row row (Ok rows) = Ok (row ∷ rows)
onto_row row (Err bad) = Err bad

-- a row and those behind it
abbrev pub row_then : Result Row BadLine → (Row → Result (List Row) BadLine) → Result (List Row) BadLine
row_then (Ok row) rest = onto_row row (rest row)
row_then (Err bad) rest = Err bad

-- the fault of a line, or that it is not ended
abbrev pub not_ended : ℕ → Result Row BadLine → Result (List Row) BadLine
not_ended line (Ok row) = bad_line line NotEnded
not_ended line (Err bad) = Err bad

-- The rows of the parts between line feeds, the first of which is the line of this number, behind a row of this stamp.
-- A last part that is not empty has no line feed; any other fault of it comes before that.
unfoldable pub rows_of_parts : Option CivilMinute → ℕ → List (List ℕ) → Result (List Row) BadLine
rows_of_parts last line [] = Ok []
rows_of_parts last line ([] ∷ []) = Ok []
rows_of_parts last line ((byte ∷ part) ∷ []) = not_ended line (row_following last line (row_of_line (byte ∷ part)))
rows_of_parts last line (part ∷ next ∷ parts) =
    row_then (row_following last line (row_of_line part))
    (λ row. rows_of_parts (Some row.stamp) (line + 1) (next ∷ parts))

-- the rows of a text whose first line has this number, behind a row of this stamp
abbrev pub rows_behind : Option CivilMinute → ℕ → List ℕ → Result (List Row) BadLine
rows_behind last line text = rows_of_parts last line (slice_split is_line_feed text)

-- the rows of a text, or its first line that is at fault
unfoldable pub rows_of_text : List ℕ → Result (List Row) BadLine
rows_of_text text = rows_behind None 1 text

-- how many rows there are
abbrev pub row_count_of : Result (List Row) BadLine → Result ℕ BadLine
row_count_of (Ok rows) = Ok (length rows)
row_count_of (Err bad) = Err bad

-- each of these rows has a line
abbrev pub AreLineRows : List Row → Type 0
AreLineRows [] = Unit {0}
AreLineRows (row ∷ rows) = IsLineRow row × AreLineRows rows

-- the text is the lines of these rows one behind another; each has a line, and their stamps rise from this one on
abbrev pub AreTextOf : Option CivilMinute → List Row → List ℕ → Type 0
AreTextOf last rows text = (text ≡ flat_map row_line rows) × Rises (λ row. Some row.stamp) last rows × AreLineRows rows
