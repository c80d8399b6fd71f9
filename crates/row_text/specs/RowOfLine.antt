-- The row of a line.
use Rattle.std.specs.Prelude.{ℕ, List, map, take, drop, codes, Ok}
use Rattle.std.specs.declared.result.Result.{Result}
use Rattle.station_base.specs.declared.row.Row.{Row}
use Rattle.station_base.specs.Fields.{field_count}
use Rattle.station_base.specs.CivilMinute.{CivilMinute}
use Rattle.station_base.specs.Stamp.{stamp_of_text}
use Rattle.row_text.specs.declared.fault.RowFault.{RowFault}
use Rattle.row_text.specs.declared.fault.RowFault.TheVariants.{NoRow, NoStamp, NoPeriod}
use Rattle.row_text.specs.Steps.{◌>>=◌, or_fault}
use Rattle.row_text.specs.Words.{behind, first_word, behind_word}
use Rattle.row_text.specs.Numbers.{period_of_text}
use Rattle.row_text.specs.FieldsTold.{ToldOfField, told_from, value_told, limits_told}

-- the bytes of a stamp's text
abbrev pub stamp_size : ℕ
stamp_size = 16

-- the row of this stamp and interval, and of what is told of each field
abbrev pub row_told : CivilMinute → ℕ → List ToldOfField → Row
row_told stamp interval fields =
    record { stamp = stamp; interval = interval; values = map value_told fields; limited = limits_told 0 fields }

-- the row of a text behind its period
unfoldable pub row_behind_period : CivilMinute → ℕ → List ℕ → Result Row RowFault
row_behind_period stamp interval text = told_from field_count 0 text >>= (λ fields. Ok (row_told stamp interval fields))

-- the row of which this is the line, without its line feed; else the first fault from the left
unfoldable pub row_of_line : List ℕ → Result Row RowFault
row_of_line line =
    or_fault NoRow (behind (codes "row ") line) >>= (λ text.
    or_fault NoStamp (stamp_of_text (take stamp_size text)) >>= (λ stamp.
    or_fault NoPeriod (behind (codes " ") (drop stamp_size text)) >>= (λ more.
    or_fault NoPeriod (period_of_text (first_word more)) >>= (λ interval.
    row_behind_period stamp interval (behind_word more)))))
