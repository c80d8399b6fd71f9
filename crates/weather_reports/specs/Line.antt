-- The line of what a field's values come to (this project's texts, after WeeWX's daily summaries).
use Rattle.std.specs.Prelude.{ℕ, ◌+◌, List, [], ◌∷◌, ◌++◌, Some, None, codes}
use Rattle.std.specs.declared.option.Option.{Option}
use Rattle.std.specs.Fmt.{decimal, signed_decimal}
use Rattle.station_base.specs.Fields.{name_of}
use Rattle.station_base.specs.Stamp.{stamp_text}
use Rattle.daily_summary.specs.declared.field_sum.FieldSum.{FieldSum}
use Rattle.daily_summary.specs.declared.summary.DaySummary.{DaySummary}

-- `min V at YYYY-MM-DD HH:MM max V at YYYY-MM-DD HH:MM sum S count C wsum W sumtime T`
unfoldable pub sum_text : FieldSum → List ℕ
sum_text s =
    codes "min " ++ signed_decimal s.least ++ codes " at " ++ stamp_text s.least_at
    ++ codes " max " ++ signed_decimal s.greatest ++ codes " at " ++ stamp_text s.greatest_at
    ++ codes " sum " ++ signed_decimal s.sum ++ codes " count " ++ decimal s.count
    ++ codes " wsum " ++ signed_decimal s.wsum ++ codes " sumtime " ++ decimal s.sumtime

-- the head, the name of the field and what its values come to
abbrev pub sum_line : List ℕ → ℕ → FieldSum → List ℕ
sum_line head field s = head ++ codes " " ++ name_of field ++ codes " " ++ sum_text s ++ codes "\n"

-- the line of a field that has a value
abbrev pub field_line : List ℕ → ℕ → Option FieldSum → List (List ℕ)
field_line head field None = []
field_line head field (Some s) = sum_line head field s ∷ []

-- the lines of the fields from a number on
abbrev pub field_lines_from : List ℕ → ℕ → List (Option FieldSum) → List (List ℕ)
field_lines_from head field [] = []
field_lines_from head field (sum ∷ sums) = field_line head field sum ++ field_lines_from head (field + 1) sums

-- a line for each field that has a value, in the order of their numbers
abbrev pub field_lines : List ℕ → DaySummary → List (List ℕ)
field_lines head summary = field_lines_from head 0 summary.fields
