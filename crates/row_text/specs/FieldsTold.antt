-- What a row's line tells of the fields.
use Rattle.std.specs.Prelude.{ℕ, zero, suc, ℤ, ◌+◌, ◌^◌, Bool, true, false, if◌then◌else◌, List, [], ◌∷◌, codes}
use Rattle.std.specs.Prelude.{bytes_eq, Ok, Err, Some, None, option_and_then}
use Rattle.std.specs.List.{list_any, range_with_len}
use Rattle.std.specs.declared.option.Option.{Option}
use Rattle.std.specs.declared.result.Result.{Result}
use Rattle.std.specs.Option.{is_some}
use Rattle.station_base.specs.Fields.{name_of, field_count}
use Rattle.row_text.specs.declared.fault.RowFault.{RowFault}
use Rattle.row_text.specs.declared.fault.RowFault.TheVariants.{NoField, NotRising}
use Rattle.row_text.specs.Steps.{◌>>=◌}
use Rattle.row_text.specs.Words.{behind, first_word, behind_word}
use Rattle.row_text.specs.Numbers.{value_of_text}

-- what is told of a field: nothing (`None`), that limits made it missing (`Some None`), or its value
abbrev pub ToldOfField : Type 0
ToldOfField = Option (Option ℤ)

-- what stands behind ` NAME=`, if the text begins so with the name of the field
unfoldable pub behind_name : ℕ → List ℕ → Option (List ℕ)
behind_name field text =
    option_and_then (behind (codes "=")) (option_and_then (behind (name_of field)) (behind (codes " ") text))

-- the value that a word tells, and none if it tells that limits made it missing
unfoldable pub told_by_word : List ℕ → Result (Option ℤ) RowFault
told_by_word word =
    if bytes_eq word (codes "limit") then Ok None else value_of_text word >>= (λ value. Ok (Some value))

-- why a text that goes on behind the last field is of no row: it names a field whose turn is past, or none
unfoldable pub fault_behind_fields : List ℕ → RowFault
fault_behind_fields text =
    if list_any (λ field. is_some (behind_name field text)) (range_with_len 0 field_count) then NotRising else NoField

-- this is told of a field, and then that of others
abbrev pub onto_told : ToldOfField → Result (List ToldOfField) RowFault → Result (List ToldOfField) RowFault
onto_told told (Ok fields) = Ok (told ∷ fields)
onto_told told (Err fault) = Err fault

-- what a text tells of so many fields from a number on, each in its turn
unfoldable pub told_from : ℕ → ℕ → List ℕ → Result (List ToldOfField) RowFault
told_from zero field [] = Ok []
told_from zero field (byte ∷ text) = Err (fault_behind_fields (byte ∷ text))
told_from (suc count) field text =
    elim (behind_name field text) [
      | None ↦ onto_told None (told_from count (field + 1) text)
      | Some more ↦
          told_by_word (first_word more) >>= (λ told.
          onto_told (Some told) (told_from count (field + 1) (behind_word more)))
    ]

-- the value of a field of which this is told
abbrev pub value_told : ToldOfField → Option ℤ
value_told None = None
value_told (Some value) = value

-- that limits made it missing is told
abbrev pub is_told_limited : ToldOfField → Bool
is_told_limited None = false
is_told_limited (Some None) = true
is_told_limited (Some (Some value)) = false

-- the fields from a number on of which that is told, as the bits of a number
abbrev pub limits_told : ℕ → List ToldOfField → ℕ
limits_told field [] = 0
limits_told field (told ∷ fields) = (if is_told_limited told then 2 ^ field else 0) + limits_told (field + 1) fields
