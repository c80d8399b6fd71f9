-- What becomes of a row before it is kept: each value is calibrated, and then held against its limits (the order of
-- WeeWX's services StdCalibrate and StdQC).
use Rattle.std.specs.Prelude.{ℕ, ℤ, ◌+◌, ◌+ℤ◌, ◌*ℤ◌, ◌*◌, ◌≡◌, int_le, ◌&&◌, not, is_some}
use Rattle.std.specs.Prelude.{Bool, true, if◌then◌else◌, List, [], ◌∷◌, Option, Some, None}
use Rattle.std.specs.Int.{int_div_euclid}
use Rattle.std.specs.Option.{option_map_or}
use Rattle.station_base.specs.RowLine.{IsValueWithin}
use Rattle.station_base.specs.declared.row.Row.{Row}
use Rattle.station_base.specs.CivilMinute.{CivilMinute}
use Rattle.station_base.specs.FieldSet.{has_value}
use Rattle.settings_file.specs.declared.calibration.Calibration.{Calibration}
use Rattle.settings_file.specs.declared.limits.Limits.{Limits}
use Rattle.settings_file.specs.StationSettings.{StationSettings, calibration_of, limits_of}

-- a number that a record can hold
abbrev pub IsReading : Option ℤ → Type 0
IsReading = IsValueWithin 65535

-- the value times `num`, divided by `den` and rounded towards the lesser number
abbrev pub scaled : Calibration → ℤ → ℤ
scaled c value = int_div_euclid (value *ℤ c.num) c.den

-- the value times `num`, divided by `den`, rounded towards the lesser number, and `add` more
abbrev pub calibrated : Calibration → ℤ → ℤ
calibrated c value = scaled c value +ℤ c.add

-- whether the value is at least the least and at most the greatest, if there are such
abbrev pub is_kept : Limits → ℤ → Bool
is_kept l value =
    option_map_or (λ least. int_le least value) l.least true
    && option_map_or (λ greatest. int_le value greatest) l.greatest true

-- the value, or none where the limits refuse it
abbrev pub kept : Limits → ℤ → Option ℤ
kept l value = if is_kept l value then Some value else None

-- a missing value stays missing
abbrev pub corrected_value : Calibration → Limits → Option ℤ → Option ℤ
corrected_value c l None = None
corrected_value c l (Some value) = kept l (calibrated c value)

-- the values of the fields from a number on, in a row of this stamp
abbrev pub corrected_values : StationSettings → CivilMinute → ℕ → List (Option ℤ) → List (Option ℤ)
corrected_values settings stamp field [] = []
corrected_values settings stamp field (value ∷ values) =
    corrected_value (calibration_of settings field stamp) (limits_of settings field stamp) value
    ∷ corrected_values settings stamp (field + 1) values

-- whether there was a value before, and is none after
abbrev pub is_taken : Option ℤ → Option ℤ → Bool
is_taken before after = is_some before && not (is_some after)

-- the fields that had a value before and have none after, as the bits of a number: the first is the lowest
abbrev pub taken : List (Option ℤ) → List (Option ℤ) → ℕ
taken [] after = 0
taken (value ∷ before) [] = 0
taken (value ∷ before) (now ∷ after) = (if is_taken value now then 1 else 0) + 2 * taken before after

-- the field of a number had a value, and has none now
abbrev pub was_taken : List (Option ℤ) → List (Option ℤ) → ℕ → Bool
was_taken before after field = has_value before field && not (has_value after field)

-- the row handed in has no field that limits made missing
abbrev pub IsUnlimited : Row → Type 0
IsUnlimited row = row.limited ≡ 0

-- the stamp and the interval stay, and what limits made missing is named
abbrev pub corrected_row : StationSettings → Row → Row
corrected_row settings row =
    let values = corrected_values settings row.stamp 0 row.values in
    record row { values = values; limited = taken row.values values }
