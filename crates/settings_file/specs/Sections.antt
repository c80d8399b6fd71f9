-- What the keys of the two sections mean: a field's name, and in the table of a field its numbers (this project's
-- profile).
use Rattle.std.specs.Prelude.{ℤ, pos, neg_ℤ, int_lt, List, ℕ, Bool, false, Option, Some}
use Rattle.std.specs.Prelude.{Result, Ok, Err, if◌then◌else◌, bytes_eq, codes, slice_set}
use Rattle.settings_file.specs.declared.calibration.Calibration.{Calibration}
use Rattle.settings_file.specs.declared.limits.Limits.{Limits}
use Rattle.settings_file.specs.declared.fault.SettingsFault.{SettingsFault}
use Rattle.settings_file.specs.declared.fault.SettingsFault.TheVariants.{LimitsCrossed, CrossedInChange}
use Rattle.settings_file.specs.declared.fault.Section.{Section}
use Rattle.settings_file.specs.declared.fault.Section.TheVariants as section
use Rattle.settings_file.specs.Calibration.{uncalibrated}
use Rattle.settings_file.specs.Limits.{unlimited}
use Rattle.settings_file.specs.KeyPlace.{unknown_key}
use Rattle.settings_file.specs.Values.{between, whole_number, table_of}
use Rattle.settings_file.specs.Walk.{Fill, ◌>>=◌, walk}
use Rattle.settings_file.specs.Fields.{field_at}

-- `num` from 0 to 16, `den` from 1 to 10,000, and `add` within 900,000 either way
abbrev pub calibration_key : Fill Calibration
calibration_key at key value c =
    if bytes_eq key (codes "num") then (do
      n ← whole_number (between (pos 0) (pos 16)) at value
      Ok (record c { num = n }))
    else (if bytes_eq key (codes "den") then (do
      n ← whole_number (between (pos 1) (pos 10000)) at value
      Ok (record c { den = n }))
    else (if bytes_eq key (codes "add") then (do
      n ← whole_number (between (neg_ℤ (pos 900000)) (pos 900000)) at value
      Ok (record c { add = n }))
    else Err (unknown_key at)))

-- `least` and `greatest`, within 2,000,000,000 either way
abbrev pub limits_key : Fill Limits
limits_key at key value l =
    if bytes_eq key (codes "least") then (do
      n ← whole_number (between (neg_ℤ (pos 2000000000)) (pos 2000000000)) at value
      Ok (record l { least = Some n }))
    else (if bytes_eq key (codes "greatest") then (do
      n ← whole_number (between (neg_ℤ (pos 2000000000)) (pos 2000000000)) at value
      Ok (record l { greatest = Some n }))
    else Err (unknown_key at))

-- both are there, and the least exceeds the greatest
abbrev pub are_crossed : Option ℤ → Option ℤ → Bool
are_crossed (Some least) (Some greatest) = int_lt greatest least
are_crossed least greatest = false

-- the calibrations of a change where the section is one, and else those of the file
abbrev pub calibrations_of : Section → Section
calibrations_of (section.Change n) = section.ChangeCalibration n
calibrations_of other = section.Calibration

-- the limits of a change where the section is one, and else those of the file
abbrev pub limits_section : Section → Section
limits_section (section.Change n) = section.ChangeLimits n
limits_section other = section.Limits

-- the limits of a field in this section are crossed
abbrev pub crossed_in : Section → ℕ → SettingsFault
crossed_in (section.ChangeLimits n) field = CrossedInChange n field
crossed_in other field = LimitsCrossed field

-- the limits of a field, where they are not crossed
abbrev pub uncrossed : Section → ℕ → Limits → Result Limits SettingsFault
uncrossed section field l = if are_crossed l.least l.greatest then Err (crossed_in section field) else Ok l

-- a field's name with the table of its calibration
abbrev pub calibrations_key : Fill (List (Option Calibration))
calibrations_key at name value all = do
  field ← field_at at name
  numbers ← table_of at value
  c ← walk calibration_key at.section (Some field) 0 numbers uncalibrated
  Ok (slice_set all field (Some c))

-- a field's name with the table of its limits
abbrev pub all_limits_key : Fill (List (Option Limits))
all_limits_key at name value all = do
  field ← field_at at name
  numbers ← table_of at value
  read ← walk limits_key at.section (Some field) 0 numbers unlimited
  l ← uncrossed at.section field read
  Ok (slice_set all field (Some l))
