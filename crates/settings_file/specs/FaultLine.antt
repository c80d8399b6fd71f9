-- How a fault is told in a line (this project's texts).
use Rattle.std.specs.Prelude.{ℕ, List, [], ◌++◌, Option, Some, None, codes}
use Rattle.station_base.specs.Fields.{name_of}
use Rattle.station_base.specs.NumberText.{number_text}
use Rattle.settings_file.specs.declared.fault.Section.{Section}
use Rattle.settings_file.specs.declared.fault.Section.TheVariants as section
use Rattle.settings_file.specs.declared.fault.SettingsFault.{SettingsFault}
use Rattle.settings_file.specs.declared.fault.SettingsFault.TheVariants.{Syntax, UnknownKey, BadNumber, LimitsCrossed}
use Rattle.settings_file.specs.declared.fault.SettingsFault.TheVariants.{BadPeriod, TooManyChanges, BadFrom}
use Rattle.settings_file.specs.declared.fault.SettingsFault.TheVariants.{ChangeOrder, CrossedInChange, OutOfMemory}

-- change n, from 0
abbrev pub change_name : ℕ → List ℕ
change_name n = codes "change-" ++ number_text n

-- the word by which a fault names a section
abbrev pub section_name : Section → List ℕ
section_name section.Top = codes "top"
section_name section.Calibration = codes "calibration"
section_name section.Limits = codes "limits"
section_name (section.Change n) = change_name n
section_name (section.ChangeCalibration n) = change_name n ++ codes "-calibration"
section_name (section.ChangeLimits n) = change_name n ++ codes "-limits"

-- the name of a field, or a dash where there is none
abbrev pub field_name : Option ℕ → List ℕ
field_name (Some field) = name_of field
field_name None = codes "-"

-- where a key stands
abbrev pub key_text : Section → Option ℕ → ℕ → List ℕ
key_text section field index =
    section_name section ++ codes " " ++ field_name field ++ codes " " ++ number_text index

-- the line of a fault; want of memory is no fault of the file and has none
abbrev pub fault_line : SettingsFault → List ℕ
fault_line Syntax = codes "settings syntax\n"
fault_line (UnknownKey section field index) =
    codes "settings unknown key " ++ key_text section field index ++ codes "\n"
fault_line (BadNumber section field index) = codes "settings bad number " ++ key_text section field index ++ codes "\n"
fault_line (LimitsCrossed field) = codes "settings crossed " ++ name_of field ++ codes "\n"
fault_line BadPeriod = codes "settings bad period\n"
fault_line TooManyChanges = codes "settings too many changes\n"
fault_line (BadFrom n) = codes "settings bad from " ++ number_text n ++ codes "\n"
fault_line (ChangeOrder n) = codes "settings change order " ++ number_text n ++ codes "\n"
fault_line (CrossedInChange n field) =
    codes "settings crossed " ++ name_of field ++ codes " change " ++ number_text n ++ codes "\n"
fault_line OutOfMemory = []
