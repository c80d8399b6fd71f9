-- The steps that read a file, and settings from a file.
use Rattle.std.specs.Prelude.{ℕ, ◌≡◌, ◌⊎◌, List, Ok, Err, IfOk, IsOk, IsOkAnd, length, ◌≤◌}
use Rattle.std.specs.Global.{Vec}
use Rattle.std.specs.declared.result.Result.{Result}
use Rattle.settings_file.specs.FaultLine.{fault_line}
use Rattle.settings_file.specs.Reading.{settings_of}
use Rattle.settings_file.specs.StationSettings.{StationSettings}
use Rattle.settings_file.specs.declared.fault.SettingsFault.{SettingsFault}
use Rattle.station_io.specs.Files.{Loads, Shelf, most_bytes}
use Rattle.station_io.specs.declared.files.TextRead.{TextRead}
use Rattle.station_io.specs.declared.files.TextRead.TheVariants as reading
use Rattle.run_output.specs.declared.status.Status.TheVariants as ends
use Rattle.run_output.specs.Output.{Output, no_memory, read_fault, too_long}
use Rattle.run_output.specs.Steps.{CommandStep, then}

-- the answer of a step that reads: the whole file, or the line that says why there is none
abbrev pub ReadAs : TextRead → List ℕ → Result (Vec ℕ) Output → Type 0
ReadAs reading.Done bytes result = IsOkAnd result (λ file. file.items ≡ bytes)
ReadAs reading.Failed bytes result = result ≡ Err read_fault
ReadAs reading.TooLong bytes result = result ≡ Err too_long
ReadAs reading.OutOfMemory bytes result = result ≡ Err no_memory

-- A file of this name was read once.
pub record reads {F : Type 0} (shelf : Shelf F) (name : List ℕ) (old : F) (result : Result (Vec ℕ) Output) (new : F)
    : Type 0 where
  pub answer : TextRead
  pub bytes : List ℕ
  pub did : Loads shelf old name answer bytes new
  pub given : ReadAs answer bytes result
  pub within : IfOk result (λ file. length file.items ≤ most_bytes)

-- the line of a fault
abbrev pub bad_settings : SettingsFault → Output
bad_settings fault = record { text = fault_line fault; status = ends.BadSettings }

-- what a text of settings says: its settings or its first fault, or there was no memory
abbrev pub SaysSettings : List ℕ → Result StationSettings Output → Type 0
SaysSettings text (Ok settings) = settings_of text ≡ Ok settings
SaysSettings text (Err output) =
    (output ≡ no_memory) ⊎ ((fault : SettingsFault) × (settings_of text ≡ Err fault) × (output ≡ bad_settings fault))

-- the settings of a text, without a call
abbrev pub says_settings : {F : Type 0} → List ℕ → CommandStep F StationSettings
says_settings text old result new = SaysSettings text result × (new ≡ old)

-- a file of settings is read, and its settings are what is given
abbrev pub settles : {F : Type 0} → Shelf F → List ℕ → CommandStep F StationSettings
settles shelf name = then (reads shelf name) (λ text. says_settings text.items)

-- a text of settings that is not too long and is accepted
abbrev pub SettingsAreAccepted : List ℕ → Type 0
SettingsAreAccepted text = (length text ≤ most_bytes) × IsOk (settings_of text)
