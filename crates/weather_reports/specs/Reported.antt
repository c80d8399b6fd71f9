-- What a report writes, by its end.
use Rattle.std.specs.Prelude.{ℕ, ◌≡◌, ◌+◌, ◌*◌, Bool, true, false, List, [], Some, flat_map}
use Rattle.std.specs.declared.option.Option.{Option}
use Rattle.std.specs.Io.KnownBytes.{Appends}
use Rattle.causes.specs.Lists.{IsFrontOf}
use Rattle.causes.specs.Written.{WritesPart}
use Rattle.disk_model.specs.Medium.{Medium}
use Rattle.gated_log.specs.Calls.{Looked}
use Rattle.station_base.specs.declared.row.Row.{Row}
use Rattle.gated_log.specs.Layout.{slot_size}
use Rattle.packed_rows.specs.Rows.{slot_total}
use Rattle.weather_reports.specs.declared.end.ReportEnd.{ReportEnd}
use Rattle.weather_reports.specs.declared.end.ReportEnd.TheVariants.{Done, DiskFault, WriteFault}

-- lines, one behind another
abbrev pub text_of_lines : List (List ℕ) → List ℕ
text_of_lines lines = flat_map (λ line. line) lines

-- All lines are written; at a disk fault some in front, each whole; at a write fault a prefix of their bytes.
abbrev pub Reports : Option (List ℕ) → Option (List ℕ) → List (List ℕ) → ReportEnd → Type 0
Reports old new lines Done = Appends old new (text_of_lines lines)
Reports old new lines DiskFault =
    (front : List (List ℕ)) × IsFrontOf front lines × Appends old new (text_of_lines front)
Reports old new lines WriteFault = WritesPart old new (text_of_lines lines)

-- these bytes are what a report of the lines writes, by its end
abbrev pub IsReport : List (List ℕ) → ReportEnd → List ℕ → Type 0
IsReport lines end written = Reports (Some []) (Some written) lines end

-- whether a read failed, by the end
abbrev pub AsFailed : ReportEnd → Bool → Type 0
AsFailed Done failed = failed ≡ false
AsFailed DiskFault failed = failed ≡ true
AsFailed WriteFault failed = Unit {0}

-- Reads alone were made, each within the slots of the rows. One failed at a disk fault, and none where all is written.
pub record ReadsOver {D : Type 0} (medium : Medium D) (rows : List Row) (end : ReportEnd) (old new : D) : Type 0 where
  pub failed : Bool
  pub by_end : AsFailed end failed
  pub looked : Looked medium (slot_size * (slot_total rows + 1)) failed old new
