-- What a run does that makes rows of a file of packets: which files it reads, in which order, and what is written.
use Rattle.std.specs.Prelude.{ℕ, ◌≡◌, ◌⊎◌, ◌*◌, ◌<◌, ◌≤◌, List, [], ◌++◌, None, codes, length, take, drop, IsOkAnd}
use Rattle.std.specs.Prelude.{IsSomeAnd}
use Rattle.std.specs.List.{AllZip, flat_map}
use Rattle.std.specs.Simd.{first_chunks}
use Rattle.std.specs.declared.result.Result.{Result}
use Rattle.quality.specs.Corrected.{corrected_row}
use Rattle.settings_file.specs.Reading.{settings_of}
use Rattle.settings_file.specs.StationSettings.{StationSettings}
use Rattle.soft_record.specs.Entry.{SpellsEntry, packet_entry_size}
use Rattle.soft_record.specs.Given.{AreGood, AreRows, AreRowsSoFar, IsGood}
use Rattle.soft_record.specs.declared.entry.Entry.{Entry}
use Rattle.station_base.specs.NumberText.{number_text}
use Rattle.station_base.specs.RowLine.{row_line}
use Rattle.station_base.specs.declared.row.Row.{Row}
use Rattle.station_io.specs.Files.{Shelf, most_bytes}
use Rattle.station_io.specs.Sink.{Outlet}
use Rattle.run_output.specs.Ended.{EndsBy, Lines}
use Rattle.run_output.specs.Outside.{Meanings, over_files, over_out}
use Rattle.run_output.specs.Output.{Output, led_by}
use Rattle.run_output.specs.Reading.{reads, settles}
use Rattle.run_output.specs.Steps.{CommandStep, then}
use Rattle.run_output.specs.Streams.{streams}
use Rattle.run_output.specs.declared.outside.Outside.{Outside}
use Rattle.run_output.specs.declared.status.Status.TheVariants.{BadEntry, Done, WriteFault}

-- the row line of the row that the settings correct
abbrev pub corrected_row_line : StationSettings → Row → List ℕ
corrected_row_line settings row = row_line (corrected_row settings row)

abbrev pub corrected_row_lines : StationSettings → List Row → List ℕ
corrected_row_lines settings rows = flat_map (corrected_row_line settings) rows

-- the line that names a bad entry
unfoldable pub bad_entry_text : ℕ → List ℕ
bad_entry_text number = codes "bad entry " ++ number_text number ++ codes "\n"

abbrev pub bad_entry : ℕ → Output
bad_entry number = record { text = bad_entry_text number; status = BadEntry }

-- nothing comes behind the lines of the rows
abbrev pub no_more : Output
no_more = record { text = []; status = Done }

-- The file begins with these entries, each of 104 bytes, of which each can follow the one before.
pub record BeginsWithEntries (period : ℕ) (file : List ℕ) (entries : List Entry) : Type 0 where
  pub spelled : AllZip SpellsEntry (first_chunks packet_entry_size (length entries) file) entries
  pub good : AreGood period None entries

-- What comes behind them, 104 bytes or as many as there are, is no entry that can follow.
pub record IsBadBehind (period : ℕ) (file : List ℕ) (entries : List Entry) : Type 0 where
  pub more : packet_entry_size * length entries < length file
  pub bad : (e : Entry) → ¬ IsGood period entries (take packet_entry_size
      (drop (packet_entry_size * length entries) file)) e

-- at the end of the file the rows are those of all intervals
abbrev pub AtEnd : ℕ → List ℕ → List Entry → List Row → Output → Type 0
AtEnd period file entries rows rest =
    (length file ≡ packet_entry_size * length entries) × AreRows period entries rows × (rest ≡ no_more)

-- before a bad entry they are those of the intervals that are over, and its line comes behind theirs
abbrev pub BeforeBad : ℕ → List ℕ → List Entry → List Row → Output → Type 0
BeforeBad period file entries rows rest =
    IsBadBehind period file entries × AreRowsSoFar period entries rows × (rest ≡ bad_entry (length entries))

-- where a write failed they are those of the intervals that were over
abbrev pub AtFault : ℕ → List Entry → List Row → Output → Result Lines Output → Type 0
AtFault period entries rows rest result =
    EndsBy WriteFault result × AreRowsSoFar period entries rows × (rest ≡ no_more)

-- Entries from the file's first on were taken. The lines of their rows were written, and what comes behind them.
pub record streams_soft {S : Type 0} (outlet : Outlet S) (settings : StationSettings) (file : List ℕ)
    (old : S) (result : Result Lines Output) (new : S) : Type 0 where
  pub entries : List Entry
  pub rows : List Row
  pub rest : Output
  pub front : BeginsWithEntries settings.period file entries
  pub reached : AtEnd settings.period file entries rows rest ⊎ BeforeBad settings.period file entries rows rest
      ⊎ AtFault settings.period entries rows rest result
  pub written : streams outlet (led_by (corrected_row_lines settings rows) rest) old result new

-- The settings are read and judged, before the file is. Then the rows of its entries are written.
abbrev pub prints_soft : {F K L D : Type 0} → Meanings F K L D → List ℕ → List ℕ → CommandStep (Outside F K L D) Lines
prints_soft m settings name =
    then (over_files (settles m.shelf settings)) (λ settings.
    then (over_files (reads m.shelf name)) (λ file.
    over_out (streams_soft m.outlet settings file.items)))

-- The file has good entries alone, and is not too long.
pub record IsEntryFile (period : ℕ) (file : List ℕ) : Type 0 where
  pub within : length file ≤ most_bytes
  pub entries : List Entry
  pub front : BeginsWithEntries period file entries
  pub whole : length file ≡ packet_entry_size * length entries

-- both files are told: settings that are accepted, and a file of good entries by their period
abbrev pub HasEntries : {F : Type 0} → Shelf F → List ℕ → List ℕ → F → Type 0
HasEntries shelf settings name files = IsSomeAnd (shelf.held files settings) (λ text.
    (length text ≤ most_bytes) × IsOkAnd (settings_of text)
    (λ s. IsSomeAnd (shelf.held files name) (IsEntryFile s.period)))
