-- Rounds of `station`, one run after another.
use Rattle.std.specs.Prelude.{ℕ, zero, suc, ◌≡◌, ◌≤◌, false, List}
use Rattle.std.specs.declared.result.Result.{Result}
use Rattle.disk_model.specs.Medium.{Medium}
use Rattle.packed_rows.specs.Rising.{last_row_stamp}
use Rattle.settings_file.specs.StationSettings.{StationSettings}
use Rattle.station_base.specs.declared.row.Row.{Row}
use Rattle.station_session.specs.Attempts.{all_batches}
use Rattle.station_session.specs.Holding.{rows_after_batches}
use Rattle.weather_book.specs.Book.{book_is_stale, most_rows_of}
use Rattle.weather_book.specs.Stands.{StandsOn}
use Rattle.weather_book.specs.declared.book.Book.{Book}
use Rattle.run_output.specs.Ended.{Lines}
use Rattle.run_output.specs.Output.{Output}
use Rattle.run_output.specs.Outside.{Meanings}
use Rattle.run_output.specs.declared.outside.Outside.{Outside}
use Rattle.commands.specs.StationRun.{rounds}

-- A recovery under these settings may find this book where the disk has these rows.
pub record MayBeFound {D : Type 0} (medium : Medium D) (settings : StationSettings) (rows : List Row) (disk : D)
    (book : Book) : Type 0 where
  pub fresh : book_is_stale book ≡ false
  pub most : most_rows_of book ≡ settings.most
  pub stands : StandsOn medium book disk rows

-- A round that `station` makes over this book leads from these rows to those.
pub record RoundOf {F K L D : Type 0} (m : Meanings F K L D) (settings : StationSettings) (book : Book)
    (rows : List Row) (old : Outside F K L D) (later : List Row) (new : Outside F K L D) : Type 0 where
  pub result : Result Lines Output
  pub makes : rounds m settings book old result new
  pub before : makes.rows ≡ rows
  pub behind : later ≡ rows_after_batches settings rows (all_batches (last_row_stamp rows) makes.serves.tries)

-- A recovery may find a book where the disk has these rows, and whichever it finds, a round that `station` makes leads
-- from there to those rows of the other disk.
pub record MayMakeRound {F K L D : Type 0} (m : Meanings F K L D) (settings : StationSettings) (rows : List Row)
    (disk : D) (later : List Row) (left : D) : Type 0 where
  pub old : Outside F K L D
  pub new : Outside F K L D
  pub from : old.disk ≡ disk
  pub to : new.disk ≡ left
  pub found : (book : Book) × MayBeFound m.medium settings rows disk book
  pub round : (book : Book) → MayBeFound m.medium settings rows disk book → RoundOf m settings book rows old later new

-- so many rounds of `station`, each over some line from what the one before left, lead from these rows of a disk to
-- those
abbrev pub MayMakeRounds : {F K L D : Type 0} → Meanings F K L D → StationSettings → ℕ → List Row → D → List Row → D
    → Type 0
MayMakeRounds m settings zero rows disk later left = (later ≡ rows) × (left ≡ disk)
MayMakeRounds {D = D} m settings (suc more) rows disk later left = (next : List Row) × (mid : D)
    × MayMakeRound m settings rows disk next mid × MayMakeRounds m settings more next mid later left

-- A number of rounds of `station`, no more than these, may lead from these rows of a disk to this one.
pub record IsLeftByRounds {F K L D : Type 0} (m : Meanings F K L D) (settings : StationSettings) (most : ℕ)
    (rows : List Row) (disk left : D) : Type 0 where
  pub made : ℕ
  pub few : made ≤ most
  pub later : List Row
  pub rounds_are : MayMakeRounds m settings made rows disk later left
