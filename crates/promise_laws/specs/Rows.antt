-- Archives that no run may have: rows that no record gave, stamps that do not rise, and rows that are gone.
use Rattle.std.specs.Prelude.{◌≡◌, ℕ, ◌≤◌, ◌<◌, List, [], ◌∷◌, ◌++◌, length, IsSomeAnd}
use Rattle.std.specs.List.{Contains}
use Rattle.causes.specs.Lists.{IsFrontOf}
use Rattle.station_base.specs.CivilMinute.{minute_of}
use Rattle.station_base.specs.declared.row.Row.{Row}
use Rattle.settings_file.specs.StationSettings.{StationSettings}
use Rattle.station_session.specs.Records.{stored_rows}
use Rattle.replay_laws.specs.Kept.{Past}
use Rattle.replay_laws.specs.Replay.{Item}
use Rattle.promise_laws.specs.Places.{rows_at}

-- one of the records is stored as this row
abbrev pub IsOfRecord : StationSettings → List (List ℕ) → Row → Type 0
IsOfRecord settings records row = (one : List ℕ) × Contains records one × Contains (stored_rows settings (one ∷ [])) row

-- the archive has a row that is made up: no record is stored as it
abbrev pub HasMadeUpRow : StationSettings → List (List ℕ) → Past → Item → Type 0
HasMadeUpRow settings records past item =
    IsSomeAnd (rows_at item) (λ rows. (row : Row) × Contains rows row × ¬ IsOfRecord settings records row)

-- Of two of these rows the later one has no later stamp: both have one stamp, or they are out of order.
pub record StampsDoNotRise (rows : List Row) : Type 0 where
  pub before : List Row
  pub earlier : Row
  pub between : List Row
  pub later : Row
  pub after : List Row
  pub are : rows ≡ before ++ earlier ∷ (between ++ later ∷ after)
  pub not_later : minute_of later.stamp ≤ minute_of earlier.stamp

-- the archive has a stamp twice, or a row out of order
abbrev pub HasStampTwice : Past → Item → Type 0
HasStampTwice past item = IsSomeAnd (rows_at item) StampsDoNotRise

-- the archive does not begin with the rows that it had
abbrev pub HasLostRows : Past → Item → Type 0
HasLostRows past item = IsSomeAnd (rows_at item) (λ rows. ¬ IsFrontOf past.rows rows)

-- the archive has fewer rows than the last round kept, and so lacks an acknowledged one
abbrev pub HasLostAcknowledged : Past → Item → Type 0
HasLostAcknowledged past item = IsSomeAnd (rows_at item) (λ rows. length rows < past.acknowledged)
