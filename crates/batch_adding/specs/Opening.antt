-- What comes of opening an archive to which rows are to be added.
use Rattle.std.specs.Prelude.{◌≡◌, ℕ, false, true, List, take, Ok, Err}
use Rattle.std.specs.declared.result.Result.{Result}
use Rattle.gated_log.specs.Version.{version_of, is_refused}
use Rattle.gated_log.specs.declared.start.Purpose.TheVariants.{Write}
use Rattle.station_base.specs.declared.row.Row.{Row}
use Rattle.packed_rows.specs.Rows.{rows_of, holds, not_archive, damaged}
use Rattle.weather_book.specs.declared.book.Book.{Book}
use Rattle.batch_adding.specs.declared.opening.NotOpened.{NotOpened}
use Rattle.batch_adding.specs.declared.opening.NotOpened.TheVariants.{NotArchive, OldVersion, Damaged, Fault}
use Rattle.batch_adding.specs.declared.opening.NotOpened.TheVariants.{OutOfMemory}

-- the file has these rows, and more may be added to it
pub record CanBeAddedTo (to : List ℕ) (mine : List Row) : Type 0 where
  pub holds_them : rows_of to ≡ holds mine
  pub current : is_refused Write (version_of to) ≡ false

-- the clause of each cause but a fault
abbrev pub OnJudged : NotOpened → Type 0 → Type 0
OnJudged (NotArchive bytes) p = p
OnJudged OldVersion p = p
OnJudged (Damaged place) p = p
OnJudged Fault p = Unit {0}
OnJudged OutOfMemory p = p

-- why nothing may be added to the file; a fault, or want of memory, says nothing of it
abbrev pub CannotBeAddedTo : NotOpened → List ℕ → Type 0
CannotBeAddedTo (NotArchive bytes) to = (rows_of to ≡ not_archive) × (bytes ≡ take 8 to)
CannotBeAddedTo OldVersion to = is_refused Write (version_of to) ≡ true
CannotBeAddedTo (Damaged place) to = (rows_of to ≡ damaged place) × (is_refused Write (version_of to) ≡ false)
CannotBeAddedTo Fault to = Unit {0}
CannotBeAddedTo OutOfMemory to = Unit {0}

-- the clause of each answer of an opening but a fault
abbrev pub OnAnswered : Result Book NotOpened → Type 0 → Type 0
OnAnswered (Ok book) p = p
OnAnswered (Err why) p = OnJudged why p

-- the file can be added to, or why not
abbrev pub OpensTo : Result Book NotOpened → List ℕ → Type 0
OpensTo (Ok book) to = (mine : List Row) × CanBeAddedTo to mine
OpensTo (Err why) to = CannotBeAddedTo why to
