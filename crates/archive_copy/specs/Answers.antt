-- What the files of both archives hold where a copy ended so.
use Rattle.std.specs.Prelude.{◌≡◌, ℕ, ◌<◌, ◌≤◌, List, length, take}
use Rattle.causes.specs.Lists.{IsFrontOf}
use Rattle.station_base.specs.declared.row.Row.{Row}
use Rattle.disk_model.specs.Medium.{Medium}
use Rattle.weather_book.specs.Stands.{NowHasRows, ReadsRows}
use Rattle.packed_rows.specs.Rows.{rows_of, holds, not_archive, damaged}
use Rattle.batch_adding.specs.Opening.{CanBeAddedTo, CannotBeAddedTo}
use Rattle.batch_adding.specs.declared.opening.NotOpened.TheVariants as to_open
use Rattle.archive_copy.specs.declared.end.CopyEnd.{CopyEnd}
use Rattle.archive_copy.specs.declared.end.CopyEnd.TheVariants.{Done, FromNotArchive, FromDamaged, Full}
use Rattle.archive_copy.specs.declared.end.CopyEnd.TheVariants.{ToNotArchive, ToOldVersion, ToDamaged}
use Rattle.archive_copy.specs.declared.end.CopyEnd.TheVariants.{NotPrefix, FromFault, ToFault, OutOfMemory}
use Rattle.archive_copy.specs.Comparing.{IsFirstUnlike}
use Rattle.station_base.specs.Limits.{most_rows}

-- the file has these rows, which are not too many to be copied
pub record CanBeCopied (from : List ℕ) (theirs : List Row) : Type 0 where
  pub holds_them : rows_of from ≡ holds theirs
  pub few : length theirs ≤ most_rows

-- the refusals of the file to copy from
abbrev pub RefusesFrom : CopyEnd → List ℕ → Type 0
RefusesFrom (FromNotArchive bytes) from = (rows_of from ≡ not_archive) × (bytes ≡ take 8 from)
RefusesFrom (FromDamaged place) from = rows_of from ≡ damaged place
RefusesFrom (Full n) from = (theirs : List Row) × (rows_of from ≡ holds theirs) × (n ≡ length theirs) × (most_rows < n)
RefusesFrom FromFault from = Unit {0}
RefusesFrom OutOfMemory from = Unit {0}
RefusesFrom other from = ⊥

-- so many rows were to be had, and those of the one archive are the first of them; or row n of it is the first unlike
abbrev pub CopyEndsWith : CopyEnd → List Row → List Row → Type 0
CopyEndsWith (Done n) mine theirs = IsFrontOf mine theirs × (n ≡ length theirs)
CopyEndsWith (NotPrefix n) mine theirs = IsFirstUnlike mine theirs n
CopyEndsWith FromFault mine theirs = Unit {0}
CopyEndsWith ToFault mine theirs = Unit {0}
CopyEndsWith OutOfMemory mine theirs = Unit {0}
CopyEndsWith other mine theirs = ⊥

-- Why a copy ended so, in this order: the first file refuses, it has too many rows, the second file refuses, or what
-- its rows are. A fault, or want of memory, says nothing of the files.
abbrev pub CopyAnswers : CopyEnd → List ℕ → List ℕ → Type 0
CopyAnswers (FromNotArchive bytes) from to = RefusesFrom (FromNotArchive bytes) from
CopyAnswers (FromDamaged place) from to = RefusesFrom (FromDamaged place) from
CopyAnswers (Full n) from to = RefusesFrom (Full n) from
CopyAnswers (ToNotArchive bytes) from to =
    (theirs : List Row) × CanBeCopied from theirs × CannotBeAddedTo (to_open.NotArchive bytes) to
CopyAnswers ToOldVersion from to = (theirs : List Row) × CanBeCopied from theirs × CannotBeAddedTo to_open.OldVersion to
CopyAnswers (ToDamaged place) from to =
    (theirs : List Row) × CanBeCopied from theirs × CannotBeAddedTo (to_open.Damaged place) to
CopyAnswers (NotPrefix n) from to =
    (theirs mine : List Row) × CanBeCopied from theirs × CanBeAddedTo to mine × CopyEndsWith (NotPrefix n) mine theirs
CopyAnswers (Done n) from to =
    (theirs mine : List Row) × CanBeCopied from theirs × CanBeAddedTo to mine × CopyEndsWith (Done n) mine theirs
CopyAnswers FromFault from to = Unit {0}
CopyAnswers ToFault from to = Unit {0}
CopyAnswers OutOfMemory from to = Unit {0}

-- the clause of a refusal of the file to copy from, which comes before the other disk is called
abbrev pub OnFromRefused : CopyEnd → Type 0 → Type 0
OnFromRefused (FromNotArchive bytes) p = p
OnFromRefused (Full n) p = p
OnFromRefused other p = Unit {0}

-- the clause of a damaged archive to copy from
abbrev pub OnFromDamaged : CopyEnd → Type 0 → Type 0
OnFromDamaged (FromDamaged place) p = p
OnFromDamaged other p = Unit {0}

-- The disk has just the rows of the file that was copied, which are so many: what it reads does, and so does each image
-- that a crash now may leave.
pub record IsCopied {D : Type 0} (medium : Medium D) (n : ℕ) (from : List ℕ) (disk : D) : Type 0 where
  pub theirs : List Row
  pub holds_them : rows_of from ≡ holds theirs
  pub count : n ≡ length theirs
  pub reads : ReadsRows medium disk theirs
  pub crash : NowHasRows medium disk theirs
