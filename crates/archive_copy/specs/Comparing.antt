-- How the rows of the archive to copy to compare with those of the archive to copy from.
use Rattle.std.specs.Prelude.{◌≡◌, ◌≢◌, ℕ, ◌<◌, List, length, take, slice_get}
use Rattle.causes.specs.Lists.{IsFrontOf}
use Rattle.station_base.specs.declared.row.Row.{Row}
use Rattle.archive_copy.specs.declared.comparing.Compared.{Compared}
use Rattle.archive_copy.specs.declared.comparing.Compared.TheVariants.{Front, UnlikeAt, FromFault, ToFault}

-- row n is the first that the other rows do not have there, as which they need not have so many
pub record IsFirstUnlike (mine theirs : List Row) (n : ℕ) : Type 0 where
  pub front : take n mine ≡ take n theirs
  pub has_it : n < length mine
  pub unlike : slice_get mine n ≢ slice_get theirs n

-- what a comparison says of the rows
abbrev pub Compares : Compared → List Row → List Row → Type 0
Compares Front mine theirs = IsFrontOf mine theirs
Compares (UnlikeAt n) mine theirs = IsFirstUnlike mine theirs n
Compares FromFault mine theirs = Unit {0}
Compares ToFault mine theirs = Unit {0}
