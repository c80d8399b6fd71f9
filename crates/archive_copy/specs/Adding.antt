-- The rows that a copy adds, and how far the moment comes.
use Rattle.std.specs.Prelude.{◌≡◌, ℕ, ◌+◌, ◌-◌, List, [], length, drop}
use Rattle.station_base.specs.declared.row.Row.{Row}
use Rattle.gated_log.specs.Start.{MovedToWrite}
use Rattle.packed_rows.specs.Rows.{RowsOf, holds, rows_of}
use Rattle.batch_adding.specs.Adding.{changes_for_rows}
use Rattle.archive_copy.specs.declared.end.CopyEnd.{CopyEnd}
use Rattle.archive_copy.specs.declared.end.CopyEnd.TheVariants.{Done, FromDamaged, NotPrefix, ToDamaged, ToNotArchive}
use Rattle.archive_copy.specs.declared.end.CopyEnd.TheVariants.{ToOldVersion}
use Rattle.archive_copy.specs.declared.end.CopyEnd.TheVariants.{FromFault, ToFault, OutOfMemory}

-- the rows of an archive behind those that the other one has
abbrev pub next_rows : RowsOf → List Row → List Row
next_rows (holds theirs) mine = drop (length mine) theirs
next_rows other mine = []

-- the rows that may be added by a copy that ends so
abbrev pub to_add : CopyEnd → RowsOf → List Row → List Row
to_add (NotPrefix n) theirs mine = []
to_add other theirs mine = next_rows theirs mine

-- how an adding may end that has so many rows in all
abbrev pub IsOfAdding : CopyEnd → ℕ → Type 0
IsOfAdding (Done n) count = n ≡ count
IsOfAdding (FromDamaged place) count = place ≡ 0
IsOfAdding FromFault count = Unit {0}
IsOfAdding ToFault count = Unit {0}
IsOfAdding OutOfMemory count = Unit {0}
IsOfAdding other count = ⊥

-- How far the moment comes: by the changes of a recovery, and by those of the batches. A file that is refused is only
-- synced, since it is not made anew. (A copy that stops says less.)
abbrev pub CopyMoves : CopyEnd → ℕ → ℕ → List ℕ → Type 0
CopyMoves (Done n) old new to =
    (mine : List Row) × (opened : ℕ) × (rows_of to ≡ holds mine) × MovedToWrite old opened to
    × (new ≡ opened + changes_for_rows (n - length mine))
CopyMoves (NotPrefix n) old new to = MovedToWrite old new to
CopyMoves (ToNotArchive bytes) old new to = MovedToWrite old new to
CopyMoves ToOldVersion old new to = MovedToWrite old new to
CopyMoves (ToDamaged place) old new to = MovedToWrite old new to
CopyMoves other old new to = Unit {0}
