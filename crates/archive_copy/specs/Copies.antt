-- What a copy does to both disks, and how it ends: its clauses together, for what stands on it.
use Rattle.std.specs.Prelude.{◌≡◌, ℕ, List}
use Rattle.causes.specs.Lists.{IsFrontOf}
use Rattle.causes.specs.Told.{WhereTold}
use Rattle.disk_model.specs.Disk.{BeginsChanges, Faults, LeavesOnly, Stays}
use Rattle.disk_model.specs.Medium.{Medium}
use Rattle.station_base.specs.declared.row.Row.{Row}
use Rattle.packed_rows.specs.Rows.{holds, rows_of}
use Rattle.weather_book.specs.Stands.{NowHasRows}
use Rattle.batch_adding.specs.Adding.{changes_to_fill, HasSome}
use Rattle.batch_adding.specs.Calls.{ToCalls}
use Rattle.archive_copy.specs.Adding.{CopyMoves, next_rows, to_add}
use Rattle.archive_copy.specs.Answers.{CopyAnswers, IsCopied, OnFromDamaged, OnFromRefused}
use Rattle.archive_copy.specs.Calls.{OnlyReads, is_from_fault, is_to_fault}
use Rattle.archive_copy.specs.declared.end.CopyEnd.{CopyEnd}
use Rattle.archive_copy.specs.declared.end.CopyEnd.TheVariants.{Done, FromFault, ToFault}

-- the changes are those of one recovery and of added batches, which are the next rows of the file to copy from
abbrev pub AddsNext : {D E : Type 0} → Medium D → Medium E → CopyEnd → D → E → E → Type 0
AddsNext one other end from to to' = ToCalls other (is_to_fault end) (λ mine next. WhereTold (one.seen from) (λ theirs.
    WhereTold (other.seen to) (λ old.
    (rows_of old ≡ holds mine) × IsFrontOf next (next_rows (rows_of theirs) mine)))) to to'

-- where each image at the start has some rows, each image since then has these, and then none or more of the next rows
-- of the file to copy from
abbrev pub LeavesNext : {D E : Type 0} → Medium D → Medium E → CopyEnd → D → E → E → Type 0
LeavesNext one other end from to to' = WhereTold (one.seen from) (λ theirs. WhereTold (other.seen to) (λ _.
    (mine : List Row) → NowHasRows other to mine
    → LeavesOnly other (HasSome mine (to_add end (rows_of theirs) mine)) to to'))

-- A copy of the archive on the one disk to the other one ended so.
pub record Copies {D E : Type 0} (one : Medium D) (other : Medium E) (end : CopyEnd) (from : D) (to : E)
    (from' : D) (to' : E) : Type 0 where
  pub answers : WhereTold (one.seen from) (λ theirs. WhereTold (other.seen to) (CopyAnswers end theirs))
  pub from_stays : Stays one from from'
  pub from_fault : Faults one from from' (end ≡ FromFault)
  pub to_fault : Faults other to to' (end ≡ ToFault)
  pub begun : BeginsChanges other changes_to_fill to to'
  pub from_went : OnlyReads one (is_from_fault end) from from'
  pub to_went : AddsNext one other end from to to'
  pub moved : WhereTold (one.seen from) (λ _. WhereTold (other.seen to)
      (CopyMoves end (other.moment to) (other.moment to')))
  pub untouched : OnFromRefused end (to' ≡ to)
  pub undamaged : OnFromDamaged end (WhereTold (one.seen from) (λ _. WhereTold (other.seen to) (λ _. to' ≡ to)))
  pub images : LeavesNext one other end from to to'
  pub copied : (n : ℕ) → end ≡ Done n → WhereTold (one.seen from) (λ theirs. WhereTold (other.seen to) (λ _.
      IsCopied other n theirs to'))
