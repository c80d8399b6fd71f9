-- What a run does that copies an archive: its two attaches, the copy, and the line that is given of it.
use Rattle.std.specs.Prelude.{ℕ, ◌≡◌, false, true, List, ◌++◌, codes, decimal, IsSomeAnd}
use Rattle.std.specs.declared.result.Result.{Result}
use Rattle.batch_adding.specs.Opening.{CanBeAddedTo}
use Rattle.archive_copy.specs.Answers.{CanBeCopied}
use Rattle.archive_copy.specs.Copies.{Copies}
use Rattle.archive_copy.specs.declared.end.CopyEnd.{CopyEnd}
use Rattle.archive_copy.specs.declared.end.CopyEnd.TheVariants as copied
use Rattle.causes.specs.Lists.{IsFrontOf}
use Rattle.disk_model.specs.Medium.{Medium}
use Rattle.run_output.specs.Calls.{attaches}
use Rattle.run_output.specs.Ended.{Lines, output_of}
use Rattle.run_output.specs.Output.{Output, disk_fault, no_memory}
use Rattle.run_output.specs.Outside.{Meanings, over_disk, over_second}
use Rattle.run_output.specs.Steps.{CommandStep, then}
use Rattle.run_output.specs.declared.outside.Outside.{Outside}
use Rattle.run_output.specs.declared.status.Status.TheVariants as ends
use Rattle.station_base.specs.declared.row.Row.{Row}
use Rattle.commands.specs.Recovery.{bad_archive, damaged_line, not_archive_line, old_archive}

-- `copied` and how many rows both archives have
abbrev pub copied_line : ℕ → List ℕ
copied_line rows = codes "copied " ++ decimal rows ++ codes "\n"

-- `not a prefix at row` and the number of the row, from 0
abbrev pub not_prefix_line : ℕ → List ℕ
not_prefix_line row = codes "not a prefix at row " ++ decimal row ++ codes "\n"

-- the line of a copy that ended so, and the status
abbrev pub copy_output : CopyEnd → Output
copy_output (copied.Done n) = record { text = copied_line n; status = ends.Done }
copy_output (copied.FromNotArchive bytes) = bad_archive (not_archive_line bytes)
copy_output (copied.FromDamaged place) = bad_archive (damaged_line place)
copy_output (copied.Full n) = record { text = codes "archive full\n"; status = ends.ArchiveFull }
copy_output (copied.ToNotArchive bytes) = bad_archive (not_archive_line bytes)
copy_output copied.ToOldVersion = old_archive
copy_output (copied.ToDamaged place) = bad_archive (damaged_line place)
copy_output (copied.NotPrefix n) = record { text = not_prefix_line n; status = ends.NotPrefix }
copy_output copied.FromFault = disk_fault
copy_output copied.ToFault = disk_fault
copy_output copied.OutOfMemory = no_memory

-- The archive on the one disk was copied to the other one, and what came of that is given.
pub record copies {F K L D : Type 0} (m : Meanings F K L D)
    (old : Outside F K L D) (result : Result Lines Output) (new : Outside F K L D) : Type 0 where
  pub end : CopyEnd
  pub did : Copies m.medium m.medium end old.disk old.second new.disk new.second
  pub given : output_of result ≡ copy_output end
  pub alone : new ≡ record old { disk = new.disk; second = new.second }

-- The file of the one name is attached, without making it, then that of the other name, made where there is none, and
-- then it is copied.
abbrev pub copies_on : {F K L D : Type 0} → Meanings F K L D → List ℕ → List ℕ → CommandStep (Outside F K L D) Lines
copies_on m from to =
    then (over_disk (attaches m.medium from false)) (λ _.
    then (over_second (attaches m.medium to true)) (λ _.
    copies m))

-- the one file has rows which can be copied, and the other one some of the first of them
pub record CanCopy (from to : List ℕ) : Type 0 where
  pub theirs : List Row
  pub mine : List Row
  pub from_it : CanBeCopied from theirs
  pub to_it : CanBeAddedTo to mine
  pub front : IsFrontOf mine theirs

-- both disks tell such files
abbrev pub TellArchives : {D : Type 0} → Medium D → D → D → Type 0
TellArchives medium disk second = IsSomeAnd (medium.seen disk) (λ from. IsSomeAnd (medium.seen second) (CanCopy from))
