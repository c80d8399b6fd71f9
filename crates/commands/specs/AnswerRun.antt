-- What a run does that answers requests for an archive's rows: the recovery of the archive, its one connect, the
-- answers, and what is given of them.
use Rattle.std.specs.Prelude.{ℕ, ◌≡◌, ◌≤◌, ◌*◌, ⊤, List, [], ◌++◌, Some, codes, decimal}
use Rattle.std.specs.declared.result.Result.{Result}
use Rattle.disk_model.specs.Disk.{Faults, Stays}
use Rattle.disk_model.specs.Medium.{Medium}
use Rattle.query_service.specs.Lines.{lines_in}
use Rattle.query_service.specs.AnsweredLines.{AnswersLines}
use Rattle.query_service.specs.Service.{ReadsFor}
use Rattle.query_service.specs.TurnByTurn.{TurnByTurn, query_room}
use Rattle.query_service.specs.Turns.{AnswersTurns}
use Rattle.query_service.specs.declared.service.QueryEnd.{QueryEnd}
use Rattle.query_service.specs.declared.service.QueryEnd.TheVariants as query_end
use Rattle.run_output.specs.Calls.{calls}
use Rattle.run_output.specs.Ended.{Lines, output_of}
use Rattle.run_output.specs.Output.{Output, disk_fault, link_fault, no_memory}
use Rattle.run_output.specs.Outside.{Meanings, over_link}
use Rattle.run_output.specs.Steps.{CommandStep, then}
use Rattle.run_output.specs.declared.outside.Outside.{Outside}
use Rattle.run_output.specs.declared.status.Status.TheVariants as ends
use Rattle.serial_link.specs.Link.{AreStill, Talks}
use Rattle.serial_link.specs.Traffic.{Traffic}
use Rattle.serial_link.specs.declared.link.Side.TheVariants.{Serve}
use Rattle.serial_link.specs.declared.talk.TalkItem.{TalkItem}
use Rattle.station_base.specs.declared.row.Row.{Row}
use Rattle.wake_retry.specs.Bounds.{said}
use Rattle.wake_retry.specs.Parts.{heard, count_met}
use Rattle.weather_book.specs.Book.{BookStandsFor}
use Rattle.weather_book.specs.Stands.{ReadsRows}
use Rattle.weather_book.specs.declared.book.Book.{Book}
use Rattle.commands.specs.Recovery.{reads_archive}

-- `queries`, and how many lines were answered
abbrev pub queries_line : ℕ → List ℕ
queries_line lines = codes "queries " ++ decimal lines ++ codes "\n"

-- what is written of a service that ended so
abbrev pub queries_output : QueryEnd → ℕ → Output
queries_output query_end.Done lines = record { text = queries_line lines; status = ends.Done }
queries_output query_end.LinkFault lines = link_fault
queries_output query_end.DiskFault lines = disk_fault
queries_output query_end.OutOfMemory lines = no_memory

-- Requests were answered from the book over the link, with these causes, and what came of that is given.
pub record requests_answered {L D : Type 0} (traffic : Traffic L) (medium : Medium D) (book : Book) (turns : ℕ)
    (link : L) (disk : D) (result : Result Lines Output) (link' : L) (disk' : D) : Type 0 where
  pub end : QueryEnd
  pub lines : ℕ
  pub talks : Talks traffic link (AnswersTurns medium book disk end turns lines) (end ≡ query_end.LinkFault)
      (end ≡ query_end.OutOfMemory) link'
  pub link_still : AreStill traffic link (end ≡ query_end.LinkFault) ⊤ (end ≡ query_end.OutOfMemory) link'
  pub stays : Stays medium disk disk'
  pub reads : (rows : List Row) → BookStandsFor book rows → ReadsFor medium rows end disk disk'
  pub disk_cause : Faults medium disk disk' (end ≡ query_end.DiskFault)
  pub given : output_of result ≡ queries_output end lines

-- In each of so many turns a wait passed or up to 256 bytes were heard. Where the disk tells its bytes what was said
-- are the answers, by these rows, to the lines that were heard: to all, or up to a fault to some in front. Each turn's
-- answers are said before the next one.
pub record AnswersRows (rows : List Row) (told : Type 0) (end : QueryEnd) (turns lines : ℕ)
    (t : List TalkItem) : Type 0 where
  pub most : count_met t ≤ query_room * turns
  pub least : end ≡ query_end.Done → turns ≤ count_met t
  pub answers : told → AnswersLines end rows (lines_in (heard t)) (said t) 0 lines
  pub turn_by_turn : told → (rest : List ℕ) × TurnByTurn end rows turns [] t rest

-- the disk tells its bytes
abbrev pub DiskIsTold : {D : Type 0} → Medium D → D → Type 0
DiskIsTold medium disk = (file : List ℕ) × (medium.seen disk ≡ Some file)

-- The book stands for the rows of the archive. Requests were answered by these, they were read within their slots, and
-- nothing was changed.
pub record answers {F K L D : Type 0} (m : Meanings F K L D) (turns : ℕ) (book : Book)
    (old : Outside F K L D) (result : Result Lines Output) (new : Outside F K L D) : Type 0 where
  pub rows : List Row
  pub stands : BookStandsFor book rows
  pub archive : ReadsRows m.medium old.disk rows
  pub end : QueryEnd
  pub lines : ℕ
  pub talks : Talks m.traffic old.link (AnswersRows rows (DiskIsTold m.medium old.disk) end turns lines)
      (end ≡ query_end.LinkFault) (end ≡ query_end.OutOfMemory) new.link
  pub link_still : AreStill m.traffic old.link (end ≡ query_end.LinkFault) ⊤ (end ≡ query_end.OutOfMemory) new.link
  pub reads : ReadsFor m.medium rows end old.disk new.disk
  pub stays : Stays m.medium old.disk new.disk
  pub disk_cause : Faults m.medium old.disk new.disk (end ≡ query_end.DiskFault)
  pub given : output_of result ≡ queries_output end lines
  pub alone : new ≡ record old { disk = new.disk; link = new.link }

-- The archive of the file of this name is recovered to be read, a call is waited for at the address, and requests are
-- answered over it.
abbrev pub answers_over : {F K L D : Type 0} → Meanings F K L D → List ℕ → List ℕ → ℕ
    → CommandStep (Outside F K L D) Lines
answers_over m archive address turns =
    then (reads_archive m archive) (λ book.
    then (over_link (calls m.traffic Serve address)) (λ _.
    answers m turns book))
