-- What a run does that brings an archive up to date from a console: its one attach, the recovery, its one connect, the
-- round, and what is given of it.
use Rattle.std.specs.Prelude.{ℕ, ◌≡◌, ◌+◌, true, List, [], ◌∷◌, ◌++◌, Option, Some, codes, decimal}
use Rattle.std.specs.Prelude.{length, IfErr, IfOk, IsSomeAnd}
use Rattle.std.specs.declared.result.Result.{Result}
use Rattle.batch_adding.specs.Opening.{CanBeAddedTo}
use Rattle.disk_model.specs.Medium.{Medium}
use Rattle.dmpaft_pump.specs.TroubleText.{trouble_text}
use Rattle.dmpaft_pump.specs.declared.outcome.Trouble.{Trouble}
use Rattle.gated_log.specs.declared.start.Purpose.TheVariants.{Write}
use Rattle.serial_link.specs.Traffic.{Traffic}
use Rattle.serial_link.specs.declared.link.Side.TheVariants.{Call}
use Rattle.serial_link.specs.declared.talk.TalkItem.{TalkItem}
use Rattle.settings_file.specs.StationSettings.{StationSettings}
use Rattle.station_base.specs.CivilMinute.{CivilMinute}
use Rattle.station_base.specs.declared.row.Row.{Row}
use Rattle.station_session.specs.Attempts.{AreAttempts, MadeAttempt, all_said}
use Rattle.station_session.specs.Report.{IsNew, acked}
use Rattle.station_session.specs.Round.{AnswersRound, LeavesRound, ServesRound, round_host}
use Rattle.station_session.specs.Session.{book_of, held, session_settings}
use Rattle.station_session.specs.declared.report.Report.{Report}
use Rattle.station_session.specs.declared.round_end.RoundEnd.{RoundEnd}
use Rattle.station_session.specs.declared.round_end.RoundEnd.TheVariants as round
use Rattle.station_session.specs.declared.session.Session.{Session}
use Rattle.packed_rows.specs.Rising.{last_row_stamp}
use Rattle.weather_book.specs.Stands.{StandsOn}
use Rattle.weather_book.specs.declared.book.Book.{Book}
use Rattle.command_words.specs.Command.{StationNames}
use Rattle.run_output.specs.Calls.{attaches, calls}
use Rattle.run_output.specs.Ended.{Lines, output_of}
use Rattle.run_output.specs.Output.{Output, disk_fault, led_by, link_fault, no_memory}
use Rattle.run_output.specs.Outside.{Meanings, over_disk, over_files, over_link}
use Rattle.run_output.specs.Reading.{settles}
use Rattle.run_output.specs.Steps.{CommandStep, then}
use Rattle.run_output.specs.declared.outside.Outside.{Outside}
use Rattle.run_output.specs.declared.status.Status.TheVariants as ends
use Rattle.commands.specs.Recovery.{recovers}

-- the word of a round's end; a round that ends by the last two has no line
abbrev pub end_word : RoundEnd → List ℕ
end_word round.Done = codes "ok"
end_word round.GaveUp = codes "gaveup"
end_word round.ArchiveFull = codes "full"
end_word round.LinkFault = codes "link"
end_word round.DiskFault = codes "disk"
end_word round.Flood = codes "flood"
end_word round.Stale = []
end_word round.OutOfMemory = []

-- `round`, the word of its end, and its numbers
abbrev pub round_numbers_line : List ℕ → Report → List ℕ
round_numbers_line word report =
    codes "round " ++ word
    ++ codes " attempts " ++ decimal report.attempts
    ++ codes " pages " ++ decimal report.tally.pages
    ++ codes " skipped " ++ decimal report.tally.skipped
    ++ codes " acked " ++ decimal (acked report)
    ++ codes " rows " ++ decimal report.rows_after ++ codes "\n"

-- the line of a round
abbrev pub station_round_line : RoundEnd → Report → List ℕ
station_round_line end report = round_numbers_line (end_word end) report

-- the line of an attempt of this number that failed
abbrev pub attempt_line : ℕ → Trouble → List ℕ
attempt_line number trouble = codes "attempt " ++ decimal number ++ codes " " ++ trouble_text trouble ++ codes "\n"

-- the lines of attempts that failed, from this number on
abbrev pub attempt_lines : ℕ → List Trouble → List ℕ
attempt_lines number [] = []
attempt_lines number (trouble ∷ more) = attempt_line number trouble ++ attempt_lines (number + 1) more

-- the line behind that of the round, and the status
abbrev pub end_output : RoundEnd → Output
end_output round.Done = record { text = []; status = ends.Done }
end_output round.GaveUp = record { text = codes "gave up\n"; status = ends.Trouble }
end_output round.ArchiveFull = record { text = codes "archive full\n"; status = ends.ArchiveFull }
end_output round.LinkFault = link_fault
end_output round.DiskFault = disk_fault
end_output round.Flood = record { text = codes "flood\n"; status = ends.Flood }
end_output round.Stale = no_memory
end_output round.OutOfMemory = no_memory

-- the lines of its attempts that failed, and its own
abbrev pub round_lines : RoundEnd → Report → List ℕ
round_lines end report = attempt_lines 1 report.troubles.items ++ station_round_line end report

-- what is written of a round
abbrev pub round_output : RoundEnd → Report → Output
round_output round.Stale report = no_memory
round_output round.OutOfMemory report = no_memory
round_output end report = led_by (round_lines end report) (end_output end)

-- A session of this book and these settings made a round over the link and the disk, and what came of it is given. The
-- book stood for rows of the disk.
pub record rounds {F K L D : Type 0} (m : Meanings F K L D) (settings : StationSettings) (book : Book)
    (old : Outside F K L D) (result : Result Lines Output) (new : Outside F K L D) : Type 0 where
  pub rows : List Row
  pub stands : StandsOn m.medium book old.disk rows
  pub began : Session
  pub ended : Session
  pub end : RoundEnd
  pub report : Report
  pub book_is : book_of began ≡ book
  pub settings_are : session_settings began ≡ settings
  pub serves : ServesRound m.traffic m.medium rows end (round_host began old.link old.disk)
      (round_host ended new.link new.disk) report
  pub before : report.rows_before ≡ length rows
  pub after : report.rows_after ≡ held ended
  pub answers : AnswersRound m.traffic m.medium end (round_host began old.link old.disk)
      (round_host ended new.link new.disk) report.attempts
  pub leaves : LeavesRound m.medium end (round_host began old.link old.disk)
      (round_host ended new.link new.disk) report.attempts
  pub given : output_of result ≡ round_output end report
  pub alone : new ≡ record old { link = new.link; disk = new.disk }

-- a new report was made, or there was no memory for it
abbrev pub has_report : {W : Type 0} → CommandStep W Report
has_report old result new =
    IfOk result (λ report. IsNew report) × IfErr result (λ output. output ≡ no_memory) × (new ≡ old)

-- The settings are read and judged, the archive is attached, made where there is none, and recovered to be written,
-- the console is called, and the round is made.
abbrev pub catches_up : {F K L D : Type 0} → Meanings F K L D → StationNames → CommandStep (Outside F K L D) Lines
catches_up m names =
    then (over_files (settles m.shelf names.settings)) (λ settings.
    then (over_disk (attaches m.medium names.archive true)) (λ _.
    then (over_disk (recovers m.medium settings.most Write)) (λ book.
    then has_report (λ _.
    then (over_link (calls m.traffic Call names.address)) (λ _.
    rounds m settings book)))))

-- What a link gained is told, and is the talk of up to three attempts of which the last is whole and all others failed,
-- the first after this stamp, and each later one after the last record kept.
pub record ShowsWhole {L : Type 0} (traffic : Traffic L) (last : Option CivilMinute) (old new : L) : Type 0 where
  pub before : List TalkItem
  pub tries : List MadeAttempt
  pub told : traffic.talk old ≡ Some before
  pub grown : traffic.talk new ≡ Some (before ++ all_said tries)
  pub whole : AreAttempts 0 last tries round.Done

-- The disk tells an archive with these rows to which more may be added, and what the link gained shows a whole attempt
-- after the last of them.
pub record ShowsCaughtUp {L D : Type 0} (traffic : Traffic L) (medium : Medium D) (disk : D) (old new : L)
    : Type 0 where
  pub rows : List Row
  pub archive : IsSomeAnd (medium.seen disk) (λ file. CanBeAddedTo file rows)
  pub talk : ShowsWhole traffic (last_row_stamp rows) old new
