-- What a run does that makes round after round over one line: its one attach, its one recovery, its one connect, the
-- rounds with the pauses between them, what is written of each as it ends, and what is given at the end.
use Rattle.std.specs.Prelude.{ℕ, zero, suc, ◌≡◌, ◌⊎◌, ◌+◌, Bool, true, false, List, ◌++◌, codes, decimal, length}
use Rattle.std.specs.Prelude.{nat_lt}
use Rattle.std.specs.Prelude.{Ok, Err, IfErr, IsSomeAnd}
use Rattle.std.specs.Io.KnownBytes.{Appends}
use Rattle.std.specs.declared.result.Result.{Result}
use Rattle.batch_adding.specs.Opening.{CanBeAddedTo}
use Rattle.causes.specs.Cause.{Cause}
use Rattle.causes.specs.Written.{WritesPart}
use Rattle.disk_model.specs.Medium.{Medium}
use Rattle.gated_log.specs.declared.start.Purpose.TheVariants.{Write}
use Rattle.serial_link.specs.declared.link.Side.TheVariants.{Call}
use Rattle.settings_file.specs.StationSettings.{StationSettings}
use Rattle.station_base.specs.declared.row.Row.{Row}
use Rattle.station_io.specs.Sink.{Outlet}
use Rattle.packed_rows.specs.Rising.{last_row_stamp}
use Rattle.station_session.specs.Attempts.{all_batches}
use Rattle.station_session.specs.Holding.{rows_after_batches}
use Rattle.station_session.specs.Round.{AnswersRound, LeavesRound, ServesRound, round_host}
use Rattle.station_session.specs.Session.{book_of, held, session_settings}
use Rattle.station_session.specs.declared.report.Report.{Report}
use Rattle.station_session.specs.declared.round_end.RoundEnd.{RoundEnd}
use Rattle.station_session.specs.declared.round_end.RoundEnd.TheVariants as round
use Rattle.station_session.specs.declared.session.Session.{Session}
use Rattle.weather_book.specs.Stands.{StandsOn}
use Rattle.weather_book.specs.declared.book.Book.{Book}
use Rattle.command_words.specs.Command.{StationNames}
use Rattle.run_output.specs.Calls.{attaches, calls}
use Rattle.run_output.specs.Ended.{EndsBy, Lines, output_of}
use Rattle.run_output.specs.Output.{Output, led_by, no_memory, write_fault}
use Rattle.run_output.specs.Outside.{Meanings, over_disk, over_files, over_link}
use Rattle.run_output.specs.Reading.{settles}
use Rattle.run_output.specs.Steps.{CommandStep, then}
use Rattle.run_output.specs.declared.outside.Outside.{Outside}
use Rattle.run_output.specs.declared.status.Status.TheVariants as ends
use Rattle.commands.specs.Pause.{pauses_between}
use Rattle.commands.specs.Recovery.{recovers}
use Rattle.commands.specs.StationRun.{end_output, round_lines}
use Rattle.commands.specs.declared.staying.Series.{Series}

-- `stayed`, and of how many rounds the line was written
abbrev pub stayed_line : ℕ → List ℕ
stayed_line made = codes "stayed " ++ decimal made ++ codes "\n"

-- what is written last if all rounds were made
abbrev pub stayed : ℕ → Output
stayed made = record { text = stayed_line made; status = ends.Done }

-- so many rounds in a row that gave up end a stay: its line is dead
abbrev pub most_give_ups : ℕ
most_give_ups = 12

-- how many rounds in a row gave up, after one that ended so behind so many that did
abbrev pub give_ups_after : RoundEnd → ℕ → ℕ
give_ups_after round.GaveUp before = before + 1
give_ups_after other before = 0

-- whether a round that ended so may be followed by another, where so many in a row gave up
abbrev pub round_may_follow : RoundEnd → ℕ → Bool
round_may_follow round.Done give_ups = true
round_may_follow round.GaveUp give_ups = nat_lt give_ups most_give_ups
round_may_follow round.Flood give_ups = true
round_may_follow other give_ups = false

-- what is written last of a round that ended so, after so many others; one that ends by the first two has no line
abbrev pub last_output : RoundEnd → Report → ℕ → Output
last_output round.Stale report made = led_by (stayed_line made) no_memory
last_output round.OutOfMemory report made = led_by (stayed_line made) no_memory
last_output end report made = led_by (round_lines end report) (led_by (stayed_line (made + 1)) (end_output end))

-- One write of these lines: they were written whole, or it failed after a prefix of them.
pub record puts {S : Type 0} (outlet : Outlet S) (text : List ℕ) (old : S) (result : Result (Unit {0}) Output) (new : S)
    : Type 0 where
  pub written : ((result ≡ Ok tt) × Appends (outlet.taken old) (outlet.taken new) text)
      ⊎ ((result ≡ Err write_fault) × WritesPart (outlet.taken old) (outlet.taken new) text)
  pub cause : Cause (outlet.faults old) (outlet.faults new) (EndsBy ends.WriteFault result)
  pub still : ¬ (EndsBy ends.WriteFault result) → outlet.faults new ≡ outlet.faults old

-- the lines of a round are written if another may follow, and else they are given
abbrev pub tells_round : {S : Type 0} → Bool → Outlet S → RoundEnd → Report → ℕ → CommandStep S (Unit {0})
tells_round true outlet end report made = puts outlet (round_lines end report)
tells_round false outlet end report made = λ old result new. (result ≡ Err (last_output end report made)) × (new ≡ old)

-- A stay between two rounds: its session, how many of the last rounds in a row gave up, and the rows that its book
-- stands for.
pub record Standing : Type 0 where
  pub session : Session
  pub give_ups : ℕ
  pub rows : List Row

-- a session after so many rounds in a row that gave up, with these rows
abbrev pub standing : Session → ℕ → List Row → Standing
standing session give_ups rows = record { session = session; give_ups = give_ups; rows = rows }

-- what a round was answered by, with these rows
abbrev pub with_rows : List Row → Result Series Output → Result Standing Output
with_rows rows (Ok series) = Ok (standing series.session series.give_ups rows)
with_rows rows (Err output) = Err output

-- what is given if the step before was done
abbrev pub where_done : {A : Type 0} → A → Result (Unit {0}) Output → Result A Output
where_done a (Ok done) = Ok a
where_done a (Err output) = Err output

-- A session whose book stood for these rows of the disk made a round over the link and the disk, after so many others,
-- and its lines were written or are given. The rows then are these and those of the batches that were kept.
pub record stay_round {F K L D : Type 0} (m : Meanings F K L D) (made : ℕ) (began : Standing)
    (old : Outside F K L D) (result : Result Standing Output) (new : Outside F K L D) : Type 0 where
  pub stands : StandsOn m.medium (book_of began.session) old.disk began.rows
  pub ended : Session
  pub end : RoundEnd
  pub report : Report
  pub serves : ServesRound m.traffic m.medium began.rows end (round_host began.session old.link old.disk)
      (round_host ended new.link new.disk) report
  pub before : report.rows_before ≡ length began.rows
  pub after : report.rows_after ≡ held ended
  pub answers : AnswersRound m.traffic m.medium end (round_host began.session old.link old.disk)
      (round_host ended new.link new.disk) report.attempts
  pub leaves : LeavesRound m.medium end (round_host began.session old.link old.disk)
      (round_host ended new.link new.disk) report.attempts
  pub answer : Result (Unit {0}) Output
  pub told : tells_round (round_may_follow end (give_ups_after end began.give_ups)) m.outlet end report made old.out
      answer new.out
  pub given : result ≡ where_done (standing ended (give_ups_after end began.give_ups)
      (rows_after_batches (session_settings began.session) began.rows
      (all_batches (last_row_stamp began.rows) serves.tries))) answer
  pub alone : new ≡ record old { link = new.link; disk = new.disk; out = new.out }

-- a new report was made, or there was no memory for it
abbrev pub has_report_after : {W : Type 0} → ℕ → CommandStep W (Unit {0})
has_report_after made old result new =
    IfErr result (λ output. output ≡ led_by (stayed_line made) no_memory) × (new ≡ old)

-- So many rounds follow, after so many, each from where the one before and the pause behind it left session, link and
-- disk. Each is a round as `station` makes it.
abbrev pub stays : {F K L D : Type 0} → Meanings F K L D → ℕ → ℕ → ℕ → Standing → CommandStep (Outside F K L D) Lines
stays m waits zero made began = λ old result new. (output_of result ≡ stayed made) × (new ≡ old)
stays m waits (suc left) made began =
    then (has_report_after made) (λ _.
    then (stay_round m made began) (λ ended.
    then (over_link (pauses_between m.traffic waits left (stayed_line (made + 1)))) (λ _.
    stays m waits left (made + 1) ended)))

-- A new session of this book and these settings makes so many rounds. The book stands for rows of the disk.
pub record stays_by {F K L D : Type 0} (m : Meanings F K L D) (rounds waits : ℕ) (settings : StationSettings)
    (book : Book) (old : Outside F K L D) (result : Result Lines Output) (new : Outside F K L D) : Type 0 where
  pub session : Session
  pub rows : List Row
  pub book_is : book_of session ≡ book
  pub settings_are : session_settings session ≡ settings
  pub stands : StandsOn m.medium book old.disk rows
  pub goes : stays m waits rounds 0 (standing session 0 rows) old result new

-- The settings are read and judged, the archive is attached, made where there is none, and recovered to be written, the
-- console is called, each once, and then up to so many rounds are made, with pauses of so many waits between them.
abbrev pub stays_over : {F K L D : Type 0} → Meanings F K L D → StationNames → ℕ → ℕ
    → CommandStep (Outside F K L D) Lines
stays_over m names rounds waits =
    then (over_files (settles m.shelf names.settings)) (λ settings.
    then (over_disk (attaches m.medium names.archive true)) (λ _.
    then (over_disk (recovers m.medium settings.most Write)) (λ book.
    then (over_link (calls m.traffic Call names.address)) (λ _.
    stays_by m rounds waits settings book))))

-- the disk tells a file to which rows may be added
abbrev pub MayGrow : {D : Type 0} → Medium D → D → Type 0
MayGrow medium disk = (rows : List Row) × IsSomeAnd (medium.seen disk) (λ file. CanBeAddedTo file rows)
