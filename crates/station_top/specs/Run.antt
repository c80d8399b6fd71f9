-- What a run of a command does: which calls it makes, what it writes, and how it ends.
use Rattle.std.specs.Prelude.{ℕ, ◌≡◌, List, [], ◌∷◌, Some, None, Err, codes, IsSomeAnd}
use Rattle.std.specs.declared.option.Option.{Option}
use Rattle.std.specs.declared.result.Result.{Result}
use Rattle.causes.specs.Cause.{Cause}
use Rattle.serial_link.specs.Traffic.{Traffic}
use Rattle.station_io.specs.Sink.{Outlet}
use Rattle.command_words.specs.declared.task.Task.{Task}
use Rattle.command_words.specs.Command.{CommandLine, ConsoleNames, pages, corrected_pages, soft, task, report, climate}
use Rattle.command_words.specs.Command.{serve, replay, copy, import, station}
use Rattle.command_words.specs.Command.{console, fleet, make, stay}
use Rattle.commands.specs.AnswerRun.{answers_over}
use Rattle.commands.specs.ClimateRun.{tells_climate}
use Rattle.commands.specs.CopyRun.{TellArchives, copies_on}
use Rattle.commands.specs.GoodFile.{IsGoodFile}
use Rattle.commands.specs.ImportRun.{IsTextOfRows, imports_on}
use Rattle.commands.specs.PageRun.{prints_corrected, prints_file}
use Rattle.commands.specs.ReportRun.{TellsArchive, reports_on}
use Rattle.commands.specs.SoftRun.{HasEntries, prints_soft}
use Rattle.commands.specs.StationRun.{ShowsCaughtUp, catches_up}
use Rattle.commands.specs.StayRun.{MayGrow, stays_over}
use Rattle.commands.specs.Style.{short}
use Rattle.commands.specs.TaskRun.{ShowsDone, calls_for}
use Rattle.model_commands.specs.ConsoleRun.{IsUntouchedOrShort, serves_files}
use Rattle.model_commands.specs.FleetRun.{HasGoodFleet, fleets}
use Rattle.model_commands.specs.MakeRun.{makes_run}
use Rattle.model_commands.specs.ReplayRun.{HasGoodFiles, replays_files}
use Rattle.run_output.specs.Ended.{IsOneOf, Lines, output_of}
use Rattle.run_output.specs.Output.{RunEndsWith, Output}
use Rattle.run_output.specs.Outside.{Meanings}
use Rattle.run_output.specs.Reading.{SettingsAreAccepted}
use Rattle.run_output.specs.Steps.{CommandStep}
use Rattle.run_output.specs.declared.outside.Outside.{Outside}
use Rattle.run_output.specs.declared.status.Status.{Status}
use Rattle.run_output.specs.declared.status.Status.TheVariants as ends

-- what is written of words outside the table
abbrev pub usage : Output
usage = record { text = codes "usage\n"; status = ends.Usage }

-- Nothing was touched, and this line was written.
pub record IsUsage {F K L D : Type 0} (outlet : Outlet K) (old new : Outside F K L D) (result : ℕ) : Type 0 where
  pub alone : new ≡ record old { out = new.out }
  pub written : RunEndsWith outlet usage old.out new.out result

-- what each command does, up to its last lines
abbrev pub performs : {F K L D : Type 0} → Meanings F K L D → CommandLine → CommandStep (Outside F K L D) Lines
performs m (pages file) = prints_file m short file
performs m (corrected_pages settings file) = prints_corrected m settings file
performs m (soft settings file) = prints_soft m settings file
performs m (task address asked) = calls_for m address asked
performs m (report archive wanted) = reports_on m archive wanted
performs m (climate archive year) = tells_climate m archive year
performs m (serve archive address turns) = answers_over m archive address turns
performs m (replay settings schedule) = replays_files m settings schedule
performs m (copy from to) = copies_on m from to
performs m (import rows archive) = imports_on m rows archive
performs m (station names) = catches_up m names
performs m (stay names rounds waits) = stays_over m names rounds waits
performs m (console names) = serves_files m names
performs m (fleet names) = fleets m names
performs m (make seed records) = makes_run seed records

-- what the words do: those of a command what it does, and other words nothing
abbrev pub performs_words : {F K L D : Type 0} → Meanings F K L D → Option CommandLine
    → CommandStep (Outside F K L D) Lines
performs_words m (Some command) = performs m command
performs_words m None = λ old result new. (result ≡ Err usage) × (new ≡ old)

-- the statuses of a run in which a call of a disk may have failed too: that of a write fault, and, of an archive that
-- is served, those of the link
abbrev pub may_hide : CommandLine → List Status
may_hide (serve archive address turns) = ends.LinkFault ∷ ends.WriteFault ∷ ends.OutOfMemory ∷ []
may_hide other = ends.WriteFault ∷ []

-- the statuses of a run of these words in which a call of a disk may have failed too
abbrev pub may_be_hidden : Option CommandLine → List Status
may_be_hidden (Some command) = may_hide command
may_be_hidden None = ends.WriteFault ∷ []

-- The command was done, or a step ended it, and then its last lines were written.
pub record Performs {F K L D : Type 0} (m : Meanings F K L D) (command : CommandLine) (old new : Outside F K L D)
    (result : ℕ) : Type 0 where
  pub ended : Result Lines Output
  pub mid : Outside F K L D
  pub did : performs m command old ended mid
  pub alone : new ≡ record mid { out = new.out }
  pub written : RunEndsWith m.outlet (output_of ended) mid.out new.out result

-- A task that what was said and heard shows as done ends so, unless its line could not be written. It takes no memory:
-- it ends for want of memory only where the link had none.
pub record TaskPromises {L : Type 0} (traffic : Traffic L) (asked : Task) (old new : L) (result : ℕ) : Type 0 where
  pub done : ShowsDone traffic asked old new → IsOneOf (0 ∷ 9 ∷ []) result
  pub shortage : Cause (traffic.shortages old) (traffic.shortages new) (result ≡ 12)

-- Under good settings a console is served after a good schedule, unless the outside or the memory fails. A console that
-- was called takes no memory: before a call is waited for there may be none for the files or for the console.
pub record ConsolePromises {F K L D : Type 0} (m : Meanings F K L D) (names : ConsoleNames) (old new : Outside F K L D)
    (result : ℕ) : Type 0 where
  pub served : HasGoodFiles m.shelf names.settings names.schedule old.files → IsOneOf (0 ∷ 6 ∷ 8 ∷ 9 ∷ 12 ∷ []) result
  pub shortage : result ≡ 12 → IsUntouchedOrShort m.traffic old.link new.link

-- What a command comes to by good input, or by a talk that shows it: it is done, a schedule, or each one of a fleet, is
-- replayed to its end or to a delivery that was unseen, and only such a fault of the outside or want of memory keeps
-- the command from that. A stay may end too with a dead line, and a stay or an import with a full archive.
abbrev pub Promises : {F K L D : Type 0} → Meanings F K L D → CommandLine → Outside F K L D → Outside F K L D → ℕ
    → Type 0
Promises m (pages file) old new result =
    IsSomeAnd (m.shelf.held old.files file) IsGoodFile → IsOneOf (0 ∷ 8 ∷ 9 ∷ 12 ∷ []) result
Promises m (corrected_pages settings file) old new result =
    IsSomeAnd (m.shelf.held old.files settings) SettingsAreAccepted → IsSomeAnd (m.shelf.held old.files file) IsGoodFile
    → IsOneOf (0 ∷ 8 ∷ 9 ∷ 12 ∷ []) result
Promises m (soft settings file) old new result =
    HasEntries m.shelf settings file old.files → IsOneOf (0 ∷ 8 ∷ 9 ∷ 12 ∷ []) result
Promises m (task address asked) old new result = TaskPromises m.traffic asked old.link new.link result
Promises m (report archive wanted) old new result =
    TellsArchive m.medium old.disk → IsOneOf (0 ∷ 7 ∷ 9 ∷ 12 ∷ []) result
Promises m (climate archive year) old new result =
    TellsArchive m.medium old.disk → IsOneOf (0 ∷ 7 ∷ 9 ∷ 12 ∷ []) result
Promises m (serve archive address turns) old new result =
    TellsArchive m.medium old.disk → IsOneOf (0 ∷ 6 ∷ 7 ∷ 9 ∷ 12 ∷ []) result
Promises m (replay settings schedule) old new result =
    HasGoodFiles m.shelf settings schedule old.files → IsOneOf (0 ∷ 5 ∷ 8 ∷ 9 ∷ 12 ∷ []) result
Promises m (copy from to) old new result =
    TellArchives m.medium old.disk old.second → IsOneOf (0 ∷ 7 ∷ 9 ∷ 12 ∷ []) result
Promises m (import rows archive) old new result =
    IsSomeAnd (m.shelf.held old.files rows) IsTextOfRows
    → MayGrow m.medium old.disk → IsOneOf (0 ∷ 7 ∷ 8 ∷ 9 ∷ 10 ∷ 12 ∷ []) result
Promises m (station names) old new result =
    IsSomeAnd (m.shelf.held old.files names.settings) SettingsAreAccepted
    → ShowsCaughtUp m.traffic m.medium old.disk old.link new.link → IsOneOf (0 ∷ 6 ∷ 7 ∷ 8 ∷ 9 ∷ 12 ∷ []) result
Promises m (stay names rounds waits) old new result =
    IsSomeAnd (m.shelf.held old.files names.settings) SettingsAreAccepted
    → MayGrow m.medium old.disk → IsOneOf (0 ∷ 4 ∷ 6 ∷ 7 ∷ 8 ∷ 9 ∷ 10 ∷ 12 ∷ []) result
Promises m (console names) old new result = ConsolePromises m names old new result
Promises m (fleet names) old new result =
    HasGoodFleet m.shelf names old.files → IsOneOf (0 ∷ 5 ∷ 8 ∷ 9 ∷ 12 ∷ []) result
Promises m (make seed records) old new result = IsOneOf (0 ∷ 9 ∷ 12 ∷ []) result
