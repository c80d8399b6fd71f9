-- The faults by which a command ends have causes.
use Rattle.std.proofs.Common.{[], ◌∷◌, refl}
use Rattle.command_words.specs.Command.{CommandLine, pages, corrected_pages, soft, task, report, climate, serve, replay, copy, import, station, stay, console, fleet, make}
use Rattle.commands.specs.Style.{short}
use Rattle.commands.proofs.AnswerLaws.{answers_over_causes}
use Rattle.commands.proofs.ClimateLaws.{tells_climate_causes}
use Rattle.commands.proofs.CopyLaws.{copies_on_causes}
use Rattle.commands.proofs.ImportLaws.{imports_on_causes}
use Rattle.commands.proofs.PageLaws.{prints_corrected_causes, prints_file_causes}
use Rattle.commands.proofs.ReportLaws.{reports_on_causes}
use Rattle.commands.proofs.SoftLaws.{prints_soft_causes}
use Rattle.commands.proofs.StationLaws.{catches_up_causes}
use Rattle.commands.proofs.StayLaws.{stays_over_causes}
use Rattle.commands.proofs.TaskLaws.{calls_for_causes}
use Rattle.model_commands.proofs.ConsoleLaws.{serves_files_causes}
use Rattle.model_commands.proofs.FleetLaws.{fleets_causes}
use Rattle.model_commands.proofs.MakeLaws.{makes_run_causes}
use Rattle.model_commands.proofs.ReplayLaws.{replays_files_causes}
use Rattle.run_output.specs.Outside.{Meanings}
use Rattle.run_output.specs.Ended.{EndsAmong}
use Rattle.run_output.specs.declared.status.Status.TheVariants.{WriteFault}
use Rattle.run_output.proofs.Causes.{CausesBut, among}
use Rattle.station_top.specs.Run.{may_hide, performs}

pub performs_causes : {F K L D : Type 0} (m : Meanings F K L D) (command : CommandLine) → CausesBut m (EndsAmong (may_hide command)) (performs m command)
performs_causes m (pages file) = among m (WriteFault ∷ []) _ refl (prints_file_causes m short file)
performs_causes m (corrected_pages settings file) = among m (WriteFault ∷ []) _ refl (prints_corrected_causes m settings file)
performs_causes m (soft settings file) = among m (WriteFault ∷ []) _ refl (prints_soft_causes m settings file)
performs_causes m (task address asked) = among m (WriteFault ∷ []) _ refl (calls_for_causes m address asked)
performs_causes m (report archive wanted) = among m (WriteFault ∷ []) _ refl (reports_on_causes m archive wanted)
performs_causes m (climate archive year) = among m (WriteFault ∷ []) _ refl (tells_climate_causes m archive year)
performs_causes m (serve archive address turns) = answers_over_causes m archive address turns
performs_causes m (replay settings schedule) = among m (WriteFault ∷ []) _ refl (replays_files_causes m settings schedule)
performs_causes m (copy from to) = among m (WriteFault ∷ []) _ refl (copies_on_causes m from to)
performs_causes m (import rows archive) = among m (WriteFault ∷ []) _ refl (imports_on_causes m rows archive)
performs_causes m (station names) = among m (WriteFault ∷ []) _ refl (catches_up_causes m names)
performs_causes m (stay names rounds waits) = among m (WriteFault ∷ []) _ refl (stays_over_causes m names rounds waits)
performs_causes m (console names) = among m (WriteFault ∷ []) _ refl (serves_files_causes m names)
performs_causes m (fleet names) = among m (WriteFault ∷ []) _ refl (fleets_causes m names)
performs_causes m (make seed records) = among m (WriteFault ∷ []) _ refl (makes_run_causes m seed records)
