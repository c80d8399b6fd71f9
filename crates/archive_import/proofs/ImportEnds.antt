-- How an import ends whose archive was not opened.
use Rattle.std.proofs.Common.{◌≡◌, ℕ, List, refl}
use Rattle.station_base.specs.declared.row.Row.{Row}
use Rattle.batch_adding.specs.Calls.{is_opening_fault}
use Rattle.gated_log.specs.Start.{MovedToWrite}
use Rattle.batch_adding.specs.Opening.{CannotBeAddedTo, OnJudged}
use Rattle.batch_adding.specs.declared.opening.NotOpened.{NotOpened}
use Rattle.batch_adding.specs.declared.opening.NotOpened.TheVariants as to_open
use Rattle.archive_import.specs.Ends.{import_not_opened, is_import_fault}
use Rattle.archive_import.specs.Importing.{ImportAnswers, ImportMoves}

pub refused_answers : (why : NotOpened) (rows : List Row) (to : List ℕ) → CannotBeAddedTo why to → ImportAnswers (import_not_opened why) rows to
refused_answers (to_open.NotArchive bytes) rows to is = is
refused_answers to_open.OldVersion rows to is = is
refused_answers (to_open.Damaged place) rows to is = is
refused_answers to_open.Fault rows to is = tt
refused_answers to_open.OutOfMemory rows to is = tt

pub refused_faults : (why : NotOpened) → is_opening_fault why ≡ is_import_fault (import_not_opened why)
refused_faults (to_open.NotArchive bytes) = refl
refused_faults to_open.OldVersion = refl
refused_faults (to_open.Damaged place) = refl
refused_faults to_open.Fault = refl
refused_faults to_open.OutOfMemory = refl

pub refused_moves : (why : NotOpened) (told : Type 0) (old new : ℕ) (to : List ℕ) → OnJudged why told → (told → MovedToWrite old new to)
    → ImportMoves (import_not_opened why) old new to
refused_moves (to_open.NotArchive bytes) told old new to moved by = by moved
refused_moves to_open.OldVersion told old new to moved by = by moved
refused_moves (to_open.Damaged place) told old new to moved by = by moved
refused_moves to_open.Fault told old new to moved by = tt
refused_moves to_open.OutOfMemory told old new to moved by = tt
