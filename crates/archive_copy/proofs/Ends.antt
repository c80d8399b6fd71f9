-- How a copy ends, by how its parts do.
use Rattle.std.proofs.Common.{◌≡◌, ◌+◌, ◌-◌, ◌*◌, ℕ, false, List, length, refl, sym, ◌∙◌, ap, subst}
use Rattle.causes.specs.Lists.{IsFrontOf}
use Rattle.station_base.specs.declared.row.Row.{Row}
use Rattle.packed_rows.specs.Rows.{RowsOf, holds, rows_of}
use Rattle.archive_copy.specs.declared.end.CopyEnd.{CopyEnd}
use Rattle.archive_copy.specs.declared.end.CopyEnd.TheVariants.{Done, FromNotArchive, FromDamaged, Full, ToNotArchive, ToOldVersion, ToDamaged, NotPrefix, FromFault, ToFault, OutOfMemory}
use Rattle.batch_adding.specs.Adding.{batch_count}
use Rattle.batch_adding.specs.Calls.{is_opening_fault}
use Rattle.batch_adding.specs.Opening.{CanBeAddedTo, CannotBeAddedTo, OnJudged}
use Rattle.batch_adding.specs.declared.opening.NotOpened.{NotOpened}
use Rattle.batch_adding.specs.declared.opening.NotOpened.TheVariants as to_open
use Rattle.archive_copy.specs.Adding.{IsOfAdding, CopyMoves, next_rows, to_add}
use Rattle.gated_log.specs.Start.{MovedToWrite}
use Rattle.archive_copy.specs.Calls.{is_from_fault, is_to_fault}
use Rattle.archive_copy.specs.Opening.{IsOfFrom, end_not_opened}
use Rattle.archive_copy.specs.Answers.{CopyAnswers, CanBeCopied, OnFromDamaged, RefusesFrom}

-- where the first file refuses
pub from_answers : (end : CopyEnd) (from to : List ℕ) → RefusesFrom end from → CopyAnswers end from to
from_answers (FromNotArchive bytes) from to is = is
from_answers (FromDamaged place) from to is = is
from_answers (Full n) from to is = is
from_answers FromFault from to is = tt
from_answers OutOfMemory from to is = tt
from_answers (Done n) from to is = absurd is
from_answers (ToNotArchive bytes) from to is = absurd is
from_answers ToOldVersion from to is = absurd is
from_answers (ToDamaged place) from to is = absurd is
from_answers (NotPrefix n) from to is = absurd is
from_answers ToFault from to is = absurd is

-- where the second file refuses
pub to_answers : (why : NotOpened) (from to : List ℕ) (theirs : List Row) → CanBeCopied from theirs → CannotBeAddedTo why to → CopyAnswers (end_not_opened why) from to
to_answers (to_open.NotArchive bytes) from to theirs can is = (theirs, can, is)
to_answers to_open.OldVersion from to theirs can is = (theirs, can, is)
to_answers (to_open.Damaged place) from to theirs can is = (theirs, can, is)
to_answers to_open.Fault from to theirs can is = tt
to_answers to_open.OutOfMemory from to theirs can is = tt

-- where rows were added, and none of them was out of order
pub adding_answers : (end : CopyEnd) (from to : List ℕ) (theirs mine : List Row) (count : ℕ) → IsOfAdding end count → count ≡ length theirs → (end ≡ FromDamaged 0 → ⊥)
    → CanBeCopied from theirs → CanBeAddedTo to mine → IsFrontOf mine theirs → CopyAnswers end from to
adding_answers (Done n) from to theirs mine count is all ordered can may front = (theirs, mine, can, may, (front, is ∙ all))
adding_answers (FromDamaged place) from to theirs mine count is all ordered can may front = absurd (ordered (ap FromDamaged is))
adding_answers FromFault from to theirs mine count is all ordered can may front = tt
adding_answers ToFault from to theirs mine count is all ordered can may front = tt
adding_answers OutOfMemory from to theirs mine count is all ordered can may front = tt
adding_answers (FromNotArchive bytes) from to theirs mine count is all ordered can may front = absurd is
adding_answers (Full n) from to theirs mine count is all ordered can may front = absurd is
adding_answers (ToNotArchive bytes) from to theirs mine count is all ordered can may front = absurd is
adding_answers ToOldVersion from to theirs mine count is all ordered can may front = absurd is
adding_answers (ToDamaged place) from to theirs mine count is all ordered can may front = absurd is
adding_answers (NotPrefix n) from to theirs mine count is all ordered can may front = absurd is

-- what holds where a row was out of order holds where damage is told
pub adding_undamaged : (P : Type 0) (end : CopyEnd) (count : ℕ) → IsOfAdding end count → (end ≡ FromDamaged 0 → P) → OnFromDamaged end P
adding_undamaged P (FromDamaged place) count is ordered = ordered (ap FromDamaged is)
adding_undamaged P (Done n) count is ordered = tt
adding_undamaged P FromFault count is ordered = tt
adding_undamaged P ToFault count is ordered = tt
adding_undamaged P OutOfMemory count is ordered = tt
adding_undamaged P (FromNotArchive bytes) count is ordered = tt
adding_undamaged P (Full n) count is ordered = tt
adding_undamaged P (ToNotArchive bytes) count is ordered = tt
adding_undamaged P ToOldVersion count is ordered = tt
adding_undamaged P (ToDamaged place) count is ordered = tt
adding_undamaged P (NotPrefix n) count is ordered = tt

-- an adding may add the next rows
pub adding_adds : (end : CopyEnd) (count : ℕ) (rows : RowsOf) (mine : List Row) → IsOfAdding end count → to_add end rows mine ≡ next_rows rows mine
adding_adds (Done n) count rows mine is = refl
adding_adds (FromDamaged place) count rows mine is = refl
adding_adds FromFault count rows mine is = refl
adding_adds ToFault count rows mine is = refl
adding_adds OutOfMemory count rows mine is = refl
adding_adds (FromNotArchive bytes) count rows mine is = refl
adding_adds (Full n) count rows mine is = refl
adding_adds (ToNotArchive bytes) count rows mine is = refl
adding_adds ToOldVersion count rows mine is = refl
adding_adds (ToDamaged place) count rows mine is = refl
adding_adds (NotPrefix n) count rows mine is = absurd is

-- where all was done, so many rows are told
pub done_count : (end : CopyEnd) (n count : ℕ) → end ≡ Done n → IsOfAdding end count → n ≡ count
done_count end n count is kind = let P : CopyEnd → Type 0 = λ e. IsOfAdding e count in subst P is kind

-- an end before the second archive is opened is no fault of its disk
pub no_to_fault : (end : CopyEnd) → IsOfFrom end → is_to_fault end ≡ false
no_to_fault (FromNotArchive bytes) is = refl
no_to_fault (FromDamaged place) is = refl
no_to_fault (Full n) is = refl
no_to_fault FromFault is = refl
no_to_fault OutOfMemory is = refl
no_to_fault (Done n) is = absurd is
no_to_fault (ToNotArchive bytes) is = absurd is
no_to_fault ToOldVersion is = absurd is
no_to_fault (ToDamaged place) is = absurd is
no_to_fault (NotPrefix n) is = absurd is
no_to_fault ToFault is = absurd is

-- and one as the second is opened is none of the first one's
pub no_from_fault : (why : NotOpened) → is_from_fault (end_not_opened why) ≡ false
no_from_fault (to_open.NotArchive bytes) = refl
no_from_fault to_open.OldVersion = refl
no_from_fault (to_open.Damaged place) = refl
no_from_fault to_open.Fault = refl
no_from_fault to_open.OutOfMemory = refl

-- it is one of the second's where its opening met one
pub opening_faults : (why : NotOpened) → is_opening_fault why ≡ is_to_fault (end_not_opened why)
opening_faults (to_open.NotArchive bytes) = refl
opening_faults to_open.OldVersion = refl
opening_faults (to_open.Damaged place) = refl
opening_faults to_open.Fault = refl
opening_faults to_open.OutOfMemory = refl

-- where the first file refuses, nothing is said of how far the moment came
pub from_moves : (end : CopyEnd) (old new : ℕ) (to : List ℕ) → IsOfFrom end → CopyMoves end old new to
from_moves (FromNotArchive bytes) old new to is = tt
from_moves (FromDamaged place) old new to is = tt
from_moves (Full n) old new to is = tt
from_moves FromFault old new to is = tt
from_moves OutOfMemory old new to is = tt
from_moves (Done n) old new to is = absurd is
from_moves (ToNotArchive bytes) old new to is = absurd is
from_moves ToOldVersion old new to is = absurd is
from_moves (ToDamaged place) old new to is = absurd is
from_moves (NotPrefix n) old new to is = absurd is
from_moves ToFault old new to is = tt

-- one that refuses is only synced
pub to_moves : (why : NotOpened) (told : Type 0) (old new : ℕ) (to : List ℕ) → OnJudged why told → (told → MovedToWrite old new to)
    → CopyMoves (end_not_opened why) old new to
to_moves (to_open.NotArchive bytes) told old new to moved by = by moved
to_moves to_open.OldVersion told old new to moved by = by moved
to_moves (to_open.Damaged place) told old new to moved by = by moved
to_moves to_open.Fault told old new to moved by = tt
to_moves to_open.OutOfMemory told old new to moved by = tt

-- an adding that was done took the changes of each batch
pub adding_moves : (end : CopyEnd) (old opened new count : ℕ) (to : List ℕ) (mine : List Row) → IsOfAdding end count → rows_of to ≡ holds mine → MovedToWrite old opened to
    → (end ≡ Done count → new ≡ opened + 4 * batch_count (count - length mine)) → CopyMoves end old new to
adding_moves (Done n) old opened new count to mine is has moved on =
    (mine, opened, has, moved, on (ap Done is) ∙ ap (λ (k : ℕ). opened + 4 * batch_count (k - length mine)) (sym is))
adding_moves (FromDamaged place) old opened new count to mine is has moved on = tt
adding_moves FromFault old opened new count to mine is has moved on = tt
adding_moves ToFault old opened new count to mine is has moved on = tt
adding_moves OutOfMemory old opened new count to mine is has moved on = tt
adding_moves (FromNotArchive bytes) old opened new count to mine is has moved on = tt
adding_moves (Full n) old opened new count to mine is has moved on = tt
adding_moves (ToNotArchive bytes) old opened new count to mine is has moved on = absurd is
adding_moves ToOldVersion old opened new count to mine is has moved on = absurd is
adding_moves (ToDamaged place) old opened new count to mine is has moved on = absurd is
adding_moves (NotPrefix n) old opened new count to mine is has moved on = absurd is
