-- Rows whose stamps exceed one, among rows whose stamps rise.
use Rattle.std.proofs.Common.{◌≡◌, true, false, List, [], ◌∷◌, Option, Some, None, refl, sym, ◌∙◌, ap, arith}
use Rattle.std.proofs.lemmas.Bool.{ltb-true, lt-ltb}
use Rattle.station_base.specs.CivilMinute.{CivilMinute}
use Rattle.station_base.specs.LastStamp.{level}
use Rattle.station_base.proofs.LastStamps.{exceeds-level}
use Rattle.station_base.specs.declared.row.Row.{Row}
use Rattle.packed_rows.specs.Rising.{RowsRiseAfter, stamp_exceeds}
use Rattle.archive_import.specs.Importing.{later_rows}

-- what exceeds a stamp that exceeds another one exceeds that too
exceeds_on : (last : Option CivilMinute) (a b : CivilMinute) → stamp_exceeds last a ≡ true → stamp_exceeds (Some a) b ≡ true → stamp_exceeds last b ≡ true
exceeds_on last a b one two =
    exceeds-level last (Some b)
    ∙ lt-ltb (level last) (level (Some b))
    (omega (arith, ltb-true (level last) (level (Some a)) (sym (exceeds-level last (Some a)) ∙ one), ltb-true (level (Some a)) (level (Some b)) (sym (exceeds-level (Some a) (Some b)) ∙ two)))

kept : (last : Option CivilMinute) (row : Row) (rows : List Row) → stamp_exceeds last row.stamp ≡ true → later_rows last (row ∷ rows) ≡ row ∷ later_rows last rows
kept last row rows later = rw later refl

-- a row that is not later is passed over
pub passed : (last : Option CivilMinute) (row : Row) (rows : List Row) → stamp_exceeds last row.stamp ≡ false → later_rows last (row ∷ rows) ≡ later_rows last rows
passed last row rows not_later = rw not_later refl

-- behind a later row all are later
all_later : (last : Option CivilMinute) (row : Row) (rows : List Row) → stamp_exceeds last row.stamp ≡ true → RowsRiseAfter (Some row.stamp) rows → later_rows last rows ≡ rows
all_later last row [] later rise = refl
all_later last row (next ∷ rows) later rise =
    let here = exceeds_on last row.stamp next.stamp later rise.0 in
    kept last next rows here ∙ ap (λ (others : List Row). next ∷ others) (all_later last next rows here rise.1)

-- from the first later row on all are later
pub from_later : (last : Option CivilMinute) (row : Row) (rows : List Row) → stamp_exceeds last row.stamp ≡ true → RowsRiseAfter None (row ∷ rows) → later_rows last (row ∷ rows) ≡ row ∷ rows
from_later last row rows later rise = kept last row rows later ∙ ap (λ (others : List Row). row ∷ others) (all_later last row rows later rise.1)

-- rows behind others rise by themselves
pub rise_alone : (last : Option CivilMinute) (rows : List Row) → RowsRiseAfter last rows → RowsRiseAfter None rows
rise_alone last [] rise = tt
rise_alone last (row ∷ rows) rise = (refl, rise.1)
