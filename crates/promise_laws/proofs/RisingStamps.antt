-- Of rising rows each later one has a later stamp.
use Rattle.std.proofs.Common.{◌≡◌, ◌<◌, true, List, [], ◌∷◌, ◌++◌, Some, None, subst, arith}
use Rattle.std.proofs.lemmas.Bool.{ltb-true, and_parts}
use Rattle.station_base.specs.CivilMinute.{CivilMinute, minute_of}
use Rattle.station_base.specs.declared.row.Row.{Row}
use Rattle.packed_rows.specs.Rising.{stamp_exceeds, rows_rise, last_stamp_after}
use Rattle.packed_rows.proofs.RowLaws.{rise_behind}
use Rattle.promise_laws.specs.Rows.{StampsDoNotRise}

later_exceeds : (stamp : CivilMinute) (between : List Row) (later : Row) (after : List Row)
    → rows_rise (Some stamp) (between ++ later ∷ after) ≡ true → minute_of stamp < minute_of later.stamp
later_exceeds stamp [] later after up =
    ltb-true (minute_of stamp) (minute_of later.stamp) (and_parts (stamp_exceeds (Some stamp) later.stamp) (rows_rise (Some later.stamp) after) up).0
later_exceeds stamp (row ∷ between) later after up =
    let parts = and_parts (stamp_exceeds (Some stamp) row.stamp) (rows_rise (Some row.stamp) (between ++ later ∷ after)) up in
    let first : minute_of stamp < minute_of row.stamp = ltb-true (minute_of stamp) (minute_of row.stamp) parts.0 in
    omega (arith, first, later_exceeds row.stamp between later after parts.1)

-- rows do not rise if two of them do not
pub do_not_rise : (rows : List Row) → StampsDoNotRise rows → rows_rise None rows ≡ true → ⊥
do_not_rise rows h up =
    let last = last_stamp_after None h.before in
    let tail = h.between ++ h.later ∷ h.after in
    let from = rise_behind None h.before (h.earlier ∷ tail) (subst (λ (xs : List Row). rows_rise None xs ≡ true) h.are up) in
    let above = later_exceeds h.earlier.stamp h.between h.later h.after (and_parts (stamp_exceeds last h.earlier.stamp) (rows_rise (Some h.earlier.stamp) tail) from).1 in
    omega (arith, above, h.not_later)
