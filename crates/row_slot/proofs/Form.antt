-- A slot is read exactly where it is well-formed.
use Rattle.std.proofs.Common.{◌≡◌, ℕ, zero, suc, ℤ, ◌+◌, ◌*◌, ◌<◌, ◌==◌, ◌↔◌, Bool, true, false, List, drop, get_or, arith, Option, Some, None, refl, sym, ap, ◌∙◌}
use Rattle.std.specs.Prelude.{IsSome, is_some, not, ◌&&◌}
use Rattle.std.specs.Bool.{then_some}
use Rattle.std.specs.Int.{bit_at}
use Rattle.std.proofs.lemmas.Nat.Bits.{bit_at-lt}
use Rattle.std.proofs.lemmas.Bool.{false≢true}
use Rattle.std.proofs.lemmas.List.{drop-drop}
use Rattle.station_base.specs.CivilMinute.{CivilMinute}
use Rattle.station_base.specs.FieldSet.{is_member, AreMissing}
use Rattle.station_base.proofs.FieldSets.{missing_below, missing_free, missing_where}
use Rattle.station_base.specs.Period.{is_period}
use Rattle.station_base.specs.declared.row.Row.{Row}
use Rattle.row_slot.specs.Values.{signed_number_in, is_allowed}
use Rattle.row_slot.specs.Slot.{is_row_slot, stamp_in_slot, interval_in, presence_in, values_in, limited_in, row_of, row_in_slot}
use Rattle.row_slot.specs.WellFormed.{IsWellFormed}
use Rattle.row_slot.proofs.Fields.{AreFields, has_value, number_of, fields_of, some_at, some_read}
use Rattle.row_slot.proofs.Slots.{AreMarks, AreParts, is_row_slot-marks, marks-is_row_slot, parts-row_in}
use Rattle.station_base.specs.Fields.{field_count}

-- the number of a field, by its place in the slot
place_of : (slot : List ℕ) (field : ℕ) → number_of (drop 20 slot) field ≡ signed_number_in (drop (20 + 4 * field) slot)
place_of slot field = ap signed_number_in (drop-drop (4 * field) 20 slot)

fields_in : (slot : List ℕ) → AreFields field_count (presence_in slot) (drop 20 slot) → (field : ℕ) → field < field_count →
    is_allowed (has_value (presence_in slot) field) (signed_number_in (drop (20 + 4 * field) slot)) ≡ true
fields_in slot are field within = ap (is_allowed (has_value (presence_in slot) field)) (sym (place_of slot field)) ∙ are.allowed field within

not_one : (b : Bool) (bit : ℕ) → bit < 2 → (bit == 1) ≡ b → b ≡ false → bit ≡ 0
not_one b zero small is none = refl
not_one b (suc zero) small is none = absurd (false≢true (sym none ∙ sym is))
not_one b (suc (suc bit)) small is none = absurd (omega arith)

-- a field that limits made missing has no value, and so no presence bit
missing_in : (slot : List ℕ) (row : Row) → AreParts slot row → (field : ℕ) → field < field_count → is_member (limited_in slot) field ≡ true → bit_at (presence_in slot) field ≡ 0
missing_in slot row parts field within member =
    let free = missing_free row.limited row.values parts.missing field within in
    let some = some_at field_count (presence_in slot) (drop 20 slot) row.values parts.values field within in
    let one : is_member row.limited field ≡ true = ap (λ (n : ℕ). is_member n field) (sym parts.limited) ∙ member in
    not_one (is_some (get_or row.values field None)) (bit_at (presence_in slot) field) (bit_at-lt (presence_in slot) field) (sym some) (none_of (is_member row.limited field) (is_some (get_or row.values field None)) one free)
  where
    none_of : (a b : Bool) → a ≡ true → not (a && b) ≡ true → b ≡ false
    none_of true true one free = sym free
    none_of true false one free = refl
    none_of false b one free = absurd (false≢true one)

read_formed : (slot : List ℕ) (row : Row) → row_in_slot slot ≡ Some row → IsWellFormed slot
read_formed slot row is =
    let parts : AreParts slot row = parts-row_in slot row is in
    let marks : AreMarks slot = marks-is_row_slot slot parts.marked in
    let fields : AreFields field_count (presence_in slot) (drop 20 slot) = fields_of field_count (presence_in slot) (drop 20 slot) row.values parts.values in
    record {
      gate = marks.gate;
      kind = marks.kind;
      batch = marks.batch;
      stamp = ap is_some parts.stamp;
      interval = parts.period;
      spare = marks.spare;
      presence = fields.below;
      values = fields_in slot fields;
      limited = rw parts.limited (missing_below row.limited row.values parts.missing);
      missing = missing_in slot row parts;
    }

some_row : (marked periodic : Bool) (stamp : Option CivilMinute) (interval : ℕ) (values : Option (List (Option ℤ))) (limited : ℕ) → marked ≡ true → IsSome stamp → periodic ≡ true → IsSome values →
    ((vs : List (Option ℤ)) → values ≡ Some vs → AreMissing limited vs) → IsSome (row_of marked stamp periodic interval values limited)
some_row false periodic stamp interval values limited m s p v l = absurd (false≢true m)
some_row true periodic None interval values limited m s p v l = absurd (false≢true s)
some_row true false (Some stamp) interval values limited m s p v l = absurd (false≢true p)
some_row true true (Some stamp) interval None limited m s p v l = absurd (false≢true v)
some_row true true (Some stamp) interval (Some values) limited m s p v l = rw (l values refl) refl

-- the values of a slot have none where limits made a field missing
missing_of : (slot : List ℕ) → IsWellFormed slot → (values : List (Option ℤ)) → values_in slot ≡ Some values → AreMissing (limited_in slot) values
missing_of slot is values read =
    missing_where (limited_in slot) values is.limited
    (λ field within. free (is_member (limited_in slot) field) (is_some (get_or values field None)) (λ member.
    some_at field_count (presence_in slot) (drop 20 slot) values read field within ∙ ap (λ (n : ℕ). n == 1) (is.missing field within member)))
  where
    free : (a b : Bool) → (a ≡ true → b ≡ false) → not (a && b) ≡ true
    free true b none = rw (none refl) refl
    free false b none = refl

formed_read : (slot : List ℕ) → IsWellFormed slot → IsSome (row_in_slot slot)
unfolding row_in_slot
formed_read slot is =
    let marks : AreMarks slot = record { kind = is.kind; gate = is.gate; batch = is.batch; spare = is.spare } in
    let fields : AreFields field_count (presence_in slot) (drop 20 slot) = record {
      below = is.presence;
      allowed = λ field within. ap (is_allowed (has_value (presence_in slot) field)) (place_of slot field) ∙ is.values field within;
    }
    in
    some_row (is_row_slot slot) (is_period (interval_in slot)) (stamp_in_slot slot) (interval_in slot) (values_in slot) (limited_in slot)
    (is_row_slot-marks slot marks) is.stamp is.interval (some_read field_count (presence_in slot) (drop 20 slot) fields) (missing_of slot is)

-- a slot is read as a row exactly where it is well-formed
pub read_where_formed : (slot : List ℕ) (is_row : Bool) (row : Row) → row_in_slot slot ≡ then_some is_row row → (is_row ≡ true) ↔ IsWellFormed slot
read_where_formed slot true row is = (λ _. read_formed slot row is, λ _. refl)
read_where_formed slot false row is = (λ e. absurd (false≢true e), λ formed. absurd (false≢true (sym (ap is_some is) ∙ formed_read slot formed)))

-- the row that was read, where one was
pub read_when : (slot : List ℕ) (is_row : Bool) (row : Row) → row_in_slot slot ≡ then_some is_row row → is_row ≡ true → row_in_slot slot ≡ Some row
read_when slot is_row row is read = is ∙ ap (λ (b : Bool). then_some b row) read
