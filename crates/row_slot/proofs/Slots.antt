-- A row and its slot.
use Rattle.std.proofs.Common.{◌≡◌, ℕ, ℤ, suc, ◌+◌, ◌*◌, ◌%◌, ◌^◌, ◌<◌, ◌≤◌, ◌==◌, ◌&&◌, Bool, true, false, List, [], ◌∷◌, ◌++◌, length, take, drop, get_or, All, Option, Some, None, cond, refl, sym, ap, subst, ◌∙◌, arith, append-nil}
use Rattle.std.specs.Prelude.{slice_index}
use Rattle.std.proofs.Math.Seq.{drop-append_seam, drop-cons}
use Rattle.std.proofs.lemmas.Bool.{and_parts, eqb-true}
use Rattle.std.specs.Bool.{then_some}
use Rattle.std.proofs.lemmas.List.{length-drop, drop-drop, drop_all, take-append-drop}
use Rattle.byteorder.specs.Endian.{little_bytes, little_number}
use Rattle.byteorder.specs.Numbers.{little_number-reads_back}
use Rattle.station_base.specs.CivilMinute.{CivilMinute, IsCivilMinute, is_civil_minute}
use Rattle.station_base.specs.FieldSet.{AreMissing, are_missing}
use Rattle.station_base.specs.Period.{IsPeriod, is_period}
use Rattle.station_base.specs.RowLine.{IsPrintable}
use Rattle.station_base.specs.Stamp as words
use Rattle.station_base.specs.Stamp.{date_word_of, time_word_of, stamp_of_words}
use Rattle.station_base.specs.declared.row.Row.{Row}
use Rattle.station_base.proofs.FieldSets.{missing_below}
use Rattle.station_base.proofs.Periods.{period_bound}
use Rattle.station_base.proofs.Words.{stamp_of_words-of, words_of-stamp}
use Rattle.row_slot.specs.Values.{presence_of, numbers_of, spelled_numbers, slot_values_in}
use Rattle.row_slot.specs.Slot.{slot_of, number_at, is_row_slot, stamp_in_slot, interval_in, presence_in, values_in, limited_in, row_of, row_in_slot, row_size}
use Rattle.causes.specs.Lists.{AreBytes}
use Rattle.causes.proofs.Bytes.{bytes_behind}
use Rattle.row_slot.proofs.Bytes.{bytes_again}
use Rattle.row_slot.proofs.Inverse.{AreTold, values_back, values_again}
use Rattle.row_slot.proofs.Presence.{presence_below}
use Rattle.station_base.specs.Fields.{field_count}

-- a row that can be written: of a stamp, a period and 37 values within the bound
pub record IsWritable (row : Row) : Type 0 where
  pub civil : IsCivilMinute row.stamp
  pub period : IsPeriod row.interval
  pub long : length row.values ≡ field_count
  pub printable : All IsPrintable row.values
  pub missing : AreMissing row.limited row.values

pub spelled_long : (values : List (Option ℤ)) → length (spelled_numbers (numbers_of values)) ≡ 4 * length values
spelled_long [] = refl
spelled_long (value ∷ values) = let rest = spelled_long values in omega (arith, rest)

-- the day of a minute is below 32, as words tell it
day_by : (date time : ℕ) (c : CivilMinute) (test : Bool) → cond test (Some (words.spelled_stamp date time)) None ≡ Some c → c.day ≡ date % 32
day_by date time c true is = let same : words.spelled_stamp date time ≡ c = cc in sym (ap (λ (m : CivilMinute). m.day) same)
day_by date time c false is = cc

spelled_by : (c : CivilMinute) → IsCivilMinute c → cond (is_civil_minute (words.spelled_stamp (date_word_of c) (time_word_of c))) (Some (words.spelled_stamp (date_word_of c) (time_word_of c))) None ≡ Some c
unfolding stamp_of_words
spelled_by c civil = stamp_of_words-of c civil

date_small : (c : CivilMinute) → IsCivilMinute c → date_word_of c < 65536
date_small c civil = let day = day_by (date_word_of c) (time_word_of c) c (is_civil_minute (words.spelled_stamp (date_word_of c) (time_word_of c))) (spelled_by c civil) in
    omega (arith, civil.year_from, civil.year_to, civil.month_to)

time_small : (c : CivilMinute) → IsCivilMinute c → time_word_of c < 65536
time_small c civil = omega (arith, civil.hour_to, civil.minute_to)

-- parts that are all there make the row
made : CivilMinute → ℕ → List (Option ℤ) → ℕ → Row
made stamp interval values limited = record { stamp = stamp; interval = interval; values = values; limited = limited }

parts_row : (marked periodic : Bool) (stamp : Option CivilMinute) (interval : ℕ) (values : Option (List (Option ℤ))) (limited : ℕ) (row : Row) → marked ≡ true → stamp ≡ Some row.stamp →
    periodic ≡ true → interval ≡ row.interval → values ≡ Some row.values → limited ≡ row.limited → AreMissing row.limited row.values →
    row_of marked stamp periodic interval values limited ≡ Some row
unfolding made
parts_row marked periodic stamp interval values limited row m s p i v l missing =
    let same : made row.stamp row.interval row.values row.limited ≡ row = refl in
    rw (m, s, p, i, v, l, missing) (ap Some same)

-- the bytes that belong to no part, and the kind
pub record AreMarks (slot : List ℕ) : Type 0 where
  pub kind : slice_index slot 1 ≡ 1
  pub gate : slice_index slot 0 ≡ 0
  pub batch : number_at 2 2 slot ≡ 0
  pub spare : number_at 2 10 slot ≡ 0

marks_by : (kind gate batch spare : ℕ) → kind ≡ 1 → gate ≡ 0 → batch ≡ 0 → spare ≡ 0 → ((kind == 1) && (gate == 0) && (batch == 0) && (spare == 0)) ≡ true
marks_by kind gate batch spare k g b s = rw (k, g, b, s) refl

pub is_row_slot-marks : (slot : List ℕ) → AreMarks slot → is_row_slot slot ≡ true
is_row_slot-marks slot are = marks_by _ _ _ _ are.kind are.gate are.batch are.spare

parts_marked : (kind gate batch spare : ℕ) → ((kind == 1) && (gate == 0) && (batch == 0) && (spare == 0)) ≡ true → (kind ≡ 1) × (gate ≡ 0) × (batch ≡ 0) × (spare ≡ 0)
parts_marked kind gate batch spare all =
    let first = and_parts ((kind == 1) && (gate == 0) && (batch == 0)) (spare == 0) all in
    let second = and_parts ((kind == 1) && (gate == 0)) (batch == 0) first.0 in
    let last = and_parts (kind == 1) (gate == 0) second.0 in
    (eqb-true kind 1 last.0, eqb-true gate 0 last.1, eqb-true batch 0 second.1, eqb-true spare 0 first.1)

pub marks-is_row_slot : (slot : List ℕ) → is_row_slot slot ≡ true → AreMarks slot
marks-is_row_slot slot marked =
    let parts = parts_marked (slice_index slot 1) (slice_index slot 0) (number_at 2 2 slot) (number_at 2 10 slot) marked in
    record { kind = parts.0; gate = parts.1; batch = parts.2; spare = parts.3 }

-- the last bytes of a written slot
rest_of : (row : Row) → length row.values ≡ field_count → drop 168 (slot_of row) ≡ little_bytes 8 row.limited
unfolding slot_of
rest_of row long =
    let values : length (spelled_numbers (numbers_of row.values)) ≡ 148 = omega (arith, spelled_long row.values) in
    ap (λ (n : ℕ). drop n (spelled_numbers (numbers_of row.values) ++ little_bytes 8 row.limited)) (sym values) ∙ drop-append_seam (spelled_numbers (numbers_of row.values)) (little_bytes 8 row.limited)

marks_written : (row : Row) → length row.values ≡ field_count → AreMarks (slot_of row)
unfolding slot_of
marks_written row long = record { kind = refl; gate = refl; batch = refl; spare = refl }

limited_written : (row : Row) → length row.values ≡ field_count → row.limited < 2 ^ field_count → limited_in (slot_of row) ≡ row.limited
limited_written row long below =
    ap (little_number 8) (rest_of row long ∙ sym (append-nil (little_bytes 8 row.limited))) ∙ little_number-reads_back 8 row.limited [] (omega arith)

stamp_written : (row : Row) → IsCivilMinute row.stamp → stamp_in_slot (slot_of row) ≡ Some row.stamp
unfolding slot_of
stamp_written row civil =
    let date : number_at 2 4 (slot_of row) ≡ date_word_of row.stamp = little_number-reads_back 2 (date_word_of row.stamp) (drop 6 (slot_of row)) (date_small row.stamp civil) in
    let time : number_at 2 6 (slot_of row) ≡ time_word_of row.stamp = little_number-reads_back 2 (time_word_of row.stamp) (drop 8 (slot_of row)) (time_small row.stamp civil) in
    ap (λ (n : ℕ). stamp_of_words n (number_at 2 6 (slot_of row))) date ∙ ap (stamp_of_words (date_word_of row.stamp)) time ∙ stamp_of_words-of row.stamp civil

interval_written : (row : Row) → IsPeriod row.interval → interval_in (slot_of row) ≡ row.interval
unfolding slot_of
interval_written row period =
    little_number-reads_back 2 row.interval (drop 10 (slot_of row)) (omega (arith, period_bound row.interval period))

values_written : (row : Row) → length row.values ≡ field_count → All IsPrintable row.values → values_in (slot_of row) ≡ Some row.values
unfolding slot_of
values_written row long printable =
    let below : presence_of row.values < 2 ^ field_count = subst (λ (n : ℕ). presence_of row.values < 2 ^ n) long (presence_below row.values) in
    let presence : presence_in (slot_of row) ≡ presence_of row.values = little_number-reads_back 8 (presence_of row.values) (drop 20 (slot_of row)) (omega arith) in
    ap (λ (n : ℕ). slot_values_in field_count n (drop 20 (slot_of row))) presence
    ∙ ap (λ (n : ℕ). slot_values_in n (presence_of row.values) (drop 20 (slot_of row))) (sym long)
    ∙ values_back row.values (little_bytes 8 row.limited) printable

-- what is written of a row is read as this row
pub row_in-slot_of : (row : Row) → IsWritable row → row_in_slot (slot_of row) ≡ Some row
unfolding row_in_slot
row_in-slot_of row is =
    let slot : List ℕ = slot_of row in
    let interval = interval_written row is.period in
    parts_row (is_row_slot slot) (is_period (interval_in slot)) (stamp_in_slot slot) (interval_in slot) (values_in slot) (limited_in slot) row
    (is_row_slot-marks slot (marks_written row is.long)) (stamp_written row is.civil) (ap is_period interval ∙ is.period) interval
    (values_written row is.long is.printable) (limited_written row is.long (missing_below row.limited row.values is.missing)) is.missing

-- the parts of a slot that is read as a row
pub record AreParts (slot : List ℕ) (row : Row) : Type 0 where
  pub marked : is_row_slot slot ≡ true
  pub stamp : stamp_in_slot slot ≡ Some row.stamp
  pub period : is_period (interval_in slot) ≡ true
  pub interval : interval_in slot ≡ row.interval
  pub values : values_in slot ≡ Some row.values
  pub limited : limited_in slot ≡ row.limited
  pub missing : AreMissing row.limited row.values

parts_by : (marked periodic : Bool) (stamp : Option CivilMinute) (interval : ℕ) (values : Option (List (Option ℤ))) (limited : ℕ) (row : Row) →
    row_of marked stamp periodic interval values limited ≡ Some row →
    (marked ≡ true) × (stamp ≡ Some row.stamp) × (periodic ≡ true) × (interval ≡ row.interval) × (values ≡ Some row.values) × (limited ≡ row.limited) × AreMissing row.limited row.values
unfolding made
parts_by false periodic stamp interval values limited row is = cc
parts_by true periodic None interval values limited row is = cc
parts_by true false (Some stamp) interval values limited row is = cc
parts_by true true (Some stamp) interval None limited row is = cc
parts_by true true (Some stamp) interval (Some values) limited row is = go (are_missing limited values) refl is
  where
    go : (b : Bool) → are_missing limited values ≡ b → then_some b (made stamp interval values limited) ≡ Some row →
        (true ≡ true) × (Some stamp ≡ Some row.stamp) × (true ≡ true) × (interval ≡ row.interval) × (Some values ≡ Some row.values) × (limited ≡ row.limited) × AreMissing row.limited row.values
    go false are e = cc
    go true are e =
        let same : made stamp interval values limited ≡ row = cc in
        let P : Row → Type 0 = λ r. AreMissing r.limited r.values in
        (refl, ap (λ (r : Row). Some r.stamp) same, refl, ap (λ (r : Row). r.interval) same, ap (λ (r : Row). Some r.values) same, ap (λ (r : Row). r.limited) same, subst P same are)

pub parts-row_in : (slot : List ℕ) (row : Row) → row_in_slot slot ≡ Some row → AreParts slot row
unfolding row_in_slot
parts-row_in slot row is =
    let parts = parts_by (is_row_slot slot) (is_period (interval_in slot)) (stamp_in_slot slot) (interval_in slot) (values_in slot) (limited_in slot) row is in
    record { marked = parts.0; stamp = parts.1; period = parts.2; interval = parts.3; values = parts.4; limited = parts.5; missing = parts.6 }

-- one part of a slot, and what stands behind it
part_at : (n p q x : ℕ) (slot : List ℕ) → p + n ≡ q → q ≤ length slot → AreBytes slot → number_at n p slot ≡ x → drop p slot ≡ little_bytes n x ++ drop q slot
part_at n p q x slot e long fits is =
    let room : n ≤ length (drop p slot) = omega (arith, length-drop p slot) in
    let bytes : little_bytes n x ≡ take n (drop p slot) = ap (little_bytes n) (sym is) ∙ bytes_again n (drop p slot) room (bytes_behind p slot fits) in
    sym (take-append-drop n (drop p slot)) ∙ ap (λ (xs : List ℕ). xs ++ drop n (drop p slot)) (sym bytes)
    ∙ ap (λ (xs : List ℕ). little_bytes n x ++ xs) (drop-drop n p slot ∙ ap (λ (k : ℕ). drop k slot) e)

byte_at_place : (p q x : ℕ) (slot : List ℕ) → suc p ≡ q → p < length slot → get_or slot p 0 ≡ x → drop p slot ≡ x ∷ drop q slot
byte_at_place p q x slot e within is = drop-cons slot p 0 within ∙ ap (λ (y : ℕ). y ∷ drop (suc p) slot) is ∙ ap (λ (k : ℕ). x ∷ drop k slot) e

chained : (slot d1 d2 d4 d6 d8 d10 d12 d20 d168 b2 b4 b6 b8 b10 b12 b20 b168 : List ℕ) → slot ≡ 0 ∷ d1 → d1 ≡ 1 ∷ d2 → d2 ≡ b2 ++ d4 → d4 ≡ b4 ++ d6 → d6 ≡ b6 ++ d8 →
    d8 ≡ b8 ++ d10 → d10 ≡ b10 ++ d12 → d12 ≡ b12 ++ d20 → d20 ≡ b20 ++ d168 → d168 ≡ b168 ++ [] →
    slot ≡ 0 ∷ 1 ∷ (b2 ++ (b4 ++ (b6 ++ (b8 ++ (b10 ++ (b12 ++ (b20 ++ (b168 ++ []))))))))
chained slot d1 d2 d4 d6 d8 d10 d12 d20 d168 b2 b4 b6 b8 b10 b12 b20 b168 e0 e1 e2 e4 e6 e8 e10 e12 e20 e168 = rw (e0, e1, e2, e4, e6, e8, e10, e12, e20, e168) refl

-- what is read of a slot is written as this slot
pub slot_of-row_in : (slot : List ℕ) (row : Row) → length slot ≡ row_size → AreBytes slot → row_in_slot slot ≡ Some row → slot ≡ slot_of row
unfolding slot_of
slot_of-row_in slot row long fits is =
    let parts : AreParts slot row = parts-row_in slot row is in
    let marks : AreMarks slot = marks-is_row_slot slot parts.marked in
    let words = words_of-stamp (number_at 2 4 slot) (number_at 2 6 slot) row.stamp parts.stamp in
    let told : AreTold field_count (presence_in slot) (drop 20 slot) row.values =
    values_again field_count (presence_in slot) (drop 20 slot) row.values (omega (arith, length-drop 20 slot)) (bytes_behind 20 slot fits) parts.values in
    let values : drop 20 slot ≡ spelled_numbers (numbers_of row.values) ++ drop 168 slot =
    sym (take-append-drop 148 (drop 20 slot)) ∙ ap (λ (xs : List ℕ). xs ++ drop 148 (drop 20 slot)) (sym told.numbers)
    ∙ ap (λ (xs : List ℕ). spelled_numbers (numbers_of row.values) ++ xs) (drop-drop 148 20 slot) in
    let none : drop row_size slot ≡ [] = drop_all row_size slot (omega (arith, long)) in
    chained slot (drop 1 slot) (drop 2 slot) (drop 4 slot) (drop 6 slot) (drop 8 slot) (drop 10 slot) (drop 12 slot) (drop 20 slot) (drop 168 slot)
    (little_bytes 2 0) (little_bytes 2 (date_word_of row.stamp)) (little_bytes 2 (time_word_of row.stamp)) (little_bytes 2 row.interval) (little_bytes 2 0)
    (little_bytes 8 (presence_of row.values)) (spelled_numbers (numbers_of row.values)) (little_bytes 8 row.limited)
    (byte_at_place 0 1 0 slot refl (omega arith) marks.gate)
    (byte_at_place 1 2 1 slot refl (omega arith) marks.kind)
    (part_at 2 2 4 0 slot refl (omega arith) fits marks.batch)
    (part_at 2 4 6 (date_word_of row.stamp) slot refl (omega arith) fits (sym words.0))
    (part_at 2 6 8 (time_word_of row.stamp) slot refl (omega arith) fits (sym words.1))
    (part_at 2 8 10 row.interval slot refl (omega arith) fits parts.interval)
    (part_at 2 10 12 0 slot refl (omega arith) fits marks.spare)
    (part_at 8 12 20 (presence_of row.values) slot refl (omega arith) fits told.bits)
    values
    (part_at 8 168 row_size row.limited slot refl (omega arith) fits parts.limited ∙ ap (λ (xs : List ℕ). little_bytes 8 row.limited ++ xs) none)

-- and its values are within the bound
pub printable-row_in : (slot : List ℕ) (row : Row) → length slot ≡ row_size → AreBytes slot → row_in_slot slot ≡ Some row → All IsPrintable row.values
printable-row_in slot row long fits is =
    let parts : AreParts slot row = parts-row_in slot row is in
    (values_again field_count (presence_in slot) (drop 20 slot) row.values (omega (arith, length-drop 20 slot)) (bytes_behind 20 slot fits) parts.values).printable

-- and a field that limits made missing has none
pub missing-row_in : (slot : List ℕ) (row : Row) → row_in_slot slot ≡ Some row → AreMissing row.limited row.values
missing-row_in slot row is = (parts-row_in slot row is).missing

-- bytes that are the slot of a row are read as this row
pub read_back : (slot : List ℕ) (row : Row) → IsWritable row → slot ≡ slot_of row → row_in_slot slot ≡ Some row
read_back slot row is same = ap row_in_slot same ∙ row_in-slot_of row is
