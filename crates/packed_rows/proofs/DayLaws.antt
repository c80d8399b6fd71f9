-- The days of rising rows.
use Rattle.std.proofs.Common.{◌≡◌, ℕ, suc, ◌+◌, ◌-◌, ◌/◌, ◌<◌, ◌≤◌, Bool, true, false, cond, List, [], ◌∷◌, take, drop, Option, Some, None, refl, sym, subst, ◌∙◌, ap, arith}
use Rattle.std.specs.Prelude.{ℤ, pos, negsuc, ◌&&◌, int_lt, int_le, nat_lt, filter, count_by}
use Rattle.std.proofs.lemmas.Bool.Decides.{nat_tests}
use Rattle.std.proofs.lemmas.List.Sums.{sum_by-cons}
use Rattle.std.proofs.lemmas.Bool.{and_parts, and_right}
use Rattle.station_base.specs.declared.row.Row.{Row}
use Rattle.station_base.specs.declared.day.DayNumber.{DayNumber}
use Rattle.station_base.specs.CivilMinute.{CivilMinute, minute_of, archive_day_of}
use Rattle.std.specs.Ordering.{int_eq}
use Rattle.packed_rows.specs.Days.{day_of_row, with_day, days_from, days_of, Ascend, is_before, is_within}
use Rattle.packed_rows.specs.Rising.{stamp_exceeds, rows_rise}

day_le : (m n : ℕ) → nat_lt m n ≡ true → (m - 1) / 1440 ≤ (n - 1) / 1440
day_le m n e = let lt : m < n = grind (arith, nat_tests) in omega arith

-- a later stamp is of no earlier day
pub later_day : (a b : CivilMinute) → stamp_exceeds (Some a) b ≡ true → archive_day_of a ≤ archive_day_of b
later_day a b e = day_le (minute_of a) (minute_of b) e

-- the days of rows behind a row, by whether the next is of its day
days_ascend : (a b : ℕ) (days : List ℤ) (same : Bool) → int_eq (pos a) (pos b) ≡ same → a ≤ b → Ascend (Some (pos b)) days → Ascend (Some (pos a)) (with_day same (pos b) days)
days_ascend a b days true e le up = let is : a ≡ b = grind (arith, nat_tests) in subst (λ (n : ℕ). Ascend (Some (pos n)) days) (sym is) up
days_ascend a b days false e le up = ((let less : int_lt (pos a) (pos b) ≡ true = grind (arith, nat_tests) in less), up)

days_behind : (s : CivilMinute) (rows : List Row) → rows_rise (Some s) rows ≡ true → Ascend (Some (pos (archive_day_of s))) (days_from (Some (pos (archive_day_of s))) rows)
days_behind s [] up = tt
days_behind s (row ∷ rows) up =
    days_ascend (archive_day_of s) (archive_day_of row.stamp) (days_from (Some (day_of_row row)) rows) (int_eq (pos (archive_day_of s)) (day_of_row row)) refl
    (later_day s row.stamp (and_parts (stamp_exceeds (Some s) row.stamp) (rows_rise (Some row.stamp) rows) up).0)
    (days_behind row.stamp rows (and_parts (stamp_exceeds (Some s) row.stamp) (rows_rise (Some row.stamp) rows) up).1)

-- the days of rising rows ascend
pub days_in_order : (rows : List Row) → rows_rise None rows ≡ true → Ascend None (days_of rows)
days_in_order [] up = tt
days_in_order (row ∷ rows) up = days_behind row.stamp rows (and_parts true (rows_rise (Some row.stamp) rows) up).1

pub still_not : (a b : ℕ) (f : ℤ) → a ≤ b → int_lt (pos a) f ≡ false → int_lt (pos b) f ≡ false
still_not a b (pos n) le e = grind (arith, nat_tests)
still_not a b (negsuc n) le e = refl

pub still_beyond : (a b : ℕ) (f : ℤ) → a ≤ b → int_le (pos a) f ≡ false → int_le (pos b) f ≡ false
still_beyond a b (pos n) le e = grind (arith, nat_tests)
still_beyond a b (negsuc n) le e = refl

still_from : (a b : ℕ) (f : ℤ) → a ≤ b → int_le f (pos a) ≡ true → int_le f (pos b) ≡ true
still_from a b (pos n) le e = grind (arith, nat_tests)
still_from a b (negsuc n) le e = refl

from_not : (a : ℕ) (f : ℤ) → int_lt (pos a) f ≡ false → int_le f (pos a) ≡ true
from_not a (pos n) e = grind (arith, nat_tests)
from_not a (negsuc n) e = refl

not_from : (a : ℕ) (f : ℤ) → int_lt (pos a) f ≡ true → int_le f (pos a) ≡ false
not_from a (pos n) e = grind (arith, nat_tests)
not_from a (negsuc n) e = absurd cc

pub count_yes : (p : Row → Bool) (row : Row) (rows : List Row) → p row ≡ true → count_by p (row ∷ rows) ≡ suc (count_by p rows)
count_yes p row rows e = let one : 1 + count_by p rows ≡ suc (count_by p rows) = omega arith in sum_by-cons (λ x. cond (p x) 1 0) row rows ∙ ap (λ (b : Bool). cond b 1 0 + count_by p rows) e ∙ one

pub count_no : (p : Row → Bool) (row : Row) (rows : List Row) → p row ≡ false → count_by p (row ∷ rows) ≡ count_by p rows
count_no p row rows e = let none : 0 + count_by p rows ≡ count_by p rows = omega arith in sum_by-cons (λ x. cond (p x) 1 0) row rows ∙ ap (λ (b : Bool). cond b 1 0 + count_by p rows) e ∙ none

filter_yes : (p : Row → Bool) (row : Row) (rows : List Row) → p row ≡ true → filter p (row ∷ rows) ≡ row ∷ filter p rows
filter_yes p row rows e = ap (λ (b : Bool). cond b (row ∷ filter p rows) (filter p rows)) e

filter_no : (p : Row → Bool) (row : Row) (rows : List Row) → p row ≡ false → filter p (row ∷ rows) ≡ filter p rows
filter_no p row rows e = ap (λ (b : Bool). cond b (row ∷ filter p rows) (filter p rows)) e

module _ (first last : DayNumber) where
  abbrev before : Row → Bool
  before = is_before first

  abbrev within : Row → Bool
  within = is_within first last

  -- behind a row that is not before the first day none is
  none_before : (s : CivilMinute) (rows : List Row) → rows_rise (Some s) rows ≡ true → int_lt (pos (archive_day_of s)) first.0 ≡ false → count_by before rows ≡ 0
  none_before s [] up not = refl
  none_before s (row ∷ rows) up not =
      let later = later_day s row.stamp (and_parts (stamp_exceeds (Some s) row.stamp) (rows_rise (Some row.stamp) rows) up).0 in
      let this = still_not (archive_day_of s) (archive_day_of row.stamp) first.0 later not in
      count_no before row rows this ∙ none_before row.stamp rows (and_parts (stamp_exceeds (Some s) row.stamp) (rows_rise (Some row.stamp) rows) up).1 this

  not_within : (row : Row) → int_le (day_of_row row) last.0 ≡ false → within row ≡ false
  not_within row e = and_right (int_le first.0 (day_of_row row)) (int_le (day_of_row row) last.0) e

  -- behind a row that is past the last day none is within
  none_within : (s : CivilMinute) (rows : List Row) → rows_rise (Some s) rows ≡ true → int_le (pos (archive_day_of s)) last.0 ≡ false
      → (count_by within rows ≡ 0) × (filter within rows ≡ [])
  none_within s [] up past = (refl, refl)
  none_within s (row ∷ rows) up past =
      let later = later_day s row.stamp (and_parts (stamp_exceeds (Some s) row.stamp) (rows_rise (Some row.stamp) rows) up).0 in
      let this = still_beyond (archive_day_of s) (archive_day_of row.stamp) last.0 later past in
      let rest = none_within row.stamp rows (and_parts (stamp_exceeds (Some s) row.stamp) (rows_rise (Some row.stamp) rows) up).1 this in
      (count_no within row rows (not_within row this) ∙ rest.0, filter_no within row rows (not_within row this) ∙ rest.1)

  -- from a row on that is not before the first day, those within come first
  front_step : (row : Row) (rows : List Row) → rows_rise (Some row.stamp) rows ≡ true → int_le first.0 (day_of_row row) ≡ true
      → take (count_by within rows) rows ≡ filter within rows → take (count_by within (row ∷ rows)) (row ∷ rows) ≡ filter within (row ∷ rows)
  front_step row rows up from rest = by_test (int_le (day_of_row row) last.0) refl
    where
      by_test : (b : Bool) → int_le (day_of_row row) last.0 ≡ b → take (count_by within (row ∷ rows)) (row ∷ rows) ≡ filter within (row ∷ rows)
      by_test true e =
          let is : within row ≡ true = ap (λ (b : Bool). b && int_le (day_of_row row) last.0) from ∙ e in
          ap (λ (n : ℕ). take n (row ∷ rows)) (count_yes within row rows is) ∙ ap (λ (r : List Row). row ∷ r) rest ∙ sym (filter_yes within row rows is)
      by_test false e =
          let none = none_within row.stamp rows up e in
          ap (λ (n : ℕ). take n (row ∷ rows)) (count_no within row rows (not_within row e) ∙ none.0) ∙ sym (filter_no within row rows (not_within row e) ∙ none.1)

  front : (row : Row) (rows : List Row) → rows_rise (Some row.stamp) rows ≡ true → int_le first.0 (day_of_row row) ≡ true
      → take (count_by within (row ∷ rows)) (row ∷ rows) ≡ filter within (row ∷ rows)
  front row [] up from = front_step row [] up from refl
  front row (next ∷ rows) up from =
      let later = later_day row.stamp next.stamp (and_parts (stamp_exceeds (Some row.stamp) next.stamp) (rows_rise (Some next.stamp) rows) up).0 in
      front_step row (next ∷ rows) up from
      (front next rows (and_parts (stamp_exceeds (Some row.stamp) next.stamp) (rows_rise (Some next.stamp) rows) up).1 (still_from (archive_day_of row.stamp) (archive_day_of next.stamp) first.0 later from))

  these_step : (row : Row) (rows : List Row) → rows_rise (Some row.stamp) rows ≡ true → (b : Bool) → int_lt (day_of_row row) first.0 ≡ b
      → take (count_by within rows) (drop (count_by before rows) rows) ≡ filter within rows
      → take (count_by within (row ∷ rows)) (drop (count_by before (row ∷ rows)) (row ∷ rows)) ≡ filter within (row ∷ rows)
  these_step row rows up true e rest =
      let out : within row ≡ false = ap (λ (b : Bool). b && int_le (day_of_row row) last.0) (not_from (archive_day_of row.stamp) first.0 e) in
      ap (λ (n : ℕ). take n (drop (count_by before (row ∷ rows)) (row ∷ rows))) (count_no within row rows out)
      ∙ ap (λ (n : ℕ). take (count_by within rows) (drop n (row ∷ rows))) (count_yes before row rows e) ∙ rest ∙ sym (filter_no within row rows out)
  these_step row rows up false e rest =
      ap (λ (n : ℕ). take (count_by within (row ∷ rows)) (drop n (row ∷ rows))) (count_no before row rows e ∙ none_before row.stamp rows up e)
      ∙ front row rows up (from_not (archive_day_of row.stamp) first.0 e)

  -- the rows within stand one behind another, behind those that are before
  pub these : (o : Option CivilMinute) (rows : List Row) → rows_rise o rows ≡ true → take (count_by within rows) (drop (count_by before rows) rows) ≡ filter within rows
  these o [] up = refl
  these o (row ∷ rows) up =
      let behind = (and_parts (stamp_exceeds o row.stamp) (rows_rise (Some row.stamp) rows) up).1 in
      these_step row rows behind (int_lt (day_of_row row) first.0) refl (these (Some row.stamp) rows behind)
