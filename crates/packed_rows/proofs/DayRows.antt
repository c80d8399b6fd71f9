-- The rows of a day among rising rows.
use Rattle.std.proofs.Common.{◌≡◌, ◌⊎◌, inl, inr, ℕ, ℤ, pos, negsuc, suc, ◌+◌, ◌-◌, ◌*◌, ◌<◌, ◌≤◌, Bool, true, false, cond, List, [], ◌∷◌, ◌++◌, length, Option, Some, None, refl, sym, ap, subst, ◌∙◌, arith}
use Rattle.std.specs.Prelude.{filter, count_by, int_lt, int_le, max}
use Rattle.std.specs.Ordering.{int_eq}
use Rattle.std.proofs.lemmas.Bool.{ltb-true, and_parts}
use Rattle.std.proofs.lemmas.Bool.Decides.{nat_tests}
use Rattle.std.proofs.lemmas.List.Sums.{count_by-le-length}
use Rattle.station_base.specs.declared.row.Row.{Row}
use Rattle.station_base.specs.declared.day.DayNumber.{DayNumber}
use Rattle.station_base.specs.CivilMinute.{CivilMinute, minute_of, archive_day_of}
use Rattle.daily_summary.specs.Summary.{is_of_day, rows_of_day}
use Rattle.packed_rows.specs.Closing.{day_of_stamp, last_day}
use Rattle.packed_rows.specs.Days.{day_of_row, is_before, is_up_to}
use Rattle.packed_rows.specs.Rising.{stamp_exceeds, rows_rise, last_stamp_after}
use Rattle.packed_rows.proofs.DayLaws.{later_day, still_beyond, count_yes, count_no}

skip : (p : Row → Bool) (row : Row) (rows : List Row) → p row ≡ false → filter p (row ∷ rows) ≡ filter p rows
skip p row rows not_it = ap (λ (b : Bool). cond b (row ∷ filter p rows) (filter p rows)) not_it

take_it : (p : Row → Bool) (row : Row) (rows : List Row) → p row ≡ true → filter p (row ∷ rows) ≡ row ∷ filter p rows
take_it p row rows it = ap (λ (b : Bool). cond b (row ∷ filter p rows) (filter p rows)) it

-- how a day compares with another
up_to_parts : (a : ℕ) (f : ℤ) → int_le (pos a) f ≡ true → int_lt (pos a) f ≡ false → int_eq (pos a) f ≡ true
up_to_parts a (pos n) le lt = grind (arith, nat_tests)
up_to_parts a (negsuc n) le lt = absurd cc

before_up_to : (a : ℕ) (f : ℤ) → int_lt (pos a) f ≡ true → int_le (pos a) f ≡ true
before_up_to a (pos n) lt = grind (arith, nat_tests)
before_up_to a (negsuc n) lt = absurd cc

before_not_on : (a : ℕ) (f : ℤ) → int_lt (pos a) f ≡ true → int_eq (pos a) f ≡ false
before_not_on a (pos n) lt = grind (arith, nat_tests)
before_not_on a (negsuc n) lt = absurd cc

beyond_not_on : (a : ℕ) (f : ℤ) → int_le (pos a) f ≡ false → int_eq (pos a) f ≡ false
beyond_not_on a (pos n) le = grind (arith, nat_tests)
beyond_not_on a (negsuc n) le = refl

beyond_not_before : (a : ℕ) (f : ℤ) → int_le (pos a) f ≡ false → int_lt (pos a) f ≡ false
beyond_not_before a (pos n) le = grind (arith, nat_tests)
beyond_not_before a (negsuc n) le = refl

on_is : (a : ℕ) (f : ℤ) → int_eq (pos a) f ≡ true → pos a ≡ f
on_is a (pos n) e = ap pos (let is : a ≡ n = grind (arith, nat_tests) in is)
on_is a (negsuc n) e = absurd cc

-- rows up to a day are those before it and those of it
pub day_count : (day : DayNumber) (rows : List Row) → count_by (is_up_to day) rows ≡ count_by (is_before day) rows + length (rows_of_day day.0 rows)
day_count day [] = refl
day_count day (row ∷ rows) = by (int_le (day_of_row row) day.0) (int_lt (day_of_row row) day.0) refl refl (day_count day rows)
  where
    a : ℕ
    a = archive_day_of row.stamp

    by : (to before : Bool) → int_le (pos a) day.0 ≡ to → int_lt (pos a) day.0 ≡ before →
        count_by (is_up_to day) rows ≡ count_by (is_before day) rows + length (rows_of_day day.0 rows) →
        count_by (is_up_to day) (row ∷ rows) ≡ count_by (is_before day) (row ∷ rows) + length (rows_of_day day.0 (row ∷ rows))
    by to true et eb rest =
        let up = count_yes (is_up_to day) row rows (before_up_to a day.0 eb) in let bf = count_yes (is_before day) row rows eb in
        let f = ap length (skip (is_of_day day.0) row rows (before_not_on a day.0 eb)) in omega (arith, up, bf, f, rest)
    by true false et eb rest =
        let up = count_yes (is_up_to day) row rows et in let bf = count_no (is_before day) row rows eb in
        let f = ap length (take_it (is_of_day day.0) row rows (up_to_parts a day.0 et eb)) in omega (arith, up, bf, f, rest)
    by false false et eb rest =
        let up = count_no (is_up_to day) row rows et in let bf = count_no (is_before day) row rows eb in
        let f = ap length (skip (is_of_day day.0) row rows (beyond_not_on a day.0 et)) in omega (arith, up, bf, f, rest)

-- rows that rise behind a stamp past the day are all past it
none_of : (day : DayNumber) (s : CivilMinute) (rows : List Row) → rows_rise (Some s) rows ≡ true → int_le (pos (archive_day_of s)) day.0 ≡ false →
    (count_by (is_up_to day) rows ≡ 0) × (rows_of_day day.0 rows ≡ [])
none_of day s [] up past = (refl, refl)
none_of day s (row ∷ rows) up past =
    let le = later_day s row.stamp (and_parts (stamp_exceeds (Some s) row.stamp) (rows_rise (Some row.stamp) rows) up).0 in
    let here = still_beyond (archive_day_of s) (archive_day_of row.stamp) day.0 le past in
    let rest = none_of day row.stamp rows (and_parts (stamp_exceeds (Some s) row.stamp) (rows_rise (Some row.stamp) rows) up).1 here in
    (count_no (is_up_to day) row rows here ∙ rest.0, skip (is_of_day day.0) row rows (beyond_not_on (archive_day_of row.stamp) day.0 here) ∙ rest.1)

-- the rows up to a day stand in front
pub record Splits (day : DayNumber) (rows : List Row) : Type 0 where
  pub front : List Row
  pub behind : List Row
  pub parts : rows ≡ front ++ behind
  pub count : count_by (is_up_to day) rows ≡ length front
  pub all : count_by (is_up_to day) front ≡ length front
  pub none : rows_of_day day.0 behind ≡ []
  pub next : (row : Row) (more : List Row) → behind ≡ row ∷ more → int_le (day_of_row row) day.0 ≡ false

pub splits : (day : DayNumber) (last : Option CivilMinute) (rows : List Row) → rows_rise last rows ≡ true → Splits day rows
splits day last [] up = record { front = []; behind = []; parts = refl; count = refl; all = refl; none = refl; next = λ row more e. absurd cc }
splits day last (row ∷ rows) up =
    by (int_le (day_of_row row) day.0) refl (splits day (Some row.stamp) rows (and_parts (stamp_exceeds last row.stamp) (rows_rise (Some row.stamp) rows) up).1)
  where
    by : (to : Bool) → int_le (day_of_row row) day.0 ≡ to → Splits day rows → Splits day (row ∷ rows)
    by true e rest = record {
      front = row ∷ rest.front;
      behind = rest.behind;
      parts = ap (λ (xs : List Row). row ∷ xs) rest.parts;
      count = count_yes (is_up_to day) row rows e ∙ ap suc rest.count;
      all = count_yes (is_up_to day) row rest.front e ∙ ap suc rest.all;
      none = rest.none;
      next = rest.next;
    }
    by false e rest =
        let past = none_of day row.stamp rows (and_parts (stamp_exceeds last row.stamp) (rows_rise (Some row.stamp) rows) up).1 e in
        record {
          front = [];
          behind = row ∷ rows;
          parts = refl;
          count = count_no (is_up_to day) row rows e ∙ past.0;
          all = refl;
          none = skip (is_of_day day.0) row rows (beyond_not_on (archive_day_of row.stamp) day.0 e) ∙ past.1;
          next = λ r more same. let is : row ≡ r = cc in subst (λ (x : Row). int_le (day_of_row x) day.0 ≡ false) is e;
        }

-- where all rows are up to the day and one is of it, the last one is of it
first_up_to : (p : Row → Bool) (row : Row) (rows : List Row) → count_by p (row ∷ rows) ≡ suc (length rows) → count_by p rows ≤ length rows → (p row ≡ true) × (count_by p rows ≡ length rows)
first_up_to p row rows all most = by (p row) refl
  where
    by : (b : Bool) → p row ≡ b → (p row ≡ true) × (count_by p rows ≡ length rows)
    by true e = let c = count_yes p row rows e in (e, omega (arith, c, all))
    by false e = let c = count_no p row rows e in absurd (omega (arith, c, all, most))

day_of_last : (day : DayNumber) (last : Option CivilMinute) (rows : List Row) → rows_rise last rows ≡ true → count_by (is_up_to day) rows ≡ length rows →
    (1 ≤ length (rows_of_day day.0 rows)) ⊎ ((s : CivilMinute) × (last ≡ Some s) × (pos (archive_day_of s) ≡ day.0)) → day_of_stamp (last_stamp_after last rows) ≡ day.0
day_of_last day last [] up all (inl some) = absurd (omega (arith, some))
day_of_last day last [] up all (inr known) = ap day_of_stamp known.1 ∙ known.2
day_of_last day last (row ∷ rows) up all known =
    let f = first_up_to (is_up_to day) row rows all (count_by-le-length (is_up_to day) rows) in
    day_of_last day (Some row.stamp) rows (and_parts (stamp_exceeds last row.stamp) (rows_rise (Some row.stamp) rows) up).1 f.1 (by (int_lt (day_of_row row) day.0) refl f.0 known)
  where
    a : ℕ
    a = archive_day_of row.stamp

    contrary : (s : CivilMinute) → last ≡ Some s → pos (archive_day_of s) ≡ day.0 → int_lt (pos a) day.0 ≡ true → ⊥
    contrary s is same lt =
        let le = later_day s row.stamp (and_parts (stamp_exceeds (Some s) row.stamp) (rows_rise (Some row.stamp) rows) (subst (λ (o : Option CivilMinute). rows_rise o (row ∷ rows) ≡ true) is up)).0 in
        let less : int_lt (pos a) (pos (archive_day_of s)) ≡ true = subst (λ (d : ℤ). int_lt (pos a) d ≡ true) (sym same) lt in
        not_less a (archive_day_of s) le less
      where
        not_less : (x y : ℕ) → y ≤ x → int_lt (pos x) (pos y) ≡ true → ⊥
        not_less x y le less = let is : x < y = grind (arith, nat_tests) in omega (arith, is, le)

    by : (before : Bool) → int_lt (pos a) day.0 ≡ before → int_le (pos a) day.0 ≡ true →
        (1 ≤ length (rows_of_day day.0 (row ∷ rows))) ⊎ ((s : CivilMinute) × (last ≡ Some s) × (pos (archive_day_of s) ≡ day.0)) →
        (1 ≤ length (rows_of_day day.0 rows)) ⊎ ((s : CivilMinute) × (Some row.stamp ≡ Some s) × (pos (archive_day_of s) ≡ day.0))
    by false eb et known = inr (row.stamp, refl, on_is a day.0 (up_to_parts a day.0 et eb))
    by true eb et (inl some) = inl (subst (λ (n : ℕ). 1 ≤ n) (ap length (skip (is_of_day day.0) row rows (before_not_on a day.0 eb))) some)
    by true eb et (inr known) = absurd (contrary known.0 known.1 known.2 eb)

pub last_day_is : (day : DayNumber) (rows : List Row) → rows_rise None rows ≡ true → count_by (is_up_to day) rows ≡ length rows → 1 ≤ length (rows_of_day day.0 rows) → last_day rows ≡ day.0
last_day_is day rows up all some = day_of_last day None rows up all (inl some)

-- each stamp is later than the one before
abbrev AreAfter : ℕ → List Row → Type 0
AreAfter last [] = Unit {0}
AreAfter last (row ∷ rows) = (last < minute_of row.stamp) × AreAfter (minute_of row.stamp) rows

after_of : (s : CivilMinute) (rows : List Row) → rows_rise (Some s) rows ≡ true → AreAfter (minute_of s) rows
after_of s [] up = tt
after_of s (row ∷ rows) up =
    let above = (and_parts (stamp_exceeds (Some s) row.stamp) (rows_rise (Some row.stamp) rows) up).0 in
    ((let lt : minute_of s < minute_of row.stamp = ltb-true (minute_of s) (minute_of row.stamp) above in lt), after_of row.stamp rows (and_parts (stamp_exceeds (Some s) row.stamp) (rows_rise (Some row.stamp) rows) up).1)

-- a day has at most 1,440 rows
day_minutes : ℕ → ℕ → ℕ
day_minutes last d = 1440 * (d + 1) - max last (1440 * d)

few_of_day : (last : ℕ) (d : ℕ) (rows : List Row) → AreAfter last rows → length (filter (is_of_day (pos d)) rows) ≤ day_minutes last d
unfolding day_minutes
few_of_day last d [] after = omega arith
few_of_day last d (row ∷ rows) after = by (int_eq (day_of_row row) (pos d)) refl (few_of_day (minute_of row.stamp) d rows after.1)
  where
    on : int_eq (day_of_row row) (pos d) ≡ true → archive_day_of row.stamp ≡ d
    on e = grind (arith, nat_tests)

    by : (b : Bool) → int_eq (day_of_row row) (pos d) ≡ b → length (filter (is_of_day (pos d)) rows) ≤ 1440 * (d + 1) - max (minute_of row.stamp) (1440 * d) →
        length (filter (is_of_day (pos d)) (row ∷ rows)) ≤ 1440 * (d + 1) - max last (1440 * d)
    by true e rest =
        let f = ap length (take_it (is_of_day (pos d)) row rows e) in let day = on e in let lt = after.0 in
        omega (arith, f, day, lt, rest)
    by false e rest = let f = ap length (skip (is_of_day (pos d)) row rows e) in let lt = after.0 in omega (arith, f, lt, rest)

few_by : (d : ℤ) (rows : List Row) → rows_rise None rows ≡ true → length (filter (is_of_day d) rows) ≤ 1441
unfolding day_minutes
few_by (negsuc n) rows up = let none = no_such n rows in omega (arith, none)
  where
    no_such : (n : ℕ) (rows : List Row) → length (filter (is_of_day (negsuc n)) rows) ≡ 0
    no_such n [] = refl
    no_such n (row ∷ rows) = no_such n rows
few_by (pos d) [] up = omega arith
few_by (pos d) (row ∷ rows) up =
    let rest = few_of_day (minute_of row.stamp) d rows (after_of row.stamp rows (and_parts true (rows_rise (Some row.stamp) rows) up).1) in
    most (int_eq (day_of_row row) (pos d)) refl rest
  where
    most : (b : Bool) → int_eq (day_of_row row) (pos d) ≡ b → length (filter (is_of_day (pos d)) rows) ≤ day_minutes (minute_of row.stamp) d → length (filter (is_of_day (pos d)) (row ∷ rows)) ≤ 1441
    most true e rest = let f = ap length (take_it (is_of_day (pos d)) row rows e) in omega (arith, f, rest)
    most false e rest = let f = ap length (skip (is_of_day (pos d)) row rows e) in omega (arith, f, rest)

pub few_of : (day : DayNumber) (rows : List Row) → rows_rise None rows ≡ true → length (rows_of_day day.0 rows) ≤ 1441
few_of day rows up = few_by day.0 rows up
