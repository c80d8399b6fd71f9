-- The lines of days tell what the rows of each day come to.
use Rattle.std.proofs.Common.{◌≡◌, ℕ, zero, suc, ◌+◌, ◌<◌, ℤ, pos, negsuc, Bool, true, false, cond, ◌⊎◌, inl, inr, List, [], ◌∷◌, ◌++◌, Option, Some, None, length, map, get_or, refl, sym, ap, ◌∙◌, subst, arith}
use Rattle.std.specs.Prelude.{All, IfSome, IsSome, codes, filter, flat_map, int_lt, nat_lt}
use Rattle.std.specs.Ordering.{int_eq}
use Rattle.std.specs.List.{AllPairs, Contains}
use Rattle.std.proofs.lemmas.Bool.Decides.{nat_tests}
use Rattle.std.proofs.lemmas.List.{map-append}
use Rattle.std.proofs.lemmas.List.Elements.{All-append, All-cons, All-head, All-nil, All-tail, All-weaker, Contains-append_left, Contains-append_right}
use Rattle.std.proofs.lemmas.List.FromFn.{length-map-range_with_len}
use Rattle.std.proofs.lemmas.List.Kept.{AllPairs-cons}
use Rattle.station_base.specs.CivilMinute.{CivilMinute, archive_day_of, minute_of}
use Rattle.station_base.specs.DayText.{day_text}
use Rattle.station_base.specs.LastStamp.{exceeds}
use Rattle.station_base.specs.declared.row.Row.{Row}
use Rattle.daily_summary.specs.declared.field_sum.FieldSum.{FieldSum}
use Rattle.daily_summary.specs.Extremes.{IsGreatestAt, IsLeastAt}
use Rattle.daily_summary.specs.Readings.{Reading, row_reading, readings, time, readings_total, field_value, weighted, with_reading}
use Rattle.daily_summary.specs.Summary.{field_sum, is_of_day, rows_of_day, summary_of}
use Rattle.daily_summary.proofs.Extremes.{greatest_first, least_first}
use Rattle.daily_summary.proofs.Fields.{field_is}
use Rattle.packed_rows.specs.Days.{Ascend, day_of_row, days_from, days_of, is_day, with_day}
use Rattle.packed_rows.specs.Rising.{RowsRiseAfter}
use Rattle.packed_rows.proofs.DayLaws.{days_in_order}
use Rattle.packed_rows.proofs.RowLaws.{rise_when}
use Rattle.weather_reports.specs.Line.{field_line, field_lines_from}
use Rattle.weather_reports.specs.Recomputed.{AreDayLines, ComesBefore, DayLine, IsRecomputed, FieldIsTold, printed_line}
use Rattle.weather_reports.specs.Report.{all_day_lines, day_lines}
use Rattle.weather_reports.specs.Reported.{text_of_lines}
use Rattle.weather_reports.proofs.AscendingDays.{above}
use Rattle.station_base.specs.Fields.{field_count}

abbrev line_at : ℤ → ℕ → FieldSum → DayLine
line_at day field s = record { day = day; field = field; told = s }

-- the line of a field that has a value
abbrev told_of : ℤ → ℕ → Option FieldSum → List DayLine
told_of day field None = []
told_of day field (Some s) = line_at day field s ∷ []

-- the lines of a day's fields, from a number on
abbrev told_from : ℤ → ℕ → List (Option FieldSum) → List DayLine
told_from day field [] = []
told_from day field (sum ∷ sums) = told_of day field sum ++ told_from day (field + 1) sums

-- the lines of a day
abbrev told_in : List Row → ℤ → List DayLine
told_in rows day = told_from day 0 (summary_of (rows_of_day day rows)).fields

-- they are those that are printed
one_printed : (day : ℤ) (field : ℕ) (sum : Option FieldSum) → map printed_line (told_of day field sum) ≡ field_line (codes "day " ++ day_text day) field sum
one_printed day field None = refl
one_printed day field (Some s) = refl

day_printed : (day : ℤ) (field : ℕ) (sums : List (Option FieldSum)) → map printed_line (told_from day field sums) ≡ field_lines_from (codes "day " ++ day_text day) field sums
day_printed day field [] = refl
day_printed day field (sum ∷ sums) =
    map-append printed_line (told_of day field sum) (told_from day (field + 1) sums)
    ∙ ap (λ (xs : List (List ℕ)). xs ++ map printed_line (told_from day (field + 1) sums)) (one_printed day field sum)
    ∙ ap (λ (xs : List (List ℕ)). field_line (codes "day " ++ day_text day) field sum ++ xs) (day_printed day (field + 1) sums)

all_printed : (rows : List Row) (days : List ℤ) → map printed_line (flat_map (told_in rows) days) ≡ flat_map (day_lines rows) days
all_printed rows [] = refl
all_printed rows (day ∷ days) =
    map-append printed_line (told_in rows day) (flat_map (told_in rows) days)
    ∙ ap (λ (xs : List (List ℕ)). xs ++ map printed_line (flat_map (told_in rows) days)) (day_printed day 0 (summary_of (rows_of_day day rows)).fields)
    ∙ ap (λ (xs : List (List ℕ)). day_lines rows day ++ xs) (all_printed rows days)

-- what holds of each field that has a value holds of its line
module _ (P : DayLine → Type 0) (day : ℤ) where
  of_field : (field : ℕ) (sum : Option FieldSum) → IfSome sum (λ s. P (line_at day field s)) → All P (told_of day field sum)
  of_field field None is = All-nil P
  of_field field (Some s) is = All-cons P (line_at day field s) [] is (All-nil P)

  of_fields : (field : ℕ) (sums : List (Option FieldSum)) → ((i : ℕ) → i < length sums → IfSome (get_or sums i None) (λ s. P (line_at day (field + i) s))) → All P (told_from day field sums)
  of_fields field [] each = All-nil P
  of_fields field (sum ∷ sums) each =
      let here : field + 0 ≡ field = omega arith in
      All-append P (told_of day field sum) (told_from day (field + 1) sums)
      (of_field field sum (subst (λ (f : ℕ). IfSome sum (λ s. P (line_at day f s))) here (each 0 (omega arith))))
      (of_fields (field + 1) sums (λ i lt.
      let next : field + suc i ≡ field + 1 + i = omega arith in
      subst (λ (f : ℕ). IfSome (get_or sums i None) (λ s. P (line_at day f s))) next (each (suc i) (omega arith))))

-- what holds of the lines of each day holds of all
of_days : (P : DayLine → Type 0) (rows : List Row) (days : List ℤ) → All (λ day. All P (told_in rows day)) days → All P (flat_map (told_in rows) days)
of_days P rows [] all = All-nil P
of_days P rows (day ∷ days) all =
    let Q : ℤ → Type 0 = λ day. All P (told_in rows day) in
    All-append P (told_in rows day) (flat_map (told_in rows) days) (All-head Q day days all) (of_days P rows days (All-tail Q day days all))

always : {S : Type 0} (P : S → Type 0) (o : Option S) → ((s : S) → P s) → IfSome o P
always P None each = tt
always P (Some s) each = each s

-- lists of which each member of the one comes before each of the other
pairs_append : {X : Type 0} (R : X → X → Type 0) (xs ys : List X) → AllPairs R xs → AllPairs R ys → All (λ x. All (R x) ys) xs → AllPairs R (xs ++ ys)
pairs_append R [] ys one two cross = two
pairs_append {X} R (x ∷ xs) ys one two cross =
    let P : X → Type 0 = λ x. All (R x) ys in
    AllPairs-cons R x (xs ++ ys)
    (All-append (R x) xs ys (λ k d lt. one 0 (suc k) d (omega arith) (omega arith)) (All-head P x xs cross))
    (pairs_append R xs ys (λ i j d before lt. one (suc i) (suc j) d (omega arith) (omega arith)) two (All-tail P x xs cross))

-- the lines of a day are in order
fields_in_order : (day : ℤ) (field : ℕ) (sums : List (Option FieldSum)) → AllPairs ComesBefore (told_from day field sums)
fields_in_order day field [] = λ i j d before lt. absurd (omega arith)
fields_in_order day field (None ∷ sums) = fields_in_order day (field + 1) sums
fields_in_order day field (Some s ∷ sums) =
    AllPairs-cons ComesBefore (line_at day field s) (told_from day (field + 1) sums)
    (of_fields (ComesBefore (line_at day field s)) day (field + 1) sums (λ i lt.
    always (λ t. ComesBefore (line_at day field s) (line_at day (field + 1 + i) t)) (get_or sums i None) (λ t. inr (refl, omega arith))))
    (fields_in_order day (field + 1) sums)

ascend_on : (last : ℤ) (days : List ℤ) → Ascend (Some last) days → Ascend None days
ascend_on last [] up = tt
ascend_on last (day ∷ days) up = up.1

-- so are those of ascending days
days_come_in_order : (rows : List Row) (days : List ℤ) → Ascend None days → AllPairs ComesBefore (flat_map (told_in rows) days)
days_come_in_order rows [] up = λ i j d before lt. absurd (omega arith)
days_come_in_order rows (day ∷ days) up =
    let Later : DayLine → Type 0 = λ line. int_lt day line.day ≡ true in
    let Here : DayLine → Type 0 = λ line. line.day ≡ day in
    let sums = (summary_of (rows_of_day day rows)).fields in
    let behind : All Later (flat_map (told_in rows) days) = of_days Later rows days (λ k d lt.
    of_fields Later (get_or days k d) 0 (summary_of (rows_of_day (get_or days k d) rows)).fields (λ i within.
    always (λ s. int_lt day (get_or days k d) ≡ true) (get_or (summary_of (rows_of_day (get_or days k d) rows)).fields i None) (λ s. above day days up k d lt))) in
    let here : All Here (told_in rows day) = of_fields Here day 0 sums (λ i within. always (λ s. day ≡ day) (get_or sums i None) (λ s. refl)) in
    pairs_append ComesBefore (told_in rows day) (flat_map (told_in rows) days) (fields_in_order day 0 sums) (days_come_in_order rows days (ascend_on day days up))
    (All-weaker Here (λ line. All (ComesBefore line) (flat_map (told_in rows) days)) (λ line is.
    All-weaker Later (ComesBefore line) (λ other later. inl (subst (λ (d : ℤ). int_lt d other.day ≡ true) (sym is) later)) (flat_map (told_in rows) days) behind) (told_in rows day) here)

-- rows that rise still do so where some are left out
exceeds_on : (last : Option CivilMinute) (a b : CivilMinute) → exceeds last (Some a) ≡ true → exceeds (Some a) (Some b) ≡ true → exceeds last (Some b) ≡ true
exceeds_on None a b one two = refl
exceeds_on (Some l) a b one two = lt_on (minute_of l) (minute_of a) (minute_of b) one two
  where
    lt_on : (l m n : ℕ) → nat_lt l m ≡ true → nat_lt m n ≡ true → nat_lt l n ≡ true
    lt_on l m n one two = grind (arith, nat_tests)

rise_past : (last : Option CivilMinute) (stamp : CivilMinute) (rows : List Row) → exceeds last (Some stamp) ≡ true → RowsRiseAfter (Some stamp) rows → RowsRiseAfter last rows
rise_past last stamp [] one up = tt
rise_past last stamp (row ∷ rows) one up = (exceeds_on last stamp row.stamp one up.0, up.1)

rise_filtered : (p : Row → Bool) (last : Option CivilMinute) (rows : List Row) → RowsRiseAfter last rows → RowsRiseAfter last (filter p rows)
rise_filtered p last [] up = tt
rise_filtered p last (row ∷ rows) up =
    by (p row) (up.0, rise_filtered p (Some row.stamp) rows up.1) (rise_filtered p last rows (rise_past last row.stamp rows up.0 up.1))
  where
    by : (b : Bool) → RowsRiseAfter last (row ∷ filter p rows) → RowsRiseAfter last (filter p rows) → RowsRiseAfter last (cond b (row ∷ filter p rows) (filter p rows))
    by true taken left = taken
    by false taken left = left

-- what is told of a field of a day is so
field_told : (rows : List Row) (day : ℤ) (field : ℕ) → RowsRiseAfter None rows → IfSome (field_sum (readings field (rows_of_day day rows))) (λ s. IsRecomputed rows (line_at day field s))
field_told rows day field up =
    let up_there = rise_filtered (is_of_day day) None rows up in
    by (readings field (rows_of_day day rows)) refl (least_first field (rows_of_day day rows) up_there) (greatest_first field (rows_of_day day rows) up_there)
  where
    by : (rs : List Reading) → readings field (rows_of_day day rows) ≡ rs
        → IfSome (field_sum rs) (λ s. IsLeastAt field (rows_of_day day rows) s.least s.least_at)
        → IfSome (field_sum rs) (λ s. IsGreatestAt field (rows_of_day day rows) s.greatest s.greatest_at)
        → IfSome (field_sum rs) (λ s. IsRecomputed rows (line_at day field s))
    by [] e least greatest = tt
    by (r ∷ rs) e least greatest = record {
      least = least;
      greatest = greatest;
      sum = ap readings_total (sym e);
      count = ap length (sym e);
      wsum = ap weighted (sym e);
      sumtime = ap time (sym e);
    }

fields_long : (rows : List Row) → length (summary_of rows).fields ≡ field_count
unfolding summary_of
fields_long rows = length-map-range_with_len (λ field. field_sum (readings field rows)) 0 field_count

day_told : (rows : List Row) (day : ℤ) → RowsRiseAfter None rows → All (IsRecomputed rows) (told_in rows day)
day_told rows day up =
    let here = rows_of_day day rows in
    of_fields (IsRecomputed rows) day 0 (summary_of here).fields (λ i lt.
    let none : 0 + i ≡ i = omega arith in
    subst (λ (f : ℕ). IfSome (get_or (summary_of here).fields i None) (λ s. IsRecomputed rows (line_at day f s))) (sym none)
    (subst (λ (o : Option FieldSum). IfSome o (λ s. IsRecomputed rows (line_at day i s))) (sym (field_is here i (omega (arith, fields_long here)))) (field_told rows day i up)))

-- one more in front
behind : {X : Type 0} (x y : X) (xs : List X) → Contains xs x → Contains (y ∷ xs) x
behind x y xs there = (suc there.0, omega (arith, there.1), there.2)

-- the day of each row is there
day_is : (last : Option ℤ) (n : ℕ) → is_day last (pos n) ≡ true → last ≡ Some (pos n)
day_is None n e = absurd cc
day_is (Some (pos m)) n e = let same : m ≡ n = grind (arith, nat_tests) in ap (λ (k : ℕ). Some (pos k)) same
day_is (Some (negsuc m)) n e = absurd cc

with_day_there : (last : Option ℤ) (n : ℕ) (days : List ℤ) (b : Bool) → is_day last (pos n) ≡ b → Contains (with_day b (pos n) days) (pos n) ⊎ (last ≡ Some (pos n))
with_day_there last n days true e = inr (day_is last n e)
with_day_there last n days false e = inl (0, omega arith, refl)

with_day_behind : (b : Bool) (x day : ℤ) (days : List ℤ) → Contains days x → Contains (with_day b day days) x
with_day_behind true x day days there = there
with_day_behind false x day days there = behind x day days there

abbrev IsThere : Option ℤ → List Row → Row → Type 0
IsThere last rows row = Contains (days_from last rows) (day_of_row row) ⊎ (last ≡ Some (day_of_row row))

first_there : (last : Option ℤ) (r : Row) (rows : List Row) → IsThere last (r ∷ rows) r
first_there last r rows = with_day_there last (archive_day_of r.stamp) (days_from (Some (day_of_row r)) rows) (is_day last (day_of_row r)) refl

later_there : (last : Option ℤ) (r : Row) (rows : List Row) (row : Row) → IsThere (Some (day_of_row r)) rows row → IsThere last (r ∷ rows) row
later_there last r rows row (inl there) = inl (with_day_behind (is_day last (day_of_row r)) (day_of_row row) (day_of_row r) (days_from (Some (day_of_row r)) rows) there)
later_there last r rows row (inr e) =
    let same : day_of_row r ≡ day_of_row row = cc in
    subst (λ (d : ℤ). Contains (days_from last (r ∷ rows)) d ⊎ (last ≡ Some d)) same (first_there last r rows)

day_there : (last : Option ℤ) (rows : List Row) (row : Row) → Contains rows row → IsThere last rows row
day_there last [] row there = absurd (omega (arith, there.1))
day_there last (r ∷ rows) row (zero, within, at) = subst (IsThere last (r ∷ rows)) at (first_there last r rows)
day_there last (r ∷ rows) row (suc k, within, at) =
    later_there last r rows row (day_there (Some (day_of_row r)) rows row (k, (let small : k < length rows = omega (arith, within) in small), at))

-- a row is among those of its day
filtered_there : (p : Row → Bool) (rows : List Row) (row : Row) → p row ≡ true → Contains rows row → Contains (filter p rows) row
filtered_there p [] row is there = absurd (omega (arith, there.1))
filtered_there p (r ∷ rows) row is (k, within, at) = by k within at (λ here. filtered_there p rows row is here)
  where
    taken : (b : Bool) → b ≡ true → Contains (cond b (row ∷ filter p rows) (filter p rows)) row
    taken true e = (0, omega arith, refl)
    taken false e = absurd cc

    past : (b : Bool) → Contains (filter p rows) row → Contains (cond b (r ∷ filter p rows) (filter p rows)) row
    past true there = behind row r (filter p rows) there
    past false there = there

    by : (k : ℕ) → k < length (r ∷ rows) → get_or (r ∷ rows) k row ≡ row → (Contains rows row → Contains (filter p rows) row) → Contains (filter p (r ∷ rows)) row
    by zero within at more = subst (λ (x : Row). Contains (cond (p x) (x ∷ filter p rows) (filter p rows)) row) (sym at) (taken (p row) is)
    by (suc k) within at more = past (p r) (more (k, (let small : k < length rows = omega (arith, within) in small), at))

-- its value is among the readings
reading_there : (field : ℕ) (rows : List Row) (row : Row) (v : ℤ) → field_value field row ≡ Some v → Contains rows row → Contains (readings field rows) (row_reading row v)
reading_there field [] row v is there = absurd (omega (arith, there.1))
reading_there field (r ∷ rows) row v is (k, within, at) = by k within at (λ here. reading_there field rows row v is here)
  where
    taken : (o : Option ℤ) → o ≡ Some v → Contains (with_reading o row (readings field rows)) (row_reading row v)
    taken None e = absurd cc
    taken (Some w) e = let same : w ≡ v = cc in (0, omega arith, ap (row_reading row) same)

    past : (o : Option ℤ) → Contains (readings field rows) (row_reading row v) → Contains (with_reading o r (readings field rows)) (row_reading row v)
    past None there = there
    past (Some w) there = behind (row_reading row v) (row_reading r w) (readings field rows) there

    by : (k : ℕ) → k < length (r ∷ rows) → get_or (r ∷ rows) k row ≡ row → (Contains rows row → Contains (readings field rows) (row_reading row v)) → Contains (readings field (r ∷ rows)) (row_reading row v)
    by zero within at more = subst (λ (x : Row). Contains (with_reading (field_value field x) x (readings field rows)) (row_reading row v)) (sym at) (taken (field_value field row) is)
    by (suc k) within at more = past (field_value field r) (more (k, (let small : k < length rows = omega (arith, within) in small), at))

some_sum : (rs : List Reading) (r : Reading) → Contains rs r → (s : FieldSum) × (field_sum rs ≡ Some s)
some_sum [] r there = absurd (omega (arith, there.1))
some_sum (x ∷ rs) r there = (_, refl)

-- so its day has a line of the field
field_there : (day : ℤ) (field : ℕ) (sums : List (Option FieldSum)) (i : ℕ) (s : FieldSum) → i < length sums → get_or sums i None ≡ Some s → Contains (told_from day field sums) (line_at day (field + i) s)
field_there day field [] i s lt at = absurd (omega arith)
field_there day field (sum ∷ sums) zero s lt at =
    let none : field + 0 ≡ field = omega arith in
    subst (λ (f : ℕ). Contains (told_from day field (sum ∷ sums)) (line_at day f s)) (sym none)
    (Contains-append_left (told_of day field sum) (told_from day (field + 1) sums) (line_at day field s)
    (subst (λ (o : Option FieldSum). Contains (told_of day field o) (line_at day field s)) (sym at) (0, omega arith, refl)))
field_there day field (sum ∷ sums) (suc i) s lt at =
    let next : field + suc i ≡ field + 1 + i = omega arith in
    subst (λ (f : ℕ). Contains (told_from day field (sum ∷ sums)) (line_at day f s)) (sym next)
    (Contains-append_right (told_of day field sum) (told_from day (field + 1) sums) (line_at day (field + 1 + i) s) (field_there day (field + 1) sums i s (omega arith) at))

line_there : (rows : List Row) (days : List ℤ) (day : ℤ) (line : DayLine) → Contains days day → Contains (told_in rows day) line → Contains (flat_map (told_in rows) days) line
line_there rows [] day line there told = absurd (omega (arith, there.1))
line_there rows (d ∷ days) day line (zero, within, at) told =
    Contains-append_left (told_in rows d) (flat_map (told_in rows) days) line (subst (λ (x : ℤ). Contains (told_in rows x) line) (sym at) told)
line_there rows (d ∷ days) day line (suc k, within, at) told =
    Contains-append_right (told_in rows d) (flat_map (told_in rows) days) line (line_there rows days day line (k, (let small : k < length days = omega (arith, within) in small), at) told)

own_day : (n : ℕ) → int_eq (pos n) (pos n) ≡ true
own_day n = grind (arith, nat_tests)

value_told : (rows : List Row) (row : Row) (field : ℕ) → Contains rows row → field < field_count → (v : ℤ) → field_value field row ≡ Some v → FieldIsTold (flat_map (told_in rows) (days_of rows)) (day_of_row row) field
value_told rows row field there small v is =
    let day = day_of_row row in let here = rows_of_day day rows in
    let mine : Contains here row = filtered_there (is_of_day day) rows row (own_day (archive_day_of row.stamp)) there in
    let sum = some_sum (readings field here) (row_reading row v) (reading_there field here row v is mine) in
    let line = line_at day (0 + field) sum.0 in
    let told : Contains (told_in rows day) line = field_there day 0 (summary_of here).fields field sum.0 (omega (arith, fields_long here)) (field_is here field small ∙ sum.1) in
    let there_day : Contains (days_of rows) day = elim (day_there None rows row there) [ inl is_there ↦ is_there | inr none ↦ absurd cc ] in
    (line, line_there rows (days_of rows) day line there_day told, refl, (let none : 0 + field ≡ field = omega arith in none))

some_value : (o : Option ℤ) → IsSome o → (v : ℤ) × (o ≡ Some v)
some_value None is = absurd cc
some_value (Some v) is = (v, refl)

pub day_lines_law : (rows : List Row) → RowsRiseAfter None rows → AreDayLines rows (text_of_lines (all_day_lines rows))
day_lines_law rows up = record {
  lines = flat_map (told_in rows) (days_of rows);
  text_is = ap text_of_lines (sym (all_printed rows (days_of rows)));
  in_order = days_come_in_order rows (days_of rows) (days_in_order rows (rise_when None rows up));
  recomputed = of_days (IsRecomputed rows) rows (days_of rows) (λ k d lt. day_told rows (get_or (days_of rows) k d) up);
  all = λ row field there small is. let some = some_value (field_value field row) is in value_told rows row field there small some.0 some.1;
}
