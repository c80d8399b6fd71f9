-- The end of rows, one row more.
use Rattle.std.proofs.Common.{◌≡◌, ℕ, ◌+◌, ◌-◌, ◌*◌, ◌/◌, ◌<◌, ◌≤◌, Bool, true, false, cond, List, [], ◌∷◌, ◌++◌, length, Option, Some, None, refl, sym, ◌∙◌, ap, arith, ◌⊎◌, inl, inr}
use Rattle.std.specs.Prelude.{ℤ, pos, ◌&&◌, nat_lt, nat_eq, not, filter, is_some}
use Rattle.std.specs.Ordering.{int_eq}
use Rattle.std.proofs.lemmas.Bool.Decides.{nat_tests}
use Rattle.std.proofs.lemmas.List.Elements.{filter-append}
use Rattle.std.proofs.lemmas.Bool.{and_parts, ltb-true}
use Rattle.station_base.specs.declared.row.Row.{Row}
use Rattle.station_base.specs.CivilMinute.{CivilMinute, minute_of, archive_day_of}
use Rattle.daily_summary.specs.declared.running.RunningSummary.{RunningSummary}
use Rattle.daily_summary.specs.declared.summary.DaySummary.{DaySummary}
use Rattle.daily_summary.specs.Running.{running_summary}
use Rattle.daily_summary.proofs.RunningRows.{told_rows}
use Rattle.daily_summary.specs.Summary.{summary_of, is_of_day}
use Rattle.packed_rows.specs.declared.tail.Tail.{Tail}
use Rattle.std.specs.Str.{bytes_eq}
use Rattle.gated_log.specs.Log.{as_handed}
use Rattle.packed_rows.specs.Closing.{closing_slot, begins_day, day_of_stamp, last_day, last_day_rows}
use Rattle.packed_rows.specs.Rising.{stamp_exceeds, rows_rise, last_stamp_after, last_row_stamp}
use Rattle.packed_rows.specs.Rows.{is_closing}
use Rattle.packed_rows.specs.Into.{minutes_into}
use Rattle.packed_rows.specs.Tail.{EndsRows}
use Rattle.packed_rows.proofs.RowLaws.{last_join, rise_join}
use Rattle.daily_summary.specs.Parts.{part_count}

day_le : (m n : ℕ) → nat_lt m n ≡ true → (m - 1) / 1440 ≤ (n - 1) / 1440
day_le m n e = let lt : m < n = grind (arith, nat_tests) in omega arith

-- a later stamp is of no earlier day
pub later_day : (a b : CivilMinute) → stamp_exceeds (Some a) b ≡ true → archive_day_of a ≤ archive_day_of b
later_day a b e = day_le (minute_of a) (minute_of b) e

day_nat : Option CivilMinute → ℕ
day_nat None = 0
day_nat (Some s) = archive_day_of s

-- rising rows are of no later day than the last
day_within : (s : CivilMinute) (rows : List Row) → rows_rise (Some s) rows ≡ true → archive_day_of s ≤ day_nat (last_stamp_after (Some s) rows)
unfolding day_nat
day_within s [] up = omega arith
day_within s (row ∷ rows) up =
    let one = later_day s row.stamp (and_parts (stamp_exceeds (Some s) row.stamp) (rows_rise (Some row.stamp) rows) up).0 in
    let rest = day_within row.stamp rows (and_parts (stamp_exceeds (Some s) row.stamp) (rows_rise (Some row.stamp) rows) up).1 in
    omega (arith, one, rest)

not_day : (a d : ℕ) → a < d → int_eq (pos a) (pos d) ≡ false
not_day a d lt = grind (arith, nat_tests)

skip : (p : Row → Bool) (row : Row) (rows : List Row) → p row ≡ false → filter p (row ∷ rows) ≡ filter p rows
skip p row rows not_it = ap (λ (b : Bool). cond b (row ∷ filter p rows) (filter p rows)) not_it

-- none of them is of a later day
none_later : (last : Option CivilMinute) (rows : List Row) (d : ℕ) → rows_rise last rows ≡ true → day_nat (last_stamp_after last rows) < d → filter (is_of_day (pos d)) rows ≡ []
none_later last [] d up lt = refl
none_later last (row ∷ rows) d up lt =
    let later = (and_parts (stamp_exceeds last row.stamp) (rows_rise (Some row.stamp) rows) up).1 in
    let day = day_within row.stamp rows later in
    skip (is_of_day (pos d)) row rows (not_day (archive_day_of row.stamp) d (omega (arith, day, lt))) ∙ none_later (Some row.stamp) rows d later lt

same_day : (n : ℕ) → int_eq (pos n) (pos n) ≡ true
same_day n = grind (arith, nat_tests)

only : (row : Row) → filter (is_of_day (pos (archive_day_of row.stamp))) (row ∷ []) ≡ row ∷ []
only row = ap (λ (b : Bool). cond b (row ∷ []) []) (same_day (archive_day_of row.stamp))

last_of : (rows : List Row) (row : Row) → last_day (rows ++ row ∷ []) ≡ pos (archive_day_of row.stamp)
last_of rows row = ap (λ (o : Option CivilMinute). day_of_stamp o) (last_join None rows (row ∷ []))

split_day : (rows : List Row) (row : Row) → last_day_rows (rows ++ row ∷ []) ≡ filter (is_of_day (pos (archive_day_of row.stamp))) rows ++ row ∷ []
split_day rows row =
    ap (λ (d : ℤ). filter (is_of_day d) (rows ++ row ∷ [])) (last_of rows row) ∙ filter-append (is_of_day (pos (archive_day_of row.stamp))) rows (row ∷ [])
    ∙ ap (λ (xs : List Row). filter (is_of_day (pos (archive_day_of row.stamp))) rows ++ xs) (only row)

same_nat : (a b : ℕ) → not (nat_eq a b) ≡ false → a ≡ b
same_nat a b e = grind (arith, nat_tests)

-- a row of the last row's day
same_by : (rows : List Row) (row : Row) (o : Option CivilMinute) → last_row_stamp rows ≡ o → begins_day o row.stamp ≡ false → filter (is_of_day (pos (archive_day_of row.stamp))) rows ≡ last_day_rows rows
same_by [] row None is out = refl
same_by (x ∷ rows) row None is out = absurd (some_last x rows is)
  where
    some_last : (x : Row) (rows : List Row) → last_stamp_after (Some x.stamp) rows ≡ None → ⊥
    some_last x [] e = cc
    some_last x (y ∷ rows) e = some_last y rows e
same_by rows row (Some s) is out =
    let e : archive_day_of s ≡ archive_day_of row.stamp = same_nat _ _ out in
    sym (ap (λ (o : Option CivilMinute). filter (is_of_day (day_of_stamp o)) rows) is ∙ ap (λ (n : ℕ). filter (is_of_day (pos n)) rows) e)

pub same_rows : (rows : List Row) (row : Row) → begins_day (last_row_stamp rows) row.stamp ≡ false → last_day_rows (rows ++ row ∷ []) ≡ last_day_rows rows ++ row ∷ []
same_rows rows row out = split_day rows row ∙ ap (λ (xs : List Row). xs ++ row ∷ []) (same_by rows row (last_row_stamp rows) refl out)

pub other_nat : (a b : ℕ) → not (nat_eq a b) ≡ true → a ≤ b → a < b
other_nat a b e le = grind (arith, nat_tests)

later_by : (o : Option CivilMinute) (stamp : CivilMinute) → begins_day o stamp ≡ true → stamp_exceeds o stamp ≡ true → day_nat o < archive_day_of stamp
unfolding day_nat
later_by None stamp so rises = absurd cc
later_by (Some s) stamp so rises = other_nat _ _ so (later_day s stamp rises)

-- a row of a later day
pub later_rows : (rows : List Row) (row : Row) → rows_rise None rows ≡ true → stamp_exceeds (last_row_stamp rows) row.stamp ≡ true → begins_day (last_row_stamp rows) row.stamp ≡ true → last_day_rows (rows ++ row ∷ []) ≡ row ∷ []
later_rows rows row up rises so =
    split_day rows row ∙ ap (λ (xs : List Row). xs ++ row ∷ []) (none_later None rows (archive_day_of row.stamp) up (later_by (last_row_stamp rows) row.stamp so rises))

into_same : (a b : ℕ) → a < b → (a - 1) / 1440 ≡ (b - 1) / 1440 → a - 1440 * ((a - 1) / 1440) + 1 ≤ b - 1440 * ((b - 1) / 1440)
into_same a b lt e = omega arith

pub into_small : (o : Option CivilMinute) → minutes_into o ≤ 1440
into_small None = omega arith
into_small (Some s) = small (minute_of s)
  where
    small : (m : ℕ) → m - 1440 * ((m - 1) / 1440) ≤ 1440
    small m = omega arith

summary_count : (s : DaySummary) (rows : List Row) → s ≡ summary_of rows → s.rows ≡ length rows
unfolding summary_of
summary_count s rows is = ap (λ (t : DaySummary). t.rows) is

pub none_running : (s : RunningSummary) → running_summary s ≡ summary_of [] → s.rows ≡ 0
none_running s is = sym (told_rows s) ∙ summary_count (running_summary s) [] is

some_last : (x : Row) (rows : List Row) → last_stamp_after (Some x.stamp) rows ≡ None → ⊥
some_last x [] e = cc
some_last x (y ∷ rows) e = some_last y rows e

pub none_last : (rows : List Row) → None ≡ last_row_stamp rows → rows ≡ []
none_last [] e = refl
none_last (x ∷ rows) e = absurd (some_last x rows (sym e))

-- one row more at the end
pub ends_more : (tail new : Tail) (before : RunningSummary) (row : Row) (rows : List Row) → EndsRows tail rows → stamp_exceeds tail.last row.stamp ≡ true → (begins_day tail.last row.stamp ≡ false → before ≡ tail.running) →
    (begins_day tail.last row.stamp ≡ true → running_summary before ≡ summary_of []) → ((all : List Row) → running_summary before ≡ summary_of all → running_summary new.running ≡ summary_of (all ++ row ∷ [])) → new.last ≡ Some row.stamp →
    EndsRows new (rows ++ row ∷ [])
ends_more tail new before row rows ends rises same later add last =
    record {
      rising = rise_join None rows (row ∷ []) ends.rising (ap (λ (b : Bool). b && true) rising_here);
      last = last ∙ sym (last_join None rows (row ∷ []));
      running = run (begins_day tail.last row.stamp) refl;
    }
  where
    rising_here : stamp_exceeds (last_row_stamp rows) row.stamp ≡ true
    rising_here = ap (λ (o : Option CivilMinute). stamp_exceeds o row.stamp) (sym ends.last) ∙ rises

    here : (b : Bool) → begins_day tail.last row.stamp ≡ b → begins_day (last_row_stamp rows) row.stamp ≡ b
    here b is = ap (λ (o : Option CivilMinute). begins_day o row.stamp) (sym ends.last) ∙ is

    run : (b : Bool) → begins_day tail.last row.stamp ≡ b → running_summary new.running ≡ summary_of (last_day_rows (rows ++ row ∷ []))
    run true is = add [] (later is) ∙ ap summary_of (sym (later_rows rows row ends.rising rising_here (here true is)))
    run false is = add (last_day_rows rows) (ap running_summary (same is) ∙ ends.running) ∙ ap summary_of (sym (same_rows rows row (here false is)))

-- and its day has not too many rows
into_step : (o : Option CivilMinute) (stamp : CivilMinute) (n : ℕ) → stamp_exceeds o stamp ≡ true → begins_day o stamp ≡ false → 1 ≤ minutes_into (Some stamp) → n ≤ minutes_into o → n + 1 ≤ minutes_into (Some stamp)
into_step None stamp n rises out some le = omega arith
into_step (Some s) stamp n rises out some le =
    let e : archive_day_of s ≡ archive_day_of stamp = same_nat _ _ out in
    let lt : minute_of s < minute_of stamp = ltb-true (minute_of s) (minute_of stamp) rises in
    let f = into_same (minute_of s) (minute_of stamp) lt e in omega (arith, f)

pub few_more : (last : Option CivilMinute) (running before after : RunningSummary) (row : Row) → stamp_exceeds last row.stamp ≡ true → running.rows ≤ minutes_into last → 1 ≤ minutes_into (Some row.stamp) →
    (begins_day last row.stamp ≡ false → before ≡ running) → (begins_day last row.stamp ≡ true → running_summary before ≡ summary_of []) → after.rows ≡ before.rows + 1 → after.rows ≤ minutes_into (Some row.stamp)
few_more last running before after row rises few some same later one = by (begins_day last row.stamp) refl
  where
    by : (b : Bool) → begins_day last row.stamp ≡ b → after.rows ≤ minutes_into (Some row.stamp)
    by true is = let e = none_running before (later is) in omega (arith, e, one, some)
    by false is = let e = ap (λ (s : RunningSummary). s.rows) (same is) in let f = into_step last row.stamp running.rows rises is some few in omega (arith, e, f, one)

-- nothing closes where no row stands, or thirteen slots do
pub not_closing : (rows : List Row) (shown : ℕ) (slot : List ℕ) → (rows ≡ []) ⊎ (part_count ≤ shown) → false ≡ is_closing rows shown slot
not_closing rows shown slot (inl e) = ap (λ (r : List Row). nat_lt 0 (length r) && nat_lt shown part_count && bytes_eq (as_handed slot) (closing_slot r shown)) (sym e)
not_closing rows shown slot (inr le) = by (nat_lt 0 (length rows)) (nat_lt shown part_count) (bytes_eq (as_handed slot) (closing_slot rows shown)) (let e : nat_lt shown part_count ≡ false = grind (arith, nat_tests) in e)
  where
    by : (a b c : Bool) → b ≡ false → false ≡ (a && b && c)
    by true true c e = absurd cc
    by true false c e = refl
    by false b c e = refl

pub is_none_of : (o : Option CivilMinute) (b : Bool) → is_some o ≡ not b → b ≡ true → None ≡ o
is_none_of None b e t = refl
is_none_of (Some s) true e t = absurd cc
is_none_of (Some s) false e t = absurd cc
