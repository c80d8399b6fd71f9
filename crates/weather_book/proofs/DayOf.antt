-- The summary of a day of a book.
use Rattle.std.proofs.Common.{◌≡◌, ℕ, ℤ, pos, negsuc, ◌+◌, ◌-◌, ◌<◌, ◌≤◌, Bool, true, false, List, [], ◌∷◌, ◌++◌, length, take, get_or, Option, Some, None, refl, sym, ap, subst, ◌∙◌, arith, append_assoc, append-nil, length-append}
use Rattle.std.specs.Prelude.{All, count_by, filter, not, nat_eq, int_le, slice_get}
use Rattle.std.proofs.lemmas.Bool.Decides.{nat_tests}
use Rattle.std.proofs.lemmas.List.Elements.{All-filter, filter-append}
use Rattle.std.proofs.lemmas.List.Sums.{length-filter, count_by-le-length}
use Rattle.std.proofs.Math.Seq.{take-append_seam, get_or-append_seam}
use Rattle.std.proofs.lemmas.Option.{slice_get-get_or}
use Rattle.std.proofs.lemmas.Bool.{and_parts}
use Rattle.station_base.specs.declared.row.Row.{Row}
use Rattle.station_base.specs.declared.day.DayNumber.{DayNumber}
use Rattle.station_base.specs.CivilMinute.{CivilMinute, archive_day_of}
use Rattle.daily_summary.specs.Measured.{IsMeasured}
use Rattle.daily_summary.specs.Running.{running_summary}
use Rattle.daily_summary.specs.Summary.{is_of_day, rows_of_day, summary_of}
use Rattle.daily_summary.proofs.Typed.{bounds_of, typed_of}
use Rattle.packed_rows.specs.Closed.{IsClosedAt}
use Rattle.packed_rows.specs.Closing.{begins_day, closings, day_of_stamp, last_day, closing_slot, summary_slot}
use Rattle.packed_rows.specs.Days.{day_of_row, is_before, is_up_to}
use Rattle.weather_book.specs.Kept.{KeepsOf}
use Rattle.packed_rows.specs.Packed.{AreReadBack}
use Rattle.packed_rows.specs.Rising.{stamp_exceeds, rows_rise, last_stamp_after, last_row_stamp}
use Rattle.packed_rows.specs.Rows.{rows_from, holds, slot_total}
use Rattle.weather_book.specs.declared.kept.DayEntry.{DayEntry}
use Rattle.packed_rows.specs.declared.tail.Tail.{Tail}
use Rattle.weather_book.proofs.ClosedDays.{closing_at}
use Rattle.packed_rows.proofs.DayRows.{splits, day_count, last_day_is, few_of}
use Rattle.weather_book.proofs.Measured.{all_measured}
use Rattle.packed_rows.proofs.RowLaws.{last_join, rise_front, rise_behind, total_push}
use Rattle.packed_rows.proofs.DayLaws.{later_day, still_beyond}
use Rattle.daily_summary.specs.Parts.{part_count}

-- the last row is past a day where an earlier one is
last_past : (s : CivilMinute) (rows : List Row) (f : ℤ) → rows_rise (Some s) rows ≡ true → int_le (pos (archive_day_of s)) f ≡ false → int_le (day_of_stamp (last_stamp_after (Some s) rows)) f ≡ false
last_past s [] f up past = past
last_past s (row ∷ rows) f up past =
    let le = later_day s row.stamp (and_parts (stamp_exceeds (Some s) row.stamp) (rows_rise (Some row.stamp) rows) up).0 in
    last_past row.stamp rows f (and_parts (stamp_exceeds (Some s) row.stamp) (rows_rise (Some row.stamp) rows) up).1 (still_beyond (archive_day_of s) (archive_day_of row.stamp) f le past)

at_itself : (f : ℤ) (n : ℕ) → pos n ≡ f → int_le (pos n) f ≡ true
at_itself (pos m) n e = let is : n ≡ m = cc in grind (arith, nat_tests)
at_itself (negsuc m) n e = absurd cc

-- a row past the day of the last row begins a later day
later_begins : (last : CivilMinute) (stamp : CivilMinute) (f : ℤ) → pos (archive_day_of last) ≡ f → int_le (pos (archive_day_of stamp)) f ≡ false → begins_day (Some last) stamp ≡ true
later_begins last stamp f is past =
    let e : int_le (pos (archive_day_of stamp)) (pos (archive_day_of last)) ≡ false = subst (λ (d : ℤ). int_le (pos (archive_day_of stamp)) d ≡ false) (sym is) past in
    apart (archive_day_of last) (archive_day_of stamp) e
  where
    apart : (a b : ℕ) → int_le (pos b) (pos a) ≡ false → not (nat_eq a b) ≡ true
    apart a b e = grind (arith, nat_tests)

last_some : (s : CivilMinute) (xs : List Row) → (t : CivilMinute) × (last_stamp_after (Some s) xs ≡ Some t)
last_some s [] = (s, refl)
last_some s (x ∷ xs) = last_some x.stamp xs

begins_by : (front : List Row) (f : ℤ) (stamp : CivilMinute) → 1 ≤ length front → last_day front ≡ f → int_le (pos (archive_day_of stamp)) f ≡ false → begins_day (last_row_stamp front) stamp ≡ true
begins_by [] f stamp some is past = absurd (omega (arith, some))
begins_by (x ∷ xs) f stamp some is past =
    let t = last_some x.stamp xs in
    ap (λ (o : Option CivilMinute). begins_day o stamp) t.1 ∙ later_begins t.0 stamp f (sym (ap day_of_stamp t.1) ∙ is) past

some_of_filter : (p : Row → Bool) (rows : List Row) → 1 ≤ length (filter p rows) → 1 ≤ length rows
some_of_filter p rows some = let a = length-filter p rows in let b = count_by-le-length p rows in omega (arith, a, b, some)

-- a day that is over, by the number of the first row behind it
pub record IsOver (day : DayNumber) (rows : List Row) (n : ℕ) : Type 0 where
  pub total : slot_total (take (n + 1) rows) ≡ slot_total (take n rows) + 14
  pub closed : (slots : List (List ℕ)) → rows_from [] 0 0 slots ≡ holds rows → IsClosedAt slots (slot_total (take n rows)) day.0 (summary_of (rows_of_day day.0 rows))
  pub not_last : last_day rows ≡ day.0 → ⊥

over_by : (day : DayNumber) (rows front : List Row) (row : Row) (more : List Row) (n : ℕ) → rows_rise None rows ≡ true → AreReadBack rows → 1 ≤ length (rows_of_day day.0 rows) → n ≡ length front →
    rows ≡ front ++ row ∷ more → count_by (is_up_to day) front ≡ length front → rows_of_day day.0 (row ∷ more) ≡ [] → int_le (day_of_row row) day.0 ≡ false → IsOver day rows n
over_by day rows front row more n up back some count parts all none past =
    let front_up : rows_rise None front ≡ true = rise_front None front (row ∷ more) (subst (λ (xs : List Row). rows_rise None xs ≡ true) parts up) in
    let same : rows_of_day day.0 front ≡ rows_of_day day.0 rows =
    sym (append-nil (rows_of_day day.0 front)) ∙ ap (λ (xs : List Row). rows_of_day day.0 front ++ xs) (sym none) ∙ sym (filter-append (is_of_day day.0) front (row ∷ more)) ∙ ap (rows_of_day day.0) (sym parts) in
    let front_some : 1 ≤ length (rows_of_day day.0 front) = omega (arith, ap length same, some) in
    let last : last_day front ≡ day.0 = last_day_is day front front_up all front_some in
    let begins : begins_day (last_row_stamp front) row.stamp ≡ true = begins_by front day.0 row.stamp (some_of_filter (is_of_day day.0) front front_some) last past in
    let taken : take n rows ≡ front = ap (λ (k : ℕ). take k rows) count ∙ ap (take (length front)) parts ∙ take-append_seam front (row ∷ more) in
    let long = ap length parts in
    let lengths = length-append front (row ∷ more) in
    let taken_more : take (n + 1) rows ≡ front ++ row ∷ [] =
    ap (λ (k : ℕ). take k rows) (let l = length-append front (row ∷ []) in let e : n + 1 ≡ length (front ++ row ∷ []) = omega (arith, l, count) in e)
    ∙ ap (take (length (front ++ row ∷ []))) (parts ∙ sym (append_assoc front (row ∷ []) more)) ∙ take-append_seam (front ++ row ∷ []) more in
    let pushed = total_push front row in
    let thirteen : closings (begins_day (last_row_stamp front) row.stamp) ≡ part_count = ap closings begins in
    let few = few_of day rows up in
    let all_were : All IsMeasured (rows_of_day day.0 rows) = All-filter (is_of_day day.0) IsMeasured rows (all_measured rows back) in
    record {
      total = (let a = ap slot_total taken in let b = ap slot_total taken_more in omega (arith, a, b, pushed, thirteen));
      closed = λ slots are.
          let lt : n < length rows = omega (arith, count, long, lengths) in
          let c = closing_at slots rows n (slot_total (take n rows)) are lt
          (λ r at. subst (λ (x : Row). begins_day (last_row_stamp (take n rows)) x.stamp ≡ true) (row_at r at)
          (subst (λ (xs : List Row). begins_day (last_row_stamp xs) row.stamp ≡ true) (sym taken) begins)) refl in
          record {
            each = λ k small. c.each k small ∙ ap (λ (xs : List Row). closing_slot xs k) taken ∙ slot_is k last same;
            bounds = bounds_of (rows_of_day day.0 rows) all_were (omega (arith, few));
            typed = typed_of (rows_of_day day.0 rows) all_were (omega (arith, few));
          };
      not_last = λ is.
          let beyond = last_past row.stamp more day.0 (and_parts (stamp_exceeds (last_stamp_after None front) row.stamp) (rows_rise (Some row.stamp) more) (rise_behind None front (row ∷ more) (subst (λ (xs : List Row). rows_rise None xs ≡ true) parts up))).1 past in
          let last_is : last_day rows ≡ day_of_stamp (last_stamp_after (Some row.stamp) more) = ap last_day parts ∙ ap day_of_stamp (last_join None front (row ∷ more)) in
          beyond_itself (last_stamp_after (Some row.stamp) more) (sym last_is ∙ is) beyond;
    }
  where
    row_at : (r : Row) → slice_get rows n ≡ Some r → row ≡ r
    row_at r at =
        let lt : n < length rows = (let long = ap length parts in let l = length-append front (row ∷ more) in omega (arith, count, long, l)) in
        let there : get_or rows n row ≡ row = ap (λ (xs : List Row). get_or xs n row) parts ∙ ap (λ (k : ℕ). get_or (front ++ row ∷ more) k row) count ∙ get_or-append_seam front row more row in
        let e = slice_get-get_or rows n row lt in cc

    slot_is : (k : ℕ) → last_day front ≡ day.0 → rows_of_day day.0 front ≡ rows_of_day day.0 rows → closing_slot front k ≡ summary_slot day.0 k (summary_of (rows_of_day day.0 rows))
    slot_is k last same =
        ap (λ (d : ℤ). summary_slot d k (summary_of (rows_of_day d front))) last ∙ ap (λ (xs : List Row). summary_slot day.0 k (summary_of xs)) same

    beyond_itself : (o : Option CivilMinute) → day_of_stamp o ≡ day.0 → int_le (day_of_stamp o) day.0 ≡ false → ⊥
    beyond_itself None is past = let e = at_itself day.0 0 is in cc
    beyond_itself (Some s) is past = let e = at_itself day.0 (archive_day_of s) is in cc

pub over : (day : DayNumber) (rows : List Row) (n : ℕ) → rows_rise None rows ≡ true → AreReadBack rows → n ≡ count_by (is_up_to day) rows → n < length rows → 1 ≤ length (rows_of_day day.0 rows) → IsOver day rows n
over day rows n up back is lt some =
    let s = splits day None rows up in
    by s.front s.behind s.parts s.count s.all s.none s.next
  where
    by : (front behind : List Row) → rows ≡ front ++ behind → count_by (is_up_to day) rows ≡ length front → count_by (is_up_to day) front ≡ length front → rows_of_day day.0 behind ≡ [] →
        ((row : Row) (more : List Row) → behind ≡ row ∷ more → int_le (day_of_row row) day.0 ≡ false) → IsOver day rows n
    by front [] parts count all none next =
        absurd (let a = ap length parts in let b = length-append front [] in omega (arith, a, b, is, count, lt))
    by front (row ∷ more) parts count all none next =
        over_by day rows front row more n up back some (is ∙ count) parts all none (next row more refl)

-- the day of the last row
pub running_is : (entries : List DayEntry) (count : ℕ) (tail : Tail) (rows : List Row) (day : DayNumber) (end : ℕ) → KeepsOf entries count tail rows → end ≡ count_by (is_up_to day) rows → count ≤ end →
    1 ≤ length (rows_of_day day.0 rows) → running_summary tail.running ≡ summary_of (rows_of_day day.0 rows)
running_is entries count tail rows day end keeps is all some =
    let most = count_by-le-length (is_up_to day) rows in
    let whole : count_by (is_up_to day) rows ≡ length rows = omega (arith, most, is, all, keeps.count_is) in
    keeps.ends.running ∙ ap (λ (d : ℤ). summary_of (rows_of_day d rows)) (last_day_is day rows keeps.ends.rising whole some)

pub over_kept : (entries : List DayEntry) (count : ℕ) (tail : Tail) (rows : List Row) (day : DayNumber) (first end : ℕ) → KeepsOf entries count tail rows → first ≡ count_by (is_before day) rows →
    end ≡ count_by (is_up_to day) rows → first < end → end < count → IsOver day rows end
over_kept entries count tail rows day first end keeps before to some within =
    let d = day_count day rows in
    over day rows end keeps.ends.rising keeps.back to (omega (arith, within, keeps.count_is)) (omega (arith, before, to, d, some))

pub rows_between : (rows : List Row) (day : DayNumber) (first end : ℕ) → first ≡ count_by (is_before day) rows → end ≡ count_by (is_up_to day) rows → length (rows_of_day day.0 rows) ≡ end - first
rows_between rows day first end before to = let d = day_count day rows in omega (arith, before, to, d)

pub summary_rows : (rows : List Row) → (summary_of rows).rows ≡ length rows
unfolding summary_of
summary_rows rows = refl
