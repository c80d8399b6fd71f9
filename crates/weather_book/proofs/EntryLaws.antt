-- The entries of days, and the rows that they speak of.
use Rattle.std.proofs.Common.{◌≡◌, ℕ, zero, suc, ◌+◌, ◌-◌, ◌<◌, ◌≤◌, Bool, true, false, List, [], ◌∷◌, length, map, take, drop, Option, Some, None, refl, sym, ◌∙◌, ap, subst, arith}
use Rattle.std.specs.Prelude.{ℤ, pos, negsuc, ◌&&◌, int_lt, int_le, nat_le, count_by, option_map, slice_get, get_or}
use Rattle.std.specs.Ordering.{int_eq}
use Rattle.std.proofs.lemmas.Bool.Decides.{nat_tests}
use Rattle.std.proofs.Math.Seq.{drop-cons}
use Rattle.std.proofs.lemmas.List.{drop_all, length-take}
use Rattle.std.proofs.Common.{length-drop}
use Rattle.std.proofs.lemmas.Bool.{and_parts, and_right}
use Rattle.packed_rows.specs.Rows.{slot_total}
use Rattle.packed_rows.specs.declared.tail.Tail.{Tail}
use Rattle.std.proofs.lemmas.Option.{slice_get-map, slice_get-get_or}
use Rattle.station_base.specs.declared.row.Row.{Row}
use Rattle.station_base.specs.declared.day.DayNumber.{DayNumber}
use Rattle.station_base.specs.DayText.{IsDayNumber}
use Rattle.station_base.specs.CivilMinute.{CivilMinute, archive_day_of}
use Rattle.weather_book.specs.declared.kept.DayEntry.{DayEntry}
use Rattle.packed_rows.specs.Days.{day_of_row, is_day, with_day, days_from, days_of, is_before, is_up_to, is_within, is_on, kept_front, days_front, day_front, day_rest}
use Rattle.weather_book.specs.Kept.{with_day_entry, entries_from, entries_of, AreKnown, KeepsOf}
use Rattle.packed_rows.specs.Rising.{stamp_exceeds, rows_rise}
use Rattle.packed_rows.proofs.DayLaws.{later_day, still_not, still_beyond, count_yes, count_no}

-- the days of entries are those of the rows
day_of_entry : DayEntry → ℤ
day_of_entry entry = entry.day.0

map_with : (b : Bool) (e : DayEntry) (es : List DayEntry) (ds : List ℤ) → map day_of_entry es ≡ ds → map day_of_entry (with_day_entry b e es) ≡ with_day b e.day.0 ds
unfolding day_of_entry
map_with true e es ds is = is
map_with false e es ds is = ap (λ (x : List ℤ). e.day.0 ∷ x) is

days_are : (last : Option ℤ) (n : ℕ) (rows : List Row) → map day_of_entry (entries_from last n rows) ≡ days_from last rows
days_are last n [] = refl
days_are last n (row ∷ rows) =
    map_with (is_day last (day_of_row row)) (record { day = record { 0 = day_of_row row }; first = n }) (entries_from (Some (day_of_row row)) (n + 1) rows) (days_from (Some (day_of_row row)) rows) (days_are (Some (day_of_row row)) (n + 1) rows)

-- day k of the rows is that of entry k
pub day_is : (entries : List DayEntry) (rows : List Row) (k : ℕ) (entry : DayEntry) → entries ≡ entries_of rows → k < length entries → entry ≡ get_or entries k entry → slice_get (days_of rows) k ≡ Some entry.day.0
unfolding day_of_entry
day_is entries rows k entry is lt at =
    ap (λ (ds : List ℤ). slice_get ds k) (sym (days_are None 0 rows) ∙ ap (map day_of_entry) (sym is)) ∙ slice_get-map day_of_entry entries k
    ∙ ap (option_map day_of_entry) (slice_get-get_or entries k entry lt ∙ ap Some (sym at))

pub known_at : (entries : List DayEntry) (k : ℕ) (entry : DayEntry) → AreKnown entries → k < length entries → entry ≡ get_or entries k entry → IsDayNumber entry.day.0
known_at [] k entry all lt at = absurd (omega arith)
known_at (x ∷ entries) zero entry all lt at = subst (λ (e : DayEntry). IsDayNumber e.day.0) (sym at) all.0
known_at (x ∷ entries) (suc k) entry all lt at = known_at entries k entry all.1 (omega arith) at

-- the number of the first row of the first day that does not pass a test, or the number of all
abbrev pub past : Bool → ℕ → ℕ → ℕ
past true first more = more
past false first more = first

abbrev pub first_past : (ℤ → Bool) → ℕ → List DayEntry → ℕ
first_past p count [] = count
first_past p count (entry ∷ entries) = past (p entry.day.0) entry.first (first_past p count entries)

module _ (p : ℤ → Bool) (mono : (a b : ℕ) → a ≤ b → p (pos a) ≡ false → p (pos b) ≡ false) where
  abbrev passes : Row → Bool
  passes row = p (day_of_row row)

  none_passes : (s : CivilMinute) (rows : List Row) → rows_rise (Some s) rows ≡ true → p (pos (archive_day_of s)) ≡ false → count_by passes rows ≡ 0
  none_passes s [] up not = refl
  none_passes s (row ∷ rows) up not =
      let later = later_day s row.stamp (and_parts (stamp_exceeds (Some s) row.stamp) (rows_rise (Some row.stamp) rows) up).0 in
      let this = mono (archive_day_of s) (archive_day_of row.stamp) later not in
      count_no passes row rows this ∙ none_passes row.stamp rows (and_parts (stamp_exceeds (Some s) row.stamp) (rows_rise (Some row.stamp) rows) up).1 this

  entry_step : (same : Bool) (n : ℕ) (row : Row) (rows : List Row) → (same ≡ true → passes row ≡ true) → rows_rise (Some row.stamp) rows ≡ true →
      (passes row ≡ true → first_past p (n + 1 + length rows) (entries_from (Some (day_of_row row)) (n + 1) rows) ≡ n + 1 + count_by passes rows) →
      first_past p (n + suc (length rows)) (with_day_entry same (record { day = record { 0 = day_of_row row }; first = n }) (entries_from (Some (day_of_row row)) (n + 1) rows)) ≡ n + count_by passes (row ∷ rows)
  entry_step same n row rows so up rest = by same refl
    where
      shift : (m k : ℕ) → m + 1 + k ≡ m + suc k
      shift m k = omega arith

      more : passes row ≡ true → first_past p (n + suc (length rows)) (entries_from (Some (day_of_row row)) (n + 1) rows) ≡ n + count_by passes (row ∷ rows)
      more pass =
          ap (λ (c : ℕ). first_past p c (entries_from (Some (day_of_row row)) (n + 1) rows)) (sym (shift n (length rows))) ∙ rest pass
          ∙ shift n (count_by passes rows) ∙ ap (λ (c : ℕ). n + c) (sym (count_yes passes row rows pass))

      fresh : (b : Bool) → passes row ≡ b → past b n (first_past p (n + suc (length rows)) (entries_from (Some (day_of_row row)) (n + 1) rows)) ≡ n + count_by passes (row ∷ rows)
      fresh true is = more is
      fresh false is = let z = count_no passes row rows is ∙ none_passes row.stamp rows up is in omega (arith, z)

      by : (b : Bool) → same ≡ b →
          first_past p (n + suc (length rows)) (with_day_entry b (record { day = record { 0 = day_of_row row }; first = n }) (entries_from (Some (day_of_row row)) (n + 1) rows)) ≡ n + count_by passes (row ∷ rows)
      by true is = more (so is)
      by false is = fresh (passes row) refl

  same_pass : (a b : ℕ) → int_eq (pos a) (pos b) ≡ true → p (pos a) ≡ true → p (pos b) ≡ true
  same_pass a b e pass = let is : a ≡ b = grind (arith, nat_tests) in subst (λ (n : ℕ). p (pos n) ≡ true) is pass

  entries_behind : (s : CivilMinute) (n : ℕ) (rows : List Row) → rows_rise (Some s) rows ≡ true → p (pos (archive_day_of s)) ≡ true →
      first_past p (n + length rows) (entries_from (Some (pos (archive_day_of s))) n rows) ≡ n + count_by passes rows
  entries_behind s n [] up pass = refl
  entries_behind s n (row ∷ rows) up pass =
      let behind = (and_parts (stamp_exceeds (Some s) row.stamp) (rows_rise (Some row.stamp) rows) up).1 in
      entry_step (is_day (Some (pos (archive_day_of s))) (day_of_row row)) n row rows (λ e. same_pass (archive_day_of s) (archive_day_of row.stamp) e pass) behind (λ e. entries_behind row.stamp (n + 1) rows behind e)

  -- so many rows are of days that pass
  pub rows_past : (rows : List Row) → rows_rise None rows ≡ true → first_past p (length rows) (entries_of rows) ≡ count_by passes rows
  rows_past [] up = refl
  rows_past (row ∷ rows) up =
      let behind = (and_parts true (rows_rise (Some row.stamp) rows) up).1 in
      ap (λ (c : ℕ). first_past p c (entries_of (row ∷ rows))) (let e : suc (length rows) ≡ 0 + suc (length rows) = omega arith in e)
      ∙ entry_step false 0 row rows (λ e. absurd cc) behind (λ e. entries_behind row.stamp 1 rows behind e) ∙ (let e : 0 + count_by passes (row ∷ rows) ≡ count_by passes (row ∷ rows) = omega arith in e)

pub before_rows : (day : DayNumber) (rows : List Row) → rows_rise None rows ≡ true → first_past (λ x. int_lt x day.0) (length rows) (entries_of rows) ≡ count_by (is_before day) rows
before_rows day rows up = rows_past (λ x. int_lt x day.0) (λ a b le e. still_not a b day.0 le e) rows up

pub up_to_rows : (day : DayNumber) (rows : List Row) → rows_rise None rows ≡ true → first_past (λ x. int_le x day.0) (length rows) (entries_of rows) ≡ count_by (is_up_to day) rows
up_to_rows day rows up = rows_past (λ x. int_le x day.0) (λ a b le e. still_beyond a b day.0 le e) rows up

-- the rows within
lt_le : (a : ℕ) (f l : ℤ) → int_le f l ≡ true → int_lt (pos a) f ≡ true → int_le (pos a) l ≡ true
lt_le a (pos f) (pos l) le lt = grind (arith, nat_tests)
lt_le a (pos f) (negsuc l) le lt = absurd cc
lt_le a (negsuc f) l le lt = absurd cc

lt_out : (a : ℕ) (f : ℤ) → int_lt (pos a) f ≡ true → int_le f (pos a) ≡ false
lt_out a (pos n) e = grind (arith, nat_tests)
lt_out a (negsuc n) e = absurd cc

ge_in : (a : ℕ) (f : ℤ) → int_lt (pos a) f ≡ false → int_le f (pos a) ≡ true
ge_in a (pos n) e = grind (arith, nat_tests)
ge_in a (negsuc n) e = refl

gt_beyond : (a : ℕ) (f l : ℤ) → int_le f l ≡ false → int_lt (pos a) f ≡ false → int_le (pos a) l ≡ false
gt_beyond a (pos f) (pos l) gt ge = grind (arith, nat_tests)
gt_beyond a f (negsuc l) gt ge = refl
gt_beyond a (negsuc f) (pos l) gt ge = absurd cc

both : (a b x y : Bool) → a ≡ x → b ≡ y → (a && b) ≡ (x && y)
both a b x y p q = ap (λ (v : Bool). v && b) p ∙ ap (λ (v : Bool). x && v) q

module _ (first last : DayNumber) where
  sums : int_le first.0 last.0 ≡ true → (rows : List Row) → count_by (is_up_to last) rows ≡ count_by (is_before first) rows + count_by (is_within first last) rows
  sums le [] = refl
  sums le (row ∷ rows) = by (sums le rows) (int_lt (day_of_row row) first.0) (int_le (day_of_row row) last.0) refl refl
    where
      by : (count_by (is_up_to last) rows ≡ count_by (is_before first) rows + count_by (is_within first last) rows) → (x y : Bool) → int_lt (day_of_row row) first.0 ≡ x → int_le (day_of_row row) last.0 ≡ y →
          count_by (is_up_to last) (row ∷ rows) ≡ count_by (is_before first) (row ∷ rows) + count_by (is_within first last) (row ∷ rows)
      by f true y a b =
          let c = count_yes (is_up_to last) row rows (lt_le (archive_day_of row.stamp) first.0 last.0 le a) in let d = count_yes (is_before first) row rows a in
          let e = count_no (is_within first last) row rows (both _ _ false y (lt_out (archive_day_of row.stamp) first.0 a) b) in omega (arith, c, d, e, f)
      by f false true a b =
          let c = count_yes (is_up_to last) row rows b in let d = count_no (is_before first) row rows a in
          let e = count_yes (is_within first last) row rows (both _ _ true true (ge_in (archive_day_of row.stamp) first.0 a) b) in omega (arith, c, d, e, f)
      by f false false a b =
          let c = count_no (is_up_to last) row rows b in let d = count_no (is_before first) row rows a in
          let e = count_no (is_within first last) row rows (and_right _ _ b) in omega (arith, c, d, e, f)

  nothing : int_le first.0 last.0 ≡ false → (rows : List Row) → (count_by (is_up_to last) rows ≤ count_by (is_before first) rows) × (count_by (is_within first last) rows ≡ 0)
  nothing gt [] = (omega arith, refl)
  nothing gt (row ∷ rows) = by (nothing gt rows) (int_lt (day_of_row row) first.0) (int_le (day_of_row row) last.0) refl refl
    where
      by : ((count_by (is_up_to last) rows ≤ count_by (is_before first) rows) × (count_by (is_within first last) rows ≡ 0)) → (x y : Bool) → int_lt (day_of_row row) first.0 ≡ x → int_le (day_of_row row) last.0 ≡ y →
          (count_by (is_up_to last) (row ∷ rows) ≤ count_by (is_before first) (row ∷ rows)) × (count_by (is_within first last) (row ∷ rows) ≡ 0)
      by f true true a b =
          let c = count_yes (is_up_to last) row rows b in let d = count_yes (is_before first) row rows a in
          (omega (arith, c, d, f.0), count_no (is_within first last) row rows (both _ _ false true (lt_out (archive_day_of row.stamp) first.0 a) b) ∙ f.1)
      by f true false a b =
          let c = count_no (is_up_to last) row rows b in let d = count_yes (is_before first) row rows a in
          (omega (arith, c, d, f.0), count_no (is_within first last) row rows (and_right _ _ b) ∙ f.1)
      by f false y a b =
          let past = gt_beyond (archive_day_of row.stamp) first.0 last.0 gt a in
          let c = count_no (is_up_to last) row rows past in let d = count_no (is_before first) row rows a in
          (omega (arith, c, d, f.0), count_no (is_within first last) row rows (and_right _ _ past) ∙ f.1)

  -- those up to the last, without those before the first
  pub within_count : (rows : List Row) → count_by (is_up_to last) rows - count_by (is_before first) rows ≡ count_by (is_within first last) rows
  within_count rows = by (int_le first.0 last.0) refl
    where
      by : (b : Bool) → int_le first.0 last.0 ≡ b → count_by (is_up_to last) rows - count_by (is_before first) rows ≡ count_by (is_within first last) rows
      by true e = let s = sums e rows in omega (arith, s)
      by false e = let n = nothing e rows in omega (arith, n.0, n.1)

-- how many days have begun with row n
abbrev pub one_begun : Bool → ℕ → ℕ
one_begun true more = more + 1
one_begun false more = 0

abbrev pub begun : ℕ → List DayEntry → ℕ
begun n [] = 0
begun n (entry ∷ entries) = one_begun (nat_le entry.first n) (begun n entries)

none_begun : (last : Option ℤ) (m n : ℕ) (rows : List Row) → n < m → begun n (entries_from last m rows) ≡ 0
none_begun last m n [] lt = refl
none_begun last m n (row ∷ rows) lt = by (none_begun (Some (day_of_row row)) (m + 1) n rows (omega arith)) (is_day last (day_of_row row))
  where
    late : nat_le m n ≡ false
    late = grind (arith, nat_tests)

    by : (begun n (entries_from (Some (day_of_row row)) (m + 1) rows) ≡ 0) → (b : Bool) → begun n (with_day_entry b (record { day = record { 0 = day_of_row row }; first = m }) (entries_from (Some (day_of_row row)) (m + 1) rows)) ≡ 0
    by r true = r
    by r false = ap (λ (b : Bool). one_begun b (begun n (entries_from (Some (day_of_row row)) (m + 1) rows))) late

pub begun_days : (last : Option ℤ) (m k n : ℕ) (rows : List Row) → n ≡ m + k → k < length rows → begun n (entries_from last m rows) ≡ length (days_from last (take (suc k) rows))
begun_days last m k n [] is lt = absurd (omega arith)
begun_days last m k n (row ∷ rows) is lt = by (λ j e. begun_days (Some (day_of_row row)) (m + 1) j n rows (omega (arith, e)) (omega (arith, e))) (is_day last (day_of_row row))
  where
    there : nat_le m n ≡ true
    there = grind (arith, nat_tests)

    rest : ((j : ℕ) → k ≡ suc j → begun n (entries_from (Some (day_of_row row)) (m + 1) rows) ≡ length (days_from (Some (day_of_row row)) (take (suc j) rows))) → (j : ℕ) → k ≡ j → begun n (entries_from (Some (day_of_row row)) (m + 1) rows) ≡ length (days_from (Some (day_of_row row)) (take j rows))
    rest next zero e = none_begun (Some (day_of_row row)) (m + 1) n rows (omega (arith, e))
    rest next (suc j) e = next j e

    plus : (x : ℕ) → x + 1 ≡ suc x
    plus x = omega arith

    by : ((j : ℕ) → k ≡ suc j → begun n (entries_from (Some (day_of_row row)) (m + 1) rows) ≡ length (days_from (Some (day_of_row row)) (take (suc j) rows))) → (b : Bool) → begun n (with_day_entry b (record { day = record { 0 = day_of_row row }; first = m }) (entries_from (Some (day_of_row row)) (m + 1) rows)) ≡ length (with_day b (day_of_row row) (days_from (Some (day_of_row row)) (take k rows)))
    by next true = rest next k refl
    by next false = ap (λ (b : Bool). one_begun b (begun n (entries_from (Some (day_of_row row)) (m + 1) rows))) there ∙ plus (begun n (entries_from (Some (day_of_row row)) (m + 1) rows)) ∙ ap suc (rest next k refl)

module _ (entries : List DayEntry) (count : ℕ) (tail : Tail) (rows : List Row) (keeps : KeepsOf entries count tail rows) (i : ℕ) where
  module _ (p : ℤ → Bool) (n : ℕ) (so : first_past p count (drop i entries) ≡ first_past p count entries) (law : first_past p (length rows) (entries_of rows) ≡ n) where
    all_is : first_past p count entries ≡ n
    all_is = ap (first_past p count) keeps.days ∙ ap (λ (c : ℕ). first_past p c (entries_of rows)) keeps.count_is ∙ law

    -- where the reading stops, or ends
    stop_at : (d : DayEntry) → i < length entries → p (get_or entries i d).day.0 ≡ false → (get_or entries i d).first ≡ n
    stop_at d lt out =
        ap (λ (b : Bool). past b (get_or entries i d).first (first_past p count (drop (suc i) entries))) (sym out) ∙ ap (first_past p count) (sym (drop-cons entries i d lt)) ∙ so ∙ all_is

    pub stop_is : (items : List DayEntry) → items ≡ entries → (d : DayEntry) → i < length items → p (get_or items i d).day.0 ≡ false → (get_or items i d).first ≡ n
    stop_is items same = subst (λ (xs : List DayEntry). (d : DayEntry) → i < length xs → p (get_or xs i d).day.0 ≡ false → (get_or xs i d).first ≡ n) (sym same) stop_at

    pub end_is : length entries ≤ i → count ≡ n
    end_is le = ap (first_past p count) (sym (drop_all i entries le)) ∙ so ∙ all_is

  module _ (n b : ℕ) (so : b + begun n (drop i entries) ≡ begun n entries) (lt : n < count) where
    days_so : begun n entries ≡ length (days_of (take (n + 1) rows))
    days_so =
        ap (begun n) keeps.days ∙ begun_days None 0 n n rows (omega arith) (omega (arith, keeps.count_is)) ∙ ap (λ (k : ℕ). length (days_of (take k rows))) (let e : suc n ≡ n + 1 = omega arith in e)

    begun_at : (d : DayEntry) → i < length entries → n < (get_or entries i d).first → b ≡ length (days_of (take (n + 1) rows))
    begun_at d within late =
        let none : begun n (drop i entries) ≡ 0 = ap (begun n) (drop-cons entries i d within) ∙ ap (λ (x : Bool). one_begun x (begun n (drop (suc i) entries))) (not_le n (get_or entries i d).first late) in
        (let e : b ≡ b + begun n (drop i entries) = omega (arith, none) in e) ∙ so ∙ days_so
      where
        not_le : (n m : ℕ) → n < m → nat_le m n ≡ false
        not_le n m lt = grind (arith, nat_tests)

    pub begun_stop : (items : List DayEntry) → items ≡ entries → (d : DayEntry) → i < length items → n < (get_or items i d).first → b ≡ length (days_of (take (n + 1) rows))
    begun_stop items same = subst (λ (xs : List DayEntry). (d : DayEntry) → i < length xs → n < (get_or xs i d).first → b ≡ length (days_of (take (n + 1) rows))) (sym same) begun_at

    pub begun_end : length entries ≤ i → b ≡ length (days_of (take (n + 1) rows))
    begun_end le =
        let none : begun n (drop i entries) ≡ 0 = ap (begun n) (drop_all i entries le) in
        (let e : b ≡ b + begun n (drop i entries) = omega (arith, none) in e) ∙ so ∙ days_so

-- the first row of a day behind row n, or the number of all
abbrev pub later_first : ℕ → ℕ → List DayEntry → ℕ
later_first n count [] = count
later_first n count (entry ∷ entries) = past (nat_le entry.first n) entry.first (later_first n count entries)

nat_le_true : (m n : ℕ) → m ≤ n → nat_le m n ≡ true
nat_le_true m n le = grind (arith, nat_tests)

nat_le_false : (m n : ℕ) → n < m → nat_le m n ≡ false
nat_le_false m n lt = grind (arith, nat_tests)

next_day : (day : ℤ) (m n : ℕ) (rows : List Row) → n < m → later_first n (m + length rows) (entries_from (Some day) m rows) ≡ m + length (days_front day rows)
next_day day m n [] lt = refl
next_day day m n (row ∷ rows) lt = by (is_day (Some day) (day_of_row row)) refl (next_day day (m + 1) n rows (omega arith))
  where
    shift : (a b : ℕ) → a + 1 + b ≡ a + suc b
    shift a b = omega arith

    same_day : (a b : ℤ) → int_eq a b ≡ true → a ≡ b
    same_day (pos a) (pos b) e = ap pos (let is : a ≡ b = grind (arith, nat_tests) in is)
    same_day (negsuc a) (negsuc b) e = ap negsuc (let is : a ≡ b = grind (arith, nat_tests) in is)
    same_day (pos a) (negsuc b) e = absurd cc
    same_day (negsuc a) (pos b) e = absurd cc

    zero_more : (a : ℕ) → a ≡ a + 0
    zero_more a = omega arith

    by : (b : Bool) → is_day (Some day) (day_of_row row) ≡ b → later_first n (m + 1 + length rows) (entries_from (Some day) (m + 1) rows) ≡ m + 1 + length (days_front day rows) →
        later_first n (m + suc (length rows)) (with_day_entry b (record { day = record { 0 = day_of_row row }; first = m }) (entries_from (Some (day_of_row row)) (m + 1) rows)) ≡ m + length (kept_front b row (days_front day rows))
    by true is rest =
        subst (λ (d : ℤ). later_first n (m + suc (length rows)) (entries_from (Some d) (m + 1) rows) ≡ m + suc (length (days_front day rows))) (same_day day (day_of_row row) is)
        (ap (λ (c : ℕ). later_first n c (entries_from (Some day) (m + 1) rows)) (sym (shift m (length rows))) ∙ rest ∙ shift m (length (days_front day rows)))
    by false is rest = ap (λ (b : Bool). past b m (later_first n (m + suc (length rows)) (entries_from (Some (day_of_row row)) (m + 1) rows))) (nat_le_false m n lt) ∙ zero_more m

pub day_end : (last : Option ℤ) (m k n : ℕ) (rows : List Row) → n ≡ m + k → k < length rows → later_first n (m + length rows) (entries_from last m rows) ≡ n + length (day_front (drop k rows))
day_end last m k n [] is lt = absurd (omega arith)
day_end last m k n (row ∷ rows) is lt = by (is_day last (day_of_row row)) (rest k refl (next_day (day_of_row row) (m + 1) n rows) (λ j e. day_end (Some (day_of_row row)) (m + 1) j n rows (omega (arith, e)) (omega (arith, e))))
  where
    shift : (a b : ℕ) → a + 1 + b ≡ a + suc b
    shift a b = omega arith

    plus : (x : ℕ) → k ≡ 0 → m + 1 + x ≡ n + suc x
    plus x z = omega arith

    rest : (i : ℕ) → k ≡ i → (n < m + 1 → later_first n (m + 1 + length rows) (entries_from (Some (day_of_row row)) (m + 1) rows) ≡ m + 1 + length (days_front (day_of_row row) rows)) →
        ((j : ℕ) → k ≡ suc j → later_first n (m + 1 + length rows) (entries_from (Some (day_of_row row)) (m + 1) rows) ≡ n + length (day_front (drop j rows))) →
        later_first n (m + 1 + length rows) (entries_from (Some (day_of_row row)) (m + 1) rows) ≡ n + length (day_front (drop i (row ∷ rows)))
    rest zero e one next = one (omega (arith, e)) ∙ plus (length (days_front (day_of_row row) rows)) e
    rest (suc j) e one next = next j e

    by : (b : Bool) → later_first n (m + 1 + length rows) (entries_from (Some (day_of_row row)) (m + 1) rows) ≡ n + length (day_front (drop k (row ∷ rows))) →
        later_first n (m + suc (length rows)) (with_day_entry b (record { day = record { 0 = day_of_row row }; first = m }) (entries_from (Some (day_of_row row)) (m + 1) rows)) ≡ n + length (day_front (drop k (row ∷ rows)))
    by true r = ap (λ (c : ℕ). later_first n c (entries_from (Some (day_of_row row)) (m + 1) rows)) (sym (shift m (length rows))) ∙ r
    by false r = ap (λ (b : Bool). past b m (later_first n (m + suc (length rows)) (entries_from (Some (day_of_row row)) (m + 1) rows))) (nat_le_true m n (omega arith))
        ∙ ap (λ (c : ℕ). later_first n c (entries_from (Some (day_of_row row)) (m + 1) rows)) (sym (shift m (length rows))) ∙ r

-- no day begins before the next one
pub begun_same : (n m count : ℕ) (entries : List DayEntry) → n ≤ m → m < later_first n count entries → begun m entries ≡ begun n entries
begun_same n m count [] le lt = refl
begun_same n m count (entry ∷ entries) le lt = by (nat_le entry.first n) refl lt (λ h. begun_same n m count entries le h)
  where
    le_of : nat_le entry.first n ≡ true → entry.first ≤ n
    le_of e = grind (arith, nat_tests)

    by : (b : Bool) → nat_le entry.first n ≡ b → m < past b entry.first (later_first n count entries) → (m < later_first n count entries → begun m entries ≡ begun n entries) →
        one_begun (nat_le entry.first m) (begun m entries) ≡ one_begun b (begun n entries)
    by true e h rest = ap (λ (b : Bool). one_begun b (begun m entries)) (nat_le_true entry.first m (let l = le_of e in omega (arith, l, le))) ∙ ap (λ (x : ℕ). x + 1) (rest h)
    by false e h rest = ap (λ (b : Bool). one_begun b (begun m entries)) (nat_le_false entry.first m h)

days_front_le : (day : ℤ) (rows : List Row) → length (days_front day rows) ≤ length rows
days_front_le day [] = omega arith
days_front_le day (row ∷ rows) = by (is_on day row) (days_front_le day rows)
  where
    by : (b : Bool) → length (days_front day rows) ≤ length rows → length (kept_front b row (days_front day rows)) ≤ suc (length rows)
    by true le = omega (arith, le)
    by false le = omega arith

front_le : (rows : List Row) → length (day_front rows) ≤ length rows
front_le [] = omega arith
front_le (row ∷ rows) = let le = days_front_le (day_of_row row) rows in omega (arith, le)

module _ (entries : List DayEntry) (count : ℕ) (tail : Tail) (rows : List Row) (keeps : KeepsOf entries count tail rows) where
  pub end_kept : (n : ℕ) → n < count → later_first n count entries ≡ n + length (day_rest rows n)
  end_kept n lt =
      ap (later_first n count) keeps.days ∙ ap (λ (c : ℕ). later_first n c (entries_of rows)) (keeps.count_is ∙ (let e : length rows ≡ 0 + length rows = omega arith in e))
      ∙ day_end None 0 n n rows (omega arith) (omega (arith, keeps.count_is))

  module _ (i n : ℕ) (so : later_first n count (drop i entries) ≡ later_first n count entries) (lt : n < count) where
    later_at : (d : DayEntry) → i < length entries → n < (get_or entries i d).first → (get_or entries i d).first ≡ n + length (day_rest rows n)
    later_at d within late =
        ap (λ (b : Bool). past b (get_or entries i d).first (later_first n count (drop (suc i) entries))) (sym (nat_le_false (get_or entries i d).first n late))
        ∙ ap (later_first n count) (sym (drop-cons entries i d within)) ∙ so ∙ end_kept n lt

    pub later_stop : (items : List DayEntry) → items ≡ entries → (d : DayEntry) → i < length items → n < (get_or items i d).first → (get_or items i d).first ≡ n + length (day_rest rows n)
    later_stop items same = subst (λ (xs : List DayEntry). (d : DayEntry) → i < length xs → n < (get_or xs i d).first → (get_or xs i d).first ≡ n + length (day_rest rows n)) (sym same) later_at

    pub later_end : length entries ≤ i → count ≡ n + length (day_rest rows n)
    later_end le = ap (later_first n count) (sym (drop_all i entries le)) ∙ so ∙ end_kept n lt

  pub rest_le : (n : ℕ) → n < count → n + length (day_rest rows n) ≤ count
  rest_le n lt = let f = front_le (drop n rows) in let d = length-drop n rows in omega (arith, f, d, keeps.count_is, lt)

  pub front_some : (n : ℕ) → n < count → 1 ≤ length (day_rest rows n)
  front_some n lt = let d = length-drop n rows in some (drop n rows) (omega (arith, d, keeps.count_is, lt))
    where
      some : (xs : List Row) → 0 < length xs → 1 ≤ length (day_front xs)
      some [] gt = absurd (omega arith)
      some (x ∷ xs) gt = omega arith

  -- the rows of a day stand in slots one behind another
  pub place_on : (n k : ℕ) → n < count → k < length (day_rest rows n) → slot_total (take (n + k + 1) rows) ≡ slot_total (take (n + 1) rows) + k
  place_on n k lt within =
      let inside : n + k < count = (let r = rest_le n lt in omega (arith, r, within)) in
      let e = end_kept n lt in
      let same = begun_same n (n + k) count entries (omega arith) (omega (arith, e, within)) in
      let a = days_so entries count tail rows keeps 0 n 0 (let z : 0 + begun n entries ≡ begun n entries = omega arith in z) lt in
      let b = days_so entries count tail rows keeps 0 (n + k) 0 (let z : 0 + begun (n + k) entries ≡ begun (n + k) entries = omega arith in z) inside in
      let c = length-take (n + k + 1) rows in let d = length-take (n + 1) rows in
      omega (arith, same, a, b, c, d, keeps.count_is, lt, inside)
