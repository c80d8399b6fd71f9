-- Rows of slots, one behind another.
use Rattle.std.proofs.Common.{◌≡◌, ℕ, zero, suc, ◌+◌, ◌-◌, ◌*◌, ◌<◌, ◌≤◌, Bool, true, false, List, [], ◌∷◌, ◌++◌, length, map, Option, Some, None, refl, sym, ◌∙◌, ap, subst, arith, append_assoc, append-nil, length-append}
use Rattle.std.specs.Prelude.{◌&&◌, ◌==◌, nat_lt, nat_eq, ℤ, pos, not, option_map}
use Rattle.std.specs.Ordering.{is_lt, nat_cmp, int_eq}
use Rattle.std.specs.Str.{bytes_eq}
use Rattle.std.specs.List.{range_with_len}
use Rattle.std.proofs.lemmas.Bool.{eqb-true, and_from, and_parts, lt-ltb}
use Rattle.std.proofs.lemmas.Slice.Eq.{bytes_eq-Decides}
use Rattle.std.proofs.lemmas.Bool.Decides.{nat_tests}
use Rattle.station_base.specs.declared.row.Row.{Row}
use Rattle.station_base.specs.CivilMinute.{CivilMinute, archive_day_of}
use Rattle.daily_summary.specs.declared.summary.DaySummary.{DaySummary}
use Rattle.row_slot.specs.Slot.{slot_of, row_in_slot}
use Rattle.gated_log.specs.Log.{as_handed}
use Rattle.gated_log.specs.Layout.{slot_size}
use Rattle.packed_rows.specs.Closing.{closing_before, closing_slot, closings, begins_day, summary_slot}
use Rattle.packed_rows.specs.Days.{day_of_row, is_day, with_day, days_from, days_of}
use Rattle.packed_rows.specs.Rising.{stamp_exceeds, RowsRiseAfter, rows_rise, last_stamp_after, last_row_stamp}
use Rattle.packed_rows.specs.Rows.{RowsOf, holds, damaged, may_follow, is_closing, is_right, rows_with_row, shown_with, slot_judged, rows_from, slots_after, slots_of, slot_total}
use Rattle.packed_rows.specs.Packed.{IsReadBack, AreReadBack}
use Rattle.daily_summary.specs.Parts.{part_count}

-- each slot is right behind what stands before it
abbrev pub AreRight : List Row → ℕ → List (List ℕ) → Type 0
AreRight rows shown [] = Unit {0}
AreRight rows shown (slot ∷ slots) = (is_right rows shown slot (row_in_slot slot) ≡ true) × AreRight (rows_with_row rows (row_in_slot slot)) (shown_with shown (row_in_slot slot)) slots

-- the rows behind them, and how many summary slots stand open
abbrev pub rows_to : List Row → List (List ℕ) → List Row
rows_to rows [] = rows
rows_to rows (slot ∷ slots) = rows_to (rows_with_row rows (row_in_slot slot)) slots

abbrev pub shown_to : ℕ → List (List ℕ) → ℕ
shown_to shown [] = shown
shown_to shown (slot ∷ slots) = shown_to (shown_with shown (row_in_slot slot)) slots

pub right_step : (n : ℕ) (b : Bool) (more : RowsOf) → b ≡ true → slot_judged b n more ≡ more
right_step n b more is = ap (λ (x : Bool). slot_judged x n more) is

pub wrong_step : (n : ℕ) (b : Bool) (more : RowsOf) → b ≡ false → slot_judged b n more ≡ damaged (slot_size * (n + 1))
wrong_step n b more is = ap (λ (x : Bool). slot_judged x n more) is

-- what stands behind right slots is judged by them
pub rows_join : (rows : List Row) (shown n : ℕ) (xs ys : List (List ℕ)) → AreRight rows shown xs → rows_from rows shown n (xs ++ ys) ≡ rows_from (rows_to rows xs) (shown_to shown xs) (n + length xs) ys
rows_join rows shown n [] ys are = ap (λ (k : ℕ). rows_from rows shown k ys) (let e : n ≡ n + 0 = omega arith in e)
rows_join rows shown n (slot ∷ xs) ys are =
    right_step n (is_right rows shown slot (row_in_slot slot)) (rows_from (rows_with_row rows (row_in_slot slot)) (shown_with shown (row_in_slot slot)) (n + 1) (xs ++ ys)) are.0
    ∙ rows_join (rows_with_row rows (row_in_slot slot)) (shown_with shown (row_in_slot slot)) (n + 1) xs ys are.1
    ∙ ap (λ (k : ℕ). rows_from (rows_to rows (slot ∷ xs)) (shown_to shown (slot ∷ xs)) k ys) (let e : n + 1 + length xs ≡ n + suc (length xs) = omega arith in e)

pub right_join : (rows : List Row) (shown : ℕ) (xs ys : List (List ℕ)) → AreRight rows shown xs → AreRight (rows_to rows xs) (shown_to shown xs) ys → AreRight rows shown (xs ++ ys)
right_join rows shown [] ys one two = two
right_join rows shown (slot ∷ xs) ys one two = (one.0, right_join (rows_with_row rows (row_in_slot slot)) (shown_with shown (row_in_slot slot)) xs ys one.1 two)

pub rows_to_join : (rows : List Row) (xs ys : List (List ℕ)) → rows_to rows (xs ++ ys) ≡ rows_to (rows_to rows xs) ys
rows_to_join rows [] ys = refl
rows_to_join rows (slot ∷ xs) ys = rows_to_join (rows_with_row rows (row_in_slot slot)) xs ys

pub shown_to_join : (shown : ℕ) (xs ys : List (List ℕ)) → shown_to shown (xs ++ ys) ≡ shown_to (shown_to shown xs) ys
shown_to_join shown [] ys = refl
shown_to_join shown (slot ∷ xs) ys = shown_to_join (shown_with shown (row_in_slot slot)) xs ys

-- slots that hold rows are right, and none stands open
pub record Hold (rows : List Row) (shown : ℕ) (slots : List (List ℕ)) (all : List Row) : Type 0 where
  pub right : AreRight rows shown slots
  pub rows_are : rows_to rows slots ≡ all
  pub closed : shown_to shown slots ≡ 0

ended_by : (b : Bool) (n : ℕ) (rows all : List Row) → slot_judged b n (holds rows) ≡ holds all → (b ≡ true) × (rows ≡ all)
ended_by true n rows all e = (refl, cc)
ended_by false n rows all e = absurd cc

judged_by : (b : Bool) (n : ℕ) (more : RowsOf) (all : List Row) → slot_judged b n more ≡ holds all → (b ≡ true) × (more ≡ holds all)
judged_by true n more all e = (refl, e)
judged_by false n more all e = absurd cc

pub from_holds : (rows : List Row) (shown n : ℕ) (slots : List (List ℕ)) (all : List Row) → rows_from rows shown n slots ≡ holds all → Hold rows shown slots all
from_holds rows shown n [] all e = let p = ended_by (shown == 0) n rows all e in record { right = tt; rows_are = p.1; closed = eqb-true shown 0 p.0 }
from_holds rows shown n (slot ∷ slots) all e =
    let p = judged_by (is_right rows shown slot (row_in_slot slot)) n (rows_from (rows_with_row rows (row_in_slot slot)) (shown_with shown (row_in_slot slot)) (n + 1) slots) all e in
    let rest = from_holds (rows_with_row rows (row_in_slot slot)) (shown_with shown (row_in_slot slot)) (n + 1) slots all p.1 in
    record { right = (p.0, rest.right); rows_are = rest.rows_are; closed = rest.closed }

pub to_holds : (rows : List Row) (shown n : ℕ) (slots : List (List ℕ)) (all : List Row) → Hold rows shown slots all → rows_from rows shown n slots ≡ holds all
to_holds rows shown n [] all is = right_step n (shown == 0) (holds rows) (zero_test shown is.closed) ∙ ap holds is.rows_are
  where
    zero_test : (m : ℕ) → m ≡ 0 → (m == 0) ≡ true
    zero_test m e = rw e refl
to_holds rows shown n (slot ∷ slots) all is =
    right_step n (is_right rows shown slot (row_in_slot slot)) (rows_from (rows_with_row rows (row_in_slot slot)) (shown_with shown (row_in_slot slot)) (n + 1) slots) is.right.0
    ∙ to_holds (rows_with_row rows (row_in_slot slot)) (shown_with shown (row_in_slot slot)) (n + 1) slots all (record { right = is.right.1; rows_are = is.rows_are; closed = is.closed })

-- a summary slot holds no row, and has neither gate nor number of slots
pub no_row : (day : ℤ) (k : ℕ) (s : DaySummary) → row_in_slot (summary_slot day k s) ≡ None
unfolding row_in_slot summary_slot
no_row day k s = refl

pub as_handed_summary : (day : ℤ) (k : ℕ) (s : DaySummary) → as_handed (summary_slot day k s) ≡ summary_slot day k s
unfolding summary_slot
as_handed_summary day k s = refl

same_bytes : (xs ys : List ℕ) → xs ≡ ys → bytes_eq xs ys ≡ true
same_bytes xs ys e = (bytes_eq-Decides xs ys).1 e

-- one slot that may stand there
step_none : (rows : List Row) (shown : ℕ) (slot : List ℕ) (slots : List (List ℕ)) → row_in_slot slot ≡ None → is_closing rows shown slot ≡ true → AreRight rows (shown + 1) slots → AreRight rows shown (slot ∷ slots)
step_none rows shown slot slots none is more =
    (ap (is_right rows shown slot) none ∙ is, subst (λ (o : Option Row). AreRight (rows_with_row rows o) (shown_with shown o) slots) (sym none) more)

step_some : (rows : List Row) (shown : ℕ) (slot : List ℕ) (slots : List (List ℕ)) (row : Row) → row_in_slot slot ≡ Some row → may_follow rows shown row ≡ true → AreRight (rows ++ row ∷ []) 0 slots →
    AreRight rows shown (slot ∷ slots)
step_some rows shown slot slots row some is more =
    (ap (is_right rows shown slot) some ∙ is, subst (λ (o : Option Row). AreRight (rows_with_row rows o) (shown_with shown o) slots) (sym some) more)

-- the thirteen slots that close a day, from one on
closing_right : (rows : List Row) (k m : ℕ) (more : List (List ℕ)) → 0 < length rows → k + m ≤ part_count → AreRight rows (k + m) more →
    AreRight rows k (map (λ j. closing_slot rows j) (range_with_len k m) ++ more)
closing_right rows k zero more some few right = subst (λ (n : ℕ). AreRight rows n more) (let e : k + 0 ≡ k = omega arith in e) right
closing_right rows k (suc m) more some few right =
    let slot : List ℕ = closing_slot rows k in
    step_none rows k slot (map (λ j. closing_slot rows j) (range_with_len (k + 1) m) ++ more) (no_row _ k _)
    (and_from (nat_lt 0 (length rows) && nat_lt k part_count) (bytes_eq (as_handed slot) slot)
    (and_from (nat_lt 0 (length rows)) (nat_lt k part_count) (lt-ltb 0 (length rows) some) (lt-ltb k part_count (omega arith))) (same_bytes _ _ (as_handed_summary _ k _)))
    (closing_right rows (k + 1) m more some (omega arith) (subst (λ (n : ℕ). AreRight rows n more) (let e : k + suc m ≡ k + 1 + m = omega arith in e) right))

closing_rows : (rows : List Row) (k m : ℕ) (more : List (List ℕ)) → rows_to rows (map (λ j. closing_slot rows j) (range_with_len k m) ++ more) ≡ rows_to rows more
closing_rows rows k zero more = refl
closing_rows rows k (suc m) more =
    ap (λ (o : Option Row). rows_to (rows_with_row rows o) (map (λ j. closing_slot rows j) (range_with_len (k + 1) m) ++ more)) (no_row _ k _) ∙ closing_rows rows (k + 1) m more

closing_shown : (rows : List Row) (k m : ℕ) (more : List (List ℕ)) → shown_to k (map (λ j. closing_slot rows j) (range_with_len k m) ++ more) ≡ shown_to (k + m) more
closing_shown rows k zero more = ap (λ (n : ℕ). shown_to n more) (let e : k ≡ k + 0 = omega arith in e)
closing_shown rows k (suc m) more =
    ap (λ (o : Option Row). shown_to (shown_with k o) (map (λ j. closing_slot rows j) (range_with_len (k + 1) m) ++ more)) (no_row _ k _) ∙ closing_shown rows (k + 1) m more
    ∙ ap (λ (n : ℕ). shown_to n more) (let e : k + 1 + m ≡ k + suc m = omega arith in e)

-- rows that may follow
pub follows : (rows : List Row) (shown : ℕ) (row : Row) → stamp_exceeds (last_row_stamp rows) row.stamp ≡ true → shown ≡ closings (begins_day (last_row_stamp rows) row.stamp) → may_follow rows shown row ≡ true
follows rows shown row rises is =
    and_from (stamp_exceeds (last_row_stamp rows) row.stamp) (shown == closings (begins_day (last_row_stamp rows) row.stamp)) rises (eq_test shown (closings (begins_day (last_row_stamp rows) row.stamp)) is)
  where
    eq_test : (m n : ℕ) → m ≡ n → (m == n) ≡ true
    eq_test m n e = grind (arith, nat_tests)

pub some_before : (rows : List Row) (row : Row) (b : Bool) → begins_day (last_row_stamp rows) row.stamp ≡ b → b ≡ true → 0 < length rows
some_before [] row b is so = absurd (let e : false ≡ true = is ∙ so in cc e)
some_before (x ∷ rows) row b is so = omega arith

pub last_join : (last : Option CivilMinute) (xs ys : List Row) → last_stamp_after last (xs ++ ys) ≡ last_stamp_after (last_stamp_after last xs) ys
last_join last [] ys = refl
last_join last (row ∷ xs) ys = last_join (Some row.stamp) xs ys

-- rows that are written behind others are right
pub record Writes (before rows : List Row) : Type 0 where
  pub right : AreRight before 0 (slots_after before rows)
  pub rows_are : rows_to before (slots_after before rows) ≡ before ++ rows
  pub closed : shown_to 0 (slots_after before rows) ≡ 0

one_row : (before : List Row) (row : Row) (more : List (List ℕ)) → IsReadBack row → stamp_exceeds (last_row_stamp before) row.stamp ≡ true → AreRight (before ++ row ∷ []) 0 more →
    AreRight before 0 (closing_before before row ++ slot_of row ∷ more)
one_row before row more back rises right = by (begins_day (last_row_stamp before) row.stamp) refl
  where
    by : (b : Bool) → begins_day (last_row_stamp before) row.stamp ≡ b → AreRight before 0 (map (λ k. closing_slot before k) (range_with_len 0 (closings (begins_day (last_row_stamp before) row.stamp))) ++ slot_of row ∷ more)
    by true is =
        subst (λ (b : Bool). AreRight before 0 (map (λ k. closing_slot before k) (range_with_len 0 (closings b)) ++ slot_of row ∷ more)) (sym is)
        (closing_right before 0 part_count (slot_of row ∷ more) (some_before before row true is refl) (omega arith)
        (step_some before part_count (slot_of row) more row back.back (follows before part_count row rises (ap closings (sym is))) right))
    by false is =
        subst (λ (b : Bool). AreRight before 0 (map (λ k. closing_slot before k) (range_with_len 0 (closings b)) ++ slot_of row ∷ more)) (sym is)
        (step_some before 0 (slot_of row) more row back.back (follows before 0 row rises (ap closings (sym is))) right)

pub written : (before rows : List Row) → AreReadBack rows → rows_rise (last_row_stamp before) rows ≡ true → Writes before rows
written before [] back up = record { right = tt; rows_are = sym (append-nil before); closed = refl }
written before (row ∷ rows) back up =
    let rises = (and_parts (stamp_exceeds (last_row_stamp before) row.stamp) (rows_rise (Some row.stamp) rows) up).0 in
    let later = (and_parts (stamp_exceeds (last_row_stamp before) row.stamp) (rows_rise (Some row.stamp) rows) up).1 in
    let last : Some row.stamp ≡ last_row_stamp (before ++ row ∷ []) = sym (last_join None before (row ∷ [])) in
    let rest = written (before ++ row ∷ []) rows back.1 (ap (λ (o : Option CivilMinute). rows_rise o rows) (sym last) ∙ later) in
    let more : List (List ℕ) = slots_after (before ++ row ∷ []) rows in
    let m : ℕ = closings (begins_day (last_row_stamp before) row.stamp) in
    record {
      right = one_row before row more back.0 rises rest.right;
      rows_are = closing_rows before 0 m (slot_of row ∷ more) ∙ ap (λ (o : Option Row). rows_to (rows_with_row before o) more) back.0.back ∙ rest.rows_are ∙ append_assoc before (row ∷ []) rows;
      closed = closing_shown before 0 m (slot_of row ∷ more) ∙ ap (λ (o : Option Row). shown_to (shown_with (0 + m) o) more) back.0.back ∙ rest.closed;
    }

-- so a log that holds the slots of rising rows has these rows
pub slots_hold : (rows : List Row) → AreReadBack rows → rows_rise None rows ≡ true → Hold [] 0 (slots_of rows) rows
slots_hold rows back up = let w = written [] rows back up in record { right = w.right; rows_are = w.rows_are; closed = w.closed }

-- the days of rows, one row more
one_if : Bool → ℕ
one_if true = 0
one_if false = 1

abbrev pub day_after : Option ℤ → List Row → Option ℤ
day_after last [] = last
day_after last (row ∷ rows) = day_after (Some (day_of_row row)) rows

with_one : (b : Bool) (day : ℤ) (days : List ℤ) → length (with_day b day days) ≡ length days + one_if b
unfolding one_if
with_one true day days = omega arith
with_one false day days = omega arith

days_push : (last : Option ℤ) (rows : List Row) (row : Row) → length (days_from last (rows ++ row ∷ [])) ≡ length (days_from last rows) + one_if (is_day (day_after last rows) (day_of_row row))
days_push last [] row = with_one (is_day last (day_of_row row)) (day_of_row row) []
days_push last (x ∷ rows) row =
    let rest = days_push (Some (day_of_row x)) rows row in
    let one = with_one (is_day last (day_of_row x)) (day_of_row x) (days_from (Some (day_of_row x)) (rows ++ row ∷ [])) in
    let two = with_one (is_day last (day_of_row x)) (day_of_row x) (days_from (Some (day_of_row x)) rows) in
    omega (arith, rest, one, two)

pub day_stamp : (last : Option CivilMinute) (rows : List Row) → day_after (option_map (λ s. pos (archive_day_of s)) last) rows ≡ option_map (λ s. pos (archive_day_of s)) (last_stamp_after last rows)
day_stamp last [] = refl
day_stamp last (row ∷ rows) = day_stamp (Some row.stamp) rows

some_days : (row : Row) (rows : List Row) → 1 ≤ length (days_of (row ∷ rows))
some_days row rows = omega arith

total_by : (a b : ℕ) (d1 d2 n1 n2 : ℕ) (t : Bool) → n2 ≡ n1 + 1 → 1 ≤ d1 → d2 ≡ d1 + one_if t → n2 + part_count * (d2 - 1) ≡ n1 + part_count * (d1 - 1) + 1 + closings (not t)
unfolding one_if
total_by a b d1 d2 n1 n2 true en some ed = omega arith
total_by a b d1 d2 n1 n2 false en some ed = omega arith

same_days : (a b : ℕ) → int_eq (pos a) (pos b) ≡ nat_eq a b
same_days a b = grind (arith, nat_tests)

pub begins_by : (o : Option CivilMinute) (rows : List Row) (x : Row) (stamp : CivilMinute) → o ≡ last_stamp_after (Some x.stamp) rows → not (is_day (option_map (λ s. pos (archive_day_of s)) o) (pos (archive_day_of stamp))) ≡ begins_day o stamp
begins_by None [] x stamp is = absurd cc
begins_by None (y ∷ rows) x stamp is = begins_by None rows y stamp is
begins_by (Some s) rows x stamp is = ap not (same_days (archive_day_of s) (archive_day_of stamp))

-- one row more takes its slot, and those that close the day before
pub total_push : (rows : List Row) (row : Row) → slot_total (rows ++ row ∷ []) ≡ slot_total rows + 1 + closings (begins_day (last_row_stamp rows) row.stamp)
total_push [] row = refl
total_push (x ∷ rows) row =
    let o = last_stamp_after (Some x.stamp) rows in
    let t = is_day (day_after (Some (day_of_row x)) rows) (day_of_row row) in
    let same : not t ≡ begins_day o row.stamp = ap (λ (d : Option ℤ). not (is_day d (day_of_row row))) (day_stamp (Some x.stamp) rows) ∙ begins_by o rows x row.stamp refl in
    total_by 0 0 (length (days_of (x ∷ rows))) (length (days_of (x ∷ rows ++ row ∷ []))) (length (x ∷ rows)) (length (x ∷ rows ++ row ∷ [])) t
    (omega (arith, length-append rows (row ∷ []))) (some_days x rows) (days_push None (x ∷ rows) row)
    ∙ ap (λ (b : Bool). slot_total (x ∷ rows) + 1 + closings b) same

pub follow_shown : (rows : List Row) (shown : ℕ) (row : Row) → may_follow rows shown row ≡ true → shown ≡ closings (begins_day (last_row_stamp rows) row.stamp)
follow_shown rows shown row is = eqb-true shown _ (and_parts (stamp_exceeds (last_row_stamp rows) row.stamp) (shown == closings (begins_day (last_row_stamp rows) row.stamp)) is).1

plus_one : (t s n : ℕ) → t + (s + 1) + n ≡ t + s + suc n
plus_one t s n = omega arith

plus_row : (t s n : ℕ) → t + 1 + s + 0 + n ≡ t + s + suc n
plus_row t s n = omega arith

count_by : (rows : List Row) (shown : ℕ) (slot : List ℕ) (slots : List (List ℕ)) (o : Option Row) → row_in_slot slot ≡ o → is_right rows shown slot (row_in_slot slot) ≡ true →
    slot_total (rows_to (rows_with_row rows (row_in_slot slot)) slots) + shown_to (shown_with shown (row_in_slot slot)) slots ≡ slot_total (rows_with_row rows (row_in_slot slot)) + shown_with shown (row_in_slot slot) + length slots →
    slot_total (rows_to rows (slot ∷ slots)) + shown_to shown (slot ∷ slots) ≡ slot_total rows + shown + suc (length slots)
count_by rows shown slot slots None is right rest =
    let a : slot_total (rows_with_row rows (row_in_slot slot)) ≡ slot_total rows = ap (λ (o : Option Row). slot_total (rows_with_row rows o)) is in
    let b : shown_with shown (row_in_slot slot) ≡ shown + 1 = ap (shown_with shown) is in
    rest ∙ ap (λ (n : ℕ). n + shown_with shown (row_in_slot slot) + length slots) a ∙ ap (λ (n : ℕ). slot_total rows + n + length slots) b ∙ plus_one (slot_total rows) shown (length slots)
count_by rows shown slot slots (Some row) is right rest =
    let follow : may_follow rows shown row ≡ true = ap (is_right rows shown slot) (sym is) ∙ right in
    let a : slot_total (rows_with_row rows (row_in_slot slot)) ≡ slot_total rows + 1 + shown =
    ap (λ (o : Option Row). slot_total (rows_with_row rows o)) is ∙ total_push rows row ∙ ap (λ (n : ℕ). slot_total rows + 1 + n) (sym (follow_shown rows shown row follow)) in
    let b : shown_with shown (row_in_slot slot) ≡ 0 = ap (shown_with shown) is in
    rest ∙ ap (λ (n : ℕ). n + shown_with shown (row_in_slot slot) + length slots) a ∙ ap (λ (n : ℕ). slot_total rows + 1 + shown + n + length slots) b ∙ plus_row (slot_total rows) shown (length slots)

-- right slots are as many as their rows take, and those that stand open
pub count_right : (rows : List Row) (shown : ℕ) (slots : List (List ℕ)) → AreRight rows shown slots → slot_total (rows_to rows slots) + shown_to shown slots ≡ slot_total rows + shown + length slots
count_right rows shown [] are = omega arith
count_right rows shown (slot ∷ slots) are =
    count_by rows shown slot slots (row_in_slot slot) refl are.0 (count_right (rows_with_row rows (row_in_slot slot)) (shown_with shown (row_in_slot slot)) slots are.1)

pub count_hold : (slots : List (List ℕ)) (rows : List Row) → Hold [] 0 slots rows → length slots ≡ slot_total rows
count_hold slots rows is =
    let f : slot_total (rows_to [] slots) ≡ slot_total rows = ap slot_total is.rows_are in
    let e : slot_total (rows_to [] slots) + shown_to 0 slots ≡ slot_total rows + 0 = ap (λ (n : ℕ). slot_total (rows_to [] slots) + n) is.closed ∙ ap (λ (n : ℕ). n + 0) f in
    let none : slot_total [] + 0 + length slots ≡ length slots = zero_plus (length slots) in
    sym none ∙ sym (count_right [] 0 slots is.right) ∙ e ∙ no_more (slot_total rows)
  where
    zero_plus : (n : ℕ) → 0 + 0 + n ≡ n
    zero_plus n = omega arith

    no_more : (n : ℕ) → n + 0 ≡ n
    no_more n = omega arith

-- the test tells
pub rise_when : (last : Option CivilMinute) (rows : List Row) → RowsRiseAfter last rows → rows_rise last rows ≡ true
rise_when last [] up = refl
rise_when last (row ∷ rows) up = and_from (stamp_exceeds last row.stamp) (rows_rise (Some row.stamp) rows) up.0 (rise_when (Some row.stamp) rows up.1)

pub rise_tells : (last : Option CivilMinute) (rows : List Row) → rows_rise last rows ≡ true → RowsRiseAfter last rows
rise_tells last [] up = tt
rise_tells last (row ∷ rows) up =
    ((and_parts (stamp_exceeds last row.stamp) (rows_rise (Some row.stamp) rows) up).0, rise_tells (Some row.stamp) rows (and_parts (stamp_exceeds last row.stamp) (rows_rise (Some row.stamp) rows) up).1)

-- rows behind others rise
pub rise_join : (last : Option CivilMinute) (xs ys : List Row) → rows_rise last xs ≡ true → rows_rise (last_stamp_after last xs) ys ≡ true → rows_rise last (xs ++ ys) ≡ true
rise_join last [] ys one two = two
rise_join last (row ∷ xs) ys one two =
    and_from (stamp_exceeds last row.stamp) (rows_rise (Some row.stamp) (xs ++ ys)) (and_parts (stamp_exceeds last row.stamp) (rows_rise (Some row.stamp) xs) one).0
    (rise_join (Some row.stamp) xs ys (and_parts (stamp_exceeds last row.stamp) (rows_rise (Some row.stamp) xs) one).1 two)

-- the front of rows that rise does, and so does what stands behind it
pub rise_front : (last : Option CivilMinute) (xs ys : List Row) → rows_rise last (xs ++ ys) ≡ true → rows_rise last xs ≡ true
rise_front last [] ys up = refl
rise_front last (x ∷ xs) ys up =
    let each = and_parts (stamp_exceeds last x.stamp) (rows_rise (Some x.stamp) (xs ++ ys)) up in
    and_from (stamp_exceeds last x.stamp) (rows_rise (Some x.stamp) xs) each.0 (rise_front (Some x.stamp) xs ys each.1)

pub rise_behind : (last : Option CivilMinute) (xs ys : List Row) → rows_rise last (xs ++ ys) ≡ true → rows_rise (last_stamp_after last xs) ys ≡ true
rise_behind last [] ys up = up
rise_behind last (x ∷ xs) ys up = rise_behind (Some x.stamp) xs ys (and_parts (stamp_exceeds last x.stamp) (rows_rise (Some x.stamp) (xs ++ ys)) up).1

pub read_back-push : (rows : List Row) (row : Row) → AreReadBack rows → IsReadBack row → AreReadBack (rows ++ row ∷ [])
read_back-push [] row all one = (one, tt)
read_back-push (x ∷ rows) row all one = (all.0, read_back-push rows row all.1 one)

pub rises_test : (a b : ℕ) → is_lt (nat_cmp a b) ≡ nat_lt a b
rises_test a b = grind (arith, nat_tests)

-- how many slots rows take behind others
pub more_slots : (before rows : List Row) → AreReadBack before → AreReadBack rows → rows_rise None before ≡ true → rows_rise (last_row_stamp before) rows ≡ true →
    slot_total (before ++ rows) ≡ slot_total before + length (slots_after before rows)
more_slots before rows one two up later =
    let w = written before rows two later in
    let e = count_right before 0 (slots_after before rows) w.right in
    let f : slot_total (rows_to before (slots_after before rows)) ≡ slot_total (before ++ rows) = ap slot_total w.rows_are in
    let g = w.closed in
    omega (arith, e, f, g)
