-- What a book keeps, one row more.
use Rattle.std.proofs.Common.{◌≡◌, ◌⊎◌, inl, inr, ℕ, suc, ◌+◌, ◌-◌, ◌*◌, ◌≤◌, ◌<◌, Bool, true, false, List, [], ◌∷◌, ◌++◌, length, Option, Some, None, refl, sym, ◌∙◌, ap, subst, arith, append-nil, length-append}
use Rattle.std.specs.Prelude.{ℤ, not, ◌||◌, ◌==◌}
use Rattle.std.proofs.lemmas.Bool.{eqb-true, or_parts}
use Rattle.station_base.specs.declared.row.Row.{Row}
use Rattle.station_base.specs.CivilMinute.{CivilMinute, archive_day_of}
use Rattle.station_base.specs.DayText.{IsDayNumber}
use Rattle.weather_book.specs.declared.kept.DayEntry.{DayEntry}
use Rattle.packed_rows.specs.declared.tail.Tail.{Tail}
use Rattle.packed_rows.specs.Closing.{begins_day}
use Rattle.packed_rows.specs.Days.{day_of_row, is_day, with_day, days_from}
use Rattle.packed_rows.specs.Rows.{slot_total}
use Rattle.weather_book.specs.Kept.{with_day_entry, days_to, entries_from, entries_of, KeepsOf, AreKnown}
use Rattle.packed_rows.specs.Packed.{IsReadBack}
use Rattle.packed_rows.specs.Rising.{stamp_exceeds, last_stamp_after, last_row_stamp}
use Rattle.packed_rows.specs.Tail.{EndsRows}
use Rattle.packed_rows.proofs.TailLaws.{later_day, other_nat}
use Rattle.packed_rows.proofs.RowLaws.{day_after, day_stamp, begins_by, read_back-push}
use Rattle.daily_summary.specs.Parts.{part_count}

entry_of : ℕ → Row → DayEntry
entry_of n row = record { day = record { 0 = day_of_row row }; first = n }

entries_push : (last : Option ℤ) (n : ℕ) (rows : List Row) (row : Row) → entries_from last n (rows ++ row ∷ []) ≡ entries_from last n rows ++ with_day_entry (is_day (day_after last rows) (day_of_row row)) (entry_of (n + length rows) row) []
unfolding entry_of
entries_push last n [] row = ap (λ (k : ℕ). with_day_entry (is_day last (day_of_row row)) (entry_of k row) []) (let e : n ≡ n + 0 = omega arith in e)
entries_push last n (x ∷ rows) row =
    let test = is_day last (day_of_row x) in
    let rest = entries_push (Some (day_of_row x)) (n + 1) rows row in
    ap (with_day_entry test (entry_of n x)) (rest ∙ ap (λ (k : ℕ). entries_from (Some (day_of_row x)) (n + 1) rows ++ with_day_entry (is_day (day_after (Some (day_of_row x)) rows) (day_of_row row)) (entry_of k row) [])
    (let e : n + 1 + length rows ≡ n + suc (length rows) = omega arith in e))
    ∙ move test (entry_of n x) (entries_from (Some (day_of_row x)) (n + 1) rows) (with_day_entry (is_day (day_after (Some (day_of_row x)) rows) (day_of_row row)) (entry_of (n + suc (length rows)) row) [])
  where
    move : (b : Bool) (e : DayEntry) (xs ys : List DayEntry) → with_day_entry b e (xs ++ ys) ≡ with_day_entry b e xs ++ ys
    move true e xs ys = refl
    move false e xs ys = refl

-- a row of no new day
pub entries_same : (rows : List Row) (row : Row) → 0 < length rows → begins_day (last_row_stamp rows) row.stamp ≡ false → entries_of (rows ++ row ∷ []) ≡ entries_of rows
unfolding entry_of
entries_same [] row some out = absurd (omega arith)
entries_same (x ∷ rows) row some out =
    let o = last_stamp_after (Some x.stamp) rows in
    let test = is_day (day_after None (x ∷ rows)) (day_of_row row) in
    let same : not test ≡ false = ap (λ (d : Option ℤ). not (is_day d (day_of_row row))) (day_stamp (Some x.stamp) rows) ∙ begins_by o rows x row.stamp refl ∙ out in
    entries_push None 0 (x ∷ rows) row ∙ ap (λ (b : Bool). entries_of (x ∷ rows) ++ with_day_entry b (entry_of (0 + length (x ∷ rows)) row) []) (not_false test same) ∙ append-nil (entries_of (x ∷ rows))
  where
    not_false : (b : Bool) → not b ≡ false → b ≡ true
    not_false true e = refl
    not_false false e = absurd cc

-- a row of a new day
pub entries_more : (rows : List Row) (row : Row) → (rows ≡ []) ⊎ (begins_day (last_row_stamp rows) row.stamp ≡ true) → entries_of (rows ++ row ∷ []) ≡ entries_of rows ++ record { day = record { 0 = day_of_row row }; first = length rows } ∷ []
unfolding entry_of
entries_more [] row first = refl
entries_more (x ∷ rows) row (inl none) = absurd cc
entries_more (x ∷ rows) row (inr so) =
    let o = last_stamp_after (Some x.stamp) rows in
    let test = is_day (day_after None (x ∷ rows)) (day_of_row row) in
    let other : not test ≡ true = ap (λ (d : Option ℤ). not (is_day d (day_of_row row))) (day_stamp (Some x.stamp) rows) ∙ begins_by o rows x row.stamp refl ∙ so in
    entries_push None 0 (x ∷ rows) row ∙ ap (λ (b : Bool). entries_of (x ∷ rows) ++ with_day_entry b (entry_of (0 + length (x ∷ rows)) row) []) (not_true test other)
    ∙ ap (λ (n : ℕ). entries_of (x ∷ rows) ++ entry_of n row ∷ []) (let e : 0 + suc (length rows) ≡ suc (length rows) = omega arith in e)
  where
    not_true : (b : Bool) → not b ≡ true → b ≡ false
    not_true false e = refl
    not_true true e = absurd cc

keeps_with : (entries : List DayEntry) (count : ℕ) (tail new : Tail) (rows : List Row) (row : Row) (more : List DayEntry) → KeepsOf entries count tail rows → IsReadBack row → EndsRows new (rows ++ row ∷ []) →
    more ≡ entries_of (rows ++ row ∷ []) → length more ≤ days_to new.last → length more ≤ 46752 → AreKnown more → KeepsOf more (count + 1) new (rows ++ row ∷ [])
keeps_with entries count tail new rows row more keeps back ends days spread few known = record {
  known = known;
  spread = spread;
  few = few;
  days = days;
  count_is = omega (arith, keeps.count_is, length-append rows (row ∷ []));
  ends = ends;
  back = read_back-push rows row keeps.back back;
}

known_push : (entries : List DayEntry) (entry : DayEntry) → AreKnown entries → IsDayNumber entry.day.0 → AreKnown (entries ++ entry ∷ [])
known_push [] entry all one = (one, tt)
known_push (x ∷ entries) entry all one = (all.0, known_push entries entry all.1 one)

or_cases : (a b : Bool) → (a || b) ≡ true → (a ≡ true) ⊎ (b ≡ true)
or_cases true b e = inl refl
or_cases false b e = inr e

empty : (rows : List Row) → 0 ≡ length rows → rows ≡ []
empty [] e = refl
empty (x ∷ rows) e = absurd (omega arith)

some_rows : (rows : List Row) (count : ℕ) → (count == 0) ≡ false → count ≡ length rows → 0 < length rows
some_rows [] count test is = absurd (let e : (count == 0) ≡ true = rw is refl in let f : true ≡ false = sym e ∙ test in cc f)
some_rows (x ∷ rows) count test is = omega arith

spread_later : (o : Option CivilMinute) (stamp : CivilMinute) (n : ℕ) → begins_day o stamp ≡ true → stamp_exceeds o stamp ≡ true → 10956 ≤ archive_day_of stamp → n ≤ days_to o → n + 1 ≤ archive_day_of stamp - 10955
spread_later None stamp n so rises from le = absurd cc
spread_later (Some s) stamp n so rises from le = let lt = other_nat _ _ so (later_day s stamp rises) in omega (arith, lt, from, le)

spread_same : (o : Option CivilMinute) (stamp : CivilMinute) (n : ℕ) → stamp_exceeds o stamp ≡ true → n ≤ days_to o → n ≤ archive_day_of stamp - 10955
spread_same None stamp n rises le = omega arith
spread_same (Some s) stamp n rises le = let ge = later_day s stamp rises in omega (arith, ge, le)

-- by the test that the code makes
pub keeps_more : (entries : List DayEntry) (count : ℕ) (tail new : Tail) (rows : List Row) (row : Row) (more : List DayEntry) (test : Bool) → KeepsOf entries count tail rows → IsReadBack row → EndsRows new (rows ++ row ∷ []) →
    test ≡ (begins_day tail.last row.stamp || (count == 0)) → (test ≡ true → more ≡ entries ++ record { day = record { 0 = day_of_row row }; first = count } ∷ []) → (test ≡ false → more ≡ entries) →
    stamp_exceeds tail.last row.stamp ≡ true → 10956 ≤ archive_day_of row.stamp → archive_day_of row.stamp ≤ 57707 → new.last ≡ Some row.stamp → IsDayNumber (day_of_row row) → KeepsOf more (count + 1) new (rows ++ row ∷ [])
keeps_more entries count tail new rows row more test keeps back ends is one none rises from to last number =
    let s = spread test refl in
    keeps_with entries count tail new rows row more keeps back ends (days test refl) (subst (λ (o : Option CivilMinute). length more ≤ days_to o) (sym last) s) (omega (arith, s, to)) (known test refl)
  where
    begins : (b : Bool) → begins_day tail.last row.stamp ≡ b → begins_day (last_row_stamp rows) row.stamp ≡ b
    begins b e = ap (λ (o : Option CivilMinute). begins_day o row.stamp) (sym keeps.ends.last) ∙ e

    first : (begins_day tail.last row.stamp ≡ true) ⊎ ((count == 0) ≡ true) → (rows ≡ []) ⊎ (begins_day (last_row_stamp rows) row.stamp ≡ true)
    first (inl e) = inr (begins true e)
    first (inr e) = inl (empty rows (sym (eqb-true count 0 e) ∙ keeps.count_is))

    one_more : (begins_day tail.last row.stamp ≡ true) ⊎ ((count == 0) ≡ true) → length entries + 1 ≤ archive_day_of row.stamp - 10955
    one_more (inl e) = spread_later tail.last row.stamp (length entries) e rises from keeps.spread
    one_more (inr e) =
        let r = empty rows (sym (eqb-true count 0 e) ∙ keeps.count_is) in
        let z : length entries ≡ 0 = ap length keeps.days ∙ ap (λ (xs : List Row). length (entries_of xs)) r in omega (arith, z, from)

    spread : (b : Bool) → test ≡ b → length more ≤ archive_day_of row.stamp - 10955
    spread true e =
        let a = one_more (or_cases (begins_day tail.last row.stamp) (count == 0) (sym is ∙ e)) in
        let entry : DayEntry = record { day = record { 0 = day_of_row row }; first = count } in
        let l : length more ≡ length (entries ++ entry ∷ []) = ap length (one e) in
        omega (arith, a, l, length-append entries (entry ∷ []))
    spread false e = let l = ap length (none e) in let a = spread_same tail.last row.stamp (length entries) rises keeps.spread in omega (arith, l, a)

    known : (b : Bool) → test ≡ b → AreKnown more
    known true e = subst (λ (xs : List DayEntry). AreKnown xs) (sym (one e)) (known_push entries (record { day = record { 0 = day_of_row row }; first = count }) keeps.known number)
    known false e = subst (λ (xs : List DayEntry). AreKnown xs) (sym (none e)) keeps.known

    days : (b : Bool) → test ≡ b → more ≡ entries_of (rows ++ row ∷ [])
    days true e =
        one e ∙ ap (λ (xs : List DayEntry). xs ++ record { day = record { 0 = day_of_row row }; first = count } ∷ []) keeps.days
        ∙ ap (λ (n : ℕ). entries_of rows ++ record { day = record { 0 = day_of_row row }; first = n } ∷ []) keeps.count_is
        ∙ sym (entries_more rows row (first (or_cases (begins_day tail.last row.stamp) (count == 0) (sym is ∙ e))))
    days false e =
        none e ∙ keeps.days
        ∙ sym (entries_same rows row (some_rows rows count (or_parts (begins_day tail.last row.stamp) (count == 0) (sym is ∙ e)).1 keeps.count_is) (begins false (or_parts (begins_day tail.last row.stamp) (count == 0) (sym is ∙ e)).0))

length_with : (b : Bool) (e : DayEntry) (day : ℤ) (xs : List DayEntry) (ds : List ℤ) → length xs ≡ length ds → length (with_day_entry b e xs) ≡ length (with_day b day ds)
length_with true e day xs ds same = same
length_with false e day xs ds same = ap suc same

pub entries_days : (last : Option ℤ) (n : ℕ) (rows : List Row) → length (entries_from last n rows) ≡ length (days_from last rows)
entries_days last n [] = refl
entries_days last n (row ∷ rows) = length_with (is_day last (day_of_row row)) _ (day_of_row row) (entries_from (Some (day_of_row row)) (n + 1) rows) (days_from (Some (day_of_row row)) rows) (entries_days (Some (day_of_row row)) (n + 1) rows)

-- how many slots the rows take, by what is kept
pub total_kept : (entries : List DayEntry) (count : ℕ) (tail : Tail) (rows : List Row) → KeepsOf entries count tail rows → slot_total rows ≡ count + part_count * (length entries - 1)
total_kept entries count tail rows keeps =
    let e = entries_days None 0 rows in let f = ap length keeps.days in let g = keeps.count_is in omega (arith, e, f, g)
