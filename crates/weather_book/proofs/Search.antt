-- A search among the entries of days, which are in the order of their days and of their first rows.
use Rattle.std.proofs.Common.{◌≡◌, ◌⊎◌, inl, inr, ℕ, zero, suc, ◌+◌, ◌<◌, ◌≤◌, Bool, true, false, List, [], ◌∷◌, length, take, drop, get_or, Some, None, refl, sym, ◌∙◌, ap, subst, arith}
use Rattle.std.specs.Prelude.{ℤ, pos, nat_le}
use Rattle.std.specs.List.{AllWithin}
use Rattle.std.specs.List.Sorted.{IsPartitionedBy, IsPartitionPoint}
use Rattle.std.proofs.lemmas.Bool.{cases_lt, and_parts}
use Rattle.std.proofs.lemmas.Bool.Decides.{nat_tests}
use Rattle.station_base.specs.declared.row.Row.{Row}
use Rattle.station_base.specs.CivilMinute.{CivilMinute, archive_day_of}
use Rattle.weather_book.specs.declared.kept.DayEntry.{DayEntry}
use Rattle.packed_rows.specs.declared.tail.Tail.{Tail}
use Rattle.packed_rows.specs.Days.{day_of_row, is_day, days_of, day_rest}
use Rattle.weather_book.specs.Kept.{with_day_entry, entries_from, entries_of, KeepsOf}
use Rattle.packed_rows.specs.Rising.{stamp_exceeds, rows_rise}
use Rattle.packed_rows.proofs.DayLaws.{later_day}
use Rattle.weather_book.proofs.EntryLaws.{past, first_past, one_begun, begun, later_first, stop_is, end_is, later_stop, later_end, begun_stop, begun_end}

-- each entry is of no earlier day and no earlier row than the one before, and the first than these
abbrev pub Ordered : ℕ → ℕ → List DayEntry → Type 0
Ordered a m [] = Unit {0}
Ordered a m (entry ∷ entries) = (b : ℕ) × (entry.day.0 ≡ pos b) × (a ≤ b) × (m ≤ entry.first) × Ordered b entry.first entries

weaken : (a b m n : ℕ) (entries : List DayEntry) → a ≤ b → m ≤ n → Ordered b n entries → Ordered a m entries
weaken a b m n [] le least order = tt
weaken a b m n (entry ∷ entries) le least order = (order.0, order.1, omega (arith, le, order.2), omega (arith, least, order.3), order.4)

ordered_from : (s : CivilMinute) (n m : ℕ) (rows : List Row) → m ≤ n → rows_rise (Some s) rows ≡ true → Ordered (archive_day_of s) m (entries_from (Some (pos (archive_day_of s))) n rows)
ordered_from s n m [] le up = tt
ordered_from s n m (row ∷ rows) le up =
    let later = later_day s row.stamp (and_parts (stamp_exceeds (Some s) row.stamp) (rows_rise (Some row.stamp) rows) up).0 in
    let behind = (and_parts (stamp_exceeds (Some s) row.stamp) (rows_rise (Some row.stamp) rows) up).1 in
    by (is_day (Some (pos (archive_day_of s))) (day_of_row row)) later
    (weaken (archive_day_of s) (archive_day_of row.stamp) m m (entries_from (Some (day_of_row row)) (n + 1) rows) later (omega arith) (ordered_from row.stamp (n + 1) m rows (omega (arith, le)) behind))
    (ordered_from row.stamp (n + 1) n rows (omega arith) behind)
  where
    by : (same : Bool) → archive_day_of s ≤ archive_day_of row.stamp → Ordered (archive_day_of s) m (entries_from (Some (day_of_row row)) (n + 1) rows) →
        Ordered (archive_day_of row.stamp) n (entries_from (Some (day_of_row row)) (n + 1) rows) →
        Ordered (archive_day_of s) m (with_day_entry same (record { day = record { 0 = day_of_row row }; first = n }) (entries_from (Some (day_of_row row)) (n + 1) rows))
    by true later same_day next = same_day
    by false later same_day next = (archive_day_of row.stamp, refl, later, le, next)

pub ordered_of : (rows : List Row) → rows_rise None rows ≡ true → Ordered 0 0 (entries_of rows)
ordered_of [] up = tt
ordered_of (row ∷ rows) up = (archive_day_of row.stamp, refl, omega arith, omega arith, ordered_from row.stamp 1 0 rows (omega arith) (and_parts true (rows_rise (Some row.stamp) rows) up).1)

-- an entry behind is of no earlier day
day_at : (b m : ℕ) (entries : List DayEntry) (j : ℕ) (d : DayEntry) → Ordered b m entries → j < length entries → (c : ℕ) × ((get_or entries j d).day.0 ≡ pos c) × (b ≤ c)
day_at b m [] j d order lt = absurd (omega arith)
day_at b m (entry ∷ entries) zero d order lt = (order.0, order.1, order.2)
day_at b m (entry ∷ entries) (suc j) d order lt =
    let r = day_at order.0 entry.first entries j d order.4 (omega arith) in (r.0, r.1, omega (arith, r.2, order.2))

first_at : (b m : ℕ) (entries : List DayEntry) (j : ℕ) (d : DayEntry) → Ordered b m entries → j < length entries → m ≤ (get_or entries j d).first
first_at b m [] j d order lt = absurd (omega arith)
first_at b m (entry ∷ entries) zero d order lt = order.3
first_at b m (entry ∷ entries) (suc j) d order lt =
    let r = first_at order.0 entry.first entries j d order.4 (omega arith) in omega (arith, r, order.3)

module _ (p : ℤ → Bool) (mono : (a b : ℕ) → a ≤ b → p (pos a) ≡ false → p (pos b) ≡ false) where
  back : (a b : ℕ) (x y : ℤ) → x ≡ pos a → y ≡ pos b → a ≤ b → p y ≡ true → p x ≡ true
  back a b x y ex ey le pass = by (p (pos a)) refl
    where
      by : (t : Bool) → p (pos a) ≡ t → p x ≡ true
      by true e = ap p ex ∙ e
      by false e = let f = mono a b le e in let g = ap p ey in absurd cc

  day_parts : (a m : ℕ) (entries : List DayEntry) → Ordered a m entries → IsPartitionedBy (λ (e : DayEntry). p e.day.0) entries
  day_parts a m [] order i j d le lt pass = absurd (omega (arith, lt))
  day_parts a m (entry ∷ entries) order zero zero d le lt pass = pass
  day_parts a m (entry ∷ entries) order (suc i) zero d le lt pass = absurd (omega (arith, le))
  day_parts a m (entry ∷ entries) order zero (suc j) d le lt pass =
      let r = day_at order.0 entry.first entries j d order.4 (omega (arith, lt)) in
      back order.0 r.0 entry.day.0 (get_or entries j d).day.0 order.1 r.1 r.2 pass
  day_parts a m (entry ∷ entries) order (suc i) (suc j) d le lt pass = day_parts order.0 entry.first entries order.4 i j d (omega (arith, le)) (omega (arith, lt)) pass

  pub parted_days : (entries : List DayEntry) (count : ℕ) (tail : Tail) (rows : List Row) → KeepsOf entries count tail rows → IsPartitionedBy (λ (e : DayEntry). p e.day.0) entries
  parted_days entries count tail rows keeps = day_parts 0 0 entries (subst (Ordered 0 0) (sym keeps.days) (ordered_of rows keeps.ends.rising))

first_parts : (n a m : ℕ) (entries : List DayEntry) → Ordered a m entries → IsPartitionedBy (λ (e : DayEntry). nat_le e.first n) entries
first_parts n a m [] order i j d le lt pass = absurd (omega (arith, lt))
first_parts n a m (entry ∷ entries) order zero zero d le lt pass = pass
first_parts n a m (entry ∷ entries) order (suc i) zero d le lt pass = absurd (omega (arith, le))
first_parts n a m (entry ∷ entries) order zero (suc j) d le lt pass =
    let r = first_at order.0 entry.first entries j d order.4 (omega (arith, lt)) in below entry.first (get_or entries j d).first r pass
  where
    below : (x y : ℕ) → x ≤ y → nat_le y n ≡ true → nat_le x n ≡ true
    below x y le pass = grind (arith, nat_tests)
first_parts n a m (entry ∷ entries) order (suc i) (suc j) d le lt pass = first_parts n order.0 entry.first entries order.4 i j d (omega (arith, le)) (omega (arith, lt)) pass

pub parted_firsts : (n : ℕ) (entries : List DayEntry) (count : ℕ) (tail : Tail) (rows : List Row) → KeepsOf entries count tail rows → IsPartitionedBy (λ (e : DayEntry). nat_le e.first n) entries
parted_firsts n entries count tail rows keeps = first_parts n 0 0 entries (subst (Ordered 0 0) (sym keeps.days) (ordered_of rows keeps.ends.rising))

-- entries that pass are skipped
pub skip_days : (p : ℤ → Bool) (count : ℕ) (entries : List DayEntry) (i : ℕ) → i ≤ length entries → AllWithin (λ (e : DayEntry). p e.day.0 ≡ true) entries 0 i → first_past p count (drop i entries) ≡ first_past p count entries
skip_days p count entries zero le all = refl
skip_days p count [] (suc i) le all = refl
skip_days p count (entry ∷ entries) (suc i) le all =
    skip_days p count entries i (omega (arith, le)) (λ k d from to. all (suc k) d (omega arith) (omega (arith, to)))
    ∙ ap (λ (b : Bool). past b entry.first (first_past p count entries)) (sym (all 0 entry (omega arith) (omega arith)))

pub skip_firsts : (n count : ℕ) (entries : List DayEntry) (i : ℕ) → i ≤ length entries → AllWithin (λ (e : DayEntry). nat_le e.first n ≡ true) entries 0 i → later_first n count (drop i entries) ≡ later_first n count entries
skip_firsts n count entries zero le all = refl
skip_firsts n count [] (suc i) le all = refl
skip_firsts n count (entry ∷ entries) (suc i) le all =
    skip_firsts n count entries i (omega (arith, le)) (λ k d from to. all (suc k) d (omega arith) (omega (arith, to)))
    ∙ ap (λ (b : Bool). past b entry.first (later_first n count entries)) (sym (all 0 entry (omega arith) (omega arith)))

pub skip_begun : (n : ℕ) (entries : List DayEntry) (i : ℕ) → i ≤ length entries → AllWithin (λ (e : DayEntry). nat_le e.first n ≡ true) entries 0 i → i + begun n (drop i entries) ≡ begun n entries
skip_begun n entries zero le all = omega arith
skip_begun n [] (suc i) le all = absurd (omega (arith, le))
skip_begun n (entry ∷ entries) (suc i) le all =
    let rest = skip_begun n entries i (omega (arith, le)) (λ k d from to. all (suc k) d (omega arith) (omega (arith, to))) in
    (let e : suc i + begun n (drop i entries) ≡ begun n entries + 1 = omega (arith, rest) in e)
    ∙ ap (λ (b : Bool). one_begun b (begun n entries)) (sym (all 0 entry (omega arith) (omega arith)))

some_entry : DayEntry
some_entry = record { day = record { 0 = pos 0 }; first = 0 }

-- the number that stands at the end of a search
pub first_found : (p : ℤ → Bool) (entries : List DayEntry) (count : ℕ) (tail : Tail) (rows : List Row) (i n found : ℕ) → KeepsOf entries count tail rows → i ≤ length entries →
    IsPartitionPoint (λ (e : DayEntry). p e.day.0 ≡ true) (λ (e : DayEntry). p e.day.0 ≡ false) entries i → first_past p (length rows) (entries_of rows) ≡ n →
    ((d : DayEntry) → i < length entries → found ≡ (get_or entries i d).first) → (length entries ≤ i → found ≡ count) → found ≡ n
first_found p entries count tail rows i n found keeps within point law there past = by (cases_lt i (length entries))
  where
    so : first_past p count (drop i entries) ≡ first_past p count entries
    so = skip_days p count entries i within point.0

    by : (i < length entries) ⊎ (length entries ≤ i) → found ≡ n
    by (inl lt) = there some_entry lt ∙ stop_is entries count tail rows keeps i p n so law entries refl some_entry lt (point.1 i some_entry (omega arith) lt)
    by (inr le) = past le ∙ end_is entries count tail rows keeps i p n so law le

not_begun : (m n : ℕ) → nat_le m n ≡ false → n < m
not_begun m n e = grind (arith, nat_tests)

pub later_found : (entries : List DayEntry) (count : ℕ) (tail : Tail) (rows : List Row) (i n found : ℕ) → KeepsOf entries count tail rows → i ≤ length entries → n < count →
    IsPartitionPoint (λ (e : DayEntry). nat_le e.first n ≡ true) (λ (e : DayEntry). nat_le e.first n ≡ false) entries i →
    ((d : DayEntry) → i < length entries → found ≡ (get_or entries i d).first) → (length entries ≤ i → found ≡ count) → found ≡ n + length (day_rest rows n)
later_found entries count tail rows i n found keeps within lt point there past = by (cases_lt i (length entries))
  where
    so : later_first n count (drop i entries) ≡ later_first n count entries
    so = skip_firsts n count entries i within point.0

    by : (i < length entries) ⊎ (length entries ≤ i) → found ≡ n + length (day_rest rows n)
    by (inl less) = there some_entry less ∙ later_stop entries count tail rows keeps i n so lt entries refl some_entry less (not_begun (get_or entries i some_entry).first n (point.1 i some_entry (omega arith) less))
    by (inr le) = past le ∙ later_end entries count tail rows keeps i n so lt le

pub begun_found : (entries : List DayEntry) (count : ℕ) (tail : Tail) (rows : List Row) (i n : ℕ) → KeepsOf entries count tail rows → i ≤ length entries → n < count →
    IsPartitionPoint (λ (e : DayEntry). nat_le e.first n ≡ true) (λ (e : DayEntry). nat_le e.first n ≡ false) entries i → i ≡ length (days_of (take (n + 1) rows))
begun_found entries count tail rows i n keeps within lt point = by (cases_lt i (length entries))
  where
    so : i + begun n (drop i entries) ≡ begun n entries
    so = skip_begun n entries i within point.0

    by : (i < length entries) ⊎ (length entries ≤ i) → i ≡ length (days_of (take (n + 1) rows))
    by (inl less) = begun_stop entries count tail rows keeps i n i so lt entries refl some_entry less (not_begun (get_or entries i some_entry).first n (point.1 i some_entry (omega arith) less))
    by (inr le) = begun_end entries count tail rows keeps i n i so lt le
