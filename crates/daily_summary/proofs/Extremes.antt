-- The first of the least and of the greatest values, where stamps rise.
use Rattle.std.proofs.Common.{◌≡◌, ℕ, ℤ, zero, suc, ◌≤◌, ◌<◌, Bool, true, false, cond, List, [], ◌∷◌, length, get_or, Option, Some, None, refl, ap, sym, subst, ◌∙◌, arith}
use Rattle.std.specs.Prelude.{All, IfSome, int_lt}
use Rattle.std.specs.List.{Contains}
use Rattle.std.specs.Int.Signed.{◌≤ℤ◌}
use Rattle.std.proofs.lemmas.Int.{ints}
use Rattle.std.proofs.lemmas.Bool.{ltb-true}
use Rattle.std.proofs.lemmas.List.Elements.{All-cons, All-nil, All-head, All-tail}
use Rattle.station_base.specs.CivilMinute.{CivilMinute, minute_of}
use Rattle.station_base.specs.declared.row.Row.{Row}
use Rattle.station_base.specs.LastStamp.{Rises}
use Rattle.daily_summary.specs.Extremes.{RowsRise, IsReached, IsFirst, IsLeastAt, IsGreatestAt}
use Rattle.daily_summary.specs.Readings.{Reading, row_reading, field_value, with_reading, readings, least_reading, greatest}
use Rattle.daily_summary.specs.Summary.{field_sum}

-- each is earlier than those behind it
abbrev Ordered : List Reading → Type 0
Ordered [] = Unit {0}
Ordered (r ∷ rs) = All (λ s. minute_of r.stamp < minute_of s.stamp) rs × Ordered rs

-- rows that rise from a stamp on are all later
later : (last : CivilMinute) (rows : List Row) → Rises (λ row. Some row.stamp) (Some last) rows → All (λ row. minute_of last < minute_of row.stamp) rows
later last [] rise = All-nil (λ row. minute_of last < minute_of row.stamp)
later last (row ∷ rows) rise =
    let here : minute_of last < minute_of row.stamp = ltb-true (minute_of last) (minute_of row.stamp) rise.0 in
    let behind = later row.stamp rows rise.1 in
    All-cons (λ r. minute_of last < minute_of r.stamp) row rows here (λ k d h. let more = behind k d h in omega arith)

-- what holds of rows holds of their readings
of_readings : (m field : ℕ) (rows : List Row) → All (λ row. m < minute_of row.stamp) rows → All (λ r. m < minute_of r.stamp) (readings field rows)
of_readings m field [] all = All-nil (λ r. m < minute_of r.stamp)
of_readings m field (row ∷ rows) all = by (field_value field row) (of_readings m field rows (All-tail (λ r. m < minute_of r.stamp) row rows all))
  where
    by : (value : Option ℤ) → All (λ r. m < minute_of r.stamp) (readings field rows) → All (λ r. m < minute_of r.stamp) (with_reading value row (readings field rows))
    by None more = more
    by (Some v) more = All-cons (λ r. m < minute_of r.stamp) (row_reading row v) (readings field rows) (All-head (λ r. m < minute_of r.stamp) row rows all) more

-- the readings of rows that rise are in the order of their stamps
in_order : (field : ℕ) (last : Option CivilMinute) (rows : List Row) → Rises (λ row. Some row.stamp) last rows → Ordered (readings field rows)
in_order field last [] rise = tt
in_order field last (row ∷ rows) rise = by (field_value field row) (in_order field (Some row.stamp) rows rise.1)
  where
    by : (value : Option ℤ) → Ordered (readings field rows) → Ordered (with_reading value row (readings field rows))
    by None more = more
    by (Some v) more = (of_readings (minute_of row.stamp) field rows (later row.stamp rows rise.1), more)

-- one more in front
behind : {X : Type 0} (x y : X) (xs : List X) → Contains xs x → Contains (y ∷ xs) x
behind x y xs there = (suc there.0, omega (arith, there.1), there.2)

-- the first of the least readings
record IsLeastOf (m : Reading) (rs : List Reading) : Type 0 where
  pub there : Contains rs m
  pub bound : All (λ r. m.value ≤ℤ r.value) rs
  pub first : All (λ r. r.value ≡ m.value → minute_of m.stamp ≤ minute_of r.stamp) rs

least_is : (r : Reading) (rs : List Reading) → Ordered (r ∷ rs) → IsLeastOf (least_reading r rs) (r ∷ rs)
least_is r [] order = record {
  there = (0, omega arith, refl);
  bound = All-cons (λ s. r.value ≤ℤ s.value) r [] (omega (arith, ints)) (All-nil (λ s. r.value ≤ℤ s.value));
  first = All-cons (λ s. s.value ≡ r.value → minute_of r.stamp ≤ minute_of s.stamp) r [] (λ e. omega arith) (All-nil (λ s. s.value ≡ r.value → minute_of r.stamp ≤ minute_of s.stamp));
}
least_is r (next ∷ rs) order = by (least_reading next rs) (least_is next rs order.1) (int_lt (least_reading next rs).value r.value) refl
  where
    by : (m : Reading) → IsLeastOf m (next ∷ rs) → (test : Bool) → int_lt m.value r.value ≡ test → IsLeastOf (cond test m r) (r ∷ next ∷ rs)
    by m rest true e = record {
      there = behind m r (next ∷ rs) rest.there;
      bound = All-cons (λ s. m.value ≤ℤ s.value) r (next ∷ rs) (omega (arith, ints, e)) rest.bound;
      first = All-cons (λ s. s.value ≡ m.value → minute_of m.stamp ≤ minute_of s.stamp) r (next ∷ rs) (λ same. absurd (omega (arith, ints, e, same))) rest.first;
    }
    by m rest false e = record {
      there = (0, omega arith, refl);
      bound = All-cons (λ s. r.value ≤ℤ s.value) r (next ∷ rs) (omega (arith, ints)) (λ k d h. let more = rest.bound k d h in omega (arith, ints, e, more));
      first = All-cons (λ s. s.value ≡ r.value → minute_of r.stamp ≤ minute_of s.stamp) r (next ∷ rs) (λ same. omega arith)
          (λ k d h same. let more = order.0 k d h in omega (arith, more));
    }

-- the first of the greatest readings
record IsGreatestOf (m : Reading) (rs : List Reading) : Type 0 where
  pub there : Contains rs m
  pub bound : All (λ r. r.value ≤ℤ m.value) rs
  pub first : All (λ r. r.value ≡ m.value → minute_of m.stamp ≤ minute_of r.stamp) rs

greatest_is : (r : Reading) (rs : List Reading) → Ordered (r ∷ rs) → IsGreatestOf (greatest r rs) (r ∷ rs)
greatest_is r [] order = record {
  there = (0, omega arith, refl);
  bound = All-cons (λ s. s.value ≤ℤ r.value) r [] (omega (arith, ints)) (All-nil (λ s. s.value ≤ℤ r.value));
  first = All-cons (λ s. s.value ≡ r.value → minute_of r.stamp ≤ minute_of s.stamp) r [] (λ e. omega arith) (All-nil (λ s. s.value ≡ r.value → minute_of r.stamp ≤ minute_of s.stamp));
}
greatest_is r (next ∷ rs) order = by (greatest next rs) (greatest_is next rs order.1) (int_lt r.value (greatest next rs).value) refl
  where
    by : (m : Reading) → IsGreatestOf m (next ∷ rs) → (test : Bool) → int_lt r.value m.value ≡ test → IsGreatestOf (cond test m r) (r ∷ next ∷ rs)
    by m rest true e = record {
      there = behind m r (next ∷ rs) rest.there;
      bound = All-cons (λ s. s.value ≤ℤ m.value) r (next ∷ rs) (omega (arith, ints, e)) rest.bound;
      first = All-cons (λ s. s.value ≡ m.value → minute_of m.stamp ≤ minute_of s.stamp) r (next ∷ rs) (λ same. absurd (omega (arith, ints, e, same))) rest.first;
    }
    by m rest false e = record {
      there = (0, omega arith, refl);
      bound = All-cons (λ s. s.value ≤ℤ r.value) r (next ∷ rs) (omega (arith, ints)) (λ k d h. let more = rest.bound k d h in omega (arith, ints, e, more));
      first = All-cons (λ s. s.value ≡ r.value → minute_of r.stamp ≤ minute_of s.stamp) r (next ∷ rs) (λ same. omega arith)
          (λ k d h same. let more = order.0 k d h in omega (arith, more));
    }

-- a row has what a reading tells
reached : (field : ℕ) (rows : List Row) (r : Reading) → Contains (readings field rows) r → IsReached field rows r.value r.stamp
reached field [] r there = absurd (omega (arith, there.1))
reached field (row ∷ rows) r there = by (field_value field row) refl (λ is. reached field rows r is) there
  where
    further : IsReached field rows r.value r.stamp → IsReached field (row ∷ rows) r.value r.stamp
    further is = record { row = is.row; there = behind is.row row rows is.there; value_is = is.value_is; stamp_is = is.stamp_is }

    here : (v : ℤ) → field_value field row ≡ Some v → row_reading row v ≡ r → IsReached field (row ∷ rows) r.value r.stamp
    here v value same = record {
      row = row;
      there = (0, omega arith, refl);
      value_is = value ∙ ap (λ (s : Reading). Some s.value) same;
      stamp_is = ap (λ (s : Reading). s.stamp) same;
    }

    by : (value : Option ℤ) → field_value field row ≡ value → (Contains (readings field rows) r → IsReached field rows r.value r.stamp)
        → Contains (with_reading value row (readings field rows)) r → IsReached field (row ∷ rows) r.value r.stamp
    by None e more is = further (more is)
    by (Some v) e more (zero, within, same) = here v e same
    by (Some v) e more (suc k, within, same) = further (more (k, (let small : k < length (readings field rows) = omega (arith, within) in small), same))

-- what holds of all readings holds of each row that has a value
of_rows : (P : Reading → Type 0) (field : ℕ) (rows : List Row) → All P (readings field rows) → All (λ row. IfSome (field_value field row) (λ v. P (row_reading row v))) rows
of_rows P field [] all = All-nil (λ row. IfSome (field_value field row) (λ v. P (row_reading row v)))
of_rows P field (row ∷ rows) all = by (field_value field row) refl (λ is. of_rows P field rows is) all
  where
    by : (value : Option ℤ) → field_value field row ≡ value → (All P (readings field rows) → All (λ r. IfSome (field_value field r) (λ v. P (row_reading r v))) rows)
        → All P (with_reading value row (readings field rows)) → All (λ r. IfSome (field_value field r) (λ v. P (row_reading r v))) (row ∷ rows)
    by None e more is = All-cons (λ r. IfSome (field_value field r) (λ v. P (row_reading r v))) row rows (subst (λ (o : Option ℤ). IfSome o (λ v. P (row_reading row v))) (sym e) tt) (more is)
    by (Some v) e more is =
        All-cons (λ r. IfSome (field_value field r) (λ v. P (row_reading r v))) row rows (subst (λ (o : Option ℤ). IfSome o (λ v. P (row_reading row v))) (sym e) (All-head P (row_reading row v) (readings field rows) is))
        (more (All-tail P (row_reading row v) (readings field rows) is))

-- what holds of a value that a row has
at_value : (P : ℤ → Type 0) (o : Option ℤ) (v : ℤ) → IfSome o P → o ≡ Some v → P v
at_value P o v holds e = subst (λ (x : Option ℤ). IfSome x P) e holds

firsts : (field : ℕ) (rows : List Row) (m : Reading) → All (λ r. r.value ≡ m.value → minute_of m.stamp ≤ minute_of r.stamp) (readings field rows) → IsFirst field rows m.value m.stamp
firsts field rows m all k d h e =
    at_value (λ v. v ≡ m.value → minute_of m.stamp ≤ minute_of (get_or rows k d).stamp) (field_value field (get_or rows k d)) m.value
    (of_rows (λ r. r.value ≡ m.value → minute_of m.stamp ≤ minute_of r.stamp) field rows all k d h) e refl

pub least_first : (field : ℕ) (rows : List Row) → RowsRise rows → IfSome (field_sum (readings field rows)) (λ s. IsLeastAt field rows s.least s.least_at)
least_first field rows rise = by (readings field rows) refl
  where
    by : (rs : List Reading) → readings field rows ≡ rs → IfSome (field_sum rs) (λ s. IsLeastAt field rows s.least s.least_at)
    by [] e = tt
    by (r ∷ rs) e =
        let is : IsLeastOf (least_reading r rs) (readings field rows) = subst (IsLeastOf (least_reading r rs)) (sym e) (least_is r rs (subst Ordered e (in_order field None rows rise))) in
        record { reached = reached field rows (least_reading r rs) is.there; least = of_rows (λ s. (least_reading r rs).value ≤ℤ s.value) field rows is.bound; first = firsts field rows (least_reading r rs) is.first }

pub greatest_first : (field : ℕ) (rows : List Row) → RowsRise rows → IfSome (field_sum (readings field rows)) (λ s. IsGreatestAt field rows s.greatest s.greatest_at)
greatest_first field rows rise = by (readings field rows) refl
  where
    by : (rs : List Reading) → readings field rows ≡ rs → IfSome (field_sum rs) (λ s. IsGreatestAt field rows s.greatest s.greatest_at)
    by [] e = tt
    by (r ∷ rs) e =
        let is : IsGreatestOf (greatest r rs) (readings field rows) = subst (IsGreatestOf (greatest r rs)) (sym e) (greatest_is r rs (subst Ordered e (in_order field None rows rise))) in
        record { reached = reached field rows (greatest r rs) is.there; greatest = of_rows (λ s. s.value ≤ℤ (greatest r rs).value) field rows is.bound; first = firsts field rows (greatest r rs) is.first }
