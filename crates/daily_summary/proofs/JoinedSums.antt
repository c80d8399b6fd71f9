-- Readings taken together.
use Rattle.std.proofs.Common.{◌≡◌, ℕ, ℤ, pos, ◌+◌, ◌*◌, Bool, true, false, cond, List, [], ◌∷◌, ◌++◌, length, Option, Some, None, refl, ap, sym, ◌∙◌, arith, length-append, append-nil}
use Rattle.std.specs.Prelude.{◌+ℤ◌, ◌*ℤ◌, int_lt}
use Rattle.std.proofs.lemmas.Int.{ints}
use Rattle.std.proofs.lemmas.List.Sums.{sum_by-append}
use Rattle.station_base.specs.CivilMinute.{CivilMinute}
use Rattle.station_base.specs.declared.row.Row.{Row}
use Rattle.daily_summary.specs.declared.field_sum.FieldSum.{FieldSum}
use Rattle.daily_summary.specs.Readings.{Reading, row_reading, field_value, with_reading, readings, lesser, greater, least_reading, greatest, readings_total, weighted, time}
use Rattle.daily_summary.specs.Summary.{field_sum}
use Rattle.daily_summary.specs.Joined.{joined, merged, sum_of_row, sum_of_value}

lt_chain : (a b c : ℤ) → int_lt b a ≡ true → int_lt c b ≡ true → int_lt c a ≡ true
lt_chain a b c p q = grind (arith, ints)

nlt_chain : (a b c : ℤ) → int_lt b a ≡ false → int_lt c b ≡ false → int_lt c a ≡ false
nlt_chain a b c p q = grind (arith, ints)

lesser_by : (a b c : Reading) (p q r : Bool) → int_lt b.value a.value ≡ p → int_lt c.value b.value ≡ q → int_lt c.value a.value ≡ r → lesser a (lesser b c) ≡ lesser (lesser a b) c
lesser_by a b c true true r ep eq er = let t : int_lt c.value a.value ≡ true = lt_chain a.value b.value c.value ep eq in simp (ep, eq, t)
lesser_by a b c true false r ep eq er = simp (ep, eq)
lesser_by a b c false true r ep eq er = simp (ep, eq)
lesser_by a b c false false r ep eq er = let t : int_lt c.value a.value ≡ false = nlt_chain a.value b.value c.value ep eq in simp (ep, eq, t)

lesser_lesser : (a b c : Reading) → lesser a (lesser b c) ≡ lesser (lesser a b) c
lesser_lesser a b c = lesser_by a b c _ _ _ refl refl refl

greater_by : (a b c : Reading) (p q r : Bool) → int_lt a.value b.value ≡ p → int_lt b.value c.value ≡ q → int_lt a.value c.value ≡ r → greater a (greater b c) ≡ greater (greater a b) c
greater_by a b c true true r ep eq er = let t : int_lt a.value c.value ≡ true = lt_chain c.value b.value a.value eq ep in simp (ep, eq, t)
greater_by a b c true false r ep eq er = simp (ep, eq)
greater_by a b c false true r ep eq er = simp (ep, eq)
greater_by a b c false false r ep eq er = let t : int_lt a.value c.value ≡ false = nlt_chain c.value b.value a.value eq ep in simp (ep, eq, t)

greater_greater : (a b c : Reading) → greater a (greater b c) ≡ greater (greater a b) c
greater_greater a b c = greater_by a b c _ _ _ refl refl refl

least-append : (x : Reading) (xs : List Reading) (y : Reading) (ys : List Reading) → least_reading x (xs ++ y ∷ ys) ≡ lesser (least_reading x xs) (least_reading y ys)
least-append x [] y ys = refl
least-append x (z ∷ zs) y ys = ap (lesser x) (least-append z zs y ys) ∙ lesser_lesser x (least_reading z zs) (least_reading y ys)

greatest-append : (x : Reading) (xs : List Reading) (y : Reading) (ys : List Reading) → greatest x (xs ++ y ∷ ys) ≡ greater (greatest x xs) (greatest y ys)
greatest-append x [] y ys = refl
greatest-append x (z ∷ zs) y ys = ap (greater x) (greatest-append z zs y ys) ∙ greater_greater x (greatest z zs) (greatest y ys)

zero_sum : (a : ℤ) → a ≡ pos 0 +ℤ a
zero_sum a = omega (arith, ints)

sum_sum : (a b c : ℤ) → a +ℤ (b +ℤ c) ≡ (a +ℤ b) +ℤ c
sum_sum a b c = omega (arith, ints)

total-append : (xs ys : List Reading) → readings_total (xs ++ ys) ≡ readings_total xs +ℤ readings_total ys
total-append [] ys = zero_sum (readings_total ys)
total-append (x ∷ xs) ys = ap (λ (z : ℤ). x.value +ℤ z) (total-append xs ys) ∙ sum_sum x.value (readings_total xs) (readings_total ys)

weighted-append : (xs ys : List Reading) → weighted (xs ++ ys) ≡ weighted xs +ℤ weighted ys
weighted-append [] ys = zero_sum (weighted ys)
weighted-append (x ∷ xs) ys = ap (λ (z : ℤ). (x.value *ℤ pos x.seconds) +ℤ z) (weighted-append xs ys) ∙ sum_sum (x.value *ℤ pos x.seconds) (weighted xs) (weighted ys)

-- a sum of these parts
parts : (least : ℤ) (least_at : CivilMinute) (greatest : ℤ) (greatest_at : CivilMinute) (sum : ℤ) (count : ℕ) (wsum : ℤ) (sumtime : ℕ) → FieldSum
parts l la g ga s c w t = record { least = l; least_at = la; greatest = g; greatest_at = ga; sum = s; count = c; wsum = w; sumtime = t }

same_parts : (l l2 : ℤ) (la la2 : CivilMinute) (g g2 : ℤ) (ga ga2 : CivilMinute) (s s2 : ℤ) (c c2 : ℕ) (w w2 : ℤ) (t t2 : ℕ) →
    l ≡ l2 → la ≡ la2 → g ≡ g2 → ga ≡ ga2 → s ≡ s2 → c ≡ c2 → w ≡ w2 → t ≡ t2 → parts l la g ga s c w t ≡ parts l2 la2 g2 ga2 s2 c2 w2 t2
same_parts l l2 la la2 g g2 ga ga2 s s2 c c2 w w2 t t2 e1 e2 e3 e4 e5 e6 e7 e8 = rw (e1, e2, e3, e4, e5, e6, e7, e8) refl

pub same_sum : (a b : FieldSum) → a.least ≡ b.least → a.least_at ≡ b.least_at → a.greatest ≡ b.greatest → a.greatest_at ≡ b.greatest_at → a.sum ≡ b.sum → a.count ≡ b.count →
    a.wsum ≡ b.wsum → a.sumtime ≡ b.sumtime → a ≡ b
unfolding parts
same_sum a b e1 e2 e3 e4 e5 e6 e7 e8 =
    same_parts a.least b.least a.least_at b.least_at a.greatest b.greatest a.greatest_at b.greatest_at a.sum b.sum a.count b.count a.wsum b.wsum a.sumtime b.sumtime e1 e2 e3 e4 e5 e6 e7 e8

chosen_value : (test : Bool) (a b : Reading) → (cond test b a).value ≡ cond test b.value a.value
chosen_value true a b = refl
chosen_value false a b = refl

chosen_stamp : (test : Bool) (a b : Reading) → (cond test b a).stamp ≡ cond test b.stamp a.stamp
chosen_stamp true a b = refl
chosen_stamp false a b = refl

-- the sum of readings and later ones
both : Reading → List Reading → FieldSum
both x xs = record {
  least = (least_reading x xs).value;
  least_at = (least_reading x xs).stamp;
  greatest = (greatest x xs).value;
  greatest_at = (greatest x xs).stamp;
  sum = readings_total (x ∷ xs);
  count = length (x ∷ xs);
  wsum = weighted (x ∷ xs);
  sumtime = time (x ∷ xs);
}

join_both : (x : Reading) (xs : List Reading) (y : Reading) (ys : List Reading) → both x (xs ++ y ∷ ys) ≡ joined (both x xs) (both y ys)
unfolding both
join_both x xs y ys =
    let lo = least-append x xs y ys in
    let hi = greatest-append x xs y ys in
    same_sum (both x (xs ++ y ∷ ys)) (joined (both x xs) (both y ys))
    (ap (λ (r : Reading). r.value) lo ∙ chosen_value _ (least_reading x xs) (least_reading y ys))
    (ap (λ (r : Reading). r.stamp) lo ∙ chosen_stamp _ (least_reading x xs) (least_reading y ys))
    (ap (λ (r : Reading). r.value) hi ∙ chosen_value _ (greatest x xs) (greatest y ys))
    (ap (λ (r : Reading). r.stamp) hi ∙ chosen_stamp _ (greatest x xs) (greatest y ys))
    (total-append (x ∷ xs) (y ∷ ys)) (length-append (x ∷ xs) (y ∷ ys)) (weighted-append (x ∷ xs) (y ∷ ys)) (sum_by-append (λ (r : Reading). r.seconds) (x ∷ xs) (y ∷ ys))

pub field_sum-append : (xs ys : List Reading) → field_sum (xs ++ ys) ≡ merged (field_sum xs) (field_sum ys)
unfolding both
field_sum-append [] ys = refl
field_sum-append (x ∷ xs) [] = ap field_sum (append-nil (x ∷ xs))
field_sum-append (x ∷ xs) (y ∷ ys) = ap Some (join_both x xs y ys)

with_value-append : (value : Option ℤ) (row : Row) (xs ys : List Reading) → with_reading value row xs ++ ys ≡ with_reading value row (xs ++ ys)
with_value-append None row xs ys = refl
with_value-append (Some v) row xs ys = refl

pub readings-append : (field : ℕ) (rows more : List Row) → readings field (rows ++ more) ≡ readings field rows ++ readings field more
readings-append field [] more = refl
readings-append field (row ∷ rows) more =
    ap (with_reading (field_value field row) row) (readings-append field rows more) ∙ sym (with_value-append (field_value field row) row (readings field rows) (readings field more))

no_more : (n : ℕ) → 0 + n ≡ n
no_more n = omega arith

zero_right : (a : ℤ) → a +ℤ pos 0 ≡ a
zero_right a = omega (arith, ints)

one_sum : (row : Row) (value : Option ℤ) → field_sum (with_reading value row []) ≡ sum_of_value row value
unfolding both
one_sum row None = refl
one_sum row (Some v) =
    ap Some (same_sum (both (row_reading row v) []) (sum_of_row row v) refl refl refl refl (zero_right v) refl (zero_right (v *ℤ pos (60 * row.interval))) (no_more (60 * row.interval)))

-- a field of more rows
pub field-append : (field : ℕ) (rows more : List Row) → field_sum (readings field (rows ++ more)) ≡ merged (field_sum (readings field rows)) (field_sum (readings field more))
field-append field rows more = ap field_sum (readings-append field rows more) ∙ field_sum-append (readings field rows) (readings field more)

pub field_more : (field : ℕ) (rows : List Row) (row : Row) → field_sum (readings field (rows ++ row ∷ [])) ≡ merged (field_sum (readings field rows)) (sum_of_value row (field_value field row))
field_more field rows row = field-append field rows (row ∷ []) ∙ ap (merged (field_sum (readings field rows))) (one_sum row (field_value field row))
