-- The fields of a summary, one after another.
use Rattle.std.proofs.Common.{◌≡◌, ◌≢◌, ◌⊎◌, inl, inr, replicate, zero, suc, ℕ, ℤ, ◌+◌, ◌≤◌, ◌<◌, List, ◌++◌, length, map, get_or, set, Option, Some, None, refl, ap, sym, subst, ◌∙◌, arith, length-append, length-set, below_more, get_or-set_other, get_or-set_same}
use Rattle.std.proofs.Math.ListN.{get_or-eq_default}
use Rattle.std.proofs.lemmas.Bool.{cases_lt}
use Rattle.std.specs.List.{range_with_len}
use Rattle.std.specs.Prelude.{IfSome, All}
use Rattle.std.proofs.lemmas.List.{ext_get_or}
use Rattle.std.proofs.lemmas.List.FromFn.{get_or-map-range_with_len, length-map-range_with_len}
use Rattle.station_base.specs.RowLine.{IsPrintable}
use Rattle.station_base.proofs.Printable.{printable_none}
use Rattle.station_base.specs.declared.row.Row.{Row}
use Rattle.daily_summary.specs.declared.field_sum.FieldSum.{FieldSum}
use Rattle.daily_summary.specs.declared.summary.DaySummary.{DaySummary}
use Rattle.daily_summary.specs.Bounds.{IsSum, IsSumOf, IsInBounds}
use Rattle.daily_summary.specs.Joined.{merged, value_count}
use Rattle.daily_summary.specs.Readings.{readings}
use Rattle.daily_summary.specs.Summary.{field_sum, summary_of}
use Rattle.daily_summary.proofs.JoinedSums.{field-append}
use Rattle.station_base.specs.Limits.{most_rows}
use Rattle.station_base.specs.Fields.{field_count}

-- the sum of a field
pub field_is : (rows : List Row) (field : ℕ) → field < field_count → get_or (summary_of rows).fields field None ≡ field_sum (readings field rows)
unfolding summary_of
field_is rows field within = get_or-map-range_with_len (λ f. field_sum (readings f rows)) 0 field_count field field None within (omega arith)

pub field_of : (s : DaySummary) (rows : List Row) (field : ℕ) → s ≡ summary_of rows → field < field_count → get_or s.fields field None ≡ field_sum (readings field rows)
field_of s rows field is within = ap (λ (t : DaySummary). get_or t.fields field None) is ∙ field_is rows field within

made : List (Option FieldSum) → ℕ → DaySummary
made fields rows = record { fields = fields; rows = rows }

-- a summary is that of rows where each field is theirs
pub summary_is : (s : DaySummary) (rows : List Row) → length s.fields ≡ field_count → s.rows ≡ length rows → ((field : ℕ) → field < field_count → get_or s.fields field None ≡ field_sum (readings field rows)) →
    s ≡ summary_of rows
unfolding summary_of made
summary_is s rows long count each =
    let f : ℕ → Option FieldSum = λ field. field_sum (readings field rows) in
    let size = length-map-range_with_len f 0 field_count in
    let fields : s.fields ≡ map f (range_with_len 0 field_count) =
    ext_get_or None s.fields (map f (range_with_len 0 field_count)) (long ∙ sym size)
    (λ i within. let small : i < field_count = omega (arith, long) in each i small ∙ sym (get_or-map-range_with_len f 0 field_count i i None small (omega arith))) in
    let same : made s.fields s.rows ≡ made (map f (range_with_len 0 field_count)) (length rows) = rw (fields, count) refl in
    same

-- the sums of a summary
pub sum_in : (s : DaySummary) → IsInBounds s → (field : ℕ) → IfSome (get_or s.fields field None) IsSum
sum_in s is field = by (get_or s.fields field None) (is.fields field)
  where
    by : (o : Option FieldSum) → IfSome o (IsSumOf s.rows) → IfSome o IsSum
    by None h = h
    by (Some x) h = h.sum_is

pub count_in : (s : DaySummary) → IsInBounds s → (field : ℕ) → value_count (get_or s.fields field None) ≤ s.rows
count_in s is field = by (get_or s.fields field None) (is.fields field)
  where
    by : (o : Option FieldSum) → IfSome o (IsSumOf s.rows) → value_count o ≤ s.rows
    by None h = omega arith
    by (Some x) h = h.count

pub sums_of : (n : ℕ) (o : Option FieldSum) → IfSome o (IsSumOf n) → IfSome o IsSum × (value_count o ≤ n)
sums_of n None h = (h, omega arith)
sums_of n (Some x) h = (h.sum_is, h.count)

pub wider : (m n : ℕ) (o : Option FieldSum) → m ≤ n → IfSome o (IsSumOf m) → IfSome o (IsSumOf n)
wider m n None le h = h
wider m n (Some x) le h = record { sum_is = h.sum_is; count = omega (arith, h.count) }

-- The first fields have more merged in, and the others are as they were.
pub record IsMerged (field total : ℕ) (old now : List (Option FieldSum)) (more : ℕ → Option FieldSum) : Type 0 where
  pub long : length now ≡ field_count
  pub done : (k : ℕ) → k < field → get_or now k None ≡ merged (get_or old k None) (more k)
  pub bounds : (k : ℕ) → k < field → IfSome (get_or now k None) (IsSumOf total)
  pub left : (k : ℕ) → field ≤ k → get_or now k None ≡ get_or old k None

pub none_merged : (total : ℕ) (old : List (Option FieldSum)) (more : ℕ → Option FieldSum) → length old ≡ field_count → IsMerged 0 total old old more
none_merged total old more long = record { long = long; done = λ k h. absurd (omega arith); bounds = λ k h. absurd (omega arith); left = λ k h. refl }

-- one field more
pub merged_more : (field total : ℕ) (old now : List (Option FieldSum)) (more : ℕ → Option FieldSum) (value : Option FieldSum) → field < field_count → IsMerged field total old now more →
    value ≡ merged (get_or now field None) (more field) → IfSome value (IsSumOf total) → IsMerged (field + 1) total old (set now field value) more
merged_more field total old now more value within is value_is bound =
    let room : field < length now = omega (arith, is.long) in
    let here : get_or (set now field value) field None ≡ value = get_or-set_same now field value None room in
    record {
      long = length-set now field value ∙ is.long;
      done = below_more _ _
          (λ k h. let other : k ≢ field = omega arith in rw get_or-set_other (is.done k h))
          (here ∙ value_is ∙ ap (λ (o : Option FieldSum). merged o (more field)) (is.left field (omega arith)));
      bounds = below_more _ _
          (λ k h. let other : k ≢ field = omega arith in rw get_or-set_other (is.bounds k h))
          (rw here bound);
      left = λ k h. let other : k ≢ field = omega arith in rw get_or-set_other (is.left k (omega arith));
    }

-- all are merged
pub bounds_merged : (total rows : ℕ) (old now : List (Option FieldSum)) (more : ℕ → Option FieldSum) → rows ≡ total → total ≤ most_rows → IsMerged field_count total old now more →
    IsInBounds (record { fields = now; rows = rows })
bounds_merged total rows old now more same few is = record { rows = omega arith; fields = λ k. by k (within k) }
  where
    within : (k : ℕ) → (k < field_count) ⊎ (field_count ≤ k)
    within k = cases_lt k field_count

    by : (k : ℕ) → (k < field_count) ⊎ (field_count ≤ k) → IfSome (get_or now k None) (IsSumOf rows)
    by k (inl h) = subst (λ (n : ℕ). IfSome (get_or now k None) (IsSumOf n)) (sym same) (is.bounds k h)
    by k (inr h) = rw (get_or-eq_default now None {n = k} (omega (arith, is.long))) tt

pub rows_joined : (total rows : ℕ) (old later : DaySummary) (now : List (Option FieldSum)) (before more : List Row) → rows ≡ old.rows + later.rows → old ≡ summary_of before → later ≡ summary_of more →
    IsMerged field_count total old.fields now (λ k. get_or later.fields k None) → record { fields = now; rows = rows } ≡ summary_of (before ++ more)
unfolding summary_of
rows_joined total rows old later now before more count was then is =
    summary_is (record { fields = now; rows = rows }) (before ++ more) is.long
    (let e : old.rows ≡ length before = ap (λ (s : DaySummary). s.rows) was in let f : later.rows ≡ length more = ap (λ (s : DaySummary). s.rows) then in omega (arith, length-append before more))
    (λ field within. is.done field within ∙ ap (λ (o : Option FieldSum). merged o (get_or later.fields field None)) (field_of old before field was within)
    ∙ ap (merged (field_sum (readings field before))) (field_of later more field then within) ∙ sym (field-append field before more))

-- no field has a value
pub none_blank : (count field n : ℕ) → IfSome (get_or (replicate count None) field None) (IsSumOf n)
none_blank count field n = subst (λ (o : Option FieldSum). IfSome o (IsSumOf n)) (sym (blank count field)) tt
  where
    blank : (count field : ℕ) → get_or {A = Option FieldSum} (replicate count None) field None ≡ None
    blank zero field = refl
    blank (suc count) zero = refl
    blank (suc count) (suc field) = blank count field

-- a value of a row that can be printed
pub printable_at : (values : List (Option ℤ)) (i : ℕ) → All IsPrintable values → IsPrintable (get_or values i None)
printable_at values i all = by (cases_lt i (length values))
  where
    by : (i < length values) ⊎ (length values ≤ i) → IsPrintable (get_or values i None)
    by (inl h) = all i None h
    by (inr h) = subst IsPrintable (sym (get_or-eq_default values None {n = i} h)) printable_none
