-- The fields of a running summary, one after another.
use Rattle.std.proofs.Common.{◌≡◌, ◌≢◌, ℕ, ◌+◌, ◌≤◌, ◌<◌, List, [], ◌∷◌, ◌++◌, length, map, get_or, set, replicate, Option, None, refl, ap, sym, subst, ◌∙◌, arith, length-append, length-set, below_more, get_or-set_other, get_or-set_same, ◌⊎◌, inl, inr}
use Rattle.std.specs.Prelude.{IfSome}
use Rattle.std.proofs.lemmas.List.{ext_get_or, get_or-map, get_or-replicate, get_or_default, length-map, length-replicate}
use Rattle.std.proofs.Math.ListN.{get_or-eq_default}
use Rattle.std.proofs.lemmas.Bool.{cases_lt}
use Rattle.std.proofs.lemmas.Bool.Decides.{nat_tests}
use Rattle.station_base.specs.declared.row.Row.{Row}
use Rattle.station_base.specs.Fields.{field_count}
use Rattle.station_base.specs.Limits.{most_rows}
use Rattle.daily_summary.specs.declared.field_sum.FieldSum.{FieldSum}
use Rattle.daily_summary.specs.declared.running.RunningField.{RunningField}
use Rattle.daily_summary.specs.declared.running.RunningSummary.{RunningSummary}
use Rattle.daily_summary.specs.declared.summary.DaySummary.{DaySummary}
use Rattle.daily_summary.specs.Joined.{merged, sum_of_value}
use Rattle.daily_summary.specs.Parts.{entry_at, field_entry}
use Rattle.daily_summary.specs.Running.{AreRunning, HasOneMore, IsRunning, IsUnmeasured, running_sum, running_summary}
use Rattle.daily_summary.specs.Bounds.{IsInBounds, IsSumOf}
use Rattle.daily_summary.proofs.RunningSums.{none_if}
use Rattle.daily_summary.specs.Summary.{summary_of}
use Rattle.daily_summary.proofs.Fields.{field_of, summary_is}
use Rattle.daily_summary.proofs.JoinedSums.{field_more}

-- a field of the summary that is told
pub told_field : (r : RunningSummary) (field : ℕ) (d : RunningField) → field < length r.fields → get_or (running_summary r).fields field None ≡ running_sum r.rows r.seconds (get_or r.fields field d)
unfolding running_summary
told_field r field d within = get_or-map (running_sum r.rows r.seconds) r.fields field d None within

pub told_long : (r : RunningSummary) → length (running_summary r).fields ≡ length r.fields
unfolding running_summary
told_long r = length-map r.fields (running_sum r.rows r.seconds)

pub told_rows : (r : RunningSummary) → (running_summary r).rows ≡ r.rows
unfolding running_summary
told_rows r = refl

-- The first fields have the row, and the others are as they were.
pub record IsAdded (d : RunningField) (field more : ℕ) (row : Row) (old now : List RunningField) : Type 0 where
  pub long : length now ≡ field_count
  pub done : (k : ℕ) → k < field → HasOneMore more (sum_of_value row (get_or row.values k None)) (get_or old k d) (get_or now k d)
  pub left : (k : ℕ) → field ≤ k → get_or now k d ≡ get_or old k d

pub none_added : (d : RunningField) (more : ℕ) (row : Row) (old : List RunningField) → length old ≡ field_count → IsAdded d 0 more row old old
none_added d more row old long = record { long = long; done = λ k h. absurd (omega arith); left = λ k h. refl }

-- one field more
pub added_more : (d : RunningField) (field more : ℕ) (row : Row) (old now : List RunningField) (f : RunningField) → field < field_count → IsAdded d field more row old now →
    HasOneMore more (sum_of_value row (get_or row.values field None)) (get_or now field d) f → IsAdded d (field + 1) more row old (set now field f)
added_more d field more row old now f within is one =
    let room : field < length now = omega (arith, is.long) in
    let here : get_or (set now field f) field d ≡ f = get_or-set_same now field f d room in
    let value = sum_of_value row (get_or row.values field None) in
    record {
      long = length-set now field f ∙ is.long;
      done = below_more _ _
          (λ k h. let other : k ≢ field = omega arith in rw get_or-set_other (is.done k h))
          (rw here (subst (λ (g : RunningField). HasOneMore more value g f) (is.left field (omega arith)) one));
      left = λ k h. let other : k ≢ field = omega arith in rw get_or-set_other (is.left k (omega arith));
    }

rows_of : (rows : List Row) → (summary_of rows).rows ≡ length rows
unfolding summary_of
rows_of rows = refl

made : List RunningField → ℕ → ℕ → RunningSummary
made fields rows seconds = record { fields = fields; rows = rows; seconds = seconds }

-- all fields have the row
pub row_added : (d : RunningField) (more : ℕ) (row : Row) (old : RunningSummary) (now : List RunningField) (before : List Row) → AreRunning old → running_summary old ≡ summary_of before →
    IsAdded d field_count more row old.fields now →
    running_summary (record { fields = now; rows = old.rows + 1; seconds = old.seconds + more }) ≡ summary_of (before ++ row ∷ [])
unfolding made
row_added d more row old now before running was is =
    let new : RunningSummary = made now (old.rows + 1) (old.seconds + more) in
    summary_is (running_summary new) (before ++ row ∷ []) (told_long new ∙ is.long)
    (let e : old.rows ≡ length before = sym (told_rows old) ∙ ap (λ (s : DaySummary). s.rows) was ∙ rows_of before in let g = told_rows new in omega (arith, length-append before (row ∷ []), g))
    (λ field within. let there : field < length old.fields = omega (arith, running.long) in
    told_field new field d (omega (arith, is.long)) ∙ (is.done field within).sum old.rows old.seconds (running.fields field d there)
    ∙ ap (λ (o : Option FieldSum). merged o (sum_of_value row (get_or row.values field None))) (sym (told_field old field d there) ∙ field_of (running_summary old) before field was within)
    ∙ sym (field_more field before row))

pub rows_running : (d : RunningField) (more : ℕ) (row : Row) (old : RunningSummary) (now : List RunningField) → AreRunning old → old.rows < most_rows → more ≤ 7200 →
    IsAdded d field_count more row old.fields now → AreRunning (record { fields = now; rows = old.rows + 1; seconds = old.seconds + more })
rows_running d more row old now was fewer short is = record {
  rows = omega arith;
  seconds = omega (arith, was.seconds);
  long = is.long;
  fields = λ i e within.
      let below : i < field_count = omega (arith, is.long) in
      let there : i < length old.fields = omega (arith, was.long) in
      subst (IsRunning (old.rows + 1) (old.seconds + more)) (get_or_default now i d e within) ((is.done i below).running old.rows old.seconds (was.fields i d there));
}

-- no row
made_of : (n : ℕ) (f : RunningField) → RunningSummary
made_of n f = record { fields = replicate n f; rows = 0; seconds = 0 }

no_sum : (f : RunningField) → IsUnmeasured 0 0 f → running_sum 0 0 f ≡ None
no_sum f is = none_if 0 0 f (let m = is.missing in grind (arith, nat_tests))

pub none_told : (f : RunningField) → IsUnmeasured 0 0 f → running_summary (record { fields = replicate field_count f; rows = 0; seconds = 0 }) ≡ summary_of []
unfolding made_of
none_told f is =
    let new : RunningSummary = made_of field_count f in
    let long : length (replicate field_count f) ≡ field_count = length-replicate field_count f in
    summary_is (running_summary new) [] (told_long new ∙ long) (told_rows new)
    (λ field within. told_field new field f (omega (arith, long)) ∙ ap (running_sum 0 0) (get_or-replicate field_count field f f within) ∙ no_sum f is)

pub none_running : (f : RunningField) → IsUnmeasured 0 0 f → AreRunning (record { fields = replicate field_count f; rows = 0; seconds = 0 })
none_running f is =
    let long : length (replicate field_count f) ≡ field_count = length-replicate field_count f in
    record {
      rows = omega arith;
      seconds = omega arith;
      long = long;
      fields = λ i d within. rw (get_or-replicate field_count i f d (omega (arith, long))) (record { missing = omega (arith, is.missing); missing_seconds = omega (arith, is.missing_seconds); unmeasured = λ e. is; sum = rw (no_sum f is) tt });
    }

-- The sums of the first fields are told.
pub record IsTold (d : RunningField) (field : ℕ) (r : RunningSummary) (fields : List (Option FieldSum)) : Type 0 where
  pub long : length fields ≡ field_count
  pub done : (k : ℕ) → k < field → get_or fields k None ≡ running_sum r.rows r.seconds (get_or r.fields k d)

pub told_more : (d : RunningField) (field : ℕ) (r : RunningSummary) (fields : List (Option FieldSum)) (sum : Option FieldSum) → field < field_count → IsTold d field r fields → sum ≡ running_sum r.rows r.seconds (get_or r.fields field d) →
    IsTold d (field + 1) r (set fields field sum)
told_more d field r fields sum within is told =
    let room : field < length fields = omega (arith, is.long) in
    let here : get_or (set fields field sum) field None ≡ sum = get_or-set_same fields field sum None room in
    record {
      long = length-set fields field sum ∙ is.long;
      done = below_more _ _ (λ k h. let other : k ≢ field = omega arith in rw get_or-set_other (is.done k h)) (here ∙ told);
    }

told_as : List (Option FieldSum) → ℕ → DaySummary
told_as fields rows = record { fields = fields; rows = rows }

pub all_told : (d : RunningField) (r : RunningSummary) (fields : List (Option FieldSum)) → length r.fields ≡ field_count → IsTold d field_count r fields → record { fields = fields; rows = r.rows } ≡ running_summary r
unfolding running_summary told_as
all_told d r fields long is =
    ap (λ (fs : List (Option FieldSum)). told_as fs r.rows)
    (ext_get_or None fields (map (running_sum r.rows r.seconds) r.fields) (is.long ∙ sym long ∙ sym (length-map r.fields (running_sum r.rows r.seconds)))
    (λ i within. is.done i (omega (arith, is.long)) ∙ sym (get_or-map (running_sum r.rows r.seconds) r.fields i d None (omega (arith, is.long, long)))))

pub bounds_told : (d : RunningField) (r : RunningSummary) → AreRunning r → IsInBounds (running_summary r)
bounds_told d r is = record {
  rows = rw (told_rows r) is.rows;
  fields = λ k. by k (cases_lt k (length r.fields));
}
  where
    by : (k : ℕ) → (k < length r.fields) ⊎ (length r.fields ≤ k) → IfSome (get_or (running_summary r).fields k None) (IsSumOf (running_summary r).rows)
    by k (inl h) = rw (told_field r k d h, told_rows r) ((is.fields k d h).sum)
    by k (inr h) = rw (get_or-eq_default (running_summary r).fields None {n = k} (omega (arith, told_long r))) tt

-- the entry of a field
pub told_entry : (d : RunningField) (field : ℕ) (r : RunningSummary) → field < length r.fields → field_entry (running_sum r.rows r.seconds (get_or r.fields field d)) ≡ entry_at field (running_summary r)
unfolding entry_at
told_entry d field r within = ap field_entry (sym (told_field r field d within))

-- no entry past the last field
pub past_entry : (field : ℕ) (r : RunningSummary) → length r.fields ≤ field → field_entry None ≡ entry_at field (running_summary r)
unfolding entry_at
past_entry field r past = ap field_entry (sym (get_or-eq_default (running_summary r).fields None {n = field} (omega (arith, told_long r))))
