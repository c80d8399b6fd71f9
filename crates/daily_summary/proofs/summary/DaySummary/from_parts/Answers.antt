use Rattle.std.proofs.Common.{refl, ◌∙◌, sym, ap, subst, Some, None, ◌≡◌, ◌*◌, ◌+◌, ◌-◌, ℕ, arith, Option, take, drop}
use Rattle.std.specs.Prelude.{IsSome}
use Rattle.std.proofs.lemmas.Bool.{false≢true, true≢false}
use Rattle.daily_summary.specs.declared.field_sum.FieldSum.{FieldSum}
use Rattle.daily_summary.specs.WellFormed.{IsEntry}
use Rattle.daily_summary.proofs.PartsLaws.{AreRead, more_read, found_parts, only_parts, rest_there, blank_all, all_blank, field_only, right_parts, blank_front}
use Rattle.daily_summary.proofs.summary.DaySummary.from_parts.Goals as goal
use Rattle.station_base.specs.Fields.{field_count}
use Rattle.daily_summary.specs.Parts.{entry_size}

pub returns-then-rows-gt-MOST_ROWS-clause-well_formed : goal.returns-then-rows-gt-MOST_ROWS-clause-well_formed
returns-then-rows-gt-MOST_ROWS-clause-well_formed c = (λ some. absurd (false≢true some), λ parts. let few = parts.few in absurd (omega arith))

no_entry : (entry : Type 0) (o : Option (Option FieldSum)) → o ≡ None → (IsSome o → entry) × (entry → IsSome o) → entry → ⊥
no_entry entry o none is right = let there : IsSome o = is.1 right in cc

pub returns-in_err-fields-clause-well_formed : goal.returns-in_err-fields-clause-well_formed
returns-in_err-fields-clause-well_formed c =
    let f = c.loop-field.field in
    let sized : entry_size * f + entry_size - entry_size * f ≡ entry_size = omega arith in
    rw c.from_residual.ensures (
      (λ some. absurd (false≢true some)),
      (λ parts. absurd (no_entry (IsEntry c.args.rows (take (entry_size * f + entry_size - entry_size * f) (drop (entry_size * f) c.args.parts.now))) c.entry_in.result c.in_err-fields.was c.entry_in.ensures.well_formed
          (subst (λ (n : ℕ). IsEntry c.args.rows (take n (drop (entry_size * f) c.args.parts.now))) (sym sized) (parts.entries f c.loop-field-test.true)))),
    )

pub returns-in_err-fields-clause-only : goal.returns-in_err-fields-clause-only
returns-in_err-fields-clause-only c s typed stored =
    let f = c.loop-field.field in
    absurd (field_only c.args.rows c.args.parts.now s f (entry_size * f + entry_size - entry_size * f) c.entry_in.result c.loop-field-test.true (omega arith) stored.count stored.bounds typed stored.bytes c.in_err-fields.was c.entry_in.ensures.only)

pub loop-field-preserved : goal.loop-field-preserved
loop-field-preserved c =
    let f = c.loop-field.field in
    more_read f (entry_size * f + entry_size - entry_size * f) c.args.rows c.args.parts.now c.loop-field.fields c.in_ok-fields.field-0 c.loop-field-test.true (omega arith) (c.in_ok-fields.ensures.well_formed.0 refl)
    c.in_ok-fields.ensures.found.0 c.in_ok-fields.ensures.found.1 c.in_ok-fields.ensures.only c.loop-field.invariant

pub returns-then-not-is_blank-clause-well_formed : goal.returns-then-not-is_blank-clause-well_formed
returns-then-not-is_blank-clause-well_formed c = (
  (λ some. absurd (false≢true some)),
  (λ parts. absurd (true≢false (sym (c.is_blank.ensures.1 (blank_front c.args.parts.now c.told-parts parts.past)) ∙ c.if-not-is_blank.true))),
)

pub returns-then-not-is_blank-clause-only : goal.returns-then-not-is_blank-clause-only
returns-then-not-is_blank-clause-only c s typed stored =
    let blank = rest_there s c.args.parts.now c.told-parts typed.long stored.bytes in
    let all = blank_all c.args.parts.now blank in
    absurd (true≢false (sym (c.is_blank.ensures.1 all) ∙ c.if-not-is_blank.true))

pub returns-clause-well_formed : goal.returns-clause-well_formed
returns-clause-well_formed c =
    let e : c.loop-field.field ≡ field_count = omega arith in
    let all = subst (λ (n : ℕ). AreRead n c.args.rows c.args.parts.now c.loop-field.fields) e c.loop-field.invariant in (
      (λ some. right_parts c.args.rows c.args.parts.now c.loop-field.fields c.told-parts c.if-rows-gt-MOST_ROWS.false all
          (all_blank c.args.parts.now c.told-parts (c.is_blank.ensures.0 c.if-not-is_blank.false))),
      (λ parts. refl),
    )

pub returns-clause-found : goal.returns-clause-found
returns-clause-found c =
    let e : c.loop-field.field ≡ field_count = omega arith in
    let all = subst (λ (n : ℕ). AreRead n c.args.rows c.args.parts.now c.loop-field.fields) e c.loop-field.invariant in
    let found = found_parts c.args.rows c.args.parts.now c.loop-field.fields c.told-parts c.if-rows-gt-MOST_ROWS.false all
    (all_blank c.args.parts.now c.told-parts (c.is_blank.ensures.0 c.if-not-is_blank.false)) in
    record { count = refl; bounds = found.0; bytes = found.1 }

pub returns-clause-only : goal.returns-clause-only
returns-clause-only c s typed stored =
    let e : c.loop-field.field ≡ field_count = omega arith in
    let all = subst (λ (n : ℕ). AreRead n c.args.rows c.args.parts.now c.loop-field.fields) e c.loop-field.invariant in
    ap Some (only_parts c.args.rows c.args.parts.now c.loop-field.fields s all stored.count stored.bounds typed stored.bytes)
