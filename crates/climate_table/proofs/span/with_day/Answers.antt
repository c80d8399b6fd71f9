use Rattle.std.proofs.Common.{Some, inl, inr, sym, ap, ◌∙◌, subst}
use Rattle.climate_table.specs.Climate.{IsOfDays}
use Rattle.climate_table.specs.declared.span.Span.{Span}
use Rattle.climate_table.proofs.Spans.{grows_with, span_with}
use Rattle.climate_table.proofs.span.with_day.Goals as goal
use Rattle.climate_table.proofs.span.with_day.Goals.{in-Some, in-None}

pub returns-clause-span : goal.returns-clause-span
returns-clause-span c rows days is read =
    span_with rows days c.args.span.now c.args.day c.match-span.grown c.add.new.self is
    (elim c.match-span.branch [
      | in-Some w ↦ inl (w.in-Some.is ∙ ap (λ (s : Span). Some s) (sym w.grown-is))
      | in-None w ↦ inr (w.in-None.is, ap (λ (s : Span). s.first) w.grown-is, ap (λ (s : Span). s.summary) w.grown-is ∙ w.new.ensures.climate rows)
    ])
    (λ was. c.add.ensures.climate rows days c.args.day.0 was read)

pub returns-clause-grows : goal.returns-clause-grows
returns-clause-grows c =
    grows_with c.args.span.now c.args.day c.match-span.grown c.add.new.self
    (elim c.match-span.branch [
      | in-Some w ↦ inl (w.in-Some.is ∙ ap (λ (s : Span). Some s) (sym w.grown-is))
      | in-None w ↦ inr (w.in-None.is, ap (λ (s : Span). s.first) w.grown-is, subst (λ (s : Span). IsOfDays 0 s.summary) (sym w.grown-is) w.new.ensures.few)
    ]) c.add.ensures.sums c.add.ensures.few
