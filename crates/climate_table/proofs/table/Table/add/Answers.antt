use Rattle.std.proofs.Common.{◌≡◌, true, false, [], sym, ◌∙◌, subst}
use Rattle.weather_reports.specs.Months.{is_of_month}
use Rattle.climate_table.specs.Spans.{IsSpan}
use Rattle.climate_table.specs.declared.table.Table.{Table}
use Rattle.climate_table.proofs.Spans.{begun_month}
use Rattle.climate_table.proofs.table.Table.add.Goals as goal
use Rattle.climate_table.proofs.table.Table.add.Goals.{then-not-has_month_of, else-not-has_month_of}

pub returns-clause-month : goal.returns-clause-month
returns-clause-month c rows begun is read =
    let month = c.args.self.now.month in let day = c.args.day.0 in
    let known = sym (begun_month rows begun month day is) ∙ sym c.has_month_of.ensures in
    elim c.if-not-has_month_of.branch [
      | then-not-has_month_of w ↦ (let other : is_of_month begun day ≡ false = known ∙ w.if-not-has_month_of.true in
          rw other (c.with_day.ensures.span rows [] (subst (λ (t : Table). IsSpan rows [] t.month) (sym w.self-is) tt) read))
      | else-not-has_month_of w ↦ (let same : is_of_month begun day ≡ true = known ∙ w.if-not-has_month_of.false in
          rw same (c.with_day.ensures.span rows begun (subst (λ (t : Table). IsSpan rows begun t.month) (sym w.self-is) is) read))
    ]
