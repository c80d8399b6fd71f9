use Rattle.std.proofs.Common.{◌≡◌, ◌*◌, ◌<◌, ℕ, length, subst, arith}
use Rattle.station_base.specs.Fields.{field_count}
use Rattle.station_base.proofs.Periods.{period_bound}
use Rattle.std.proofs.lemmas.List.{get_or_default}
use Rattle.daily_summary.proofs.Fields.{printable_at}
use Rattle.daily_summary.proofs.RunningRows.{IsAdded, added_more, row_added, rows_running}
use Rattle.daily_summary.proofs.RunningSums.{blank}
use Rattle.daily_summary.proofs.running.RunningSummary.add.Goals as goal

pub add-requires-clause-printable : goal.add-requires-clause-printable
add-requires-clause-printable c = printable_at c.args.row.now.values c.loop-field.field c.requires.printable

pub loop-field-preserved : goal.loop-field-preserved
loop-field-preserved c =
    let now = c.loop-field.self.fields in let field = c.loop-field.field in let all = c.loop-field.invariant in
    let there : field < length now = omega (arith, all.fields.long) in
    record {
      fields = added_more blank field (60 * c.from-seconds.result) c.args.row.now c.args.self.now.fields now _ (omega arith) all.fields
          (rw (get_or_default now field blank c.index-self-field.result there) c.add.ensures);
      rows = all.rows;
      seconds = all.seconds;
    }

pub returns-clause-summary : goal.returns-clause-summary
returns-clause-summary c rows was =
    let self = c.args.self.now in let more = 60 * c.from-seconds.result in
    let e : c.loop-field.field ≡ field_count = omega arith in
    let all = subst (λ (n : ℕ). IsAdded blank n more c.args.row.now self.fields c.loop-field.self.fields) e c.loop-field.invariant.fields in
    rw (c.loop-field.invariant.rows, c.loop-field.invariant.seconds, c.from.ensures)
    (row_added blank more c.args.row.now self c.loop-field.self.fields rows c.requires.running was all)

pub returns-clause-running : goal.returns-clause-running
returns-clause-running c =
    let self = c.args.self.now in let more = 60 * c.from-seconds.result in
    let e : c.loop-field.field ≡ field_count = omega arith in
    let all = subst (λ (n : ℕ). IsAdded blank n more c.args.row.now self.fields c.loop-field.self.fields) e c.loop-field.invariant.fields in
    let long = period_bound c.minutes.result c.minutes.ensures.period in
    rw (c.loop-field.invariant.rows, c.loop-field.invariant.seconds, c.from.ensures)
    (rows_running blank more c.args.row.now self c.loop-field.self.fields c.requires.running c.requires.fewer (omega (arith, long, c.from-seconds.ensures)) all)
