use Rattle.std.proofs.Common.{◌≡◌, ◌+◌, ◌-◌, ◌*◌, ◌≤◌, ℕ, length, take, refl, ap, subst, ◌∙◌, arith}
use Rattle.std.proofs.Math.Logic.{∥∥₁_elim}
use Rattle.std.proofs.Props.{props}
use Rattle.std.proofs.lemmas.List.{nil_from_length}
use Rattle.gated_log.specs.GatedLog.{slot_count}
use Rattle.gated_log.specs.Stands.{StandsToRead}
use Rattle.daily_summary.specs.Summary.{rows_of_day, summary_of}
use Rattle.packed_rows.specs.Rows.{slot_total}
use Rattle.weather_book.specs.declared.answers.DayAnswer.{DayAnswer}
use Rattle.weather_book.specs.declared.answers.DayAnswer.TheVariants as answers
use Rattle.weather_book.specs.Start.{OnSummary, has_no_rows}
use Rattle.weather_book.proofs.DayOf.{over_kept, rows_between, running_is, summary_rows}
use Rattle.daily_summary.specs.declared.summary.DaySummary.{DaySummary}
use Rattle.packed_rows.specs.Closed.{IsClosedAt}
use Rattle.packed_rows.proofs.DayRows.{day_count, few_of}
use Rattle.weather_book.proofs.KeptLaws.{total_kept}
use Rattle.packed_rows.specs.Rows.{as_read}
use Rattle.std.proofs.Common.{map}
use Rattle.gated_log.specs.Layout.{slot_size}
use Rattle.daily_summary.proofs.RunningRows.{told_rows}
use Rattle.packed_rows.proofs.TailLaws.{into_small}
use Rattle.packed_rows.proofs.Versions.{closed_read}
use Rattle.weather_book.proofs.book.Book.day.Goals as goal

pub returns-then-end-first-clause-none : goal.returns-then-end-first-clause-none
returns-then-end-first-clause-none g c rows stands =
    let day = c.args.day in
    let a = c.rows_before-first.ensures rows stands.keeps in let b = c.rows_to-end.ensures rows stands.keeps in let d = day_count day rows in
    ((λ e. nil_from_length (rows_of_day day.0 rows) (omega (arith, a, b, d, c.if-end-first.true))), (λ e. refl))

pub returns-then-end-self-clause-summary : goal.returns-then-end-self-clause-summary
returns-then-end-self-clause-summary g c rows stands x told =
    let day = c.args.day in let kept = c.args.self.now.kept in let keeps = stands.stands_for.keeps in
    let a = c.rows_before-first.ensures rows keeps in let b = c.rows_to-end.ensures rows keeps in let d = day_count day rows in
    c.summary.ensures.summary ∙ running_is kept.days.items kept.count kept.tail rows day c.rows_to-end.result keeps b c.if-end-self.true (omega (arith, a, b, d, c.if-end-first.false))

pub returns-then-end-self-clause-bounds : goal.returns-then-end-self-clause-bounds
returns-then-end-self-clause-bounds g c =
    let tail = c.args.self.now.kept.tail in
    let rows = ap (λ (s : DaySummary). s.rows) c.summary.ensures.summary ∙ told_rows tail.running in
    record { bounds = c.summary.ensures.bounds; rows = omega (arith, rows, tail.few, into_small tail.last) }

pub returns-then-end-self-clause-none : goal.returns-then-end-self-clause-none
returns-then-end-self-clause-none g c rows stands =
    let day = c.args.day in
    let a = c.rows_before-first.ensures rows stands.keeps in let b = c.rows_to-end.ensures rows stands.keeps in let d = day_count day rows in
    ((λ e. absurd cc), (λ none. absurd (let l = ap length none in omega (arith, a, b, d, l, c.if-end-first.false))))

pub overflow_sub-place : goal.overflow_sub-place
overflow_sub-place g c =
    let kept = c.args.self.now.kept in
    ∥∥₁_elim kept.some (hlevel props) (λ p.
    let o = over_kept kept.days.items kept.count kept.tail p.0 c.args.day c.rows_before-first.result c.rows_to-end.result p.1 (c.rows_before-first.ensures p.0 p.1) (c.rows_to-end.ensures p.0 p.1) c.if-end-first.false c.if-end-self.false in
    let at = c.place.ensures.rows p.0 p.1 in let total = o.total in
    omega (arith, at, total, c.from.ensures))

pub overflow_cast-end : goal.overflow_cast-end
overflow_cast-end g c =
    let kept = c.args.self.now.kept in
    let few : c.rows_to-end.result - c.rows_before-first.result ≤ 1441 = ∥∥₁_elim kept.some (hlevel props) (λ p.
    let size = rows_between p.0 c.args.day c.rows_before-first.result c.rows_to-end.result (c.rows_before-first.ensures p.0 p.1) (c.rows_to-end.ensures p.0 p.1) in
    let most = few_of c.args.day p.0 p.1.ends.rising in
    omega (arith, size, most)) in
    record { fits = omega (arith, few) }

pub read_summary-requires : goal.read_summary-requires
read_summary-requires g c =
    let self = c.args.self.now in let kept = self.kept in
    record {
      within = ∥∥₁_elim kept.some (hlevel props) (λ p.
          let o = over_kept kept.days.items kept.count kept.tail p.0 c.args.day c.rows_before-first.result c.rows_to-end.result p.1 (c.rows_before-first.ensures p.0 p.1) (c.rows_to-end.ensures p.0 p.1) c.if-end-first.false c.if-end-self.false in
          let at = c.place.ensures.rows p.0 p.1 in let total = o.total in
          omega (arith, at, total, c.from.ensures, c.place.ensures.within, self.counted, c.if-end-self.false));
    }

on_summary : (a : DayAnswer) (P Q : DaySummary → Type 0) → ((s : DaySummary) → P s → Q s) → OnSummary a P → OnSummary a Q
on_summary (answers.Summary s) P Q f p = f s p
on_summary answers.NoRows P Q f p = tt
on_summary answers.DiskFault P Q f p = tt

pub returns-clause-summary : goal.returns-clause-summary
returns-clause-summary g c =
    let self = c.args.self.now in let kept = self.kept in let m = g.D.Disk.medium in let day = c.args.day in
    on_summary c.read_summary.result _ _ (λ s h rows stands x told.
    let keeps = stands.stands_for.keeps in
    let before = c.rows_before-first.ensures rows keeps in let to = c.rows_to-end.ensures rows keeps in
    let o = over_kept kept.days.items kept.count kept.tail rows day c.rows_before-first.result c.rows_to-end.result keeps before to c.if-end-first.false c.if-end-self.false in
    let at = c.place.ensures.rows rows keeps in let total = o.total in
    let place : slot_total (take c.rows_to-end.result rows) ≡ c.place.result - c.from.result = omega (arith, at, total, c.from.ensures) in
    let same : slot_total rows ≡ slot_count self.log = omega (arith, self.counted, total_kept kept.days.items kept.count kept.tail rows keeps, kept.days.ok.0) in
    let log = subst (λ (n : ℕ). StandsToRead m n c.args.disk.now stands.slots) same stands.log in
    h stands.slots day.0 (summary_of (rows_of_day day.0 rows)) log
    (subst (λ (n : ℕ). IsClosedAt stands.slots n day.0 (summary_of (rows_of_day day.0 rows))) place (closed_read stands.version stands.slots _ day.0 (summary_of (rows_of_day day.0 rows)) (o.closed (map (as_read stands.version) stands.slots) stands.rows_are)))
    (summary_rows (rows_of_day day.0 rows) ∙ rows_between rows day c.rows_before-first.result c.rows_to-end.result before to) x told) c.read_summary.ensures.summary

pub returns-clause-none : goal.returns-clause-none
returns-clause-none g c rows stands =
    let day = c.args.day in
    let a = c.rows_before-first.ensures rows stands.keeps in let b = c.rows_to-end.ensures rows stands.keeps in let size = rows_between rows day c.rows_before-first.result c.rows_to-end.result a b in
    ((λ e. absurd (let n = ap has_no_rows e in let f = c.read_summary.ensures.some in cc)), (λ none. absurd (let l = ap length none in omega (arith, l, size, c.if-end-first.false))))

pub returns-clause-last : goal.returns-clause-last
returns-clause-last g c rows stands is =
    let kept = c.args.self.now.kept in
    let o = over_kept kept.days.items kept.count kept.tail rows c.args.day c.rows_before-first.result c.rows_to-end.result stands.keeps (c.rows_before-first.ensures rows stands.keeps) (c.rows_to-end.ensures rows stands.keeps) c.if-end-first.false c.if-end-self.false in
    absurd (o.not_last is)

pub returns-clause-went : goal.returns-clause-went
returns-clause-went g c rows stands =
    let self = c.args.self.now in let kept = self.kept in
    let o = over_kept kept.days.items kept.count kept.tail rows c.args.day c.rows_before-first.result c.rows_to-end.result stands.keeps (c.rows_before-first.ensures rows stands.keeps) (c.rows_to-end.ensures rows stands.keeps) c.if-end-first.false c.if-end-self.false in
    let at = c.place.ensures.rows rows stands.keeps in let total = o.total in
    c.read_summary.ensures.went (slot_size * (slot_total rows + 1))
    (omega (arith, at, total, c.from.ensures, c.place.ensures.within, c.if-end-self.false, kept.days.ok.0, total_kept kept.days.items kept.count kept.tail rows stands.keeps))

pub returns-clause-bounds : goal.returns-clause-bounds
returns-clause-bounds g c =
    let kept = c.args.self.now.kept in
    let few : c.rows_to-end.result - c.rows_before-first.result ≤ 1441 = ∥∥₁_elim kept.some (hlevel props) (λ p.
    let size = rows_between p.0 c.args.day c.rows_before-first.result c.rows_to-end.result (c.rows_before-first.ensures p.0 p.1) (c.rows_to-end.ensures p.0 p.1) in
    let most = few_of c.args.day p.0 p.1.ends.rising in
    omega (arith, size, most)) in
    on_summary c.read_summary.result _ _ (λ s h. record { bounds = h.0; rows = omega (arith, h.1, few) }) c.read_summary.ensures.bounds
