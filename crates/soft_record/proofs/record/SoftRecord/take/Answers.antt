use Rattle.std.proofs.Common.{ℕ, ◌≡◌, ◌≢◌, ◌<◌, Some, refl, sym, subst, ◌∙◌, arith}
use Rattle.std.proofs.lemmas.Bool.{eqb-false, eqb-true}
use Rattle.station_base.specs.CivilMinute.{minute_of}
use Rattle.station_base.specs.Period.{IsPeriod}
use Rattle.soft_record.specs.Entry.{interval_end, moment}
use Rattle.soft_record.specs.Given.{IsRowOf}
use Rattle.soft_record.specs.Interval.{interval_of}
use Rattle.soft_record.specs.SoftRow.{IsSoftRow}
use Rattle.soft_record.proofs.EntriesSoFar.{ends_at, first_follows, keeps_none, keeps_some, later_follows, takes_closed, takes_first, takes_joined}
use Rattle.soft_record.proofs.record.SoftRecord.take.Goals as goal

pub returns-in_default-open-clause-takes : goal.returns-in_default-open-clause-takes
returns-in_default-open-clause-takes c = λ period entries rows stands.
    let old = c.args.self.now in
    let e = c.in-Some.entry in
    let told = c.in-Some.ensures.found in
    let at = c.in-Some-interval_end.ensures in
    let ends = ends_at period old.period e _ stands.its_period (at.found.0 refl) at.end in
    let none = keeps_none period entries old.open stands.last c.in_default-open.is in
    let follows = first_follows period entries e none told.1 ends.0 in (
      e,
      (told.0, follows),
      takes_first old _ period entries rows e c.first.result stands c.in_default-open.is refl refl follows (c.first.ensures period ends.1),
    )

pub returns-then-eq-clause-takes : goal.returns-then-eq-clause-takes
returns-then-eq-clause-takes c = λ period entries rows stands.
    let old = c.args.self.now in
    let e = c.in-Some.entry in
    let o = c.in-Some-open.open in
    let told = c.in-Some.ensures.found in
    let at = c.in-Some-interval_end.ensures in
    let ends = ends_at period old.period e _ stands.its_period (at.found.0 refl) at.end in
    let valid : IsPeriod period = subst IsPeriod stands.its_period at.period in
    let is_open = keeps_some period entries old.open o stands.last c.in-Some-open.is in
    let later : moment o.last < moment e = omega (arith, c.if-moment.false, c.moment.ensures, c.moment-2.ensures) in
    let same : minute_of o.end ≡ interval_end period e = sym (eqb-true _ _ (sym c.if-eq.ensures)) ∙ ends.1 in
    let follows = later_follows period (Some o.last) o.last e refl told.1 later ends.0 in (
      e,
      (told.0, later_follows period _ o.last e is_open.last told.1 later ends.0),
      takes_joined old _ period entries rows e o c.with.result stands valid is_open refl refl follows same (c.with.ensures period entries is_open same),
    )

pub returns-clause-takes : goal.returns-clause-takes
returns-clause-takes c = λ period entries rows stands.
    let old = c.args.self.now in
    let e = c.in-Some.entry in
    let o = c.in-Some-open.open in
    let told = c.in-Some.ensures.found in
    let at = c.in-Some-interval_end.ensures in
    let ends = ends_at period old.period e _ stands.its_period (at.found.0 refl) at.end in
    let valid : IsPeriod period = subst IsPeriod stands.its_period at.period in
    let is_open = keeps_some period entries old.open o stands.last c.in-Some-open.is in
    let later : moment o.last < moment e = omega (arith, c.if-moment.false, c.moment.ensures, c.moment-2.ensures) in
    let other : minute_of o.end ≢ minute_of c.in-Some-interval_end.end = λ same. eqb-false _ _ (sym c.if-eq.ensures) (sym same) in
    let apart : minute_of o.end ≢ interval_end period e = λ same. other (same ∙ sym ends.1) in
    let follows = later_follows period (Some o.last) o.last e refl told.1 later ends.0 in
    let P : ℕ → Type 0 = λ (p : ℕ). IsSoftRow p (minute_of o.end) (interval_of period (minute_of o.end) entries) c.row_of.result in
    let row : IsRowOf period entries (minute_of o.end) c.row_of.result = subst P stands.its_period (c.row_of.ensures.row _ is_open.civil is_open.sums) in (
      e,
      (told.0, later_follows period _ o.last e is_open.last told.1 later ends.0),
      takes_closed old _ period entries rows e o c.next.result c.row_of.result stands valid is_open refl refl follows apart
          (c.next.ensures period entries valid stands.good is_open follows ends.1 other) row,
    )
