use Rattle.std.proofs.Common.{◌≡◌, [], Option, Some, None, IfSome, length, ap, subst, sym, ◌∙◌, arith, ◌*◌}
use Rattle.daily_summary.specs.declared.summary.DaySummary.{DaySummary}
use Rattle.daily_summary.specs.WellFormed.{IsStoredAs}
use Rattle.gated_log.specs.Layout.{slot_size}
use Rattle.weather_book.proofs.DayOf.{summary_rows}
use Rattle.weather_book.proofs.Looks.{one_look}
use Rattle.weather_book.proofs.Stored.{parts_read, stored_as}
use Rattle.weather_book.proofs.slots.read_summary.Goals as goal
use Rattle.daily_summary.specs.Parts.{part_count}

one_summary : (o : Option DaySummary) (s t : DaySummary) → o ≡ Some s → o ≡ Some t → s ≡ t
one_summary o s t one two = cc

no_summary : (o : Option DaySummary) (s t : DaySummary) → o ≡ None → o ≡ Some t → s ≡ t
no_summary o s t one two = absurd cc

pub returns-in-Some-clause-summary : goal.returns-in-Some-clause-summary
returns-in-Some-clause-summary g c slots day t stands closed count x told =
    let long : length c.slots_at.new.buf ≡ part_count * slot_size = omega (arith, c.slots_at.auto.buf) in
    let parts = c.parts_at.ensures ∙ parts_read slots c.args.place day t c.slots_at.new.buf long (c.in-Done.ensures.bytes slots stands x told) closed in
    one_summary c.from_parts.result c.in-Some.summary t c.in-Some.is (c.from_parts.ensures.only t closed.typed (stored_as c.args.rows c.parts_at.result t count closed.bounds (sym parts)))

pub returns-in-None-clause-summary : goal.returns-in-None-clause-summary
returns-in-None-clause-summary g c slots day t stands closed count x told =
    let long : length c.slots_at.new.buf ≡ part_count * slot_size = omega (arith, c.slots_at.auto.buf) in
    let parts = c.parts_at.ensures ∙ parts_read slots c.args.place day t c.slots_at.new.buf long (c.in-Done.ensures.bytes slots stands x told) closed in
    no_summary c.from_parts.result c.new.result t c.in-None.is (c.from_parts.ensures.only t closed.typed (stored_as c.args.rows c.parts_at.result t count closed.bounds (sym parts)))

pub returns-in-Some-clause-cause : goal.returns-in-Some-clause-cause
returns-in-Some-clause-cause g c = record { never_falls = c.slots_at.ensures.cause.never_falls; rose = λ e. absurd cc }

pub returns-in-None-clause-cause : goal.returns-in-None-clause-cause
returns-in-None-clause-cause g c = record { never_falls = c.slots_at.ensures.cause.never_falls; rose = λ e. absurd cc }

pub returns-in-Some-clause-went : goal.returns-in-Some-clause-went
returns-in-Some-clause-went g c len long = one_look g.D.Disk.medium _ _ _ _ _ _ (omega (arith, c.slots_at.auto.buf)) c.in-Done.ensures.went

pub returns-in-None-clause-went : goal.returns-in-None-clause-went
returns-in-None-clause-went g c len long = one_look g.D.Disk.medium _ _ _ _ _ _ (omega (arith, c.slots_at.auto.buf)) c.in-Done.ensures.went

pub returns-in-Some-clause-bounds : goal.returns-in-Some-clause-bounds
returns-in-Some-clause-bounds g c =
    let f = subst (λ (o : Option DaySummary). IfSome o (IsStoredAs c.args.rows c.parts_at.result)) c.in-Some.is c.from_parts.ensures.found in
    (f.bounds, omega (arith, f.count))

pub returns-in-None-clause-bounds : goal.returns-in-None-clause-bounds
returns-in-None-clause-bounds g c =
    (c.new.ensures.bounds, omega (arith, ap (λ (s : DaySummary). s.rows) c.new.ensures.summary, summary_rows []))
