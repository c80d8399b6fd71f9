use Rattle.std.proofs.Common.{◌≡◌, ℤ, Some, unsigned_abs, ap, sym, ◌∙◌}
use Rattle.station_base.specs.declared.day.DayNumber.{DayNumber}
use Rattle.station_base.specs.CivilDate.{date_of}
use Rattle.station_base.proofs.Days.{day_spelled, day_text_of_date, day_back}
use Rattle.station_base.proofs.day.DayNumber.from_text.Goals as goal

pub returns-in_err-spelled_date-clause-only : goal.returns-in_err-spelled_date-clause-only
returns-in_err-spelled_date-clause-only c day range written =
    let some = c.spelled_date.ensures.only (date_of (unsigned_abs day.0)) (day_spelled day.0 c.args.text.now range written) in
    let was = c.in_err-spelled_date.was in
    cc

pub returns-in_err-day_of_stamps-clause-only : goal.returns-in_err-day_of_stamps-clause-only
returns-in_err-day_of_stamps-clause-only c day range written =
    let spelled = sym c.in_ok-spelled_date.was ∙ c.spelled_date.ensures.only (date_of (unsigned_abs day.0)) (day_spelled day.0 c.args.text.now range written) in
    let date : c.in_ok-spelled_date.field-0 ≡ date_of (unsigned_abs day.0) = cc in
    let some = c.day_of_stamps.ensures.only day.0 range date in
    let was = c.in_err-day_of_stamps.was in
    cc

pub returns-clause-found : goal.returns-clause-found
returns-clause-found c =
    let found = c.in_ok-day_of_stamps.ensures.found in
    let z = c.in_ok-day_of_stamps.field-0 in
    rw (day_back z found.0)
    (found.0, c.in_ok-spelled_date.ensures.found.written ∙ sym (day_text_of_date z c.in_ok-spelled_date.field-0 found.1))

day_number : ℤ → DayNumber
day_number z = record { 0 = z }

pub returns-clause-only : goal.returns-clause-only
unfolding day_number
returns-clause-only c day range written =
    let z = c.in_ok-day_of_stamps.field-0 in
    let spelled = sym c.in_ok-spelled_date.was ∙ c.spelled_date.ensures.only (date_of (unsigned_abs day.0)) (day_spelled day.0 c.args.text.now range written) in
    let date : c.in_ok-spelled_date.field-0 ≡ date_of (unsigned_abs day.0) = cc in
    let counted = sym c.in_ok-day_of_stamps.was ∙ c.day_of_stamps.ensures.only day.0 range date in
    let same : z ≡ day.0 = cc in
    ap (λ number. Some (day_number number)) (day_back z c.in_ok-day_of_stamps.ensures.found.0 ∙ same)
