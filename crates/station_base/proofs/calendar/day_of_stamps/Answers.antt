use Rattle.std.proofs.Common.{◌≡◌, to_z, of_z, w32, ap, Some, ◌∙◌, arith}
use Rattle.std.proofs.lemmas.Bool.{false≢true}
use Rattle.jiff_core.proofs.SignedLemmas.{signed_arith}
use Rattle.station_base.specs.DayText.{IsDayNumber}
use Rattle.station_base.proofs.Days.{HasFewDigits, count_back, date_can, counted_found, counted_only}
use Rattle.station_base.proofs.calendar.day_of_stamps.Goals as goal
use Rattle.station_base.proofs.calendar.day_of_stamps.Goals.{then-day-lt-FIRST_ARCHIVE_DAY-via-then-day-lt-FIRST_ARCHIVE_DAY, then-day-lt-FIRST_ARCHIVE_DAY-via-else-day-lt-FIRST_ARCHIVE_DAY+then-day-gt-LAST_ARCHIVE_DAY}

pub returns-in_default-clause-only : goal.returns-in_default-clause-only
returns-in_default-clause-only c day range is =
    let few : HasFewDigits c.args.date = record { year = c.requires.year; month = c.requires.month; day = c.requires.day } in
    let ok = c.new.ensures.succeeds.1 (date_can day c.args.date few range is) in
    let no = rw c.in_default.is at ok in
    absurd (false≢true no)

pub returns-then-day-lt-FIRST_ARCHIVE_DAY-clause-only : goal.returns-then-day-lt-FIRST_ARCHIVE_DAY-clause-only
returns-then-day-lt-FIRST_ARCHIVE_DAY-clause-only c day range is =
    let few : HasFewDigits c.args.date = record { year = c.requires.year; month = c.requires.month; day = c.requires.day } in
    let z = c.to_unix_epoch_day-day.result in
    let back : to_z w32 (of_z w32 z) ≡ z = count_back z c.to_unix_epoch_day-day.ensures.bound in
    let same : z ≡ day = counted_only c.args.date c.in-Ok.date z day few c.in-Ok.ensures.value c.to_unix_epoch_day-day.ensures.value range is in
    elim c.then-day-lt-FIRST_ARCHIVE_DAY.branch [
      | then-day-lt-FIRST_ARCHIVE_DAY-via-then-day-lt-FIRST_ARCHIVE_DAY w ↦ (let low = rw (back ∙ same) at w.if-day-lt-FIRST_ARCHIVE_DAY.true in absurd (omega (arith, signed_arith, range.0)))
      | then-day-lt-FIRST_ARCHIVE_DAY-via-else-day-lt-FIRST_ARCHIVE_DAY+then-day-gt-LAST_ARCHIVE_DAY w ↦ (let high = rw (back ∙ same) at w.if-day-gt-LAST_ARCHIVE_DAY.true in absurd (omega (arith, signed_arith, range.1)))
    ]

pub returns-clause-found : goal.returns-clause-found
returns-clause-found c =
    let few : HasFewDigits c.args.date = record { year = c.requires.year; month = c.requires.month; day = c.requires.day } in
    let z = c.to_unix_epoch_day-day.result in
    let back : to_z w32 (of_z w32 z) ≡ z = count_back z c.to_unix_epoch_day-day.ensures.bound in
    let from = rw back at c.if-day-lt-FIRST_ARCHIVE_DAY.false in
    let to = rw back at c.if-day-gt-LAST_ARCHIVE_DAY.false in
    let range : IsDayNumber z = (omega (arith, signed_arith), omega (arith, signed_arith)) in
    rw back (range, counted_found c.args.date c.in-Ok.date z few c.in-Ok.ensures.value c.to_unix_epoch_day-day.ensures.value range)

pub returns-clause-only : goal.returns-clause-only
returns-clause-only c day range is =
    let few : HasFewDigits c.args.date = record { year = c.requires.year; month = c.requires.month; day = c.requires.day } in
    let z = c.to_unix_epoch_day-day.result in
    ap Some (count_back z c.to_unix_epoch_day-day.ensures.bound ∙ counted_only c.args.date c.in-Ok.date z day few c.in-Ok.ensures.value c.to_unix_epoch_day-day.ensures.value range is)
