use Rattle.std.proofs.Common.{rules, ◌≡◌, pos, refl}
use Rattle.jiff_core.specs.Date.{epoch_day}
use Rattle.station_base.proofs.Days.{date_made}
use Rattle.station_base.proofs.calendar.date_of_day.Goals as goal

pub returns : goal.returns
returns c =
    let date = c.unwrap-date.result in
    let counted : epoch_day date ≡ pos c.args.day = search rules in
    date_made c.args.day date _ counted c.requires c.unsigned_abs.ensures.value refl refl
