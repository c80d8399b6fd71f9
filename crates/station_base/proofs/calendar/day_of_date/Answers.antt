use Rattle.station_base.proofs.Days.{day_made}
use Rattle.station_base.proofs.calendar.day_of_date.Goals as goal

pub returns : goal.returns
returns c =
    let is =
    day_made c.args.date c.constrain-date.result c.to_unix_epoch_day.result c.unsigned_abs.result c.requires.civil c.requires.from c.requires.to
    c.constrain-date.ensures.year c.constrain-date.ensures.month c.constrain-date.ensures.day
    c.to_unix_epoch_day.ensures.value c.unsigned_abs.ensures.value in
    record { day = is.day; from = is.from; to = is.to }
