use Rattle.std.proofs.Common.{rules}
use Rattle.station_base.proofs.Days.{date_taken, date_spelled, date_only, day_text_of_date}
use Rattle.station_base.proofs.day.DayNumber.text.Goals as goal

pub four_digits-requires : goal.four_digits-requires
four_digits-requires c =
    (date_spelled c.args.self.now.0 _ c.date_of_day-date.result c.requires c.unsigned_abs.ensures.value c.date_of_day-date.ensures).year

pub two_digits-requires : goal.two_digits-requires
two_digits-requires c =
    (date_spelled c.args.self.now.0 _ c.date_of_day-date.result c.requires c.unsigned_abs.ensures.value c.date_of_day-date.ensures).month

pub two_digits-requires-2 : goal.two_digits-requires-2
two_digits-requires-2 c =
    (date_spelled c.args.self.now.0 _ c.date_of_day-date.result c.requires c.unsigned_abs.ensures.value c.date_of_day-date.ensures).day

pub returns-clause-text : goal.returns-clause-text
returns-clause-text c =
    let day = c.args.self.now.0 in
    let date = date_taken day _ c.date_of_day-date.result c.requires c.unsigned_abs.ensures.value c.date_of_day-date.ensures in
    rw (day_text_of_date day c.date_of_day-date.result date) (search rules)

pub returns-clause-date : goal.returns-clause-date
returns-clause-date c date civil counted =
    let day = c.args.self.now.0 in
    let made = date_taken day _ c.date_of_day-date.result c.requires c.unsigned_abs.ensures.value c.date_of_day-date.ensures in
    rw (date_only day date c.requires civil counted, ← made) (search rules)
