use Rattle.station_base.proofs.Minutes.{minute_made, minute_of-made}
use Rattle.station_base.proofs.stamp.Stamp.at_minute.Goals as goal

pub invariant_of-result : goal.invariant_of-result
invariant_of-result c = minute_made c.args.number c.date_of_day-date.result c.date_of_day-date.ensures c.requires.0 c.requires.1

pub returns : goal.returns
returns c = record {
  minute = minute_of-made c.args.number c.date_of_day-date.result c.date_of_day-date.ensures;
  civil = minute_made c.args.number c.date_of_day-date.result c.date_of_day-date.ensures c.requires.0 c.requires.1;
}
