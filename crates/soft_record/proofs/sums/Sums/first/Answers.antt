use Rattle.std.proofs.Common.{None, [], refl}
use Rattle.soft_record.specs.Interval.{rising_entry}
use Rattle.soft_record.proofs.sums.Sums.first.Goals as goal

pub returns-clause-sums : goal.returns-clause-sums
returns-clause-sums c = c.with_packet.ensures.sums [] (rising_entry None c.args.entry.now) c.new.ensures.sums refl refl refl
