use Rattle.std.proofs.Common.{◌≤◌, Some, pos, arith}
use Rattle.station_base.specs.CivilMinute.{CivilMinute, IsCivilMinute, archive_day_of}
use Rattle.station_base.proofs.Civil.{archive_day_within}
use Rattle.station_base.proofs.Days.{unsigned_between}
use Rattle.packed_rows.specs.Into.{minutes_into}
use Rattle.packed_rows.proofs.tail.Tail.begins_day.Goals as goal

some_minutes : (stamp : CivilMinute) → IsCivilMinute stamp → 1 ≤ minutes_into (Some stamp)
some_minutes stamp civil =
    let day = archive_day_within stamp civil in
    let late : 10956 ≤ archive_day_of stamp = (unsigned_between 10956 57707 (pos (archive_day_of stamp)) day.0 day.1).0 in
    omega (arith, late)

pub returns-in_default-clause-range : goal.returns-in_default-clause-range
returns-in_default-clause-range c = archive_day_within c.args.stamp.now c.is_midnight-is_midnight.ensures.civil

pub returns-in_default-clause-some : goal.returns-in_default-clause-some
returns-in_default-clause-some c = some_minutes c.args.stamp.now c.is_midnight-is_midnight.ensures.civil

pub returns-then-not-is_midnight-2-clause-range : goal.returns-then-not-is_midnight-2-clause-range
returns-then-not-is_midnight-2-clause-range c = archive_day_within c.args.stamp.now c.is_midnight-is_midnight.ensures.civil

pub returns-clause-range : goal.returns-clause-range
returns-clause-range c = archive_day_within c.args.stamp.now c.is_midnight-is_midnight.ensures.civil

pub returns-clause-some : goal.returns-clause-some
returns-clause-some c = some_minutes c.args.stamp.now c.is_midnight-is_midnight.ensures.civil
