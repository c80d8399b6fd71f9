use Rattle.std.proofs.Common.{◌≡◌, drop}
use Rattle.station_base.specs.LastStamp.{last_stamp}
use Rattle.archive_record.specs.Reading.{stamp_in}
use Rattle.host_tests.proofs.noting_keeper.last_of.Given as goal

abbrev pub invariant-loop-row : goal.invariant-loop-row
invariant-loop-row l = last_stamp stamp_in (drop l.row-index l.rows) l.last ≡ last_stamp stamp_in l.rows l.initial.last
