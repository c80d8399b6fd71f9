use Rattle.std.proofs.Common.{refl}
use Rattle.station_base.specs.Stamp.{stamp_of_words}
use Rattle.archive_record.specs.Reading.{reading}
use Rattle.archive_record.specs.Table.{field_places, places}
use Rattle.archive_record.proofs.Unmeasured.{is_record}
use Rattle.archive_record.proofs.record.Rec52Default.default.Goals as goal

pub invariant_of-result : goal.invariant_of-result
unfolding reading stamp_of_words
invariant_of-result c = (is_record _ refl refl, tt)

pub returns : goal.returns
unfolding reading stamp_of_words places field_places
returns c = refl
