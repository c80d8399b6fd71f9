-- The names in the table of places are those of the fields, in the order of their numbers.
use Rattle.std.proofs.Common.{◌≡◌, map, refl}
use Rattle.station_base.specs.Fields.{fields}
use Rattle.archive_record.specs.Table.{field_places}

pub named_in_order : map (λ f. f.name) field_places ≡ map (λ f. f.name) fields
unfolding field_places fields
named_in_order = refl
