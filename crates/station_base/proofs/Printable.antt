-- Values that a row line has room for.
use Rattle.std.proofs.Common.{◌≡◌, ℕ, ℤ, List, set, replicate, All, Option, Some, None, subst}
use Rattle.std.proofs.lemmas.List.Elements.{All-set, All-replicate}
use Rattle.jiff.specs.Words.{IsWithin}
use Rattle.station_base.specs.RowLine.{IsPrintable}
use Rattle.station_base.specs.Fields.{field_count}
use Rattle.station_base.specs.Limits.{farthest_value}

-- a number is printable where it is within the bound
pub printable_some : (z : ℤ) → IsWithin farthest_value z → IsPrintable (Some z)
printable_some z within x is = let same : z ≡ x = cc in let P : ℤ → Type 0 = IsWithin farthest_value in subst P same within

pub printable_none : IsPrintable None
printable_none x is = cc

-- a row without values is printable
pub printable_blank : All IsPrintable (replicate field_count None)
printable_blank = All-replicate IsPrintable field_count None printable_none

-- and stays so with a value within the bound
pub printable_set : (values : List (Option ℤ)) (i : ℕ) (z : ℤ) → IsWithin farthest_value z → All IsPrintable values → All IsPrintable (set values i (Some z))
printable_set values i z within all = All-set IsPrintable values i (Some z) (printable_some z within) all
