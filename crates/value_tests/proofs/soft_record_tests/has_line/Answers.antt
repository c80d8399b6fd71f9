use Rattle.std.proofs.Common.{arith, rules}
use Rattle.std.proofs.lemmas.List.Elements.{All-weaker}
use Rattle.jiff_core.proofs.SignedLemmas.{signed_arith}
use Rattle.station_base.specs.RowLine.{IsPrintable, IsValueWithin}
use Rattle.station_base.proofs.FieldSets.{none_missing_of}
use Rattle.value_tests.proofs.soft_record_tests.has_line.Goals as goal

pub push_line-requires : goal.push_line-requires
push_line-requires c = (
  search rules,
  (
    search rules,
    (
      All-weaker (IsValueWithin 65535) IsPrintable (λ value within x is. (omega (arith, signed_arith, within x is), omega (arith, signed_arith, within x is))) _ c.requires.values,
      none_missing_of _ _ c.requires.unlimited,
    ),
  ),
)
