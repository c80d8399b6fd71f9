use Rattle.std.proofs.Common.{arith, rules, ap, sym, All, pos, negsuc, subst, List, Option, ℤ}
use Rattle.jiff_core.proofs.SignedLemmas.{signed_arith}
use Rattle.station_base.specs.RowLine.{IsPrintable}
use Rattle.station_base.proofs.Printable.{printable_blank, printable_set}
use Rattle.station_base.proofs.FieldSets.{none_missing_of}
use Rattle.value_tests.proofs.station_base_tests.a_row_is_printed_with_its_values.Goals as goal

pub push_line-requires : goal.push_line-requires
push_line-requires g c =
    let P : List (Option ℤ) → Type 0 = All IsPrintable in
    let blank : All IsPrintable c.default-row.result.values = subst P (sym (ap (λ row. row.values) c.default-row.ensures)) printable_blank in (
      search rules,
      (
        search rules,
        (
          printable_set _ 16 (negsuc 3) (omega (arith, signed_arith), omega (arith, signed_arith))
              (printable_set _ 12 (pos 0) (omega (arith, signed_arith), omega (arith, signed_arith))
              (printable_set _ 7 (pos 0) (omega (arith, signed_arith), omega (arith, signed_arith))
              (printable_set _ 4 (pos 0) (omega (arith, signed_arith), omega (arith, signed_arith))
              (printable_set _ 3 (pos 0) (omega (arith, signed_arith), omega (arith, signed_arith))
              (printable_set _ 0 (pos 650) (omega (arith, signed_arith), omega (arith, signed_arith)) blank))))),
          none_missing_of _ _ (ap (λ row. row.limited) c.default-row.ensures),
        ),
      ),
    )
