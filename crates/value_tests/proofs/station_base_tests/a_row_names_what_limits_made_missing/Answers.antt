use Rattle.std.proofs.Common.{arith, rules, ap, sym, All, pos, refl, set, subst, List, Option, ℤ, Some}
use Rattle.jiff_core.proofs.SignedLemmas.{signed_arith}
use Rattle.station_base.specs.FieldSet.{AreMissing, are_missing}
use Rattle.station_base.specs.RowLine.{IsPrintable}
use Rattle.station_base.proofs.Printable.{printable_blank, printable_set}
use Rattle.value_tests.proofs.station_base_tests.a_row_names_what_limits_made_missing.Goals as goal

pub push_line-requires : goal.push_line-requires
unfolding are_missing
push_line-requires g c =
    let P : List (Option ℤ) → Type 0 = All IsPrintable in
    let Q : List (Option ℤ) → Type 0 =
    λ values. AreMissing 1 (set (set (set (set (set values 3 (Some (pos 0))) 4 (Some (pos 0))) 7 (Some (pos 0))) 12 (Some (pos 0))) 16 (Some (pos 0))) in
    let blank : All IsPrintable c.default-row.result.values = subst P (sym (ap (λ row. row.values) c.default-row.ensures)) printable_blank in (
      search rules,
      (
        search rules,
        (
          printable_set _ 16 (pos 0) (omega (arith, signed_arith), omega (arith, signed_arith))
              (printable_set _ 12 (pos 0) (omega (arith, signed_arith), omega (arith, signed_arith))
              (printable_set _ 7 (pos 0) (omega (arith, signed_arith), omega (arith, signed_arith))
              (printable_set _ 4 (pos 0) (omega (arith, signed_arith), omega (arith, signed_arith))
              (printable_set _ 3 (pos 0) (omega (arith, signed_arith), omega (arith, signed_arith)) blank)))),
          subst Q (sym (ap (λ row. row.values) c.default-row.ensures)) refl,
        ),
      ),
    )
