use Rattle.std.proofs.Common.{rules, ap, refl, w32, All, sym, subst}
use Rattle.std.specs.Prelude.{FitsSigned}
use Rattle.std.proofs.lemmas.Int.{to_z-of_z}
use Rattle.station_base.specs.RowLine.{IsPrintable}
use Rattle.station_base.specs.declared.row.Row.{Row}
use Rattle.station_base.proofs.Printable.{printable_blank, printable_set}
use Rattle.station_base.proofs.FieldSets.{none_missing_of}
use Rattle.storage_tests.proofs.dated_rows.measured.Goals as goal

pub returns-clause-printable : goal.returns-clause-printable
returns-clause-printable g c =
    let row = subst (λ (r : Row). All IsPrintable r.values) (sym c.default-row.ensures) printable_blank in
    let fits : FitsSigned w32 c.args.tenths = search rules in
    rw (to_z-of_z w32 c.args.tenths fits) (printable_set c.default-row.result.values 0 c.args.tenths (c.requires c.args.tenths refl) row)

pub returns-clause-limited : goal.returns-clause-limited
returns-clause-limited g c = none_missing_of _ _ (ap (λ (r : Row). r.limited) c.default-row.ensures)
