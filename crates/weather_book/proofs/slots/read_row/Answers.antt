use Rattle.std.proofs.Common.{All, ap, sym, subst}
use Rattle.station_base.specs.RowLine.{IsPrintable}
use Rattle.station_base.specs.declared.row.Row.{Row}
use Rattle.station_base.proofs.Printable.{printable_blank}
use Rattle.station_base.proofs.FieldSets.{none_missing_of}
use Rattle.weather_book.proofs.slots.read_row.Goals as goal

pub returns-then-not-is_row-clause-printable : goal.returns-then-not-is_row-clause-printable
returns-then-not-is_row-clause-printable c = subst (λ (r : Row). All IsPrintable r.values) (sym c.default.ensures) printable_blank

pub returns-then-not-is_row-clause-limited : goal.returns-then-not-is_row-clause-limited
returns-then-not-is_row-clause-limited c = none_missing_of _ _ (ap (λ (r : Row). r.limited) c.default.ensures)
