use Rattle.std.proofs.Common.{List, sym, subst}
use Rattle.station_base.specs.declared.row.Row.{Row}
use Rattle.packed_rows.specs.Adding.{ArePrintable, AreLimited}
use Rattle.storage_tests.proofs.archives.add.Goals as goal

pub add-requires-clause-printable : goal.add-requires-clause-printable
add-requires-clause-printable g c = subst (λ (x : List Row). ArePrintable x) (sym c.as_slice-rows.ensures.value) c.in_ok-rows.ensures.printable

pub add-requires-clause-limited : goal.add-requires-clause-limited
add-requires-clause-limited g c = subst (λ (x : List Row). AreLimited x) (sym c.as_slice-rows.ensures.value) c.in_ok-rows.ensures.limited
