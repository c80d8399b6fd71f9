use Rattle.packed_rows.specs.Adding.{ArePrintable, AreLimited}
use Rattle.storage_tests.proofs.dated_rows.rows_of.Given as goal

abbrev pub invariant-loop-time : goal.invariant-loop-time
invariant-loop-time g l = record {
  printable : ArePrintable l.rows.items;
  limited : AreLimited l.rows.items;
}
