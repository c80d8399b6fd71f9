use Rattle.std.proofs.Common.{All, Bool, true, false, List, [], ◌∷◌, ◌++◌, cond, sym, subst}
use Rattle.std.specs.Result.{is_ok}
use Rattle.std.proofs.lemmas.List.Elements.{All-push}
use Rattle.station_base.specs.FieldSet.{AreMissing}
use Rattle.station_base.specs.RowLine.{IsPrintable}
use Rattle.station_base.specs.declared.row.Row.{Row}
use Rattle.storage_tests.proofs.dated_rows.rows_of.Goals as goal

pushed : (P : Row → Type 0) (rows : List Row) (row : Row) (b : Bool) → All P rows → P row → All P (cond b (rows ++ row ∷ []) rows)
pushed P rows row true all one = All-push P rows row all one
pushed P rows row false all one = all

pub loop-time-preserved : goal.loop-time-preserved
loop-time-preserved g c =
    let Printable : Row → Type 0 = λ r. All IsPrintable r.values in
    let Limited : Row → Type 0 = λ r. AreMissing r.limited r.values in
    record {
      printable = subst (All Printable) (sym c.push.ensures.items)
          (pushed Printable c.loop-time.rows.items c.row_of.result (is_ok c.push.result) c.loop-time.invariant.printable c.row_of.ensures.printable);
      limited = subst (All Limited) (sym c.push.ensures.items)
          (pushed Limited c.loop-time.rows.items c.row_of.result (is_ok c.push.result) c.loop-time.invariant.limited c.row_of.ensures.limited);
    }
