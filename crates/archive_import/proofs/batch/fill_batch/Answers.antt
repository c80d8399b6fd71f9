use Rattle.std.proofs.Common.{◌≡◌, ℕ, List, ◌+◌, ◌++◌, ◌∙◌, ◌∷◌, [], All, drop, length, take, sym, ap, arith}
use Rattle.std.proofs.lemmas.List.{length-drop, length_push}
use Rattle.std.proofs.lemmas.List.Elements.{All-push}
use Rattle.station_base.specs.FieldSet.{AreMissing}
use Rattle.station_base.specs.RowLine.{IsPrintable}
use Rattle.station_base.specs.declared.row.Row.{Row}
use Rattle.row_text.specs.RowsLeft.{rows_left}
use Rattle.archive_import.specs.Texts.{rows_ahead, rows_to_come, rows_told}
use Rattle.archive_import.proofs.Ahead.{next_told}
use Rattle.archive_import.proofs.Fives.{behind_front, front_of_both, one_dropped, one_taken}
use Rattle.archive_import.proofs.batch.fill_batch.Goals as goal

pub loop-batch-init : goal.loop-batch-init
loop-batch-init c = record {
  few = c.requires.few;
  rows = c.requires.rows;
  batch = front_of_both c.args.batch.now.items (rows_ahead c.args.lines.now);
  left = behind_front c.args.batch.now.items (rows_ahead c.args.lines.now);
  printable = c.requires.printable;
  limited = c.requires.limited;
}

pub loop-batch-preserved : goal.loop-batch-preserved
loop-batch-preserved c =
    let i = c.loop-batch.invariant in let all = rows_to_come c.args.batch.now.items c.args.lines.now in
    let k = length c.loop-batch.batch.items in let row = c.in-Ok.row in
    let read = c.in-Ok.is in
    let writable = rw read at c.in-Some.ensures.writable in
    let next = next_told (rows_left c.loop-batch.lines) (rows_left c.next.new.self) c.in-Ok.row i.rows (rw read at c.in-Some.ensures.rows) in
    let rest : drop (length c.loop-batch.batch.items) all ≡ c.in-Ok.row ∷ rows_ahead c.next.new.self = sym i.left ∙ next.1 in
    let items = c.push.ensures.items in
    let size : length c.push.new.self.items ≡ length c.loop-batch.batch.items + 1 = ap length items ∙ length_push c.loop-batch.batch.items row in
    record {
      few = omega (arith, size, c.loop-batch-test.true);
      rows = next.0;
      batch = items ∙ ap (λ (rows : List Row). rows ++ row ∷ []) i.batch ∙ sym (one_taken all (rows_ahead c.next.new.self) k row rest) ∙ ap (λ (n : ℕ). take n all) (sym size);
      left = sym (one_dropped all (rows_ahead c.next.new.self) k row rest) ∙ ap (λ (n : ℕ). drop n all) (sym size);
      printable = rw items (All-push (λ (r : Row). All IsPrintable r.values) c.loop-batch.batch.items row i.printable writable.values);
      limited = rw items (All-push (λ (r : Row). AreMissing r.limited r.values) c.loop-batch.batch.items row i.limited writable.limited);
    }

pub unreachable-requires : goal.unreachable-requires
unreachable-requires c =
    let i = c.loop-batch.invariant in let all = rows_to_come c.args.batch.now.items c.args.lines.now in
    let none = sym i.left ∙ ap rows_told c.in_default.ensures.rows in
    let short = length-drop (length c.loop-batch.batch.items) all in
    absurd (omega (arith, ap length none, short, c.requires.count, c.if-len-count.true, c.len-in-loop-batch.ensures.value))
