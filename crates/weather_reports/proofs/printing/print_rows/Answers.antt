use Rattle.std.proofs.Common.{◌≡◌, ◌<◌, ◌+◌, ◌++◌, ◌∙◌, [], All, length, drop, get_or, map, rules, sym, subst, arith}
use Rattle.station_base.specs.FieldSet.{AreMissing}
use Rattle.station_base.specs.RowLine.{IsPrintable, row_line}
use Rattle.station_base.specs.declared.row.Row.{Row}
use Rattle.weather_reports.specs.Reported.{text_of_lines}
use Rattle.weather_reports.proofs.Behind.{prints_more, prints_part}
use Rattle.weather_reports.proofs.Held.{held_grows, held_shrinks, held_fails}
use Rattle.weather_reports.proofs.Lines.{rows_step}
use Rattle.weather_reports.proofs.printing.print_rows.Goals as goal

pub push_line-requires : goal.push_line-requires
push_line-requires g c =
    let within : c.loop-row.row-index < length c.args.rows.now = omega arith in
    let is : c.row-item.result ≡ get_or c.args.rows.now c.loop-row.row-index c.row-item.result = search rules in (
      search rules,
      (
        omega arith,
        (
          subst (λ (r : Row). All IsPrintable r.values) (sym is) (c.requires.printable c.loop-row.row-index c.row-item.result within),
          subst (λ (r : Row). AreMissing r.limited r.values) (sym is) (c.requires.limited c.loop-row.row-index c.row-item.result within),
        ),
      ),
    )

pub returns-in-Failed-clause-failed : goal.returns-in-Failed-clause-failed
returns-in-Failed-clause-failed g c e =
    let rows = c.args.rows.now in let k = c.loop-row.row-index in let row = get_or rows k c.row-item.result in
    let left = rw (rows_step rows k c.row-item.result (omega arith)) at c.loop-row.invariant.left in
    let text : c.push_line.new.text.items ≡ c.loop-row.pending.items ++ row_line row = search rules in
    let ahead = text_of_lines (map row_line (drop (k + 1) rows)) in
    held_fails _ _ _ _ (c.loop-row.pending.items ++ row_line row) ahead
    (held_grows _ _ _ c.loop-row.pending.items (row_line row) ahead left) (rw text at (c.make_room.ensures.failed c.in-Failed.is))

pub returns-in-Failed-clause-wrote : goal.returns-in-Failed-clause-wrote
returns-in-Failed-clause-wrote g c =
    let rows = c.args.rows.now in let k = c.loop-row.row-index in let row = get_or rows k c.row-item.result in
    let text : c.push_line.new.text.items ≡ c.loop-row.pending.items ++ row_line row = search rules in
    let ahead = text_of_lines (map row_line (drop (k + 1) rows)) in
    prints_part g.K.Sink.outlet _ c.loop-row.pending.items (row_line row) ahead [] [] _ _ _
    (rw (rows_step rows k c.row-item.result (omega arith)) at c.loop-row.invariant.wrote)
    (rw (text, c.in-Failed.is) at c.make_room.ensures.wrote)

pub loop-row-preserved : goal.loop-row-preserved
loop-row-preserved g c =
    let rows = c.args.rows.now in let k = c.loop-row.row-index in let row = get_or rows k c.row-item.result in
    let left = rw (rows_step rows k c.row-item.result (omega arith)) at c.loop-row.invariant.left in
    let text : c.push_line.new.text.items ≡ c.loop-row.pending.items ++ row_line row = search rules in
    let ahead = text_of_lines (map row_line (drop (k + 1) rows)) in
    record {
      room = c.make_room.ensures.room;
      faults = c.make_room.ensures.still c.in_default.not-Failed ∙ c.loop-row.invariant.faults;
      left = held_shrinks _ _ _ _ (c.loop-row.pending.items ++ row_line row) ahead _
          (held_grows _ _ _ c.loop-row.pending.items (row_line row) ahead left) (rw text at (c.make_room.ensures.done c.in_default.is));
      wrote = prints_more g.K.Sink.outlet _ c.loop-row.pending.items (row_line row) ahead _ _ _ _
          (rw (rows_step rows k c.row-item.result (omega arith)) at c.loop-row.invariant.wrote)
          (rw (text, c.in_default.is) at c.make_room.ensures.wrote);
    }
