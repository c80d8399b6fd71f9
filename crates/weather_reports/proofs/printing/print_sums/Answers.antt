use Rattle.std.proofs.Common.{◌≡◌, ◌+◌, ◌++◌, ◌∙◌, [], drop, rules, arith}
use Rattle.std.proofs.lemmas.List.{append-nil, drop_all}
use Rattle.weather_reports.specs.Line.{field_lines_from, sum_line}
use Rattle.weather_reports.specs.Reported.{text_of_lines}
use Rattle.weather_reports.proofs.Behind.{prints_more, prints_part}
use Rattle.weather_reports.proofs.Held.{held_grows, held_shrinks, held_fails}
use Rattle.weather_reports.proofs.Lines.{sums_some}
use Rattle.weather_reports.proofs.printing.print_sums.Goals as goal

pub returns-in-Failed-clause-failed : goal.returns-in-Failed-clause-failed
returns-in-Failed-clause-failed g c e =
    let head = c.args.head.now in let sums = c.args.sums.now in let k = c.loop-index.index in let s = c.in-Some.sum in
    let left = rw (sums_some head sums k c.index-sums-index.result s (omega arith) c.in-Some.is) at c.loop-index.invariant.left in
    let text : c.push_sum_line.new.pending.items ≡ c.loop-index.pending.items ++ sum_line head k s = search rules in
    let ahead = text_of_lines (field_lines_from head (k + 1) (drop (k + 1) sums)) in
    held_fails _ _ _ _ (c.loop-index.pending.items ++ sum_line head k s) ahead
    (held_grows _ _ _ c.loop-index.pending.items (sum_line head k s) ahead left) (rw text at (c.make_room.ensures.failed c.in-Failed.is))

pub returns-in-Failed-clause-wrote : goal.returns-in-Failed-clause-wrote
returns-in-Failed-clause-wrote g c =
    let head = c.args.head.now in let sums = c.args.sums.now in let k = c.loop-index.index in let s = c.in-Some.sum in
    let text : c.push_sum_line.new.pending.items ≡ c.loop-index.pending.items ++ sum_line head k s = search rules in
    let ahead = text_of_lines (field_lines_from head (k + 1) (drop (k + 1) sums)) in
    prints_part g.K.Sink.outlet _ c.loop-index.pending.items (sum_line head k s) ahead [] [] _ _ _
    (rw (sums_some head sums k c.index-sums-index.result s (omega arith) c.in-Some.is) at c.loop-index.invariant.wrote)
    (rw (text, c.in-Failed.is) at c.make_room.ensures.wrote)

pub loop-index-preserved : goal.loop-index-preserved
loop-index-preserved g c =
    let head = c.args.head.now in let sums = c.args.sums.now in let k = c.loop-index.index in let s = c.in-Some.sum in
    let left = rw (sums_some head sums k c.index-sums-index.result s (omega arith) c.in-Some.is) at c.loop-index.invariant.left in
    let text : c.push_sum_line.new.pending.items ≡ c.loop-index.pending.items ++ sum_line head k s = search rules in
    let ahead = text_of_lines (field_lines_from head (k + 1) (drop (k + 1) sums)) in
    record {
      room = c.make_room.ensures.room;
      faults = c.make_room.ensures.still c.in_default-make_room.not-Failed ∙ c.loop-index.invariant.faults;
      left = held_shrinks _ _ _ _ (c.loop-index.pending.items ++ sum_line head k s) ahead _
          (held_grows _ _ _ c.loop-index.pending.items (sum_line head k s) ahead left) (rw text at (c.make_room.ensures.done c.in_default-make_room.is));
      wrote = prints_more g.K.Sink.outlet _ c.loop-index.pending.items (sum_line head k s) ahead _ _ _ _
          (rw (sums_some head sums k c.index-sums-index.result s (omega arith) c.in-Some.is) at c.loop-index.invariant.wrote)
          (rw (text, c.in_default-make_room.is) at c.make_room.ensures.wrote);
    }

pub returns-clause-done : goal.returns-clause-done
returns-clause-done g c e =
    let left = rw (drop_all c.loop-index.index c.args.sums.now (omega (arith, c.type_inv.sums))) at c.loop-index.invariant.left in
    rw (append-nil c.loop-index.pending.items) at left

pub returns-clause-wrote : goal.returns-clause-wrote
returns-clause-wrote g c =
    let left = rw (drop_all c.loop-index.index c.args.sums.now (omega (arith, c.type_inv.sums))) at c.loop-index.invariant.wrote in
    rw (append-nil c.loop-index.pending.items) at left
