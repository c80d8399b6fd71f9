use Rattle.std.proofs.Common.{◌≡◌, ◌+◌, ◌-◌, ◌≤◌, All, drop, take, map, length, min, refl, ap, ◌∙◌, arith, ◌*◌, [], Some}
use Rattle.std.proofs.lemmas.List.{take-take, length-take}
use Rattle.std.proofs.lemmas.List.Elements.{All-take}
use Rattle.disk_model.specs.Disk.{stays_none, stays_joins}
use Rattle.station_base.specs.FieldSet.{AreMissing}
use Rattle.station_base.specs.RowLine.{IsPrintable, row_line}
use Rattle.station_base.specs.declared.row.Row.{Row}
use Rattle.gated_log.specs.Layout.{slot_size}
use Rattle.packed_rows.specs.Days.{day_rest}
use Rattle.packed_rows.specs.Rows.{slot_total}
use Rattle.weather_book.proofs.Looks.{no_look}
use Rattle.weather_book.proofs.Pieces.{more_reads}
use Rattle.weather_book.proofs.BookOnDisk.{to_read_stays}
use Rattle.weather_reports.proofs.Behind.{leaves_behind, part_behind, wrote_more, wrote_nothing}
use Rattle.weather_reports.proofs.Progress.{comes_none}
use Rattle.weather_reports.proofs.MadeReports.{made_early, made_short, made_whole}
use Rattle.weather_reports.proofs.Ends.{ends_early, ends_whole, finishes_behind}
use Rattle.weather_reports.proofs.Pieces.{piece_comes, piece_fails}
use Rattle.weather_reports.proofs.by_row.rows_between.Goals as goal

pub loop-at-init : goal.loop-at-init
loop-at-init g c = record {
  room = omega (arith, ap length c.new-pending.ensures);
  faults = refl;
  disk = omega arith;
  stays = stays_none g.D.Disk.medium c.args.disk.now;
  went = λ rows stands. no_look g.D.Disk.medium (slot_size * (slot_total rows + 1)) c.args.disk.now;
  lines = λ rows stands x told.
      rw c.new-pending.ensures (comes_none (g.K.Sink.outlet.taken c.args.out.now) (map row_line (take (c.args.end - c.args.from) (drop c.args.from rows))));
  wrote = wrote_nothing g.K.Sink.outlet g.D.Disk.medium c.args.book.now c.args.disk.now _ c.args.out.now (λ rows stands x told.
      rw c.new-pending.ensures (comes_none (Some []) (map row_line (take (c.args.end - c.args.from) (drop c.args.from rows)))));
}

pub returns-in-DiskFault : goal.returns-in-DiskFault
returns-in-DiskFault g c = record {
  lines = λ rows stands x told.
      let text : c.deref.result.now ≡ c.loop-at.pending.items = c.deref.ensures.0 in
      ends_early _ _ _ _ _ c.loop-at.pending.items _ (c.loop-at.invariant.lines rows stands x told)
      (record { done = λ no. rw text at (c.finish.ensures.done no); failed = λ w. rw text at (c.finish.ensures.failed w (λ e. absurd cc)); kind = c.finish.ensures.kind });
  by_reads =
      let i = c.loop-at.invariant in
      let text : c.deref.result.now ≡ c.loop-at.pending.items = c.deref.ensures.0 in
      let print = rw text at c.finish.ensures.wrote in
      made_early g.K.Sink.outlet g.D.Disk.medium c.args.book.now _ c.args.disk.now _ c.args.out.now _ _ i.faults
      (stays_joins i.stays c.rows_at.ensures.stays)
      (wrote_more g.K.Sink.outlet g.D.Disk.medium c.args.book.now c.args.disk.now _ _ _ _ _ print.0 c.loop-at.invariant.wrote print.1 (λ rows stands x told w before.
      ends_early _ _ _ _ _ c.loop-at.pending.items _ before (finishes_behind w c.loop-at.pending.items print.0 _ _ print.2 print.3 c.finish.ensures.kind)))
      _ _ i.disk (λ rows stands. more_reads g.D.Disk.medium (i.went rows stands) (c.in-DiskFault.ensures.went rows stands)) c.rows_at.ensures.cause c.in-DiskFault.is
      c.finish.ensures.kind c.finish.ensures.cause c.finish.ensures.still;
}

pub print_rows-requires-clause-printable : goal.print_rows-requires-clause-printable
print_rows-requires-clause-printable g c =
    All-take (λ (r : Row). All IsPrintable r.values) c.min-wanted.result c.deref-in-loop-at.result.now
    (rw c.deref-in-loop-at.ensures.0 c.rows_at.ensures.printable)

pub print_rows-requires-clause-limited : goal.print_rows-requires-clause-limited
print_rows-requires-clause-limited g c =
    All-take (λ (r : Row). AreMissing r.limited r.values) c.min-wanted.result c.deref-in-loop-at.result.now
    (rw c.deref-in-loop-at.ensures.0 c.rows_at.ensures.limited)

pub returns-in-Failed : goal.returns-in-Failed
returns-in-Failed g c = record {
  lines = λ rows stands x told.
      let m = g.D.Disk.medium in let at = c.loop-at.at in let k = c.min-wanted.result in let i = c.loop-at.invariant in
      let read = c.in_default.ensures.rows rows (to_read_stays m c.args.book.now _ _ rows stands i.stays) x (i.stays.reads ∙ told) in
      let most = min 16 (length (day_rest rows at)) in
      let few : k ≤ most = omega (arith, c.min-wanted.ensures, c.len.ensures.value, ap length read, length-take most (drop at rows)) in
      let piece : take k c.deref-in-loop-at.result.now ≡ take k (drop at rows) = ap (take k) (c.deref-in-loop-at.ensures.0 ∙ read) ∙ take-take k most (drop at rows) few in
      piece_fails rows at k (c.args.end - at) _ piece (omega (arith, c.min-wanted.ensures)) _ _ _ _ c.loop-at.pending.items (i.lines rows stands x told)
      (c.print_rows.ensures.failed c.in-Failed.is);
  by_reads =
      let m = g.D.Disk.medium in let at = c.loop-at.at in let k = c.min-wanted.result in let i = c.loop-at.invariant in
      let print = rw c.in-Failed.is at c.print_rows.ensures.wrote in
      made_short g.K.Sink.outlet g.D.Disk.medium c.args.book.now _ c.args.disk.now _ c.args.out.now _ _ i.faults
      (stays_joins i.stays c.rows_at.ensures.stays)
      (wrote_more g.K.Sink.outlet m c.args.book.now c.args.disk.now _ _ _ _ _ print.0 i.wrote print.1 (λ rows stands x told w before.
      let read = c.in_default.ensures.rows rows (to_read_stays m c.args.book.now _ _ rows stands i.stays) x (i.stays.reads ∙ told) in
      let most = min 16 (length (day_rest rows at)) in
      let few : k ≤ most = omega (arith, c.min-wanted.ensures, c.len.ensures.value, ap length read, length-take most (drop at rows)) in
      let piece : take k c.deref-in-loop-at.result.now ≡ take k (drop at rows) = ap (take k) (c.deref-in-loop-at.ensures.0 ∙ read) ∙ take-take k most (drop at rows) few in
      piece_fails rows at k (c.args.end - at) _ piece (omega (arith, c.min-wanted.ensures)) _ _ _ _ c.loop-at.pending.items before (part_behind w print.0 _ print.2)))
      (omega (arith, i.disk, c.rows_at.ensures.cause.never_falls))
      (λ rows stands. more_reads g.D.Disk.medium (i.went rows stands) (c.in_default.ensures.went rows stands)) c.print_rows.ensures.cause c.in-Failed.is;
}

pub loop-at-preserved : goal.loop-at-preserved
loop-at-preserved g c =
    let m = g.D.Disk.medium in let at = c.loop-at.at in let k = c.min-wanted.result in let i = c.loop-at.invariant in
    let left = c.args.end - at in
    let within : k ≤ left = omega (arith, c.min-wanted.ensures) in
    let rest : left - k ≡ c.args.end - (at + k) = omega arith in
    let print = rw c.in_default-print_rows.is at c.print_rows.ensures.wrote in
    record {
      room = c.print_rows.ensures.room;
      faults = c.print_rows.ensures.still c.in_default-print_rows.not-Failed ∙ i.faults;
      disk = omega (arith, i.disk, c.rows_at.ensures.cause.never_falls);
      stays = stays_joins i.stays c.rows_at.ensures.stays;
      went = λ rows stands. more_reads g.D.Disk.medium (i.went rows stands) (c.in_default.ensures.went rows stands);
      lines = λ rows stands x told.
          let read = c.in_default.ensures.rows rows (to_read_stays m c.args.book.now _ _ rows stands i.stays) x (i.stays.reads ∙ told) in
          let most = min 16 (length (day_rest rows at)) in
          let few : k ≤ most = omega (arith, c.min-wanted.ensures, c.len.ensures.value, ap length read, length-take most (drop at rows)) in
          let piece : take k c.deref-in-loop-at.result.now ≡ take k (drop at rows) = ap (take k) (c.deref-in-loop-at.ensures.0 ∙ read) ∙ take-take k most (drop at rows) few in
          piece_comes rows at k left _ piece within _ _ _ _ c.loop-at.pending.items (i.lines rows stands x told) c.args.end _ rest
          (c.print_rows.ensures.done c.in_default-print_rows.is);
      wrote = wrote_more g.K.Sink.outlet m c.args.book.now c.args.disk.now _ _ _ _ _ print.0 i.wrote print.1 (λ rows stands x told w before.
          let read = c.in_default.ensures.rows rows (to_read_stays m c.args.book.now _ _ rows stands i.stays) x (i.stays.reads ∙ told) in
          let most = min 16 (length (day_rest rows at)) in
          let few : k ≤ most = omega (arith, c.min-wanted.ensures, c.len.ensures.value, ap length read, length-take most (drop at rows)) in
          let piece : take k c.deref-in-loop-at.result.now ≡ take k (drop at rows) = ap (take k) (c.deref-in-loop-at.ensures.0 ∙ read) ∙ take-take k most (drop at rows) few in
          piece_comes rows at k left _ piece within _ _ _ _ c.loop-at.pending.items before c.args.end _ rest (leaves_behind w print.0 _ _ print.2));
    }

pub returns : goal.returns
returns g c = record {
  lines = λ rows stands x told.
      let text : c.deref-2.result.now ≡ c.loop-at.pending.items = c.deref-2.ensures.0 in
      let none : c.args.end - c.loop-at.at ≡ 0 = omega (arith, c.loop-at-test.false) in
      let before = rw none at (c.loop-at.invariant.lines rows stands x told) in
      ends_whole _ _ _ _ c.loop-at.pending.items _ before
      (record { done = λ no. rw text at (c.finish-2.ensures.done no); failed = λ w. rw text at (c.finish-2.ensures.failed w (λ e. absurd cc)); kind = c.finish-2.ensures.kind });
  by_reads =
      let i = c.loop-at.invariant in
      let text : c.deref-2.result.now ≡ c.loop-at.pending.items = c.deref-2.ensures.0 in
      let none : c.args.end - c.loop-at.at ≡ 0 = omega (arith, c.loop-at-test.false) in
      let print = rw text at c.finish-2.ensures.wrote in
      made_whole g.K.Sink.outlet g.D.Disk.medium c.args.book.now _ c.args.disk.now _ c.args.out.now _ _ i.faults i.stays
      (wrote_more g.K.Sink.outlet g.D.Disk.medium c.args.book.now c.args.disk.now _ _ _ _ _ print.0 (rw none at c.loop-at.invariant.wrote) print.1 (λ rows stands x told w before.
      ends_whole _ _ _ _ c.loop-at.pending.items _ before (finishes_behind w c.loop-at.pending.items print.0 _ _ print.2 print.3 c.finish-2.ensures.kind)))
      _ i.disk i.went c.finish-2.ensures.kind c.finish-2.ensures.cause c.finish-2.ensures.still;
}
