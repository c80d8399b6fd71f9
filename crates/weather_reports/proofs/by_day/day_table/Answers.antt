use Rattle.std.proofs.Common.{◌≡◌, ◌+◌, ◌∙◌, length, refl, sym, ap, arith, ◌*◌, [], Some}
use Rattle.std.proofs.lemmas.List.{drop_all}
use Rattle.disk_model.specs.Disk.{stays_none, stays_joins}
use Rattle.gated_log.specs.Layout.{slot_size}
use Rattle.packed_rows.specs.Days.{days_of}
use Rattle.packed_rows.specs.Rows.{slot_total}
use Rattle.weather_book.proofs.Looks.{no_look}
use Rattle.weather_book.proofs.Pieces.{more_reads}
use Rattle.weather_book.proofs.BookOnDisk.{to_read_stays}
use Rattle.weather_reports.specs.Report.{day_table_lines, is_among}
use Rattle.weather_reports.proofs.Behind.{leaves_behind, part_behind, wrote_as, wrote_more, wrote_nothing}
use Rattle.weather_reports.proofs.Progress.{comes_none}
use Rattle.weather_reports.proofs.MadeReports.{made_early, made_short, made_whole}
use Rattle.weather_reports.proofs.Ends.{ends_early, ends_whole, finishes_behind}
use Rattle.weather_reports.proofs.NextDay.{day_comes, day_fails, day_passed}
use Rattle.weather_reports.proofs.by_day.day_table.Goals as goal

pub loop-n-init : goal.loop-n-init
loop-n-init g c = record {
  room = omega (arith, ap length c.new-pending.ensures);
  faults = refl;
  disk = omega arith;
  stays = stays_none g.D.Disk.medium c.args.disk.now;
  went = λ rows stands. no_look g.D.Disk.medium (slot_size * (slot_total rows + 1)) c.args.disk.now;
  lines = λ rows stands x told.
      rw c.new-pending.ensures (comes_none (g.K.Sink.outlet.taken c.args.out.now) (day_table_lines c.args.first c.args.last rows));
  wrote = wrote_nothing g.K.Sink.outlet g.D.Disk.medium c.args.book.now c.args.disk.now _ c.args.out.now (λ rows stands x told.
      rw c.new-pending.ensures (comes_none (Some []) (day_table_lines c.args.first c.args.last rows)));
}

pub loop-n-preserved-then-not-is_among : goal.loop-n-preserved-then-not-is_among
loop-n-preserved-then-not-is_among g c =
    let i = c.loop-n.invariant in
    record {
      room = i.room;
      faults = i.faults;
      disk = i.disk;
      stays = i.stays;
      went = i.went;
      lines = λ rows stands x told.
          rw (day_passed (is_among c.args.first c.args.last) (days_of rows) c.loop-n.n c.day_at-day.result.0
          (c.day_at-day.ensures.day rows stands.stands_for) (sym c.is_among.ensures ∙ c.if-not-is_among.true)) at (i.lines rows stands x told);
      wrote = wrote_as g.K.Sink.outlet g.D.Disk.medium c.args.book.now c.args.disk.now _ _ _ _ i.wrote (λ rows stands x told w before.
          rw (day_passed (is_among c.args.first c.args.last) (days_of rows) c.loop-n.n c.day_at-day.result.0
          (c.day_at-day.ensures.day rows stands.stands_for) (sym c.is_among.ensures ∙ c.if-not-is_among.true)) at before);
    }

pub returns-in_default : goal.returns-in_default
returns-in_default g c = record {
  lines = λ rows stands x told.
      let text : c.deref.result.now ≡ c.loop-n.pending.items = c.deref.ensures.0 in
      ends_early _ _ _ _ _ c.loop-n.pending.items _ (c.loop-n.invariant.lines rows stands x told)
      (record { done = λ no. rw text at (c.finish.ensures.done no); failed = λ w. rw text at (c.finish.ensures.failed w (λ e. absurd cc)); kind = c.finish.ensures.kind });
  by_reads =
      let i = c.loop-n.invariant in
      let text : c.deref.result.now ≡ c.loop-n.pending.items = c.deref.ensures.0 in
      let print = rw text at c.finish.ensures.wrote in
      made_early g.K.Sink.outlet g.D.Disk.medium c.args.book.now _ c.args.disk.now _ c.args.out.now _ _ i.faults
      (stays_joins i.stays c.summary_of.ensures.stays)
      (wrote_more g.K.Sink.outlet g.D.Disk.medium c.args.book.now c.args.disk.now _ _ _ _ _ print.0 c.loop-n.invariant.wrote print.1 (λ rows stands x told w before.
      ends_early _ _ _ _ _ c.loop-n.pending.items _ before (finishes_behind w c.loop-n.pending.items print.0 _ _ print.2 print.3 c.finish.ensures.kind)))
      _ _ i.disk (λ rows stands. more_reads g.D.Disk.medium (i.went rows stands) (c.in_default.ensures.went rows stands)) c.summary_of.ensures.cause c.in_default.is
      c.finish.ensures.kind c.finish.ensures.cause c.finish.ensures.still;
}

pub returns-in-Failed : goal.returns-in-Failed
returns-in-Failed g c = record {
  lines = λ rows stands x told.
      let m = g.D.Disk.medium in let i = c.loop-n.invariant in
      let among = sym c.is_among.ensures ∙ c.if-not-is_among.false in
      let read = c.in-Some.ensures.summary rows (to_read_stays m c.args.book.now _ _ rows stands i.stays) x (i.stays.reads ∙ told) in
      day_fails rows (is_among c.args.first c.args.last) c.loop-n.n c.day_at-day.result.0 (c.day_at-day.ensures.day rows stands.stands_for) among _ _ c.day_head.ensures read
      _ _ _ _ c.loop-n.pending.items (i.lines rows stands x told) (c.print_sums.ensures.failed c.in-Failed.is);
  by_reads =
      let m = g.D.Disk.medium in let i = c.loop-n.invariant in
      let among = sym c.is_among.ensures ∙ c.if-not-is_among.false in
      let print = rw c.in-Failed.is at c.print_sums.ensures.wrote in
      made_short g.K.Sink.outlet g.D.Disk.medium c.args.book.now _ c.args.disk.now _ c.args.out.now _ _ i.faults
      (stays_joins i.stays c.summary_of.ensures.stays)
      (wrote_more g.K.Sink.outlet m c.args.book.now c.args.disk.now _ _ _ _ _ print.0 i.wrote print.1 (λ rows stands x told w before.
      let read = c.in-Some.ensures.summary rows (to_read_stays m c.args.book.now _ _ rows stands i.stays) x (i.stays.reads ∙ told) in
      day_fails rows (is_among c.args.first c.args.last) c.loop-n.n c.day_at-day.result.0 (c.day_at-day.ensures.day rows stands.stands_for) among _ _ c.day_head.ensures read
      _ _ _ _ c.loop-n.pending.items before (part_behind w print.0 _ print.2)))
      (omega (arith, i.disk, c.summary_of.ensures.cause.never_falls))
      (λ rows stands. more_reads g.D.Disk.medium (i.went rows stands) (c.in-Some.ensures.went rows stands)) c.print_sums.ensures.cause c.in-Failed.is;
}

pub loop-n-preserved : goal.loop-n-preserved
loop-n-preserved g c =
    let m = g.D.Disk.medium in let i = c.loop-n.invariant in
    let among = sym c.is_among.ensures ∙ c.if-not-is_among.false in
    let print = rw c.in_default-print_sums.is at c.print_sums.ensures.wrote in
    record {
      room = c.print_sums.ensures.room;
      faults = c.print_sums.ensures.still c.in_default-print_sums.not-Failed ∙ i.faults;
      disk = omega (arith, i.disk, c.summary_of.ensures.cause.never_falls);
      stays = stays_joins i.stays c.summary_of.ensures.stays;
      went = λ rows stands. more_reads g.D.Disk.medium (i.went rows stands) (c.in-Some.ensures.went rows stands);
      lines = λ rows stands x told.
          let read = c.in-Some.ensures.summary rows (to_read_stays m c.args.book.now _ _ rows stands i.stays) x (i.stays.reads ∙ told) in
          day_comes rows (is_among c.args.first c.args.last) c.loop-n.n c.day_at-day.result.0 (c.day_at-day.ensures.day rows stands.stands_for) among _ _ c.day_head.ensures read
          _ _ _ _ c.loop-n.pending.items (i.lines rows stands x told) _ (c.print_sums.ensures.done c.in_default-print_sums.is);
      wrote = wrote_more g.K.Sink.outlet m c.args.book.now c.args.disk.now _ _ _ _ _ print.0 i.wrote print.1 (λ rows stands x told w before.
          let read = c.in-Some.ensures.summary rows (to_read_stays m c.args.book.now _ _ rows stands i.stays) x (i.stays.reads ∙ told) in
          day_comes rows (is_among c.args.first c.args.last) c.loop-n.n c.day_at-day.result.0 (c.day_at-day.ensures.day rows stands.stands_for) among _ _ c.day_head.ensures read
          _ _ _ _ c.loop-n.pending.items before _ (leaves_behind w print.0 _ _ print.2));
    }

pub returns : goal.returns
returns g c = record {
  lines = λ rows stands x told.
      let text : c.deref-2.result.now ≡ c.loop-n.pending.items = c.deref-2.ensures.0 in
      let none = drop_all c.loop-n.n (days_of rows) (omega (arith, c.loop-n-test.false, c.loop-n.auto.n-end, c.days-n-end.ensures.rows rows stands.stands_for)) in
      let before = rw none at (c.loop-n.invariant.lines rows stands x told) in
      ends_whole _ _ _ _ c.loop-n.pending.items _ before
      (record { done = λ no. rw text at (c.finish-2.ensures.done no); failed = λ w. rw text at (c.finish-2.ensures.failed w (λ e. absurd cc)); kind = c.finish-2.ensures.kind });
  by_reads =
      let i = c.loop-n.invariant in
      let text : c.deref-2.result.now ≡ c.loop-n.pending.items = c.deref-2.ensures.0 in
      let print = rw text at c.finish-2.ensures.wrote in
      made_whole g.K.Sink.outlet g.D.Disk.medium c.args.book.now _ c.args.disk.now _ c.args.out.now _ _ i.faults i.stays
      (wrote_more g.K.Sink.outlet g.D.Disk.medium c.args.book.now c.args.disk.now _ _ _ _ _ print.0 c.loop-n.invariant.wrote print.1 (λ rows stands x told w comes.
      let none = drop_all c.loop-n.n (days_of rows) (omega (arith, c.loop-n-test.false, c.loop-n.auto.n-end, c.days-n-end.ensures.rows rows stands.stands_for)) in
      let before = rw none at comes in
      ends_whole _ _ _ _ c.loop-n.pending.items _ before (finishes_behind w c.loop-n.pending.items print.0 _ _ print.2 print.3 c.finish-2.ensures.kind)))
      _ i.disk i.went c.finish-2.ensures.kind c.finish-2.ensures.cause c.finish-2.ensures.still;
}
