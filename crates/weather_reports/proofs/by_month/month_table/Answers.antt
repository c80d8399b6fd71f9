use Rattle.std.proofs.Common.{◌≡◌, ◌+◌, ◌∙◌, [], ◌∷◌, ◌++◌, length, drop, refl, sym, ap, arith, ◌*◌, Some}
use Rattle.std.proofs.lemmas.List.{append-nil, drop_all}
use Rattle.std.specs.Prelude.{filter, flat_map}
use Rattle.disk_model.specs.Disk.{stays_none, stays_joins}
use Rattle.gated_log.specs.Layout.{slot_size}
use Rattle.packed_rows.specs.Days.{days_of}
use Rattle.packed_rows.specs.Rows.{slot_total}
use Rattle.weather_book.proofs.Looks.{no_look}
use Rattle.weather_book.proofs.Pieces.{more_reads}
use Rattle.weather_book.proofs.BookOnDisk.{to_read_stays}
use Rattle.weather_reports.specs.Begun.{begun_lines, months_after}
use Rattle.weather_reports.specs.Report.{is_among, month_lines, month_table_lines}
use Rattle.weather_reports.proofs.BegunMonths.{few_begun, few_joined, few_still, few_together, month_apart, month_begins, month_ends, month_joined}
use Rattle.weather_reports.proofs.Behind.{leaves_behind, part_behind, wrote_as, wrote_more, wrote_nothing}
use Rattle.weather_reports.proofs.Progress.{Comes, comes_none, comes_on, comes_fails}
use Rattle.weather_reports.proofs.MadeReports.{made_early, made_short, made_whole}
use Rattle.weather_reports.proofs.Ends.{ends_early, ends_whole, finishes_behind}
use Rattle.weather_reports.proofs.NextDay.{day_passed, day_taken}
use Rattle.weather_reports.proofs.by_month.month_table.Goals as goal

pub loop-n-init : goal.loop-n-init
loop-n-init g c = record {
  room = omega (arith, ap length c.new-pending.ensures);
  faults = refl;
  disk = omega arith;
  stays = stays_none g.D.Disk.medium c.args.disk.now;
  went = λ rows stands. no_look g.D.Disk.medium (slot_size * (slot_total rows + 1)) c.args.disk.now;
  month = tt;
  few = λ rows stands. tt;
  lines = λ rows stands x told.
      ([], tt, rw c.new-pending.ensures (comes_none (g.K.Sink.outlet.taken c.args.out.now) (month_table_lines c.args.first c.args.last rows)));
  wrote = wrote_nothing g.K.Sink.outlet g.D.Disk.medium c.args.book.now c.args.disk.now _ c.args.out.now (λ rows stands x told.
      ([], tt, rw c.new-pending.ensures (comes_none (Some []) (month_table_lines c.args.first c.args.last rows))));
}

pub loop-n-preserved-then-not-is_among : goal.loop-n-preserved-then-not-is_among
loop-n-preserved-then-not-is_among g c =
    let i = c.loop-n.invariant in
    record {
      room = i.room;
      faults = i.faults;
      disk = i.disk;
      stays = i.stays;
      went = i.went;
      month = i.month;
      few = λ rows stands. few_still rows c.loop-n.n c.loop-n.month (i.few rows stands);
      lines = λ rows stands x told.
          let at = i.lines rows stands x told in (
            at.0,
            at.1,
            rw (day_passed (is_among c.args.first c.args.last) (days_of rows) c.loop-n.n c.day_at-day.result.0
                (c.day_at-day.ensures.day rows stands.stands_for) (sym c.is_among.ensures ∙ c.if-not-is_among.true)) at at.2,
          );
      wrote = wrote_as g.K.Sink.outlet g.D.Disk.medium c.args.book.now c.args.disk.now _ _ _ _ i.wrote (λ rows stands x told w at. (
        at.0,
        at.1,
        rw (day_passed (is_among c.args.first c.args.last) (days_of rows) c.loop-n.n c.day_at-day.result.0
            (c.day_at-day.ensures.day rows stands.stands_for) (sym c.is_among.ensures ∙ c.if-not-is_among.true)) at at.2,
      ));
    }

pub returns-in_default : goal.returns-in_default
returns-in_default g c = record {
  lines = λ rows stands x told.
      let text : c.deref.result.now ≡ c.loop-n.pending.items = c.deref.ensures.0 in
      ends_early _ _ _ _ _ c.loop-n.pending.items _ (c.loop-n.invariant.lines rows stands x told).2
      (record { done = λ no. rw text at (c.finish.ensures.done no); failed = λ w. rw text at (c.finish.ensures.failed w (λ e. absurd cc)); kind = c.finish.ensures.kind });
  by_reads =
      let i = c.loop-n.invariant in
      let text : c.deref.result.now ≡ c.loop-n.pending.items = c.deref.ensures.0 in
      let print = rw text at c.finish.ensures.wrote in
      made_early g.K.Sink.outlet g.D.Disk.medium c.args.book.now _ c.args.disk.now _ c.args.out.now _ _ i.faults
      (stays_joins i.stays c.summary_of.ensures.stays)
      (wrote_more g.K.Sink.outlet g.D.Disk.medium c.args.book.now c.args.disk.now _ _ _ _ _ print.0 c.loop-n.invariant.wrote print.1 (λ rows stands x told w at.
      ends_early _ _ _ _ _ c.loop-n.pending.items _ at.2 (finishes_behind w c.loop-n.pending.items print.0 _ _ print.2 print.3 c.finish.ensures.kind)))
      _ _ i.disk (λ rows stands. more_reads g.D.Disk.medium (i.went rows stands) (c.in_default.ensures.went rows stands)) c.summary_of.ensures.cause c.in_default.is
      c.finish.ensures.kind c.finish.ensures.cause c.finish.ensures.still;
}

pub join-requires-clause-few : goal.join-requires-clause-few
join-requires-clause-few g c =
    let i = c.loop-n.invariant in
    few_together c.args.book.now c.loop-n.month c.day_at-day.result c.loop-n.n c.in-Some.summary.rows i.month c.day_at-day.ensures.range
    c.in-Some.ensures.bounds.rows i.few (λ rows stands. c.day_at-day.ensures.day rows stands)

pub loop-n-preserved-then-join : goal.loop-n-preserved-then-join
loop-n-preserved-then-join g c =
    let m = g.D.Disk.medium in let i = c.loop-n.invariant in let day = c.day_at-day.result.0 in let n = c.loop-n.n in
    record {
      room = i.room;
      faults = i.faults;
      disk = omega (arith, i.disk, c.summary_of.ensures.cause.never_falls);
      stays = stays_joins i.stays c.summary_of.ensures.stays;
      went = λ rows stands. more_reads g.D.Disk.medium (i.went rows stands) (c.in-Some.ensures.went rows stands);
      month = c.join.ensures.month;
      few = λ rows stands. few_joined rows n c.in-Some.summary.rows day c.loop-n.month c.join.new.month
          (c.days-n-end.ensures.in_order rows stands) (c.day_at-day.ensures.day rows stands) c.day_at-day.ensures.range
          c.in-Some.ensures.bounds.rows (c.join.ensures.grown c.if-join.true) (i.few rows stands);
      lines = λ rows stands x told.
          let p = is_among c.args.first c.args.last in let ahead = filter p (drop (n + 1) (days_of rows)) in
          let among = sym c.is_among.ensures ∙ c.if-not-is_among.false in
          let at = i.lines rows stands x told in
          let read = c.in-Some.ensures.summary rows (to_read_stays m c.args.book.now _ _ rows stands i.stays) x (i.stays.reads ∙ told) in
          let joined = c.join.ensures.joined c.if-join.true rows at.0 at.1 read in
          let next = day_taken p (days_of rows) n day (c.day_at-day.ensures.day rows stands.stands_for) among in
          let comes = rw next at at.2 in
          (at.0 ++ day ∷ [], joined.1, rw (month_joined at.0 day ahead joined.0) at comes);
      wrote = wrote_as g.K.Sink.outlet m c.args.book.now c.args.disk.now _ _ _ _ i.wrote (λ rows stands x told w at.
          let p = is_among c.args.first c.args.last in let ahead = filter p (drop (n + 1) (days_of rows)) in
          let among = sym c.is_among.ensures ∙ c.if-not-is_among.false in
          let read = c.in-Some.ensures.summary rows (to_read_stays m c.args.book.now _ _ rows stands i.stays) x (i.stays.reads ∙ told) in
          let joined = c.join.ensures.joined c.if-join.true rows at.0 at.1 read in
          let next = day_taken p (days_of rows) n day (c.day_at-day.ensures.day rows stands.stands_for) among in
          let comes = rw next at at.2 in
          (at.0 ++ day ∷ [], joined.1, rw (month_joined at.0 day ahead joined.0) at comes));
    }

pub returns-in-Failed : goal.returns-in-Failed
returns-in-Failed g c = record {
  lines = λ rows stands x told.
      let m = g.D.Disk.medium in let i = c.loop-n.invariant in let day = c.day_at-day.result.0 in let n = c.loop-n.n in
      let p = is_among c.args.first c.args.last in let ahead = filter p (drop (n + 1) (days_of rows)) in
      let among = sym c.is_among.ensures ∙ c.if-not-is_among.false in
      let at = i.lines rows stands x told in
      let apart = c.join.ensures.apart c.if-join.false in
      let next = day_taken p (days_of rows) n day (c.day_at-day.ensures.day rows stands.stands_for) among in
      let comes = rw (month_apart rows at.0 c.loop-n.month day ahead at.1 (apart.1 rows at.0 at.1)) at (rw next at at.2) in
      comes_fails _ _ _ _ (begun_lines c.loop-n.month) (flat_map (month_lines rows) (months_after (day ∷ []) ahead)) c.loop-n.pending.items comes
      (rw apart.0 at (c.print_month.ensures.failed c.in-Failed.is));
  by_reads =
      let m = g.D.Disk.medium in let i = c.loop-n.invariant in let day = c.day_at-day.result.0 in let n = c.loop-n.n in
      let p = is_among c.args.first c.args.last in
      let among = sym c.is_among.ensures ∙ c.if-not-is_among.false in
      let apart = c.join.ensures.apart c.if-join.false in
      let print = rw (c.in-Failed.is, apart.0) at c.print_month.ensures.wrote in
      made_short g.K.Sink.outlet g.D.Disk.medium c.args.book.now _ c.args.disk.now _ c.args.out.now _ _ i.faults
      (stays_joins i.stays c.summary_of.ensures.stays)
      (wrote_more g.K.Sink.outlet m c.args.book.now c.args.disk.now _ _ _ _ _ print.0 i.wrote print.1 (λ rows stands x told w at.
      let ahead = filter p (drop (n + 1) (days_of rows)) in
      let next = day_taken p (days_of rows) n day (c.day_at-day.ensures.day rows stands.stands_for) among in
      let comes = rw (month_apart rows at.0 c.loop-n.month day ahead at.1 (apart.1 rows at.0 at.1)) at (rw next at at.2) in
      comes_fails _ _ _ _ (begun_lines c.loop-n.month) (flat_map (month_lines rows) (months_after (day ∷ []) ahead)) c.loop-n.pending.items comes
      (part_behind w print.0 _ print.2)))
      (omega (arith, i.disk, c.summary_of.ensures.cause.never_falls))
      (λ rows stands. more_reads g.D.Disk.medium (i.went rows stands) (c.in-Some.ensures.went rows stands)) c.print_month.ensures.cause c.in-Failed.is;
}

pub loop-n-preserved : goal.loop-n-preserved
loop-n-preserved g c =
    let i = c.loop-n.invariant in
    record {
      room = c.print_month.ensures.room;
      faults = c.print_month.ensures.still c.in_default-print_month.not-Failed ∙ i.faults;
      disk = omega (arith, i.disk, c.summary_of.ensures.cause.never_falls);
      stays = stays_joins i.stays c.summary_of.ensures.stays;
      went = λ rows stands. more_reads g.D.Disk.medium (i.went rows stands) (c.in-Some.ensures.went rows stands);
      month = record { first = c.day_at-day.ensures.range; summary = c.in-Some.ensures.bounds.bounds };
      few = λ rows stands. few_begun rows c.loop-n.n c.day_at-day.result c.in-Some.summary
          (c.days-n-end.ensures.in_order rows stands) (c.day_at-day.ensures.day rows stands) c.day_at-day.ensures.range c.in-Some.ensures.bounds.rows;
      lines = λ rows stands x told.
          let m = g.D.Disk.medium in let day = c.day_at-day.result.0 in let n = c.loop-n.n in
          let p = is_among c.args.first c.args.last in let ahead = filter p (drop (n + 1) (days_of rows)) in
          let among = sym c.is_among.ensures ∙ c.if-not-is_among.false in
          let at = i.lines rows stands x told in
          let apart = c.join.ensures.apart c.if-join.false in
          let next = day_taken p (days_of rows) n day (c.day_at-day.ensures.day rows stands.stands_for) among in
          let comes = rw (month_apart rows at.0 c.loop-n.month day ahead at.1 (apart.1 rows at.0 at.1)) at (rw next at at.2) in
          let read = c.in-Some.ensures.summary rows (to_read_stays m c.args.book.now _ _ rows stands i.stays) x (i.stays.reads ∙ told) in (
            day ∷ [],
            month_begins rows c.day_at-day.result c.in-Some.summary read,
            comes_on _ _ _ _ (begun_lines c.loop-n.month) (flat_map (month_lines rows) (months_after (day ∷ []) ahead)) c.loop-n.pending.items _ comes
                (rw apart.0 at (c.print_month.ensures.done c.in_default-print_month.is)),
          );
      wrote =
          let m = g.D.Disk.medium in let day = c.day_at-day.result.0 in let n = c.loop-n.n in
          let p = is_among c.args.first c.args.last in
          let among = sym c.is_among.ensures ∙ c.if-not-is_among.false in
          let apart = c.join.ensures.apart c.if-join.false in
          let print = rw (c.in_default-print_month.is, apart.0) at c.print_month.ensures.wrote in
          wrote_more g.K.Sink.outlet m c.args.book.now c.args.disk.now _ _ _ _ _ print.0 i.wrote print.1 (λ rows stands x told w at.
          let ahead = filter p (drop (n + 1) (days_of rows)) in
          let next = day_taken p (days_of rows) n day (c.day_at-day.ensures.day rows stands.stands_for) among in
          let comes = rw (month_apart rows at.0 c.loop-n.month day ahead at.1 (apart.1 rows at.0 at.1)) at (rw next at at.2) in
          let read = c.in-Some.ensures.summary rows (to_read_stays m c.args.book.now _ _ rows stands i.stays) x (i.stays.reads ∙ told) in (
            day ∷ [],
            month_begins rows c.day_at-day.result c.in-Some.summary read,
            comes_on _ _ _ _ (begun_lines c.loop-n.month) (flat_map (month_lines rows) (months_after (day ∷ []) ahead)) c.loop-n.pending.items _ comes
                (leaves_behind w print.0 _ _ print.2),
          ));
    }

pub returns-in-Failed-print_month : goal.returns-in-Failed-print_month
returns-in-Failed-print_month g c = record {
  lines = λ rows stands x told.
      let none = drop_all c.loop-n.n (days_of rows) (omega (arith, c.loop-n-test.false, c.loop-n.auto.n-end, c.days-n-end.ensures.rows rows stands.stands_for)) in
      let at = c.loop-n.invariant.lines rows stands x told in
      let comes = rw (month_ends rows at.0 c.loop-n.month at.1, sym (append-nil (begun_lines c.loop-n.month))) at (rw none at at.2) in
      comes_fails _ _ _ _ (begun_lines c.loop-n.month) [] c.loop-n.pending.items comes (c.print_month-2.ensures.failed c.in-Failed-print_month.is);
  by_reads =
      let i = c.loop-n.invariant in
      let print = rw c.in-Failed-print_month.is at c.print_month-2.ensures.wrote in
      made_short g.K.Sink.outlet g.D.Disk.medium c.args.book.now _ c.args.disk.now _ c.args.out.now _ _ i.faults i.stays
      (wrote_more g.K.Sink.outlet g.D.Disk.medium c.args.book.now c.args.disk.now _ _ _ _ _ print.0 c.loop-n.invariant.wrote print.1 (λ rows stands x told w at.
      let none = drop_all c.loop-n.n (days_of rows) (omega (arith, c.loop-n-test.false, c.loop-n.auto.n-end, c.days-n-end.ensures.rows rows stands.stands_for)) in
      let comes = rw (month_ends rows at.0 c.loop-n.month at.1, sym (append-nil (begun_lines c.loop-n.month))) at (rw none at at.2) in
      comes_fails _ _ _ _ (begun_lines c.loop-n.month) [] c.loop-n.pending.items comes (part_behind w print.0 _ print.2)))
      i.disk i.went c.print_month-2.ensures.cause c.in-Failed-print_month.is;
}

pub returns : goal.returns
returns g c = record {
  lines = λ rows stands x told.
      let text : c.deref-2.result.now ≡ c.print_month-2.new.pending.items = c.deref-2.ensures.0 in
      let none = drop_all c.loop-n.n (days_of rows) (omega (arith, c.loop-n-test.false, c.loop-n.auto.n-end, c.days-n-end.ensures.rows rows stands.stands_for)) in
      let at = c.loop-n.invariant.lines rows stands x told in
      let comes = rw (month_ends rows at.0 c.loop-n.month at.1, sym (append-nil (begun_lines c.loop-n.month))) at (rw none at at.2) in
      ends_whole _ _ _ _ c.print_month-2.new.pending.items _
      (comes_on _ _ _ _ (begun_lines c.loop-n.month) [] c.loop-n.pending.items _ comes (c.print_month-2.ensures.done c.in_default-print_month-2.is))
      (record { done = λ no. rw text at (c.finish-2.ensures.done no); failed = λ w. rw text at (c.finish-2.ensures.failed w (λ e. absurd cc)); kind = c.finish-2.ensures.kind });
  by_reads =
      let i = c.loop-n.invariant in
      let m = g.D.Disk.medium in
      let text : c.deref-2.result.now ≡ c.print_month-2.new.pending.items = c.deref-2.ensures.0 in
      let print = rw c.in_default-print_month-2.is at c.print_month-2.ensures.wrote in
      let last = rw text at c.finish-2.ensures.wrote in
      let printed = wrote_more g.K.Sink.outlet m c.args.book.now c.args.disk.now _
      (λ rows w. Comes (Some []) (Some w) (month_table_lines c.args.first c.args.last rows) [] c.print_month-2.new.pending.items)
      _ _ _ print.0 c.loop-n.invariant.wrote print.1 (λ rows stands x told w at.
      let none = drop_all c.loop-n.n (days_of rows) (omega (arith, c.loop-n-test.false, c.loop-n.auto.n-end, c.days-n-end.ensures.rows rows stands.stands_for)) in
      let comes = rw (month_ends rows at.0 c.loop-n.month at.1, sym (append-nil (begun_lines c.loop-n.month))) at (rw none at at.2) in
      comes_on _ _ _ _ (begun_lines c.loop-n.month) [] c.loop-n.pending.items _ comes (leaves_behind w print.0 _ _ print.2)) in
      made_whole g.K.Sink.outlet g.D.Disk.medium c.args.book.now _ c.args.disk.now _ c.args.out.now _ _ (c.print_month-2.ensures.still c.in_default-print_month-2.not-Failed ∙ i.faults) i.stays
      (wrote_more g.K.Sink.outlet m c.args.book.now c.args.disk.now _ _ _ _ _ last.0 printed last.1 (λ rows stands x told w before.
      ends_whole _ _ _ _ c.print_month-2.new.pending.items _ before (finishes_behind w _ last.0 _ _ last.2 last.3 c.finish-2.ensures.kind)))
      _ i.disk i.went c.finish-2.ensures.kind c.finish-2.ensures.cause c.finish-2.ensures.still;
}
