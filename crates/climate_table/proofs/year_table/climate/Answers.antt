use Rattle.std.proofs.Common.{◌≡◌, ◌+◌, ◌∙◌, length, refl, sym, ap, arith, ◌*◌, [], Some}
use Rattle.disk_model.specs.Disk.{stays_none, stays_joins}
use Rattle.gated_log.specs.Layout.{slot_size}
use Rattle.packed_rows.specs.Rows.{slot_total}
use Rattle.weather_book.proofs.Looks.{no_look}
use Rattle.weather_book.proofs.Pieces.{more_reads}
use Rattle.weather_book.proofs.BookOnDisk.{to_read_stays}
use Rattle.weather_reports.proofs.Behind.{leaves_behind, part_behind, wrote_as, wrote_more, wrote_nothing}
use Rattle.weather_reports.proofs.Ends.{ends_early, ends_whole, finishes_behind}
use Rattle.weather_reports.proofs.MadeReports.{made_early, made_short, made_whole}
use Rattle.weather_reports.proofs.Progress.{Comes}
use Rattle.climate_table.specs.Spans.{HasDaysAhead, month_of}
use Rattle.climate_table.specs.Table.{table_lines}
use Rattle.climate_table.proofs.Spans.{IsInYear, all_days_on, days_still, days_to, few_yet, of_month, years_on}
use Rattle.climate_table.proofs.UnderWay.{table_comes, table_end_fails, table_ends, table_fails, table_passes, table_starts}
use Rattle.climate_table.proofs.year_table.climate.Goals as goal

pub loop-n-init : goal.loop-n-init
loop-n-init g c = record {
  room = omega (arith, ap length c.new-pending.ensures);
  faults = refl;
  disk = omega arith;
  stays = stays_none g.D.Disk.medium c.args.disk.now;
  went = λ rows stands. no_look g.D.Disk.medium (slot_size * (slot_total rows + 1)) c.args.disk.now;
  month = rw c.new-table.ensures.month tt;
  whole = rw c.new-table.ensures.year tt;
  month_days = λ rows stands. rw c.new-table.ensures.month tt;
  year_days = λ rows stands. rw c.new-table.ensures.year tt;
  lines = λ rows stands x told. rw c.new-pending.ensures
      (table_starts c.args.year rows c.new-table.result (g.K.Sink.outlet.taken c.args.out.now) c.new-table.ensures.month c.new-table.ensures.year);
  wrote = wrote_nothing g.K.Sink.outlet g.D.Disk.medium c.args.book.now c.args.disk.now _ c.args.out.now (λ rows stands x told. rw c.new-pending.ensures
      (table_starts c.args.year rows c.new-table.result (Some []) c.new-table.ensures.month c.new-table.ensures.year));
}

pub loop-n-preserved-then-not-is_of_year : goal.loop-n-preserved-then-not-is_of_year
loop-n-preserved-then-not-is_of_year g c =
    let i = c.loop-n.invariant in let other = sym c.is_of_year.ensures ∙ c.if-not-is_of_year.true in
    record {
      room = i.room;
      faults = i.faults;
      disk = i.disk;
      stays = i.stays;
      went = i.went;
      month = i.month;
      whole = i.whole;
      month_days = λ rows stands. days_still rows c.loop-n.n c.loop-n.table.month (i.month_days rows stands);
      year_days = λ rows stands. days_still rows c.loop-n.n c.loop-n.table.year (i.year_days rows stands);
      lines = λ rows stands x told.
          table_passes c.args.year rows c.loop-n.n c.loop-n.table _ _ c.loop-n.pending.items (i.lines rows stands x told) c.day_at-day.result.0
          (c.day_at-day.ensures.day rows stands.stands_for) other;
      wrote = wrote_as g.K.Sink.outlet g.D.Disk.medium c.args.book.now c.args.disk.now _ _ _ _ i.wrote (λ rows stands x told w at.
          table_passes c.args.year rows c.loop-n.n c.loop-n.table _ _ c.loop-n.pending.items at c.day_at-day.result.0
          (c.day_at-day.ensures.day rows stands.stands_for) other);
    }

pub returns-in_default : goal.returns-in_default
returns-in_default g c = record {
  lines = λ rows stands x told.
      let text : c.deref.result.now ≡ c.loop-n.pending.items = c.deref.ensures.0 in
      ends_early _ _ _ _ _ c.loop-n.pending.items _ (c.loop-n.invariant.lines rows stands x told).comes
      (record { done = λ no. rw text at (c.finish.ensures.done no); failed = λ w. rw text at (c.finish.ensures.failed w (λ e. absurd cc)); kind = c.finish.ensures.kind });
  by_reads =
      let i = c.loop-n.invariant in
      let text : c.deref.result.now ≡ c.loop-n.pending.items = c.deref.ensures.0 in
      let print = rw text at c.finish.ensures.wrote in
      made_early g.K.Sink.outlet g.D.Disk.medium c.args.book.now _ c.args.disk.now _ c.args.out.now _ _ i.faults
      (stays_joins i.stays c.summary_of.ensures.stays)
      (wrote_more g.K.Sink.outlet g.D.Disk.medium c.args.book.now c.args.disk.now _ _ _ _ _ print.0 i.wrote print.1 (λ rows stands x told w at.
      ends_early _ _ _ _ _ c.loop-n.pending.items _ at.comes (finishes_behind w c.loop-n.pending.items print.0 _ _ print.2 print.3 c.finish.ensures.kind)))
      _ _ i.disk (λ rows stands. more_reads g.D.Disk.medium (i.went rows stands) (c.in_default.ensures.went rows stands)) c.summary_of.ensures.cause c.in_default.is
      c.finish.ensures.kind c.finish.ensures.cause c.finish.ensures.still;
}

pub returns-in-Failed : goal.returns-in-Failed
returns-in-Failed g c =
    let m = g.D.Disk.medium in let i = c.loop-n.invariant in let taken = sym c.is_of_year.ensures ∙ c.if-not-is_of_year.false in
    let print = rw c.in-Failed.is at c.print_day.ensures.wrote in
    record {
      lines = λ rows stands x told.
          let read = c.in-Some.ensures.summary rows (to_read_stays m c.args.book.now _ _ rows stands i.stays) x (i.stays.reads ∙ told) in
          table_fails c.args.year rows c.loop-n.n c.loop-n.table _ _ c.loop-n.pending.items (i.lines rows stands x told) c.day_at-day.result.0
          (c.day_at-day.ensures.day rows stands.stands_for) taken c.in-Some.summary read _ (c.print_day.ensures.failed c.in-Failed.is);
      by_reads = made_short g.K.Sink.outlet m c.args.book.now _ c.args.disk.now _ c.args.out.now _ _ i.faults
          (stays_joins i.stays c.summary_of.ensures.stays)
          (wrote_more g.K.Sink.outlet m c.args.book.now c.args.disk.now _ _ _ _ _ print.0 i.wrote print.1 (λ rows stands x told w at.
          let read = c.in-Some.ensures.summary rows (to_read_stays m c.args.book.now _ _ rows stands i.stays) x (i.stays.reads ∙ told) in
          table_fails c.args.year rows c.loop-n.n c.loop-n.table _ _ c.loop-n.pending.items at c.day_at-day.result.0
          (c.day_at-day.ensures.day rows stands.stands_for) taken c.in-Some.summary read _ (part_behind w print.0 _ print.2)))
          (omega (arith, i.disk, c.summary_of.ensures.cause.never_falls))
          (λ rows stands. more_reads m (i.went rows stands) (c.in-Some.ensures.went rows stands)) c.print_day.ensures.cause c.in-Failed.is;
    }

pub add-requires-clause-month_few : goal.add-requires-clause-month_few
add-requires-clause-month_few g c =
    let i = c.loop-n.invariant in
    few_yet c.args.year c.loop-n.table.month c.day_at-day.result.0 c.day_at-day.ensures.range (sym c.is_of_year.ensures ∙ c.if-not-is_of_year.false) i.month
    (days_to c.args.book.now c.loop-n.table.month c.day_at-day.result c.loop-n.n i.month_days (λ rows stands. c.day_at-day.ensures.day rows stands))

pub add-requires-clause-year_few : goal.add-requires-clause-year_few
add-requires-clause-year_few g c =
    let i = c.loop-n.invariant in
    few_yet c.args.year c.loop-n.table.year c.day_at-day.result.0 c.day_at-day.ensures.range (sym c.is_of_year.ensures ∙ c.if-not-is_of_year.false) i.whole
    (days_to c.args.book.now c.loop-n.table.year c.day_at-day.result c.loop-n.n i.year_days (λ rows stands. c.day_at-day.ensures.day rows stands))

pub loop-n-preserved : goal.loop-n-preserved
loop-n-preserved g c =
    let m = g.D.Disk.medium in let i = c.loop-n.invariant in let day = c.day_at-day.result in let n = c.loop-n.n in
    let month = c.loop-n.table.month in let year = c.loop-n.table.year in let range = c.day_at-day.ensures.range in
    let of_year = sym c.is_of_year.ensures ∙ c.if-not-is_of_year.false in
    let print = rw c.in_default-print_day.is at c.print_day.ensures.wrote in
    record {
      room = c.print_day.ensures.room;
      faults = c.print_day.ensures.still c.in_default-print_day.not-Failed ∙ i.faults;
      disk = omega (arith, i.disk, c.summary_of.ensures.cause.never_falls);
      stays = stays_joins i.stays c.summary_of.ensures.stays;
      went = λ rows stands. more_reads m (i.went rows stands) (c.in-Some.ensures.went rows stands);
      month = years_on c.args.year (month_of month day.0) day c.add.new.self.month range of_year (of_month (IsInYear c.args.year) month day.0 i.month) c.add.ensures.month_grows;
      whole = years_on c.args.year year day c.add.new.self.year range of_year i.whole c.add.ensures.year_grows;
      month_days = λ rows stands. all_days_on rows n day (month_of month day.0) c.add.new.self.month (c.days-n-end.ensures.in_order rows stands)
          (c.day_at-day.ensures.day rows stands) range c.add.ensures.month_grows (of_month (HasDaysAhead rows n) month day.0 (i.month_days rows stands));
      year_days = λ rows stands. all_days_on rows n day year c.add.new.self.year (c.days-n-end.ensures.in_order rows stands)
          (c.day_at-day.ensures.day rows stands) range c.add.ensures.year_grows (i.year_days rows stands);
      lines = λ rows stands x told.
          let at = i.lines rows stands x told in
          let read = c.in-Some.ensures.summary rows (to_read_stays m c.args.book.now _ _ rows stands i.stays) x (i.stays.reads ∙ told) in
          table_comes c.args.year rows n c.loop-n.table _ _ c.loop-n.pending.items at day.0 (c.day_at-day.ensures.day rows stands.stands_for) of_year
          c.in-Some.summary read _ c.add.new.self _ (c.add.ensures.month rows at.begun at.of_month read) (c.add.ensures.year rows at.days at.of_year read)
          (c.print_day.ensures.done c.in_default-print_day.is);
      wrote = wrote_more g.K.Sink.outlet m c.args.book.now c.args.disk.now _ _ _ _ _ print.0 i.wrote print.1 (λ rows stands x told w at.
          let read = c.in-Some.ensures.summary rows (to_read_stays m c.args.book.now _ _ rows stands i.stays) x (i.stays.reads ∙ told) in
          table_comes c.args.year rows n c.loop-n.table _ _ c.loop-n.pending.items at day.0 (c.day_at-day.ensures.day rows stands.stands_for) of_year
          c.in-Some.summary read _ c.add.new.self _ (c.add.ensures.month rows at.begun at.of_month read) (c.add.ensures.year rows at.days at.of_year read)
          (leaves_behind w print.0 _ _ print.2));
    }

pub returns-in-Failed-print_end : goal.returns-in-Failed-print_end
returns-in-Failed-print_end g c =
    let i = c.loop-n.invariant in let print = rw c.in-Failed-print_end.is at c.print_end.ensures.wrote in
    record {
      lines = λ rows stands x told.
          table_end_fails c.args.year rows c.loop-n.n c.loop-n.table _ _ c.loop-n.pending.items (i.lines rows stands x told)
          (omega (arith, c.loop-n-test.false, c.loop-n.auto.n-end, c.days-n-end.ensures.rows rows stands.stands_for)) _
          (c.print_end.ensures.failed c.in-Failed-print_end.is);
      by_reads = made_short g.K.Sink.outlet g.D.Disk.medium c.args.book.now _ c.args.disk.now _ c.args.out.now _ _ i.faults i.stays
          (wrote_more g.K.Sink.outlet g.D.Disk.medium c.args.book.now c.args.disk.now _ _ _ _ _ print.0 i.wrote print.1 (λ rows stands x told w at.
          table_end_fails c.args.year rows c.loop-n.n c.loop-n.table _ _ c.loop-n.pending.items at
          (omega (arith, c.loop-n-test.false, c.loop-n.auto.n-end, c.days-n-end.ensures.rows rows stands.stands_for)) _ (part_behind w print.0 _ print.2)))
          i.disk i.went c.print_end.ensures.cause c.in-Failed-print_end.is;
    }

pub returns : goal.returns
returns g c =
    let m = g.D.Disk.medium in let i = c.loop-n.invariant in
    let text : c.deref-2.result.now ≡ c.print_end.new.pending.items = c.deref-2.ensures.0 in
    let print = rw c.in_default-print_end.is at c.print_end.ensures.wrote in
    let last = rw text at c.finish-2.ensures.wrote in
    record {
      lines = λ rows stands x told.
          ends_whole _ _ _ _ c.print_end.new.pending.items _
          (table_ends c.args.year rows c.loop-n.n c.loop-n.table _ _ c.loop-n.pending.items (i.lines rows stands x told)
          (omega (arith, c.loop-n-test.false, c.loop-n.auto.n-end, c.days-n-end.ensures.rows rows stands.stands_for)) _ _
          (c.print_end.ensures.done c.in_default-print_end.is))
          (record { done = λ no. rw text at (c.finish-2.ensures.done no); failed = λ w. rw text at (c.finish-2.ensures.failed w (λ e. absurd cc)); kind = c.finish-2.ensures.kind });
      by_reads =
          let printed = wrote_more g.K.Sink.outlet m c.args.book.now c.args.disk.now _
          (λ rows w. Comes (Some []) (Some w) (table_lines c.args.year rows) [] c.print_end.new.pending.items)
          _ _ _ print.0 i.wrote print.1 (λ rows stands x told w at.
          table_ends c.args.year rows c.loop-n.n c.loop-n.table _ _ c.loop-n.pending.items at
          (omega (arith, c.loop-n-test.false, c.loop-n.auto.n-end, c.days-n-end.ensures.rows rows stands.stands_for)) _ _ (leaves_behind w print.0 _ _ print.2)) in
          made_whole g.K.Sink.outlet m c.args.book.now _ c.args.disk.now _ c.args.out.now _ _
          (c.print_end.ensures.still c.in_default-print_end.not-Failed ∙ i.faults) i.stays
          (wrote_more g.K.Sink.outlet m c.args.book.now c.args.disk.now _ _ _ _ _ last.0 printed last.1 (λ rows stands x told w before.
          ends_whole _ _ _ _ c.print_end.new.pending.items _ before (finishes_behind w _ last.0 _ _ last.2 last.3 c.finish-2.ensures.kind)))
          _ i.disk i.went c.finish-2.ensures.kind c.finish-2.ensures.cause c.finish-2.ensures.still;
    }
