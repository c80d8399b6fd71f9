use Rattle.std.proofs.Common.{◌≡◌, ◌+◌, ◌-◌, ◌∙◌, ◌++◌, ◌∷◌, [], All, List, true, false, drop, take, length, refl, sym, ap, arith}
use Rattle.std.specs.Prelude.{slice_get}
use Rattle.std.proofs.lemmas.List.{length-drop, length_push}
use Rattle.std.proofs.lemmas.List.Elements.{All-nil, All-push}
use Rattle.disk_model.specs.Disk.{stays_none, stays_joins}
use Rattle.station_base.specs.FieldSet.{AreMissing}
use Rattle.station_base.specs.RowLine.{IsPrintable}
use Rattle.station_base.specs.declared.row.Row.{Row}
use Rattle.packed_rows.specs.Rows.{slot_total}
use Rattle.weather_book.proofs.Looks.{no_look}
use Rattle.weather_book.proofs.Pieces.{more_reads}
use Rattle.batch_adding.specs.Calls.{slots_end}
use Rattle.archive_copy.proofs.Looks.{some_look}
use Rattle.packed_rows.specs.Rising.{stamp_exceeds, last_stamp_after}
use Rattle.packed_rows.proofs.RowLaws.{last_join, rise_join, rise_tells}
use Rattle.weather_book.proofs.BookOnDisk.{to_read_stays}
use Rattle.archive_copy.proofs.NextRows.{breaks_batch, next_row, one_rises, up_to_five}
use Rattle.archive_copy.proofs.batch.next_batch.Goals as goal

pub loop-last-init : goal.loop-last-init
loop-last-init g c =
    let none = c.requires.empty in
    record {
      from_first = omega arith;
      within = omega (arith, c.requires.some, c.min-end.ensures, c.at.ensures, c.len.ensures.len);
      count = omega (arith, ap length none);
      last = rw none refl;
      up = rw none refl;
      printable = rw none (All-nil (λ (r : Row). All IsPrintable r.values));
      limited = rw none (All-nil (λ (r : Row). AreMissing r.limited r.values));
      ahead = c.requires.ahead;
      stays = stays_none g.D.Disk.medium c.args.from.now;
      faults = omega arith;
      went = λ rows stands. no_look g.D.Disk.medium (slots_end (slot_total rows)) c.args.from.now;
      rows = λ rows stands x told. let zero : c.args.reader.now.at - c.args.reader.now.at ≡ 0 = omega arith in rw (none, zero) refl;
    }

pub returns-then-not-exceeds-clause-out_of_order : goal.returns-then-not-exceeds-clause-out_of_order
returns-then-not-exceeds-clause-out_of_order g c e rows stands x told =
    let i = c.loop-last.invariant in let at = c.args.reader.now.at in let row = c.in-Row.row in
    let place : at + (c.loop-last.reader.at - at) ≡ c.loop-last.reader.at = omega (arith, i.from_first) in
    let here = c.in-Row.ensures.row rows (to_read_stays g.D.Disk.medium c.args.theirs.now _ _ rows stands i.stays) x (i.stays.reads ∙ told) in
    breaks_batch c.args.last rows at (c.loop-last.reader.at - at) row (omega (arith, c.loop-last-test.true, c.at-in-loop-last.ensures, c.at.ensures, c.min-end.ensures))
    (ap (slice_get rows) place ∙ here)
    (ap (λ (xs : List Row). stamp_exceeds (last_stamp_after c.args.last xs) row.stamp) (sym (i.rows rows stands x told))
    ∙ rw (sym i.last) (sym c.exceeds.ensures ∙ c.if-not-exceeds.true))

pub loop-last-preserved : goal.loop-last-preserved
loop-last-preserved g c =
    let i = c.loop-last.invariant in let at = c.args.reader.now.at in let row = c.in-Row.row in
    let items = c.push.ensures.items in
    let rises = sym c.exceeds.ensures ∙ c.if-not-exceeds.false in
    record {
      from_first = omega (arith, i.from_first, c.in-Row.ensures.at);
      within = omega (arith, c.in-Row.ensures.at, c.loop-last-test.true, c.at-in-loop-last.ensures);
      count = omega (arith, ap length items, length_push c.loop-last.batch.items row, i.count, i.from_first, c.in-Row.ensures.at);
      last = rw items (sym (last_join c.args.last c.loop-last.batch.items (row ∷ [])));
      up = rw items (rise_join c.args.last c.loop-last.batch.items (row ∷ []) i.up (one_rises c.loop-last.last (last_stamp_after c.args.last c.loop-last.batch.items) row i.last rises));
      printable = rw items (All-push (λ (r : Row). All IsPrintable r.values) c.loop-last.batch.items row i.printable c.in-Row.ensures.printable);
      limited = rw items (All-push (λ (r : Row). AreMissing r.limited r.values) c.loop-last.batch.items row i.limited c.in-Row.ensures.limited);
      ahead = c.next.ensures.ahead;
      stays = stays_joins i.stays c.next.ensures.stays;
      faults = omega (arith, i.faults, c.next.ensures.cause.never_falls);
      went = λ rows stands.
          more_reads g.D.Disk.medium (i.went rows stands)
          (some_look g.D.Disk.medium rows false c.loop-last.from c.next.new.from (omega (arith, c.loop-last-test.true, c.at-in-loop-last.ensures, c.at.ensures, c.min-end.ensures, c.len.ensures.rows rows stands)) (c.in-Row.ensures.went rows stands));
      rows = λ rows stands x told.
          let place : at + (c.loop-last.reader.at - at) ≡ c.loop-last.reader.at = omega (arith, i.from_first) in
          let more : c.next.new.self.at - at ≡ c.loop-last.reader.at - at + 1 = omega (arith, i.from_first, c.in-Row.ensures.at) in
          let here = c.in-Row.ensures.row rows (to_read_stays g.D.Disk.medium c.args.theirs.now _ _ rows stands i.stays) x (i.stays.reads ∙ told) in
          items ∙ ap (λ (xs : List Row). xs ++ row ∷ []) (i.rows rows stands x told)
          ∙ sym (next_row rows at (c.loop-last.reader.at - at) row (ap (slice_get rows) place ∙ here)) ∙ ap (λ n. take n (drop at rows)) (sym more);
    }

pub returns-clause-ready : goal.returns-clause-ready
returns-clause-ready g c e rows stands x told =
    let i = c.loop-last.invariant in
    i.rows rows stands x told
    ∙ up_to_five (drop c.args.reader.now.at rows) (c.loop-last.reader.at - c.args.reader.now.at)
    (omega (arith, c.requires.some, c.loop-last-test.false, c.at-in-loop-last.ensures, c.at.ensures, i.within, c.min-end.ensures, length-drop c.args.reader.now.at rows, c.len.ensures.rows rows stands.stands_for, c.len.ensures.len))

pub returns-clause-rising : goal.returns-clause-rising
returns-clause-rising g c e = rise_tells c.args.last c.loop-last.batch.items c.loop-last.invariant.up

pub returns-in_default-clause-went : goal.returns-in_default-clause-went
returns-in_default-clause-went g c rows stands =
    more_reads g.D.Disk.medium (c.loop-last.invariant.went rows stands)
    (some_look g.D.Disk.medium rows true c.loop-last.from c.next.new.from (omega (arith, c.loop-last-test.true, c.at-in-loop-last.ensures, c.at.ensures, c.min-end.ensures, c.len.ensures.rows rows stands)) (c.in_default.ensures.went rows stands))

pub returns-then-not-exceeds-clause-went : goal.returns-then-not-exceeds-clause-went
returns-then-not-exceeds-clause-went g c rows stands =
    more_reads g.D.Disk.medium (c.loop-last.invariant.went rows stands)
    (some_look g.D.Disk.medium rows false c.loop-last.from c.next.new.from (omega (arith, c.loop-last-test.true, c.at-in-loop-last.ensures, c.at.ensures, c.min-end.ensures, c.len.ensures.rows rows stands)) (c.in-Row.ensures.went rows stands))
