use Rattle.std.proofs.Common.{List, length, refl, sym, ◌∙◌, ap, subst, arith}
use Rattle.std.proofs.lemmas.Grind.{common_steps}
use Rattle.station_base.specs.declared.row.Row.{Row}
use Rattle.packed_rows.specs.Adding.{ArePrintable, AreLimited}
use Rattle.packed_rows.specs.Rising.{RowsRiseAfter}
use Rattle.weather_book.specs.Book.{last_stamp_of}
use Rattle.causes.specs.declared.stored.Stored.TheVariants as stored
use Rattle.dmpaft_pump.proofs.HandedBatches.{one_size}
use Rattle.station_session.proofs.Stamps.{rises, same_count}
use Rattle.station_session.specs.OneBatch.{AddsBatch}
use Rattle.station_session.proofs.BatchAnswers.{taken_as, no_mark, mark_as}
use Rattle.station_session.proofs.StoredBatches.{chain_one}
use Rattle.station_session.proofs.book_keeper.BookKeeperKeeper.keep.Goals as goal

pub add-requires-clause-some : goal.add-requires-clause-some
add-requires-clause-some g c = omega (arith, same_count c.args.self.now.settings.now c.args.records.now c.stored_rows-rows.ensures.read, ap (λ (x : List Row). length x) (c.deref.ensures.0 ∙ c.stored_rows-rows.ensures.rows), c.requires.some)

pub add-requires-clause-rising : goal.add-requires-clause-rising
add-requires-clause-rising g c =
    subst (λ (x : List Row). RowsRiseAfter (last_stamp_of c.args.self.now.book.now) x) (sym (c.deref.ensures.0 ∙ c.stored_rows-rows.ensures.rows)) (rises c.args.self.now.settings.now c.args.records.now (last_stamp_of c.args.self.now.book.now) c.stored_rows-rows.ensures.read c.requires.rising)

pub add-requires-clause-printable : goal.add-requires-clause-printable
add-requires-clause-printable g c = subst (λ (x : List Row). ArePrintable x) (sym c.deref.ensures.0) c.stored_rows-rows.ensures.printable

pub add-requires-clause-limited : goal.add-requires-clause-limited
add-requires-clause-limited g c = subst (λ (x : List Row). AreLimited x) (sym c.deref.ensures.0) c.stored_rows-rows.ensures.limited

pub returns-in-Done : goal.returns-in-Done
returns-in-Done g c =
    let D = g.D.Disk in
    let k = c.args.self.now in
    let a = c.add.ensures in
    let same = c.deref.ensures.0 ∙ c.stored_rows-rows.ensures.rows in
    let count = same_count k.settings.now c.args.records.now c.stored_rows-rows.ensures.read in
    let taken = taken_as D.medium k.settings.now c.args.records.now c.stored_rows-rows.ensures.read k.book.now k.disk.now k.marks.now.items c.add.new.self c.add.new.disk c.note.new.marks.items c.add.result stored.Done c.in-Done.is c.deref.result.now same
    (record { stale = a.stale; full = a.full; cause = a.cause; marked = a.marked; most = a.most; rows_are = a.rows; newest = a.last; moved = a.moved; untouched = a.untouched; went_on = a.went; images = a.images; gate = a.gate; still = a.still; now = a.kept; stands = a.stands })
    (c.note.ensures.items ∙ mark_as k.marks.now.items c.moment.result c.len.result (D.medium.moment c.add.new.disk) _ c.moment.ensures (c.len.ensures.len ∙ omega (arith, c.in-Done.ensures.len, ap (λ (x : List Row). length x) same, count))) in
    record {
      room = grind (arith, common_steps);
      last = taken.newest;
      keeps = record {
        chain = (_, taken, refl);
        same = record { settings = refl; book = refl; disk = refl; marks = refl };
        spare = omega (arith, a.spare, count, ap (λ (x : List Row). length x) same, c.requires.few);
        capacity = c.note.ensures.capacity;
      };
    }

pub returns-in_default : goal.returns-in_default
returns-in_default g c =
    let D = g.D.Disk in
    let k = c.args.self.now in
    let a = c.add.ensures in
    let same = c.deref.ensures.0 ∙ c.stored_rows-rows.ensures.rows in
    let taken = taken_as D.medium k.settings.now c.args.records.now c.stored_rows-rows.ensures.read k.book.now k.disk.now k.marks.now.items c.add.new.self c.add.new.disk k.marks.now.items c.add.result c.add.result refl c.deref.result.now same
    (record { stale = a.stale; full = a.full; cause = a.cause; marked = a.marked; most = a.most; rows_are = a.rows; newest = a.last; moved = a.moved; untouched = a.untouched; went_on = a.went; images = a.images; gate = a.gate; still = a.still; now = a.kept; stands = a.stands })
    (no_mark c.add.result k.marks.now.items _ _ c.in_default.not-Done) in
    record {
      room = grind (arith, common_steps);
      last = taken.newest;
      keeps = record {
        chain = chain_one (AddsBatch D.medium k.settings.now) _ c.add.result c.args.records.now _ taken;
        same = record { settings = refl; book = refl; disk = refl; marks = refl };
        spare = omega (arith, a.spare, same_count k.settings.now c.args.records.now c.stored_rows-rows.ensures.read, ap (λ (x : List Row). length x) same, c.requires.few, one_size c.add.result c.args.records.now);
        capacity = omega arith;
      };
    }
