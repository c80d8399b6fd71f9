use Rattle.std.proofs.Common.{◌≡◌, ◌+◌, ◌-◌, ◌*◌, ◌≤◌, ◌∙◌, ◌++◌, List, drop, take, length, min, refl, sym, ap, subst, arith, append-nil, append_assoc}
use Rattle.std.proofs.lemmas.List.{take_all, length-drop}
use Rattle.disk_model.specs.Disk.{stays_none, stays_joins}
use Rattle.station_base.specs.declared.row.Row.{Row}
use Rattle.weather_book.specs.Book.{BookStandsFor, len_of}
use Rattle.packed_rows.specs.Rows.{slot_total}
use Rattle.weather_book.proofs.Looks.{no_look}
use Rattle.weather_book.proofs.Pieces.{more_reads}
use Rattle.batch_adding.specs.Calls.{rows_of_batches, slots_end}
use Rattle.batch_adding.proofs.Batches.{adds_none, adds_one, batch_less, ends_so, fails_one, front_of}
use Rattle.packed_rows.specs.Rising.{last_row_stamp, rows_rise}
use Rattle.weather_book.specs.Stands.{StandsOn}
use Rattle.weather_book.proofs.BookOnDisk.{to_read_stays}
use Rattle.weather_book.proofs.RowsOfBook.{stands_rise}
use Rattle.batch_adding.specs.Adding.{HasSome, batch_count}
use Rattle.batch_adding.proofs.Kept.{leaves_join, nothing_left}
use Rattle.archive_copy.proofs.Kept.{batch_leaves}
use Rattle.archive_copy.proofs.NextRows.{front_next, more_next, next_joins, next_rise, up_to_five}
use Rattle.archive_copy.proofs.ReadAhead.{ahead_none}
use Rattle.archive_copy.proofs.adding.add_missing.Goals as goal

pub loop-reader-init : goal.loop-reader-init
loop-reader-init g c =
    let m = g.E.Disk.medium in let at = c.new-reader.result.at in
    let first : c.new-reader.result.at ≡ len_of c.args.mine.now = c.new-reader.ensures.at ∙ c.len.ensures.len in
    record {
      len = sym first;
      from_first = omega (arith, first);
      within = omega (arith, first, c.len-count.ensures.len, c.requires.no_more);
      ahead = ahead_none g.D.Disk.medium c.args.theirs.now c.args.from.now c.new-reader.result c.new-reader.ensures.none c.new-reader.ensures.unused (omega (arith, first, c.requires.no_more));
      fresh = c.requires.fresh;
      most = c.requires.most;
      moved = ap (λ n. m.moment c.args.to.now + 4 * batch_count (c.len-count.result - n)) first;
      stays = stays_none g.D.Disk.medium c.args.from.now;
      from_faults = omega arith;
      to_faults = omega arith;
      from_went = λ rows stands. no_look g.D.Disk.medium (slots_end (slot_total rows)) c.args.from.now;
      added = λ mine two. adds_none m mine c.args.to.now _ _ (
        subst (λ (rows : List Row). BookStandsFor c.args.mine.now rows) (sym (append-nil mine)) two,
        λ theirs one x told. let zero : at - length mine ≡ 0 = omega (arith, c.new-reader.ensures.at, c.len.ensures.rows mine two) in ap (λ n. take n (drop (length mine) theirs)) (sym zero),
      );
      stands = λ theirs mine one two x told.
          let zero : at - length mine ≡ 0 = omega (arith, c.new-reader.ensures.at, c.len.ensures.rows mine two.stands_for) in
          subst (λ (rows : List Row). StandsOn g.E.Disk.medium c.args.mine.now c.args.to.now rows)
          (sym (append-nil mine) ∙ ap (λ n. mine ++ take n (drop (length mine) theirs)) (sym zero)) two;
      images = λ theirs mine one two x told. nothing_left g.E.Disk.medium (HasSome mine (drop (length mine) theirs)) c.args.to.now c.args.to.now refl;
    }

pub returns-in-OutOfOrder-clause-in_order : goal.returns-in-OutOfOrder-clause-in_order
returns-in-OutOfOrder-clause-in_order g c e theirs mine one two front x told =
    let i = c.loop-reader.invariant in let at = c.loop-reader.reader.at in
    let le : length mine ≤ at = omega (arith, i.from_first, two.stands_for.held_is) in
    let wrong = c.next_batch.ensures.out_of_order c.in-OutOfOrder.is theirs (to_read_stays g.D.Disk.medium c.args.theirs.now _ _ theirs one i.stays) x (i.stays.reads ∙ told) in
    let last = c.last.ensures.rows _ (i.stands theirs mine one two x told).stands_for ∙ ap last_row_stamp (front_next mine theirs at front le) in
    let right = next_rise theirs at 5 (stands_rise c.args.theirs.now theirs one.stands_for) in
    let no = sym wrong ∙ ap (λ o. rows_rise o (take 5 (drop at theirs))) last ∙ right in cc

pub add_batch-requires-clause-printable : goal.add_batch-requires-clause-printable
add_batch-requires-clause-printable g c = rw c.deref.ensures.0 c.next_batch.ensures.printable

pub add_batch-requires-clause-room : goal.add_batch-requires-clause-room
add_batch-requires-clause-room g c =
    let i = c.loop-reader.invariant in
    omega (arith, c.requires.room, i.moved, c.loop-reader-test.true, c.at.ensures, c.len-count.ensures.len)

pub add_batch-requires-clause-fits : goal.add_batch-requires-clause-fits
add_batch-requires-clause-fits g c =
    let i = c.loop-reader.invariant in
    omega (arith, i.len, i.most, c.requires.few, c.in-Ready.ensures.count refl, ap length c.deref.ensures.0, c.loop-reader-test.true, c.at.ensures, c.len-count.ensures.len)

pub returns-in-Fault-add_batch-clause-images : goal.returns-in-Fault-add_batch-clause-images
returns-in-Fault-add_batch-clause-images g c theirs mine one two x told =
    let i = c.loop-reader.invariant in let at = c.loop-reader.reader.at in let m = g.E.Disk.medium in
    let le : length mine ≤ at = omega (arith, i.from_first, two.stands_for.held_is) in
    let read = c.in-Ready.ensures.ready refl theirs (to_read_stays g.D.Disk.medium c.args.theirs.now _ _ theirs one i.stays) x (i.stays.reads ∙ told) in
    let P = HasSome mine (drop (length mine) theirs) in
    leaves_join m P P c.args.to.now c.loop-reader.to c.add_batch.new.to (omega (arith, i.moved, i.from_first))
    (i.images theirs mine one two x told)
    (batch_leaves m mine theirs c.deref.result.now at 5 c.loop-reader.to c.add_batch.new.to le (c.deref.ensures.0 ∙ read)
    (c.add_batch.ensures.images (mine ++ take (at - length mine) (drop (length mine) theirs)) (i.stands theirs mine one two x told)))
    (λ c some. some)

pub returns-in-OutOfMemory-clause-images : goal.returns-in-OutOfMemory-clause-images
returns-in-OutOfMemory-clause-images g c theirs mine one two x told =
    let i = c.loop-reader.invariant in let at = c.loop-reader.reader.at in let m = g.E.Disk.medium in
    let le : length mine ≤ at = omega (arith, i.from_first, two.stands_for.held_is) in
    let read = c.in-Ready.ensures.ready refl theirs (to_read_stays g.D.Disk.medium c.args.theirs.now _ _ theirs one i.stays) x (i.stays.reads ∙ told) in
    let P = HasSome mine (drop (length mine) theirs) in
    leaves_join m P P c.args.to.now c.loop-reader.to c.add_batch.new.to (omega (arith, i.moved, i.from_first))
    (i.images theirs mine one two x told)
    (batch_leaves m mine theirs c.deref.result.now at 5 c.loop-reader.to c.add_batch.new.to le (c.deref.ensures.0 ∙ read)
    (c.add_batch.ensures.images (mine ++ take (at - length mine) (drop (length mine) theirs)) (i.stands theirs mine one two x told)))
    (λ c some. some)

pub loop-reader-preserved : goal.loop-reader-preserved
loop-reader-preserved g c =
    let i = c.loop-reader.invariant in let at = c.loop-reader.reader.at in let m = g.E.Disk.medium in let n = length c.next_batch.new.batch.items in
    let count = c.in-Ready.ensures.count refl in let items = ap length c.deref.ensures.0 in
    let many : length c.next_batch.new.batch.items ≡ min 5 (c.len-count.result - c.loop-reader.reader.at) = omega (arith, count, c.len-count.ensures.len) in
    let place : c.next_batch.new.reader.at ≡ c.loop-reader.reader.at + length c.next_batch.new.batch.items = c.in-Ready.ensures.at refl in
    let added = c.in-Done.ensures.len refl in
    record {
      len = omega (arith, added, i.len, items, place);
      from_first = omega (arith, i.from_first, place);
      within = omega (arith, many, place, c.loop-reader-test.true, c.at.ensures);
      ahead = c.next_batch.ensures.ahead;
      fresh = c.in-Done.ensures.fresh refl;
      most = c.in-Done.ensures.most refl ∙ i.most;
      moved =
          let less = batch_less (c.len-count.result - at) (omega (arith, c.loop-reader-test.true, c.at.ensures)) in
          let left : c.len-count.result - c.next_batch.new.reader.at ≡ c.len-count.result - at - min 5 (c.len-count.result - at) = omega (arith, many, place) in
          let step = c.in-Done.ensures.moved in
          rw left (omega (arith, i.moved, less, step));
      stays = stays_joins i.stays c.next_batch.ensures.stays;
      from_faults = omega (arith, i.from_faults, c.next_batch.ensures.cause.never_falls);
      to_faults = omega (arith, i.to_faults, c.add_batch.ensures.cause.never_falls);
      from_went = λ rows stands. more_reads g.D.Disk.medium (i.from_went rows stands) (c.in-Ready.ensures.went rows stands);
      added = λ mine two.
          let so = i.added mine two in let b = c.deref.result.now in
          adds_one m mine c.args.to.now _ _ _ _ c.loop-reader.to c.add_batch.new.to c.deref.result.now so (omega (arith, c.loop-reader-test.true, c.at.ensures))
          (omega (arith, many, items, c.loop-reader-test.true, c.at.ensures)) (omega (arith, many, items, place))
          (λ later. omega (arith, later, many, items, place)) c.in-Done.ensures.moved (c.in-Done.ensures.went (mine ++ rows_of_batches so.so_far) so.rows_are.0)
          (λ is. (
            subst (λ (rows : List Row). BookStandsFor c.add_batch.new.mine rows) (append_assoc mine (rows_of_batches so.so_far) b) (c.in-Done.ensures.rows refl (mine ++ rows_of_batches so.so_far) is.0),
            λ theirs one x told.
                let le : length mine ≤ at = omega (arith, i.from_first, two.held_is) in
                let read = c.in-Ready.ensures.ready refl theirs (to_read_stays g.D.Disk.medium c.args.theirs.now _ _ theirs one i.stays) x (i.stays.reads ∙ told) in
                let five = up_to_five (drop at theirs) n (omega (arith, many, length-drop at theirs, c.len-count.ensures.rows theirs one.stands_for)) in
                next_joins mine theirs (rows_of_batches so.so_far) b at n le (is.1 theirs one x told) (c.deref.ensures.0 ∙ read ∙ sym five)
                ∙ ap (λ k. take (k - length mine) (drop (length mine) theirs)) (sym place),
          ));
      stands = λ theirs mine one two x told.
          let le : length mine ≤ at = omega (arith, i.from_first, two.stands_for.held_is) in
          let read = c.in-Ready.ensures.ready refl theirs (to_read_stays g.D.Disk.medium c.args.theirs.now _ _ theirs one i.stays) x (i.stays.reads ∙ told) in
          let five = up_to_five (drop at theirs) n (omega (arith, many, length-drop at theirs, c.len-count.ensures.rows theirs one.stands_for)) in
          subst (λ (rows : List Row). StandsOn g.E.Disk.medium c.add_batch.new.mine c.add_batch.new.to rows)
          (ap (λ (rows : List Row). (mine ++ take (at - length mine) (drop (length mine) theirs)) ++ rows) (c.deref.ensures.0 ∙ read ∙ sym five) ∙ more_next mine theirs at n le
          ∙ ap (λ k. mine ++ take (k - length mine) (drop (length mine) theirs)) (sym place))
          (c.in-Done.ensures.stands refl (mine ++ take (at - length mine) (drop (length mine) theirs)) (i.stands theirs mine one two x told));
      images = λ theirs mine one two x told.
          let le : length mine ≤ at = omega (arith, i.from_first, two.stands_for.held_is) in
          let read = c.in-Ready.ensures.ready refl theirs (to_read_stays g.D.Disk.medium c.args.theirs.now _ _ theirs one i.stays) x (i.stays.reads ∙ told) in
          let P = HasSome mine (drop (length mine) theirs) in
          leaves_join m P P c.args.to.now c.loop-reader.to c.add_batch.new.to (omega (arith, i.moved, i.from_first))
          (i.images theirs mine one two x told)
          (batch_leaves m mine theirs c.deref.result.now at 5 c.loop-reader.to c.add_batch.new.to le (c.deref.ensures.0 ∙ read)
          (c.add_batch.ensures.images (mine ++ take (at - length mine) (drop (length mine) theirs)) (i.stands theirs mine one two x told)))
          (λ c some. some);
    }

pub returns-clause-stands : goal.returns-clause-stands
returns-clause-stands g c n e theirs mine one two x told =
    let i = c.loop-reader.invariant in let at = c.loop-reader.reader.at in let rest = drop (length mine) theirs in
    let whole = take_all (at - length mine) (drop (length mine) theirs)
    (omega (arith, length-drop (length mine) theirs, c.loop-reader-test.false, c.at.ensures, c.len-count.ensures.rows theirs one.stands_for)) in
    subst (λ (rows : List Row). StandsOn g.E.Disk.medium c.loop-reader.mine c.loop-reader.to (mine ++ rows)) whole (i.stands theirs mine one two x told)

pub returns-in-Fault-clause-from_went : goal.returns-in-Fault-clause-from_went
returns-in-Fault-clause-from_went g c rows stands = more_reads g.D.Disk.medium (c.loop-reader.invariant.from_went rows stands) (c.in-Fault.ensures.went rows stands)

pub returns-in-OutOfOrder-clause-from_went : goal.returns-in-OutOfOrder-clause-from_went
returns-in-OutOfOrder-clause-from_went g c rows stands = more_reads g.D.Disk.medium (c.loop-reader.invariant.from_went rows stands) (c.in-OutOfOrder.ensures.went rows stands)

pub returns-in-Fault-add_batch-clause-from_went : goal.returns-in-Fault-add_batch-clause-from_went
returns-in-Fault-add_batch-clause-from_went g c rows stands = more_reads g.D.Disk.medium (c.loop-reader.invariant.from_went rows stands) (c.in-Ready.ensures.went rows stands)

pub returns-in-OutOfMemory-clause-from_went : goal.returns-in-OutOfMemory-clause-from_went
returns-in-OutOfMemory-clause-from_went g c rows stands = more_reads g.D.Disk.medium (c.loop-reader.invariant.from_went rows stands) (c.in-Ready.ensures.went rows stands)

pub returns-in-Fault-clause-to_went : goal.returns-in-Fault-clause-to_went
returns-in-Fault-clause-to_went g c mine two =
    let m = g.E.Disk.medium in
    ends_so m mine c.args.to.now _ _ _ c.loop-reader.to c.loop-reader.to (c.loop-reader.invariant.added mine two) refl (m.went_none c.loop-reader.to)
    (λ is theirs one x told. front_of _ (drop (length mine) theirs) (c.loop-reader.reader.at - length mine) (is.1 theirs one x told))

pub returns-in-OutOfOrder-clause-to_went : goal.returns-in-OutOfOrder-clause-to_went
returns-in-OutOfOrder-clause-to_went g c mine two =
    let m = g.E.Disk.medium in
    ends_so m mine c.args.to.now _ _ _ c.loop-reader.to c.loop-reader.to (c.loop-reader.invariant.added mine two) refl (m.went_none c.loop-reader.to)
    (λ is theirs one x told. front_of _ (drop (length mine) theirs) (c.loop-reader.reader.at - length mine) (is.1 theirs one x told))

pub returns-clause-to_went : goal.returns-clause-to_went
returns-clause-to_went g c mine two =
    let m = g.E.Disk.medium in
    ends_so m mine c.args.to.now _ _ _ c.loop-reader.to c.loop-reader.to (c.loop-reader.invariant.added mine two) refl (m.went_none c.loop-reader.to)
    (λ is theirs one x told. front_of _ (drop (length mine) theirs) (c.loop-reader.reader.at - length mine) (is.1 theirs one x told))

pub returns-in-OutOfMemory-clause-to_went : goal.returns-in-OutOfMemory-clause-to_went
returns-in-OutOfMemory-clause-to_went g c mine two =
    let m = g.E.Disk.medium in let so = c.loop-reader.invariant.added mine two in
    let zero : g.E.Disk.medium.moment c.add_batch.new.to - g.E.Disk.medium.moment c.loop-reader.to ≡ 0 = omega (arith, c.in-OutOfMemory.ensures.moved) in
    ends_so m mine c.args.to.now _ _ _ c.loop-reader.to c.add_batch.new.to so c.in-OutOfMemory.ensures.moved
    (rw zero at (c.in-OutOfMemory.ensures.went (mine ++ rows_of_batches so.so_far) so.rows_are.0))
    (λ is theirs one x told. front_of _ (drop (length mine) theirs) (c.loop-reader.reader.at - length mine) (is.1 theirs one x told))

pub returns-in-Fault-add_batch-clause-to_went : goal.returns-in-Fault-add_batch-clause-to_went
returns-in-Fault-add_batch-clause-to_went g c mine two =
    let m = g.E.Disk.medium in let i = c.loop-reader.invariant in let at = c.loop-reader.reader.at in let so = i.added mine two in
    let count = c.in-Ready.ensures.count refl in let items = ap length c.deref.ensures.0 in
    fails_one m mine c.args.to.now _ _ _ c.loop-reader.to c.add_batch.new.to c.deref.result.now so (omega (arith, c.loop-reader-test.true, c.at.ensures))
    (omega (arith, count, items, c.loop-reader-test.true, c.at.ensures, c.len-count.ensures.len)) (omega (arith, count, items))
    c.in-Fault-add_batch.ensures.moved.0 (c.in-Fault-add_batch.ensures.went (mine ++ rows_of_batches so.so_far) so.rows_are.0)
    (λ is theirs one x told.
    let n = length c.deref.result.now in
    let le : length mine ≤ at = omega (arith, i.from_first, two.held_is) in
    let read = c.in-Ready.ensures.ready refl theirs (to_read_stays g.D.Disk.medium c.args.theirs.now _ _ theirs one i.stays) x (i.stays.reads ∙ told) in
    let five = up_to_five (drop at theirs) n (omega (arith, count, items, length-drop at theirs, c.len-count.ensures.rows theirs one.stands_for, c.len-count.ensures.len)) in
    front_of _ (drop (length mine) theirs) (at + n - length mine)
    (next_joins mine theirs (rows_of_batches so.so_far) c.deref.result.now at n le (is.1 theirs one x told) (c.deref.ensures.0 ∙ read ∙ sym five)))
