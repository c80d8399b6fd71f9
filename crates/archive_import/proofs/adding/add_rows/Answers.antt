use Rattle.std.proofs.Common.{◌≡◌, ℕ, ◌+◌, ◌-◌, ◌∙◌, ◌++◌, All, List, true, drop, take, length, min, refl, sym, ap, subst, arith, append-nil, append_assoc}
use Rattle.std.proofs.lemmas.List.{length-take, length-drop, take-append-drop, take_all}
use Rattle.std.proofs.lemmas.List.Elements.{All-nil}
use Rattle.station_base.specs.FieldSet.{AreMissing}
use Rattle.station_base.specs.RowLine.{IsPrintable}
use Rattle.station_base.specs.declared.row.Row.{Row}
use Rattle.packed_rows.specs.Rising.{last_stamp_after, rows_rise}
use Rattle.packed_rows.proofs.RowLaws.{rise_behind, rise_front, rise_tells, rise_when}
use Rattle.weather_book.specs.Book.{BookStandsFor, last_stamp_of}
use Rattle.weather_book.specs.Stands.{StandsOn}
use Rattle.batch_adding.specs.Adding.{HasSome}
use Rattle.batch_adding.specs.Calls.{rows_of_batches}
use Rattle.batch_adding.proofs.Batches.{adds_none, adds_one, batch_less, ends_so, fails_one, front_of}
use Rattle.batch_adding.proofs.Kept.{batch_leaves, leaves_join, nothing_left}
use Rattle.archive_import.specs.Texts.{rows_ahead, rows_to_come}
use Rattle.archive_import.proofs.Fives.{batch_dropped, batch_taken}
use Rattle.archive_import.proofs.adding.add_rows.Goals as goal

pub loop-left-init : goal.loop-left-init
loop-left-init g c =
    let m = g.E.Disk.medium in let all = rows_to_come c.args.batch.now.items c.args.lines.now in
    let zero : c.args.count - c.args.count ≡ 0 = omega arith in
    record {
      left = c.requires.count;
      fewer = omega arith;
      few = c.requires.few;
      printable = c.requires.printable;
      limited = c.requires.limited;
      rows = c.requires.rows;
      ahead = rw zero refl;
      rising = rise_when (last_stamp_of c.args.mine.now) all c.requires.rising;
      fresh = c.requires.fresh;
      most = c.requires.most;
      len = refl;
      moved = refl;
      faults = omega arith;
      added = λ old two. adds_none m old c.args.to.now _ _ (subst (λ (rows : List Row). BookStandsFor c.args.mine.now rows) (sym (append-nil old)) two, rw zero refl);
      stands = λ old on. subst (λ (rows : List Row). StandsOn g.E.Disk.medium c.args.mine.now c.args.to.now rows) (sym (append-nil old) ∙ ap (λ (n : ℕ). old ++ take n all) (sym zero)) on;
      images = λ old on. nothing_left m (HasSome old all) c.args.to.now c.args.to.now refl;
    }

pub add_batch-requires-clause-rising : goal.add_batch-requires-clause-rising
add_batch-requires-clause-rising g c =
    let m = g.E.Disk.medium in let i = c.loop-left.invariant in
    let all = rows_to_come c.args.batch.now.items c.args.lines.now in let come = rows_to_come c.loop-left.batch.items c.loop-left.lines in
    let b = c.deref.result.now in let k = c.args.count - c.loop-left.left in
    let five : c.deref.result.now ≡ take 5 (rows_to_come c.loop-left.batch.items c.loop-left.lines) = c.deref.ensures.0 ∙ c.fill_batch.ensures.batch in
    let size : length c.deref.result.now ≡ min 5 c.loop-left.left = omega (arith, ap length five, length-take 5 come, i.left) in
    let last = last_stamp_of c.loop-left.mine in
    let whole : rows_rise (last_stamp_of c.loop-left.mine) (take 5 come ++ drop 5 come) ≡ true = ap (rows_rise last) (take-append-drop 5 come) ∙ i.rising in
    rise_tells last b (ap (rows_rise last) five ∙ rise_front last (take 5 come) (drop 5 come) whole)

pub add_batch-requires-clause-printable : goal.add_batch-requires-clause-printable
add_batch-requires-clause-printable g c = rw c.deref.ensures.0 c.fill_batch.ensures.printable

pub add_batch-requires-clause-fits : goal.add_batch-requires-clause-fits
add_batch-requires-clause-fits g c =
    let m = g.E.Disk.medium in let i = c.loop-left.invariant in
    let all = rows_to_come c.args.batch.now.items c.args.lines.now in let come = rows_to_come c.loop-left.batch.items c.loop-left.lines in
    let b = c.deref.result.now in let k = c.args.count - c.loop-left.left in
    let five : c.deref.result.now ≡ take 5 (rows_to_come c.loop-left.batch.items c.loop-left.lines) = c.deref.ensures.0 ∙ c.fill_batch.ensures.batch in
    let size : length c.deref.result.now ≡ min 5 c.loop-left.left = omega (arith, ap length five, length-take 5 come, i.left) in
    omega (arith, size, i.len, i.most, c.requires.fits)

pub overflow_sub-left : goal.overflow_sub-left
overflow_sub-left g c =
    let m = g.E.Disk.medium in let i = c.loop-left.invariant in
    let all = rows_to_come c.args.batch.now.items c.args.lines.now in let come = rows_to_come c.loop-left.batch.items c.loop-left.lines in
    let b = c.deref.result.now in let k = c.args.count - c.loop-left.left in
    let five : c.deref.result.now ≡ take 5 (rows_to_come c.loop-left.batch.items c.loop-left.lines) = c.deref.ensures.0 ∙ c.fill_batch.ensures.batch in
    let size : length c.deref.result.now ≡ min 5 c.loop-left.left = omega (arith, ap length five, length-take 5 come, i.left) in
    omega (arith, size, c.len.ensures.value, ap length c.deref.ensures.0)

pub returns-in-Fault-clause-images : goal.returns-in-Fault-clause-images
returns-in-Fault-clause-images g c old on =
    let m = g.E.Disk.medium in let i = c.loop-left.invariant in
    let all = rows_to_come c.args.batch.now.items c.args.lines.now in let come = rows_to_come c.loop-left.batch.items c.loop-left.lines in
    let b = c.deref.result.now in let k = c.args.count - c.loop-left.left in
    let five : c.deref.result.now ≡ take 5 (rows_to_come c.loop-left.batch.items c.loop-left.lines) = c.deref.ensures.0 ∙ c.fill_batch.ensures.batch in
    let size : length c.deref.result.now ≡ min 5 c.loop-left.left = omega (arith, ap length five, length-take 5 come, i.left) in
    let P = HasSome old all in
    leaves_join m P P c.args.to.now c.loop-left.to c.add_batch.new.to (omega (arith, i.moved, i.fewer)) (i.images old on)
    (batch_leaves m old all b k 5 c.loop-left.to c.add_batch.new.to (five ∙ ap (take 5) i.ahead) (c.add_batch.ensures.images (old ++ take k all) (i.stands old on))) (λ image some. some)

pub returns-in-OutOfMemory-clause-images : goal.returns-in-OutOfMemory-clause-images
returns-in-OutOfMemory-clause-images g c old on =
    let m = g.E.Disk.medium in let i = c.loop-left.invariant in
    let all = rows_to_come c.args.batch.now.items c.args.lines.now in let come = rows_to_come c.loop-left.batch.items c.loop-left.lines in
    let b = c.deref.result.now in let k = c.args.count - c.loop-left.left in
    let five : c.deref.result.now ≡ take 5 (rows_to_come c.loop-left.batch.items c.loop-left.lines) = c.deref.ensures.0 ∙ c.fill_batch.ensures.batch in
    let size : length c.deref.result.now ≡ min 5 c.loop-left.left = omega (arith, ap length five, length-take 5 come, i.left) in
    let P = HasSome old all in
    leaves_join m P P c.args.to.now c.loop-left.to c.add_batch.new.to (omega (arith, i.moved, i.fewer)) (i.images old on)
    (batch_leaves m old all b k 5 c.loop-left.to c.add_batch.new.to (five ∙ ap (take 5) i.ahead) (c.add_batch.ensures.images (old ++ take k all) (i.stands old on))) (λ image some. some)

pub returns-in-Fault-clause-went : goal.returns-in-Fault-clause-went
returns-in-Fault-clause-went g c old two =
    let m = g.E.Disk.medium in let i = c.loop-left.invariant in
    let all = rows_to_come c.args.batch.now.items c.args.lines.now in let come = rows_to_come c.loop-left.batch.items c.loop-left.lines in
    let b = c.deref.result.now in let k = c.args.count - c.loop-left.left in
    let five : c.deref.result.now ≡ take 5 (rows_to_come c.loop-left.batch.items c.loop-left.lines) = c.deref.ensures.0 ∙ c.fill_batch.ensures.batch in
    let size : length c.deref.result.now ≡ min 5 c.loop-left.left = omega (arith, ap length five, length-take 5 come, i.left) in
    let taken = batch_taken all come b k i.ahead five in
    let so = i.added old two in
    fails_one m old c.args.to.now _ _ _ c.loop-left.to c.add_batch.new.to b so c.loop-left-test.true (omega (arith, size, c.loop-left-test.true)) (omega (arith, size))
    c.in-Fault.ensures.moved.0 (c.in-Fault.ensures.went (old ++ rows_of_batches so.so_far) so.rows_are.0)
    (λ is. front_of _ all (k + length b) (ap (λ (rows : List Row). rows ++ b) is.1 ∙ taken))

pub returns-in-OutOfMemory-clause-went : goal.returns-in-OutOfMemory-clause-went
returns-in-OutOfMemory-clause-went g c old two =
    let m = g.E.Disk.medium in let i = c.loop-left.invariant in let so = i.added old two in
    let all = rows_to_come c.args.batch.now.items c.args.lines.now in
    let zero : g.E.Disk.medium.moment c.add_batch.new.to - g.E.Disk.medium.moment c.loop-left.to ≡ 0 = omega (arith, c.in-OutOfMemory.ensures.moved) in
    ends_so m old c.args.to.now _ _ _ c.loop-left.to c.add_batch.new.to so c.in-OutOfMemory.ensures.moved
    (rw zero at (c.in-OutOfMemory.ensures.went (old ++ rows_of_batches so.so_far) so.rows_are.0))
    (λ is. front_of _ all (c.args.count - c.loop-left.left) is.1)

pub returns-clause-went : goal.returns-clause-went
returns-clause-went g c old two =
    let m = g.E.Disk.medium in let i = c.loop-left.invariant in
    let all = rows_to_come c.args.batch.now.items c.args.lines.now in
    ends_so m old c.args.to.now _ _ _ c.loop-left.to c.loop-left.to (i.added old two) refl (m.went_none c.loop-left.to)
    (λ is. front_of _ all (c.args.count - c.loop-left.left) is.1)

pub returns-clause-stands : goal.returns-clause-stands
returns-clause-stands g c e old on =
    let i = c.loop-left.invariant in let all = rows_to_come c.args.batch.now.items c.args.lines.now in
    let whole = take_all (c.args.count - c.loop-left.left) all (omega (arith, c.requires.count, c.loop-left-test.false)) in
    subst (λ (rows : List Row). StandsOn g.E.Disk.medium c.loop-left.mine c.loop-left.to (old ++ rows)) whole (i.stands old on)

pub loop-left-preserved : goal.loop-left-preserved
loop-left-preserved g c =
    let m = g.E.Disk.medium in let i = c.loop-left.invariant in
    let all = rows_to_come c.args.batch.now.items c.args.lines.now in let come = rows_to_come c.loop-left.batch.items c.loop-left.lines in
    let b = c.deref.result.now in let k = c.args.count - c.loop-left.left in
    let five : c.deref.result.now ≡ take 5 (rows_to_come c.loop-left.batch.items c.loop-left.lines) = c.deref.ensures.0 ∙ c.fill_batch.ensures.batch in
    let size : length c.deref.result.now ≡ min 5 c.loop-left.left = omega (arith, ap length five, length-take 5 come, i.left) in
    let taken = batch_taken all come b k i.ahead five in
    let last = last_stamp_of c.loop-left.mine in
    let none = c.clear.ensures in
    let items = ap length c.deref.ensures.0 in let many = c.len.ensures.value in
    let behind : rows_to_come c.clear.new.self.items c.fill_batch.new.lines ≡ drop 5 (rows_to_come c.loop-left.batch.items c.loop-left.lines) =
    ap (λ (rows : List Row). rows ++ rows_ahead c.fill_batch.new.lines) none ∙ c.fill_batch.ensures.left in
    let place : c.args.count - (c.loop-left.left - c.len.result) ≡ c.args.count - c.loop-left.left + length c.deref.result.now =
    omega (arith, i.fewer, size, many, items) in
    let whole : rows_rise (last_stamp_of c.loop-left.mine) (take 5 come ++ drop 5 come) ≡ true = ap (rows_rise last) (take-append-drop 5 come) ∙ i.rising in
    let stamp : last_stamp_of c.add_batch.new.mine ≡ last_stamp_after (last_stamp_of c.loop-left.mine) (take 5 (rows_to_come c.loop-left.batch.items c.loop-left.lines)) =
    c.in-Done.ensures.last refl ∙ ap (last_stamp_after last) five in
    record {
      left = omega (arith, i.left, ap length behind, length-drop 5 come, size, many, items);
      fewer = omega (arith, i.fewer);
      few = omega (arith, ap length none);
      printable = rw none (All-nil (λ (r : Row). All IsPrintable r.values));
      limited = rw none (All-nil (λ (r : Row). AreMissing r.limited r.values));
      rows = c.fill_batch.ensures.rows;
      ahead = behind ∙ batch_dropped all come b k i.ahead five ∙ ap (λ (n : ℕ). drop n all) (sym place);
      rising = rw (behind, stamp) (rise_behind last (take 5 come) (drop 5 come) whole);
      fresh = c.in-Done.ensures.fresh refl;
      most = c.in-Done.ensures.most refl ∙ i.most;
      len = omega (arith, c.in-Done.ensures.len refl, i.len, size, many, items);
      moved =
          let less = batch_less c.loop-left.left c.loop-left-test.true in
          let left : c.loop-left.left - c.len.result ≡ c.loop-left.left - min 5 c.loop-left.left = omega (arith, size, many, items) in
          let step = c.in-Done.ensures.moved in
          rw left (omega (arith, i.moved, less, step));
      faults = omega (arith, i.faults, c.add_batch.ensures.cause.never_falls);
      added = λ old two.
          let so = i.added old two in
          adds_one m old c.args.to.now _ _ _ _ c.loop-left.to c.add_batch.new.to b so c.loop-left-test.true
          (omega (arith, size, c.loop-left-test.true)) (omega (arith, size)) (λ later. omega (arith, later, size, many, items)) c.in-Done.ensures.moved
          (c.in-Done.ensures.went (old ++ rows_of_batches so.so_far) so.rows_are.0)
          (λ is. (
            subst (λ (rows : List Row). BookStandsFor c.add_batch.new.mine rows) (append_assoc old (rows_of_batches so.so_far) b) (c.in-Done.ensures.rows refl (old ++ rows_of_batches so.so_far) is.0),
            ap (λ (rows : List Row). rows ++ b) is.1 ∙ taken ∙ ap (λ (n : ℕ). take n all) (sym place),
          ));
      stands = λ old on.
          subst (λ (rows : List Row). StandsOn g.E.Disk.medium c.add_batch.new.mine c.add_batch.new.to rows)
          (append_assoc old (take k all) b ∙ ap (λ (rows : List Row). old ++ rows) taken ∙ ap (λ (n : ℕ). old ++ take n all) (sym place))
          (c.in-Done.ensures.stands refl (old ++ take k all) (i.stands old on));
      images = λ old on.
          leaves_join m (HasSome old all) (HasSome old all) c.args.to.now c.loop-left.to c.add_batch.new.to (omega (arith, i.moved, i.fewer)) (i.images old on)
          (batch_leaves m old all b k 5 c.loop-left.to c.add_batch.new.to (five ∙ ap (take 5) i.ahead) (c.add_batch.ensures.images (old ++ take k all) (i.stands old on))) (λ image some. some);
    }
