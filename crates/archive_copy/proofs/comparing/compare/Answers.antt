use Rattle.std.proofs.Common.{◌≡◌, ◌∙◌, drop, length, min, refl, ap, arith, true, false}
use Rattle.std.proofs.lemmas.List.{length-take}
use Rattle.disk_model.specs.Disk.{stays_none, stays_joins}
use Rattle.packed_rows.specs.Rows.{slot_total}
use Rattle.weather_book.proofs.Looks.{no_look}
use Rattle.weather_book.proofs.Pieces.{more_reads}
use Rattle.batch_adding.specs.Calls.{slots_end}
use Rattle.archive_copy.proofs.Looks.{some_look}
use Rattle.packed_rows.specs.Days.{day_rest}
use Rattle.weather_book.proofs.BookOnDisk.{to_read_stays}
use Rattle.archive_copy.proofs.Fronts.{all_in_front, first_unlike, front_grows, none_there}
use Rattle.archive_copy.proofs.comparing.compare.Goals as goal

pub loop-at-init : goal.loop-at-init
loop-at-init g c = record {
  within = omega arith;
  from_stays = stays_none g.D.Disk.medium c.args.from.now;
  to_stays = stays_none g.E.Disk.medium c.args.to.now;
  from_faults = omega arith;
  to_faults = omega arith;
  from_went = λ rows stands. no_look g.D.Disk.medium (slots_end (slot_total rows)) c.args.from.now;
  to_went = λ rows stands. no_look g.E.Disk.medium (slots_end (slot_total rows)) c.args.to.now;
  same = λ theirs mine one two x told y told2. refl;
}

pub returns-then-same-len-2-clause-compares : goal.returns-then-same-len-2-clause-compares
returns-then-same-len-2-clause-compares g c theirs mine one two x told y told2 =
    let i = c.loop-at.invariant in let at = c.loop-at.at in let n = c.alike-same.result in
    let read = c.in_default.ensures.rows theirs (to_read_stays g.D.Disk.medium c.args.theirs.now _ _ theirs one i.from_stays) x (i.from_stays.reads ∙ told) in
    let held = c.in_default-rows_at.ensures.rows mine (to_read_stays g.E.Disk.medium c.args.mine.now _ _ mine two i.to_stays) y (i.to_stays.reads ∙ told2) in
    let ours = c.deref.ensures.0 ∙ held in let others = c.deref-in-loop-at.ensures.0 ∙ read in
    first_unlike mine theirs at (min 16 (length (day_rest mine at))) (min 16 (length (day_rest theirs at))) n (i.same theirs mine one two x told y told2)
    (rw (ours, others) at c.alike-same.ensures.same)
    (omega (arith, c.if-same-len.true, c.len-in-loop-at.ensures.value, ap length held))
    (omega (arith, c.if-same-len-2.true, c.len-then-same-len.ensures.value, ap length read))
    (rw (ours, others) at (c.alike-same.ensures.unlike
    (omega (arith, c.if-same-len.true, c.len-in-loop-at.ensures.value, ap length c.deref.ensures.0))
    (omega (arith, c.if-same-len-2.true, c.len-then-same-len.ensures.value, ap length c.deref-in-loop-at.ensures.0))))

pub returns-then-both-len-clause-compares : goal.returns-then-both-len-clause-compares
returns-then-both-len-clause-compares g c theirs mine one two x told y told2 =
    let i = c.loop-at.invariant in
    let at : c.loop-at.at ≡ c.min-both.result = omega (arith, i.within, c.loop-at-test.false) in
    let theirs_len = c.len.ensures.rows theirs one.stands_for in let mine_len = c.len-3.ensures.rows mine two.stands_for in
    let mine_len2 = c.len-2.ensures.rows mine two.stands_for in
    none_there mine theirs c.min-both.result (rw at at (i.same theirs mine one two x told y told2))
    (omega (arith, c.min-both.ensures, theirs_len, mine_len, mine_len2, c.if-both-len.true))
    (omega (arith, mine_len, c.if-both-len.true))

pub returns-else-both-len-clause-compares : goal.returns-else-both-len-clause-compares
returns-else-both-len-clause-compares g c theirs mine one two x told y told2 =
    let i = c.loop-at.invariant in
    let mine_len = c.len-3.ensures.rows mine two.stands_for in let mine_len2 = c.len-2.ensures.rows mine two.stands_for in
    all_in_front mine theirs c.loop-at.at (i.same theirs mine one two x told y told2)
    (omega (arith, mine_len, c.if-both-len.false, c.loop-at-test.false))
    (omega (arith, mine_len2, i.within, c.min-both.ensures))

pub loop-at-preserved : goal.loop-at-preserved
loop-at-preserved g c =
    let i = c.loop-at.invariant in let at = c.loop-at.at in let n = c.alike-same.result in
    let there = c.in_default.ensures.some in let here = c.in_default-rows_at.ensures.some in
    let few = c.alike-same.ensures.within_held in let few2 = c.alike-same.ensures.within_rows in
    let ours = ap length c.deref.ensures.0 in let others = ap length c.deref-in-loop-at.ensures.0 in
    record {
      within = omega (arith, there.1, here.1, few, few2, ours, others, c.min-both.ensures, c.len.ensures.len, c.len-2.ensures.len);
      from_stays = stays_joins i.from_stays c.rows_at.ensures.stays;
      to_stays = stays_joins i.to_stays c.rows_at-in-loop-at.ensures.stays;
      from_faults = omega (arith, i.from_faults, c.rows_at.ensures.cause.never_falls);
      to_faults = omega (arith, i.to_faults, c.rows_at-in-loop-at.ensures.cause.never_falls);
      from_went = λ rows stands.
          more_reads g.D.Disk.medium (i.from_went rows stands)
          (some_look g.D.Disk.medium rows false c.loop-at.from c.rows_at.new.disk (omega (arith, c.loop-at-test.true, c.min-both.ensures, c.len.ensures.rows rows stands)) (c.in_default.ensures.went rows stands));
      to_went = λ rows stands.
          more_reads g.E.Disk.medium (i.to_went rows stands)
          (some_look g.E.Disk.medium rows false c.loop-at.to c.rows_at-in-loop-at.new.disk (omega (arith, c.loop-at-test.true, c.min-both.ensures, c.len-2.ensures.rows rows stands)) (c.in_default-rows_at.ensures.went rows stands));
      same = λ theirs mine one two x told y told2.
          let read = c.in_default.ensures.rows theirs (to_read_stays g.D.Disk.medium c.args.theirs.now _ _ theirs one i.from_stays) x (i.from_stays.reads ∙ told) in
          let held = c.in_default-rows_at.ensures.rows mine (to_read_stays g.E.Disk.medium c.args.mine.now _ _ mine two i.to_stays) y (i.to_stays.reads ∙ told2) in
          let a = min 16 (length (day_rest mine at)) in let b = min 16 (length (day_rest theirs at)) in
          front_grows mine theirs at (min 16 (length (day_rest mine at))) (min 16 (length (day_rest theirs at))) n (i.same theirs mine one two x told y told2)
          (omega (arith, few, ours, ap length held, length-take a (drop at mine)))
          (omega (arith, few2, others, ap length read, length-take b (drop at theirs)))
          (rw (c.deref.ensures.0 ∙ held, c.deref-in-loop-at.ensures.0 ∙ read) at c.alike-same.ensures.same);
    }

pub returns-in-DiskFault-clause-from_went : goal.returns-in-DiskFault-clause-from_went
returns-in-DiskFault-clause-from_went g c rows stands =
    more_reads g.D.Disk.medium (c.loop-at.invariant.from_went rows stands)
    (some_look g.D.Disk.medium rows true c.loop-at.from c.rows_at.new.disk (omega (arith, c.loop-at-test.true, c.min-both.ensures, c.len.ensures.rows rows stands)) (c.in-DiskFault.ensures.went rows stands))

pub returns-in-DiskFault-rows_at-clause-from_went : goal.returns-in-DiskFault-rows_at-clause-from_went
returns-in-DiskFault-rows_at-clause-from_went g c rows stands =
    more_reads g.D.Disk.medium (c.loop-at.invariant.from_went rows stands)
    (some_look g.D.Disk.medium rows false c.loop-at.from c.rows_at.new.disk (omega (arith, c.loop-at-test.true, c.min-both.ensures, c.len.ensures.rows rows stands)) (c.in_default.ensures.went rows stands))

pub returns-in-DiskFault-rows_at-clause-to_went : goal.returns-in-DiskFault-rows_at-clause-to_went
returns-in-DiskFault-rows_at-clause-to_went g c rows stands =
    more_reads g.E.Disk.medium (c.loop-at.invariant.to_went rows stands)
    (some_look g.E.Disk.medium rows true c.loop-at.to c.rows_at-in-loop-at.new.disk (omega (arith, c.loop-at-test.true, c.min-both.ensures, c.len-2.ensures.rows rows stands)) (c.in-DiskFault-rows_at.ensures.went rows stands))

pub returns-then-same-len-2-clause-from_went : goal.returns-then-same-len-2-clause-from_went
returns-then-same-len-2-clause-from_went g c rows stands =
    more_reads g.D.Disk.medium (c.loop-at.invariant.from_went rows stands)
    (some_look g.D.Disk.medium rows false c.loop-at.from c.rows_at.new.disk (omega (arith, c.loop-at-test.true, c.min-both.ensures, c.len.ensures.rows rows stands)) (c.in_default.ensures.went rows stands))

pub returns-then-same-len-2-clause-to_went : goal.returns-then-same-len-2-clause-to_went
returns-then-same-len-2-clause-to_went g c rows stands =
    more_reads g.E.Disk.medium (c.loop-at.invariant.to_went rows stands)
    (some_look g.E.Disk.medium rows false c.loop-at.to c.rows_at-in-loop-at.new.disk (omega (arith, c.loop-at-test.true, c.min-both.ensures, c.len-2.ensures.rows rows stands)) (c.in_default-rows_at.ensures.went rows stands))
