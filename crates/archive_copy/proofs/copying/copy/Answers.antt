use Rattle.std.proofs.Common.{◌≡◌, ◌+◌, ◌-◌, ◌*◌, ◌∙◌, List, true, false, length, drop, sym, ap, subst, arith}
use Rattle.causes.specs.Told.{map_told}
use Rattle.gated_log.specs.Start.{remade}
use Rattle.station_base.specs.declared.row.Row.{Row}
use Rattle.weather_book.specs.Book.{len_of}
use Rattle.packed_rows.specs.Rows.{RowsOf, rows_of, slot_total}
use Rattle.weather_book.proofs.Pieces.{more_reads}
use Rattle.weather_book.specs.Stands.{HasRows, StandsOn}
use Rattle.weather_book.proofs.BookOnDisk.{can_be_read, crash_rows, read_has, stands_stays, to_read_stays}
use Rattle.archive_copy.specs.declared.end.CopyEnd.TheVariants.{FromDamaged, FromFault, NotPrefix, ToFault}
use Rattle.batch_adding.specs.Adding.{HasSome, batch_count}
use Rattle.batch_adding.specs.Opening.{CanBeAddedTo}
use Rattle.archive_copy.specs.Adding.{next_rows, to_add}
use Rattle.archive_copy.specs.Answers.{CanBeCopied}
use Rattle.archive_copy.proofs.Ends.{adding_adds, adding_answers, adding_undamaged, adding_moves, done_count, from_answers, from_moves, no_from_fault, no_to_fault, opening_faults, to_answers, to_moves}
use Rattle.archive_copy.specs.Calls.{is_from_fault, is_to_fault}
use Rattle.batch_adding.proofs.CallsTogether.{calls_added, calls_looked, calls_none, calls_opening}
use Rattle.archive_copy.proofs.FromCalls.{reads_more, reads_recovery}
use Rattle.weather_book.proofs.RowsOfBook.{slots_same}
use Rattle.batch_adding.proofs.Kept.{leaves_join}
use Rattle.archive_copy.proofs.NextRows.{front_rest}
use Rattle.batch_adding.proofs.BookAtRest.{adds_none, leaves_stays, same_rows, same_some}
use Rattle.archive_copy.proofs.copying.copy.Goals as goal

pub returns-in-Err-clause-answers : goal.returns-in-Err-clause-answers
returns-in-Err-clause-answers g c x told y told2 = from_answers c.in-Err.end x y (c.in-Err.ensures.finds x told)

pub returns-in-Err-open_to-clause-answers : goal.returns-in-Err-open_to-clause-answers
returns-in-Err-open_to-clause-answers g c x told y told2 =
    let found = c.in-Ok.ensures.finds x told in rw c.not_opened.ensures (to_answers c.in-Err-open_to.why x y found.0 found.1 (c.in-Err-open_to.ensures.finds y told2))

pub returns-in-Err-open_to-clause-images : goal.returns-in-Err-open_to-clause-images
returns-in-Err-open_to-clause-images g c x told y told2 mine crash =
    adds_none g.E.Disk.medium mine (to_add c.not_opened.result (rows_of x) mine) c.args.to.now c.open_to.new.to (c.open_to.ensures.images mine crash)

pub returns-in-Front-clause-answers : goal.returns-in-Front-clause-answers
returns-in-Front-clause-answers g c x told y told2 =
    let from_stands = c.in-Ok.ensures.stands in let to_stands = c.in-Ok-open_to.ensures.stands in
    let theirs = from_stands.0 in let mine = to_stands.0 in
    let told_from = c.open_from.ensures.stays.reads ∙ told in
    let told_to = c.in-Ok-open_to.ensures.reads ∙ ap (map_told remade) told2 in
    let can : CanBeCopied x from_stands.0 = record { holds_them = from_stands.2 x told; few = omega (arith, c.in-Ok.ensures.few, from_stands.1.stands_for.held_is) } in
    let may : CanBeAddedTo y to_stands.0 = record { holds_them = to_stands.2 y told2; current = (c.in-Ok-open_to.ensures.finds y told2).1.current } in
    let front = c.in-Front.ensures.compares theirs mine from_stands.1 (can_be_read g.E.Disk.medium c.in-Ok-open_to.book c.open_to.new.to mine to_stands.1) x told_from (remade y) told_to in
    let from_now = to_read_stays g.D.Disk.medium c.in-Ok.book c.open_from.new.from c.compare.new.from theirs from_stands.1 c.compare.ensures.from_stays in
    let to_now = stands_stays g.E.Disk.medium c.in-Ok-open_to.book c.open_to.new.to c.compare.new.to mine to_stands.1 c.compare.ensures.to_stays in
    let told_now = c.compare.ensures.from_stays.reads ∙ told_from in
    let ordered = λ (e : c.add_missing.result ≡ FromDamaged 0). c.add_missing.ensures.in_order e theirs mine from_now to_now front x told_now in
    adding_answers c.add_missing.result x y theirs mine _ c.add_missing.ensures.kind from_stands.1.stands_for.held_is ordered can may front

pub returns-in-Front-clause-undamaged : goal.returns-in-Front-clause-undamaged
returns-in-Front-clause-undamaged g c = adding_undamaged _ c.add_missing.result _ c.add_missing.ensures.kind (λ e x told y told2.
    let from_stands = c.in-Ok.ensures.stands in let to_stands = c.in-Ok-open_to.ensures.stands in
    let theirs = from_stands.0 in let mine = to_stands.0 in
    let told_from = c.open_from.ensures.stays.reads ∙ told in
    let told_to = c.in-Ok-open_to.ensures.reads ∙ ap (map_told remade) told2 in
    let front = c.in-Front.ensures.compares theirs mine from_stands.1 (can_be_read g.E.Disk.medium c.in-Ok-open_to.book c.open_to.new.to mine to_stands.1) x told_from (remade y) told_to in
    let from_now = to_read_stays g.D.Disk.medium c.in-Ok.book c.open_from.new.from c.compare.new.from theirs from_stands.1 c.compare.ensures.from_stays in
    let to_now = stands_stays g.E.Disk.medium c.in-Ok-open_to.book c.open_to.new.to c.compare.new.to mine to_stands.1 c.compare.ensures.to_stays in
    let told_now = c.compare.ensures.from_stays.reads ∙ told_from in
    absurd (c.add_missing.ensures.in_order e theirs mine from_now to_now front x told_now))

pub returns-in-Front-clause-images : goal.returns-in-Front-clause-images
returns-in-Front-clause-images g c x told y told2 rows crash =
    let m = g.E.Disk.medium in
    let from_stands = c.in-Ok.ensures.stands in let to_stands = c.in-Ok-open_to.ensures.stands in
    let theirs = from_stands.0 in let mine = to_stands.0 in
    let told_from = c.open_from.ensures.stays.reads ∙ told in
    let told_to = c.in-Ok-open_to.ensures.reads ∙ ap (map_told remade) told2 in
    let front = c.in-Front.ensures.compares theirs mine from_stands.1 (can_be_read g.E.Disk.medium c.in-Ok-open_to.book c.open_to.new.to mine to_stands.1) x told_from (remade y) told_to in
    let from_now = to_read_stays g.D.Disk.medium c.in-Ok.book c.open_from.new.from c.compare.new.from theirs from_stands.1 c.compare.ensures.from_stays in
    let to_now = stands_stays g.E.Disk.medium c.in-Ok-open_to.book c.open_to.new.to c.compare.new.to mine to_stands.1 c.compare.ensures.to_stays in
    let told_now = c.compare.ensures.from_stays.reads ∙ told_from in
    let same = same_rows m c.args.to.now y rows mine told2 crash to_stands.2 in
    let next = adding_adds c.add_missing.result _ (rows_of x) rows c.add_missing.ensures.kind ∙ ap (λ (r : RowsOf). next_rows r rows) (from_stands.2 x told)
    ∙ ap (λ (r : List Row). drop (length r) theirs) same in
    let one = leaves_stays m (HasRows rows) c.args.to.now c.open_to.new.to c.compare.new.to (c.open_to.ensures.images rows crash) c.compare.ensures.to_stays in
    let two = c.add_missing.ensures.images theirs mine from_now to_now x told_now in
    let P = HasSome rows (to_add c.add_missing.result (rows_of x) rows) in let Q = HasSome mine (drop (length mine) theirs) in
    leaves_join m P Q c.args.to.now c.compare.new.to c.add_missing.new.to (omega (arith, c.open_to.ensures.begun.0, c.compare.ensures.to_stays.at))
    (adds_none m rows (to_add c.add_missing.result (rows_of x) rows) c.args.to.now c.compare.new.to one) two (λ i some. same_some mine rows (drop (length mine) theirs) (to_add c.add_missing.result (rows_of x) rows) i (sym same) (sym next) some)

pub returns-in-Front-clause-copied : goal.returns-in-Front-clause-copied
returns-in-Front-clause-copied g c n is x told y told2 =
    let m = g.E.Disk.medium in
    let from_stands = c.in-Ok.ensures.stands in let to_stands = c.in-Ok-open_to.ensures.stands in
    let theirs = from_stands.0 in let mine = to_stands.0 in
    let told_from = c.open_from.ensures.stays.reads ∙ told in
    let told_to = c.in-Ok-open_to.ensures.reads ∙ ap (map_told remade) told2 in
    let front = c.in-Front.ensures.compares theirs mine from_stands.1 (can_be_read g.E.Disk.medium c.in-Ok-open_to.book c.open_to.new.to mine to_stands.1) x told_from (remade y) told_to in
    let from_now = to_read_stays g.D.Disk.medium c.in-Ok.book c.open_from.new.from c.compare.new.from theirs from_stands.1 c.compare.ensures.from_stays in
    let to_now = stands_stays g.E.Disk.medium c.in-Ok-open_to.book c.open_to.new.to c.compare.new.to mine to_stands.1 c.compare.ensures.to_stays in
    let told_now = c.compare.ensures.from_stays.reads ∙ told_from in
    let stands = subst (λ (rows : List Row). StandsOn g.E.Disk.medium c.add_missing.new.mine c.add_missing.new.to rows) (front_rest mine theirs front)
    (c.add_missing.ensures.stands n is theirs mine from_now to_now x told_now) in
    record {
      theirs = theirs;
      holds_them = from_stands.2 x told;
      count = done_count c.add_missing.result n _ is c.add_missing.ensures.kind ∙ from_stands.1.stands_for.held_is;
      reads = λ image is. (read_has m c.add_missing.new.mine c.add_missing.new.to theirs image stands is).rows_are;
      crash = crash_rows m c.add_missing.new.mine c.add_missing.new.to theirs stands;
    }

pub returns-in-UnlikeAt-clause-answers : goal.returns-in-UnlikeAt-clause-answers
returns-in-UnlikeAt-clause-answers g c x told y told2 =
    let from_stands = c.in-Ok.ensures.stands in let to_stands = c.in-Ok-open_to.ensures.stands in
    let theirs = from_stands.0 in let mine = to_stands.0 in
    let told_from = c.open_from.ensures.stays.reads ∙ told in
    let told_to = c.in-Ok-open_to.ensures.reads ∙ ap (map_told remade) told2 in
    let can : CanBeCopied x from_stands.0 = record { holds_them = from_stands.2 x told; few = omega (arith, c.in-Ok.ensures.few, from_stands.1.stands_for.held_is) } in
    let may : CanBeAddedTo y to_stands.0 = record { holds_them = to_stands.2 y told2; current = (c.in-Ok-open_to.ensures.finds y told2).1.current } in
    let unlike = c.in-UnlikeAt.ensures.compares theirs mine from_stands.1 (can_be_read g.E.Disk.medium c.in-Ok-open_to.book c.open_to.new.to mine to_stands.1) x told_from (remade y) told_to in
    (theirs, mine, can, may, unlike)

pub returns-in-UnlikeAt-clause-images : goal.returns-in-UnlikeAt-clause-images
returns-in-UnlikeAt-clause-images g c x told y told2 mine crash =
    let m = g.E.Disk.medium in
    adds_none m mine (to_add (NotPrefix c.in-UnlikeAt.n) (rows_of x) mine) c.args.to.now c.compare.new.to
    (leaves_stays m (HasRows mine) c.args.to.now c.open_to.new.to c.compare.new.to (c.open_to.ensures.images mine crash) c.compare.ensures.to_stays)

pub returns-in-FromFault-clause-images : goal.returns-in-FromFault-clause-images
returns-in-FromFault-clause-images g c x told y told2 mine crash =
    let m = g.E.Disk.medium in
    adds_none m mine (to_add FromFault (rows_of x) mine) c.args.to.now c.compare.new.to
    (leaves_stays m (HasRows mine) c.args.to.now c.open_to.new.to c.compare.new.to (c.open_to.ensures.images mine crash) c.compare.ensures.to_stays)

pub returns-clause-images : goal.returns-clause-images
returns-clause-images g c x told y told2 mine crash =
    let m = g.E.Disk.medium in
    adds_none m mine (to_add ToFault (rows_of x) mine) c.args.to.now c.compare.new.to
    (leaves_stays m (HasRows mine) c.args.to.now c.open_to.new.to c.compare.new.to (c.open_to.ensures.images mine crash) c.compare.ensures.to_stays)

pub returns-in-Err-clause-from_went : goal.returns-in-Err-clause-from_went
returns-in-Err-clause-from_went g c = reads_recovery g.D.Disk.medium c.args.from.now c.open_from.new.from 0 (is_from_fault c.in-Err.end) c.in-Err.ensures.went

pub returns-in-Err-open_to-clause-from_went : goal.returns-in-Err-open_to-clause-from_went
returns-in-Err-open_to-clause-from_went g c =
    rw (ap is_from_fault c.not_opened.ensures ∙ no_from_fault c.in-Err-open_to.why) (reads_recovery g.D.Disk.medium c.args.from.now c.open_from.new.from _ false c.in-Ok.ensures.went)

pub returns-in-Front-clause-from_went : goal.returns-in-Front-clause-from_went
returns-in-Front-clause-from_went g c =
    let m = g.D.Disk.medium in let stands = c.in-Ok.ensures.stands in let book = c.in-Ok.book in
    let slots = slots_same book stands.0 stands.1.stands_for in
    let opened = rw slots at c.in-Ok.ensures.went in
    let compared = c.in-Front.ensures.from_went stands.0 stands.1.stands_for in
    reads_more m c.args.from.now c.open_from.new.from c.add_missing.new.from (slot_total stands.0) (is_from_fault c.add_missing.result) opened
    (more_reads m compared (c.add_missing.ensures.from_went stands.0 stands.1.stands_for))

pub returns-in-UnlikeAt-clause-from_went : goal.returns-in-UnlikeAt-clause-from_went
returns-in-UnlikeAt-clause-from_went g c =
    let m = g.D.Disk.medium in let stands = c.in-Ok.ensures.stands in let book = c.in-Ok.book in
    let slots = slots_same book stands.0 stands.1.stands_for in
    let opened = rw slots at c.in-Ok.ensures.went in
    let compared = c.in-UnlikeAt.ensures.from_went stands.0 stands.1.stands_for in
    reads_more m c.args.from.now c.open_from.new.from c.compare.new.from (slot_total stands.0) false opened compared

pub returns-in-FromFault-clause-from_went : goal.returns-in-FromFault-clause-from_went
returns-in-FromFault-clause-from_went g c =
    let m = g.D.Disk.medium in let stands = c.in-Ok.ensures.stands in let book = c.in-Ok.book in
    let slots = slots_same book stands.0 stands.1.stands_for in
    let opened = rw slots at c.in-Ok.ensures.went in
    let compared = c.in-FromFault.ensures.from_went stands.0 stands.1.stands_for in
    reads_more m c.args.from.now c.open_from.new.from c.compare.new.from (slot_total stands.0) true opened compared

pub returns-clause-from_went : goal.returns-clause-from_went
returns-clause-from_went g c =
    let m = g.D.Disk.medium in let stands = c.in-Ok.ensures.stands in let book = c.in-Ok.book in
    let slots = slots_same book stands.0 stands.1.stands_for in
    let opened = rw slots at c.in-Ok.ensures.went in
    let compared = c.in-ToFault.ensures.from_went stands.0 stands.1.stands_for in
    reads_more m c.args.from.now c.open_from.new.from c.compare.new.from (slot_total stands.0) false opened compared

pub returns-in-Err-clause-to_went : goal.returns-in-Err-clause-to_went
returns-in-Err-clause-to_went g c = rw (no_to_fault c.in-Err.end c.in-Err.ensures.kind) (calls_none g.E.Disk.medium c.args.to.now _)

pub returns-in-Err-open_to-clause-to_went : goal.returns-in-Err-open_to-clause-to_went
returns-in-Err-open_to-clause-to_went g c =
    calls_opening g.E.Disk.medium c.args.to.now _ c.open_to.new.to 0 (is_to_fault c.not_opened.result) c.open_to.ensures.begun.0
    (rw (opening_faults c.in-Err-open_to.why ∙ sym (ap is_to_fault c.not_opened.ensures)) at c.in-Err-open_to.ensures.went)

pub returns-in-UnlikeAt-clause-to_went : goal.returns-in-UnlikeAt-clause-to_went
returns-in-UnlikeAt-clause-to_went g c =
    let m = g.E.Disk.medium in let stands = c.in-Ok-open_to.ensures.stands in let book = c.in-Ok-open_to.book in
    let slots = slots_same book stands.0 stands.1.stands_for in
    let opened = rw slots at c.in-Ok-open_to.ensures.went in
    let compared = c.in-UnlikeAt.ensures.to_went stands.0 stands.1.stands_for in
    calls_looked m c.args.to.now _ c.open_to.new.to c.compare.new.to (slot_total stands.0) false c.open_to.ensures.begun.0 c.compare.ensures.to_stays.at opened compared

pub returns-in-FromFault-clause-to_went : goal.returns-in-FromFault-clause-to_went
returns-in-FromFault-clause-to_went g c =
    let m = g.E.Disk.medium in let stands = c.in-Ok-open_to.ensures.stands in let book = c.in-Ok-open_to.book in
    let slots = slots_same book stands.0 stands.1.stands_for in
    let opened = rw slots at c.in-Ok-open_to.ensures.went in
    let compared = c.in-FromFault.ensures.to_went stands.0 stands.1.stands_for in
    calls_looked m c.args.to.now _ c.open_to.new.to c.compare.new.to (slot_total stands.0) false c.open_to.ensures.begun.0 c.compare.ensures.to_stays.at opened compared

pub returns-clause-to_went : goal.returns-clause-to_went
returns-clause-to_went g c =
    let m = g.E.Disk.medium in let stands = c.in-Ok-open_to.ensures.stands in let book = c.in-Ok-open_to.book in
    let slots = slots_same book stands.0 stands.1.stands_for in
    let opened = rw slots at c.in-Ok-open_to.ensures.went in
    let compared = c.in-ToFault.ensures.to_went stands.0 stands.1.stands_for in
    calls_looked m c.args.to.now _ c.open_to.new.to c.compare.new.to (slot_total stands.0) true c.open_to.ensures.begun.0 c.compare.ensures.to_stays.at opened compared

pub returns-in-Front-clause-to_went : goal.returns-in-Front-clause-to_went
returns-in-Front-clause-to_went g c =
    let m = g.E.Disk.medium in let stands = c.in-Ok-open_to.ensures.stands in let book = c.in-Ok-open_to.book in
    let slots = slots_same book stands.0 stands.1.stands_for in
    let opened = rw slots at c.in-Ok-open_to.ensures.went in
    let compared = c.in-Front.ensures.to_went stands.0 stands.1.stands_for in
    calls_added m c.args.to.now stands.0 _ _ c.open_to.new.to c.compare.new.to c.add_missing.new.to (slot_total stands.0) (is_to_fault c.add_missing.result)
    c.open_to.ensures.begun.0 c.compare.ensures.to_stays.at opened compared (c.add_missing.ensures.to_went stands.0 stands.1.stands_for)
    (λ next is x told y told2.
    let from_stands = c.in-Ok.ensures.stands in
    let from_now = to_read_stays g.D.Disk.medium c.in-Ok.book c.open_from.new.from c.compare.new.from from_stands.0 from_stands.1 c.compare.ensures.from_stays in
    let front = is from_stands.0 from_now x (c.compare.ensures.from_stays.reads ∙ c.open_from.ensures.stays.reads ∙ told) in
    (stands.2 y told2, rw (from_stands.2 x told) front))

pub returns-in-Err-clause-moved : goal.returns-in-Err-clause-moved
returns-in-Err-clause-moved g c x told y told2 = from_moves c.in-Err.end _ _ y c.in-Err.ensures.kind

pub returns-in-Err-open_to-clause-moved : goal.returns-in-Err-open_to-clause-moved
returns-in-Err-open_to-clause-moved g c x told y told2 = rw c.not_opened.ensures (to_moves c.in-Err-open_to.why _ _ _ y c.in-Err-open_to.ensures.moved (λ moved. moved y told2))

pub returns-in-UnlikeAt-clause-moved : goal.returns-in-UnlikeAt-clause-moved
returns-in-UnlikeAt-clause-moved g c x told y told2 = rw c.compare.ensures.to_stays.at (c.in-Ok-open_to.ensures.moved y told2)

pub returns-in-Front-clause-moved : goal.returns-in-Front-clause-moved
returns-in-Front-clause-moved g c x told y told2 =
    let m = g.E.Disk.medium in let stands = c.in-Ok-open_to.ensures.stands in
    adding_moves c.add_missing.result (m.moment c.args.to.now) (m.moment c.open_to.new.to) (m.moment c.add_missing.new.to) _ y stands.0 c.add_missing.ensures.kind (stands.2 y told2)
    (c.in-Ok-open_to.ensures.moved y told2)
    (λ e. let moved = c.add_missing.ensures.moved e in let held = stands.1.stands_for.held_is in
    rw (sym held) (moved ∙ ap (λ n. n + 4 * batch_count (len_of c.in-Ok.book - len_of c.in-Ok-open_to.book)) c.compare.ensures.to_stays.at))
