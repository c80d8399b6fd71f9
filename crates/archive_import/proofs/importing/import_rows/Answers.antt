use Rattle.std.proofs.Common.{◌≡◌, ◌∙◌, ◌++◌, [], List, true, false, length, refl, sym, ap, subst, arith}
use Rattle.station_base.specs.declared.row.Row.{Row}
use Rattle.row_text.proofs.TextWritten.{text_is}
use Rattle.row_text.specs.RowsOfText.{rows_of_text}
use Rattle.weather_book.proofs.BookOnDisk.{crash_rows, read_has}
use Rattle.weather_book.specs.Stands.{StandsOn}
use Rattle.batch_adding.specs.Opening.{CanBeAddedTo}
use Rattle.batch_adding.proofs.BookAtRest.{adds_none}
use Rattle.batch_adding.proofs.CallsTogether.{calls_opening}
use Rattle.archive_import.specs.Ends.{is_import_fault}
use Rattle.archive_import.specs.Importing.{may_add, rows_to_import}
use Rattle.archive_import.specs.Texts.{text_rows, rows_to_come, rows_told}
use Rattle.archive_import.proofs.Added.{calls_later, later_same, leaves_later}
use Rattle.archive_import.proofs.Ahead.{judged_rows}
use Rattle.archive_import.proofs.ImportEnds.{refused_answers, refused_faults, refused_moves}
use Rattle.archive_import.proofs.importing.import_rows.Goals as goal
use Rattle.archive_import.proofs.importing.import_rows.Goals.{then-held-most-via-then-held-most, then-held-most-via-else-held-most+then-added-most}

pub returns-in-Err-clause-answers : goal.returns-in-Err-clause-answers
returns-in-Err-clause-answers g c x told =
    rw c.not_opened.ensures (refused_answers c.in-Err.why (text_rows c.args.text.now) x (c.in-Err.ensures.finds x told))

pub returns-in-Err-clause-went : goal.returns-in-Err-clause-went
returns-in-Err-clause-went g c =
    calls_opening g.E.Disk.medium c.args.to.now _ c.open_to.new.to 0 (is_import_fault c.not_opened.result) c.open_to.ensures.begun.0
    (rw (refused_faults c.in-Err.why ∙ sym (ap is_import_fault c.not_opened.ensures)) at c.in-Err.ensures.went)

pub returns-in-Err-clause-images : goal.returns-in-Err-clause-images
returns-in-Err-clause-images g c x told mine crash =
    adds_none g.E.Disk.medium mine (may_add c.not_opened.result mine (text_rows c.args.text.now)) c.args.to.now c.open_to.new.to (c.open_to.ensures.images mine crash)

pub returns-in-Err-clause-moved : goal.returns-in-Err-clause-moved
returns-in-Err-clause-moved g c x told = rw c.not_opened.ensures (refused_moves c.in-Err.why _ _ _ x c.in-Err.ensures.moved (λ moved. moved x told))

pub pass_over-behind-requires-clause-rising : goal.pass_over-behind-requires-clause-rising
pass_over-behind-requires-clause-rising g c =
    let judged = judged_rows (rows_of_text c.args.text.now) c.args.count c.requires.judged in
    rw (ap rows_told c.of-lines.ensures.rows) (text_is c.args.text.now (text_rows c.args.text.now) judged.0).1

pub returns-then-held-most-clause-answers : goal.returns-then-held-most-clause-answers
returns-then-held-most-clause-answers g c x told =
    let stands = c.in-Ok.ensures.stands in
    let same = later_same stands.0 c.last.result c.of-lines.result c.args.text.now (c.last.ensures.rows stands.0 stands.1.stands_for) c.of-lines.ensures.rows in
    let may : CanBeAddedTo x stands.0 = record { holds_them = stands.2 x told; current = (c.in-Ok.ensures.finds x told).1.current } in
    let held = stands.1.stands_for.held_is in (
      stands.0,
      may,
      elim c.then-held-most.branch [
        | then-held-most-via-then-held-most w ↦ omega (arith, w.if-held-most.true, c.len-held.ensures.len, held, c.from-most.ensures)
        | then-held-most-via-else-held-most+then-added-most w ↦
            omega (arith, w.if-held-most.false, w.if-added-most.true, c.len-held.ensures.len, held, c.from-most.ensures, c.pass_over-behind.ensures.count, ap length same)
      ],
    )

pub returns-then-held-most-clause-went : goal.returns-then-held-most-clause-went
returns-then-held-most-clause-went g c =
    calls_opening g.E.Disk.medium c.args.to.now _ c.open_to.new.to _ false c.open_to.ensures.begun.0 c.in-Ok.ensures.went

pub returns-then-held-most-clause-images : goal.returns-then-held-most-clause-images
returns-then-held-most-clause-images g c x told mine crash =
    adds_none g.E.Disk.medium mine [] c.args.to.now c.open_to.new.to (c.open_to.ensures.images mine crash)

pub returns-in-Done-clause-answers : goal.returns-in-Done-clause-answers
returns-in-Done-clause-answers g c x told =
    let stands = c.in-Ok.ensures.stands in
    let same = later_same stands.0 c.last.result c.of-lines.result c.args.text.now (c.last.ensures.rows stands.0 stands.1.stands_for) c.of-lines.ensures.rows in
    let may : CanBeAddedTo x stands.0 = record { holds_them = stands.2 x told; current = (c.in-Ok.ensures.finds x told).1.current } in
    let held = stands.1.stands_for.held_is in
    let judged = judged_rows (rows_of_text c.args.text.now) c.args.count c.requires.judged in (
      stands.0,
      may,
      record {
        added = c.pass_over-behind.ensures.count ∙ ap length same;
        passed = omega (arith, c.pass_over-behind.ensures.fewer, judged.1);
        held = omega (arith, c.len-held.ensures.len, held);
        few = omega (arith, c.if-held-most.false, c.if-added-most.false, c.from-most.ensures);
      },
    )

pub returns-in-Done-clause-imported : goal.returns-in-Done-clause-imported
returns-in-Done-clause-imported g c done is x told =
    let m = g.E.Disk.medium in let stands = c.in-Ok.ensures.stands in let rows = text_rows c.args.text.now in
    let same = later_same stands.0 c.last.result c.of-lines.result c.args.text.now (c.last.ensures.rows stands.0 stands.1.stands_for) c.of-lines.ensures.rows in
    let come : rows_to_come c.pass_over-behind.result.first.items c.pass_over-behind.new.lines ≡ rows_to_import stands.0 (text_rows c.args.text.now) =
    c.pass_over-behind.ensures.later ∙ same in
    let whole : List Row = stands.0 ++ rows_to_import stands.0 rows in
    let on = subst (λ (next : List Row). StandsOn g.E.Disk.medium c.add_rows.new.mine c.add_rows.new.to (stands.0 ++ next)) come (c.in-Done.ensures.stands refl stands.0 stands.1) in
    record {
      mine = stands.0;
      held_them = stands.2 x told;
      reads = λ image is. (read_has m c.add_rows.new.mine c.add_rows.new.to whole image on is).rows_are;
      crash = crash_rows m c.add_rows.new.mine c.add_rows.new.to whole on;
    }

pub returns-in-Done-clause-went : goal.returns-in-Done-clause-went
returns-in-Done-clause-went g c =
    let stands = c.in-Ok.ensures.stands in
    let same = later_same stands.0 c.last.result c.of-lines.result c.args.text.now (c.last.ensures.rows stands.0 stands.1.stands_for) c.of-lines.ensures.rows in
    calls_later g.E.Disk.medium stands.0 (text_rows c.args.text.now) _ c.args.to.now c.open_to.new.to c.add_rows.new.to stands.2
    (c.pass_over-behind.ensures.later ∙ same) c.open_to.ensures.begun.0
    c.in-Ok.book false stands.1.stands_for c.in-Ok.ensures.went (c.in-Done.ensures.went stands.0 stands.1.stands_for)

pub returns-in-Done-clause-images : goal.returns-in-Done-clause-images
returns-in-Done-clause-images g c x told mine crash =
    let stands = c.in-Ok.ensures.stands in
    let same = later_same stands.0 c.last.result c.of-lines.result c.args.text.now (c.last.ensures.rows stands.0 stands.1.stands_for) c.of-lines.ensures.rows in
    leaves_later g.E.Disk.medium stands.0 (text_rows c.args.text.now) _ c.args.to.now c.open_to.new.to c.add_rows.new.to stands.2
    (c.pass_over-behind.ensures.later ∙ same) c.open_to.ensures.begun.0
    x mine told crash (c.open_to.ensures.images mine crash) (c.in-Done.ensures.images stands.0 stands.1)

pub returns-in-Fault-clause-went : goal.returns-in-Fault-clause-went
returns-in-Fault-clause-went g c =
    let stands = c.in-Ok.ensures.stands in
    let same = later_same stands.0 c.last.result c.of-lines.result c.args.text.now (c.last.ensures.rows stands.0 stands.1.stands_for) c.of-lines.ensures.rows in
    calls_later g.E.Disk.medium stands.0 (text_rows c.args.text.now) _ c.args.to.now c.open_to.new.to c.add_rows.new.to stands.2
    (c.pass_over-behind.ensures.later ∙ same) c.open_to.ensures.begun.0
    c.in-Ok.book true stands.1.stands_for c.in-Ok.ensures.went (c.in-Fault.ensures.went stands.0 stands.1.stands_for)

pub returns-in-Fault-clause-images : goal.returns-in-Fault-clause-images
returns-in-Fault-clause-images g c x told mine crash =
    let stands = c.in-Ok.ensures.stands in
    let same = later_same stands.0 c.last.result c.of-lines.result c.args.text.now (c.last.ensures.rows stands.0 stands.1.stands_for) c.of-lines.ensures.rows in
    leaves_later g.E.Disk.medium stands.0 (text_rows c.args.text.now) _ c.args.to.now c.open_to.new.to c.add_rows.new.to stands.2
    (c.pass_over-behind.ensures.later ∙ same) c.open_to.ensures.begun.0
    x mine told crash (c.open_to.ensures.images mine crash) (c.in-Fault.ensures.images stands.0 stands.1)

pub returns-clause-went : goal.returns-clause-went
returns-clause-went g c =
    let stands = c.in-Ok.ensures.stands in
    let same = later_same stands.0 c.last.result c.of-lines.result c.args.text.now (c.last.ensures.rows stands.0 stands.1.stands_for) c.of-lines.ensures.rows in
    calls_later g.E.Disk.medium stands.0 (text_rows c.args.text.now) _ c.args.to.now c.open_to.new.to c.add_rows.new.to stands.2
    (c.pass_over-behind.ensures.later ∙ same) c.open_to.ensures.begun.0
    c.in-Ok.book false stands.1.stands_for c.in-Ok.ensures.went (c.in-OutOfMemory.ensures.went stands.0 stands.1.stands_for)

pub returns-clause-images : goal.returns-clause-images
returns-clause-images g c x told mine crash =
    let stands = c.in-Ok.ensures.stands in
    let same = later_same stands.0 c.last.result c.of-lines.result c.args.text.now (c.last.ensures.rows stands.0 stands.1.stands_for) c.of-lines.ensures.rows in
    leaves_later g.E.Disk.medium stands.0 (text_rows c.args.text.now) _ c.args.to.now c.open_to.new.to c.add_rows.new.to stands.2
    (c.pass_over-behind.ensures.later ∙ same) c.open_to.ensures.begun.0
    x mine told crash (c.open_to.ensures.images mine crash) (c.in-OutOfMemory.ensures.images stands.0 stands.1)
