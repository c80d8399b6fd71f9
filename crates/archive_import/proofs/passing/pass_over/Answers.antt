use Rattle.std.proofs.Common.{◌≡◌, ◌++◌, ◌∙◌, ◌∷◌, [], All, List, Some, None, true, false, length, refl, sym, ap, subst, arith, rules}
use Rattle.std.proofs.lemmas.List.Elements.{All-nil, All-push}
use Rattle.station_base.specs.FieldSet.{AreMissing}
use Rattle.station_base.specs.RowLine.{IsPrintable}
use Rattle.station_base.specs.declared.row.Row.{Row}
use Rattle.packed_rows.specs.Rising.{RowsRiseAfter, stamp_exceeds}
use Rattle.row_text.specs.RowsLeft.{rows_left}
use Rattle.archive_import.specs.Importing.{later_rows}
use Rattle.archive_import.specs.Texts.{rows_ahead, rows_to_come}
use Rattle.archive_import.proofs.Ahead.{next_told}
use Rattle.archive_import.proofs.Fives.{no_rows}
use Rattle.archive_import.proofs.Later.{from_later, passed, rise_alone}
use Rattle.archive_import.proofs.passing.pass_over.Goals as goal

pub loop-left-init : goal.loop-left-init
loop-left-init c =
    let none = c.new-first.ensures in
    record {
      rows = c.requires.rows;
      left = rw none c.requires.count;
      fewer = omega arith;
      rising = rw none c.requires.rising;
      later = rw none refl;
      few = omega (arith, ap length none);
      found = λ some. absurd (omega (arith, some, ap length none));
      printable = rw none (All-nil (λ (r : Row). All IsPrintable r.values));
      limited = rw none (All-nil (λ (r : Row). AreMissing r.limited r.values));
    }

pub loop-left-preserved-then-is_later : goal.loop-left-preserved-then-is_later
loop-left-preserved-then-is_later c =
    let i = c.loop-left.invariant in let row = c.in-Ok.row in let read = c.in-Ok.is in let last = c.args.last in
    let none : length c.loop-left.first.items ≡ 0 = search rules in
    let empty = no_rows c.loop-left.first.items none in
    let writable = rw read at c.in-Some.ensures.writable in
    let next = next_told (rows_left c.loop-left.lines) (rows_left c.next.new.self) c.in-Ok.row i.rows (rw read at c.in-Some.ensures.rows) in
    let rest = rows_ahead c.next.new.self in
    let items : c.push.new.self.items ≡ c.in-Ok.row ∷ [] = c.push.ensures.items ∙ ap (λ (rows : List Row). rows ++ row ∷ []) empty in
    let here : rows_to_come c.push.new.self.items c.next.new.self ≡ c.in-Ok.row ∷ rows_ahead c.next.new.self = ap (λ (rows : List Row). rows ++ rest) items in
    let same : rows_to_come c.push.new.self.items c.next.new.self ≡ rows_to_come c.loop-left.first.items c.loop-left.lines =
    here ∙ sym next.1 ∙ ap (λ (rows : List Row). rows ++ rows_ahead c.loop-left.lines) (sym empty) in
    let P : List Row → Type 0 = λ rows. RowsRiseAfter None rows in
    let rising : RowsRiseAfter None (c.in-Ok.row ∷ rows_ahead c.next.new.self) = subst P (sym same ∙ here) i.rising in
    let later : stamp_exceeds c.args.last c.in-Ok.row.stamp ≡ true = sym c.exceeds-is_later.ensures ∙ c.if-is_later.true in
    record {
      rows = next.0;
      left = i.left ∙ ap length (sym same);
      fewer = i.fewer;
      rising = subst P (sym same) i.rising;
      later = i.later ∙ ap (later_rows last) (sym same);
      few = omega (arith, ap length items);
      found = λ some. rw here (from_later last row rest later rising, (later, rising.1));
      printable = rw c.push.ensures.items (All-push (λ (r : Row). All IsPrintable r.values) c.loop-left.first.items row i.printable writable.values);
      limited = rw c.push.ensures.items (All-push (λ (r : Row). AreMissing r.limited r.values) c.loop-left.first.items row i.limited writable.limited);
    }

pub loop-left-preserved : goal.loop-left-preserved
loop-left-preserved c =
    let i = c.loop-left.invariant in let row = c.in-Ok.row in let read = c.in-Ok.is in let last = c.args.last in
    let none : length c.loop-left.first.items ≡ 0 = search rules in
    let empty = no_rows c.loop-left.first.items none in
    let next = next_told (rows_left c.loop-left.lines) (rows_left c.next.new.self) c.in-Ok.row i.rows (rw read at c.in-Some.ensures.rows) in
    let rest = rows_ahead c.next.new.self in
    let here : rows_to_come c.loop-left.first.items c.loop-left.lines ≡ c.in-Ok.row ∷ rows_ahead c.next.new.self =
    ap (λ (rows : List Row). rows ++ rows_ahead c.loop-left.lines) empty ∙ next.1 in
    let now : rows_to_come c.loop-left.first.items c.next.new.self ≡ rows_ahead c.next.new.self = ap (λ (rows : List Row). rows ++ rest) empty in
    let P : List Row → Type 0 = λ rows. RowsRiseAfter None rows in
    let rising : RowsRiseAfter None (c.in-Ok.row ∷ rows_ahead c.next.new.self) = subst P here i.rising in
    let not_later : stamp_exceeds c.args.last c.in-Ok.row.stamp ≡ false = sym c.exceeds-is_later.ensures ∙ c.if-is_later.false in
    record {
      rows = next.0;
      left = omega (arith, i.left, ap length here, ap length now, c.loop-left-test.true);
      fewer = omega (arith, i.fewer);
      rising = subst P (sym now) (rise_alone (Some row.stamp) rest rising.1);
      later = i.later ∙ ap (later_rows last) here ∙ passed last row rest not_later ∙ ap (later_rows last) (sym now);
      few = i.few;
      found = λ some. absurd (omega (arith, some, none));
      printable = i.printable;
      limited = i.limited;
    }
