use Rattle.std.proofs.Common.{ℕ, ap, sym, ◌∙◌, ◌≡◌, ◌<◌, Ok, Err, Some, take, true, false, length, rules}
use Rattle.station_base.specs.LastStamp.{exceeds}
use Rattle.row_text.specs.RowOfLine.{row_of_line}
use Rattle.row_text.proofs.TextLines.{feed_before, line_err, line_open, line_ok, after_err, after_not, after_ok}
use Rattle.row_text.proofs.Written.{read_row_is}
use Rattle.row_text.proofs.first_line.read_first_line.Goals as goal

pub returns-in-Err-clause-row : goal.returns-in-Err-clause-row
returns-in-Err-clause-row c =
    let read : row_of_line (take c.end_before-end.result c.args.text.now) ≡ Err c.in-Err.fault = search rules in
    line_err c.args.last c.args.line c.end_before-end.result c.args.text.now c.requires.some c.end_before-end.ensures.end _ (after_err c.args.last c.args.line _ c.in-Err.fault read)

pub returns-then-not-exceeds-clause-row : goal.returns-then-not-exceeds-clause-row
returns-then-not-exceeds-clause-row c =
    let read : row_of_line (take c.end_before-end.result c.args.text.now) ≡ Ok c.in-Ok.row = search rules in
    let order : exceeds c.args.last (Some c.in-Ok.row.stamp) ≡ false = search rules in
    line_err c.args.last c.args.line c.end_before-end.result c.args.text.now c.requires.some c.end_before-end.ensures.end _ (after_not c.args.last c.args.line _ c.in-Ok.row read order)

pub returns-then-end-text-clause-row : goal.returns-then-end-text-clause-row
returns-then-end-text-clause-row c =
    let read : row_of_line (take c.end_before-end.result c.args.text.now) ≡ Ok c.in-Ok.row = search rules in
    let order : exceeds c.args.last (Some c.in-Ok.row.stamp) ≡ true = search rules in
    line_open c.args.last c.args.line c.end_before-end.result c.args.text.now c.requires.some c.end_before-end.ensures.end c.in-Ok.row (after_ok c.args.last c.args.line _ c.in-Ok.row read order) c.if-end-text.true

pub returns-clause-row : goal.returns-clause-row
returns-clause-row c =
    let read : row_of_line (take c.end_before-end.result c.args.text.now) ≡ Ok c.in-Ok.row = search rules in
    let order : exceeds c.args.last (Some c.in-Ok.row.stamp) ≡ true = search rules in
    let within : c.end_before-end.result < length c.args.text.now = feed_before c.args.text.now c.end_before-end.result c.end_before-end.ensures.end c.if-end-text.false in
    line_ok c.args.last c.args.line c.end_before-end.result c.args.text.now c.requires.some c.end_before-end.ensures.end c.in-Ok.row (after_ok c.args.last c.args.line _ c.in-Ok.row read order) within

pub returns-clause-writable : goal.returns-clause-writable
returns-clause-writable c =
    let read : row_of_line (take c.end_before-end.result c.args.text.now) ≡ Ok c.in-Ok.row = search rules in
    read_row_is (take c.end_before-end.result c.args.text.now) c.in-Ok.row read

pub returns-clause-line : goal.returns-clause-line
returns-clause-line c =
    let read : row_of_line (take c.end_before-end.result c.args.text.now) ≡ Ok c.in-Ok.row = search rules in
    ap (λ (n : ℕ). row_of_line (take n c.args.text.now)) (sym c.end_before-end.ensures.end) ∙ read
