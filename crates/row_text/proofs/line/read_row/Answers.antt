use Rattle.std.proofs.Common.{rules, ◌≡◌, ℕ, ◌<◌, take, drop, Some, ap, sym, ◌∙◌, arith, codes, length}
use Rattle.station_base.specs.Stamp.{stamp_of_text}
use Rattle.row_text.specs.Words.{behind, first_word}
use Rattle.row_text.specs.Numbers.{period_of_text}
use Rattle.row_text.specs.RowOfLine.{row_behind_period}
use Rattle.row_text.proofs.Rows.{line_short, line_parts, rest_whole}
use Rattle.row_text.proofs.line.read_row.Goals as goal

pub returns-then-text-lt-STAMP_SIZE : goal.returns-then-text-lt-STAMP_SIZE
returns-then-text-lt-STAMP_SIZE c =
    let begun : behind (codes "row ") c.args.line.now ≡ Some c.in-Some.text.now = c.in-Some.ensures in
    let short : length c.in-Some.text.now < 16 = omega arith in
    sym (line_short c.args.line.now c.in-Some.text.now begun short)

pub returns : goal.returns
returns c =
    let begun : behind (codes "row ") c.args.line.now ≡ Some c.in-Some.text.now = c.in-Some.ensures in
    let stamped : stamp_of_text (take 16 c.in-Some.text.now) ≡ Some c.in-Some-from_text.stamp = search rules in
    let blank : behind (codes " ") (drop 16 c.in-Some.text.now) ≡ Some c.in-Some-read_behind.more.now = ap (behind (codes " ")) (sym (rest_whole 16 c.in-Some.text.now)) ∙ c.in-Some-read_behind.ensures in
    let word : period_of_text (take c.end_before-end.result c.in-Some-read_behind.more.now) ≡ Some c.in-Some-read_period.interval = search rules in
    let period : period_of_text (first_word c.in-Some-read_behind.more.now) ≡ Some c.in-Some-read_period.interval = ap (λ (n : ℕ). period_of_text (take n c.in-Some-read_behind.more.now)) (sym c.end_before-end.ensures.end) ∙ word in
    c.read_fields.ensures
    ∙ ap (row_behind_period c.in-Some-from_text.stamp c.in-Some-read_period.interval) (rest_whole c.end_before-end.result c.in-Some-read_behind.more.now)
    ∙ ap (λ (n : ℕ). row_behind_period c.in-Some-from_text.stamp c.in-Some-read_period.interval (drop n c.in-Some-read_behind.more.now)) c.end_before-end.ensures.end
    ∙ sym (line_parts c.args.line.now c.in-Some.text.now begun c.in-Some-from_text.stamp c.in-Some-read_behind.more.now stamped blank c.in-Some-read_period.interval period)
