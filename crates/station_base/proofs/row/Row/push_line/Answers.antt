use Rattle.std.proofs.Common.{◌≡◌, ◌≤◌, ◌++◌, ◌∙◌, ℕ, List, ap, arith, codes, length, rules}
use Rattle.station_base.specs.NumberText.{number_text}
use Rattle.station_base.specs.Line.{line_so_far}
use Rattle.station_base.specs.RowLine.{row_line, values_text}
use Rattle.station_base.specs.Stamp.{stamp_text}
use Rattle.station_base.proofs.FieldSets.{missing_below}
use Rattle.station_base.proofs.NumberWidths.{number_text_short}
use Rattle.station_base.proofs.Periods.{period_bound}
use Rattle.station_base.proofs.row.Row.push_line.Goals as goal

pub unwrap-limited-requires : goal.unwrap-limited-requires
unwrap-limited-requires g c =
    let below = missing_below c.args.self.now.limited c.args.self.now.values c.requires.limited in
    search rules

pub put_number-requires : goal.put_number-requires
put_number-requires g c =
    let short : length (number_text c.from.result) ≤ 3 = number_text_short c.from.result (omega (arith, period_bound c.minutes.result c.minutes.ensures.period)) in
    omega arith

pub push_values-requires-clause-room : goal.push_values-requires-clause-room
push_values-requires-clause-room g c =
    let short : length (number_text c.from.result) ≤ 3 = number_text_short c.from.result (omega (arith, period_bound c.minutes.result c.minutes.ensures.period)) in
    omega arith

pub put-requires-4 : goal.put-requires-4
put-requires-4 g c =
    let short : length (number_text c.from.result) ≤ 3 = number_text_short c.from.result (omega (arith, period_bound c.minutes.result c.minutes.ensures.period)) in
    (search rules, omega arith)

pub text-requires-2 : goal.text-requires-2
text-requires-2 g c =
    let short : length (number_text c.from.result) ≤ 3 = number_text_short c.from.result (omega (arith, period_bound c.minutes.result c.minutes.ensures.period)) in
    omega arith

pub push_bytes-requires : goal.push_bytes-requires
push_bytes-requires g c =
    let short : length (number_text c.from.result) ≤ 3 = number_text_short c.from.result (omega (arith, period_bound c.minutes.result c.minutes.ensures.period)) in
    (search rules, omega arith)

pub returns-clause-text : goal.returns-clause-text
unfolding row_line
returns-clause-text g c =
    let row = c.args.self.now in
    let limited : c.unwrap-limited.result ≡ row.limited = search rules in
    let head : line_so_far c.put.new.self ≡ codes "row " = c.put.ensures.text ∙ ap (λ xs. xs ++ codes "row ") c.new-line.ensures.text in
    let stamp : line_so_far c.put-2.new.self ≡ codes "row " ++ stamp_text row.stamp =
    c.put-2.ensures.text ∙ ap (λ xs. xs ++ c.text.result) head ∙ ap (λ xs. codes "row " ++ xs) c.text.ensures in
    let ahead : line_so_far c.put-3.new.self ≡ codes "row " ++ stamp_text row.stamp ++ codes " " = c.put-3.ensures.text ∙ ap (λ xs. xs ++ codes " ") stamp in
    let interval : number_text c.from.result ≡ number_text row.interval = ap number_text (c.from.ensures ∙ c.minutes.ensures.minutes) in
    let front : List ℕ = codes "row " ++ stamp_text row.stamp ++ codes " " in
    let begun : line_so_far c.put_number.new.self ≡ front ++ number_text row.interval =
    c.put_number.ensures.text ∙ ap (λ xs. xs ++ number_text c.from.result) ahead ∙ ap (λ xs. front ++ xs) interval in
    let told : line_so_far c.push_values.new.line ≡ front ++ number_text row.interval ++ values_text row.limited 0 row.values =
    c.push_values.ensures.text
    ∙ ap (λ xs. xs ++ values_text c.unwrap-limited.result 0 row.values) begun
    ∙ ap (λ n. front ++ number_text row.interval ++ values_text n 0 row.values) limited in
    c.push_bytes.ensures.bytes
    ∙ ap (λ xs. c.args.text.now.items ++ xs) (c.text-2.ensures.text ∙ c.put-4.ensures.text ∙ ap (λ xs. xs ++ codes "\n") told)

pub returns-clause-length : goal.returns-clause-length
returns-clause-length g c =
    let short : length (number_text c.from.result) ≤ 3 = number_text_short c.from.result (omega (arith, period_bound c.minutes.result c.minutes.ensures.period)) in
    omega arith
