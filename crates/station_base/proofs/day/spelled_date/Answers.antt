use Rattle.std.proofs.Common.{◌≡◌, ◌%◌, [], ◌∷◌, ap, rules, slice_index, arith, length}
use Rattle.station_base.specs.Digits.{digits}
use Rattle.station_base.proofs.DigitPairs.{digits-low, spelled}
use Rattle.station_base.proofs.day.spelled_date.Goals as goal

pub returns-in_err-year-clause-only : goal.returns-in_err-year-clause-only
returns-in_err-year-clause-only c date spelled =
    let text = c.args.text.now in
    let tens = ap (λ t. slice_index t 2) spelled.written in
    let units = ap (λ t. slice_index t 3) spelled.written in
    let written : digits 2 (date.year % 100) ≡ slice_index text 2 ∷ slice_index text 3 ∷ [] = rw (tens, units) (digits-low date.year) in
    let some = c.number_of-2.ensures.only (date.year % 100) (omega arith) written in
    let was = c.in_err-year.was in
    cc

pub returns-clause-found : goal.returns-clause-found
returns-clause-found c =
    let text = c.args.text.now in
    let century = c.in_ok-century.ensures.found in
    let year = c.in_ok-year.ensures.found in
    let month = c.in_ok-month.ensures.found in
    let day = c.in_ok-day.ensures.found in
    let month_dash : slice_index text 4 ≡ 45 = search rules in
    let day_dash : slice_index text 7 ≡ 45 = search rules in
    let long : length text ≡ 10 = omega arith in
    record {
      written = rw (c.from.ensures, c.from-2.ensures) (spelled text _ _ _ _ long century.0 year.0 century.1 year.1 month_dash month.1 day_dash day.1);
      year = omega (arith, century.0, year.0);
      month = month.0;
      day = day.0;
    }
