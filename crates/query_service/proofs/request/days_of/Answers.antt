use Rattle.std.proofs.Common.{int_cmp, is_gt, ◌≡◌, ◌∙◌, ◌∷◌, Some, None, true, false, sym, ap, arith}
use Rattle.station_base.specs.DayText.{day_text}
use Rattle.station_base.specs.declared.day.DayNumber.{DayNumber}
use Rattle.query_service.proofs.DayTexts.{days_back, days_front, days_long, not_behind}
use Rattle.query_service.proofs.request.days_of.Goals as goal

pub returns-then-text-lt-DAY-clause-only : goal.returns-then-text-lt-DAY-clause-only
returns-then-text-lt-DAY-clause-only c first last are =
    absurd (omega (arith, c.if-text-lt-DAY.true, days_long c.args.text.now first last are))

pub returns-in_err-last-clause-only : goal.returns-in_err-last-clause-only
returns-in_err-last-clause-only c first last are =
    let rest : c.split_at.result.1.now ≡ 32 ∷ day_text last.0 = c.split_at.ensures.back ∙ days_back c.args.text.now first last are in
    absurd (let bad : true ≡ false = rw (c.as_slice.ensures, rest) at c.in_err-last.ensures.cases in cc)

pub returns-in_err-first-clause-only : goal.returns-in_err-first-clause-only
returns-in_err-first-clause-only c first last are =
    let front : c.split_at.result.0.now ≡ day_text first.0 = c.split_at.ensures.front ∙ days_front c.args.text.now first last are in
    absurd (let bad : None ≡ Some first = sym c.in_err-first.was ∙ c.from_text.ensures.only first are.1.from front in cc)

pub returns-in_err-last-2-clause-only : goal.returns-in_err-last-2-clause-only
returns-in_err-last-2-clause-only c first last are =
    let rest : c.split_at.result.1.now ≡ 32 ∷ day_text last.0 = c.split_at.ensures.back ∙ days_back c.args.text.now first last are in
    let back : c.in_ok-last.last.now ≡ day_text last.0 = rw (c.as_slice.ensures, rest) at c.in_ok-last.ensures.cases.1 in
    absurd (let bad : None ≡ Some last = sym c.in_err-last-2.was ∙ c.from_text-2.ensures.only last are.1.to back in cc)

pub returns-then-gt-clause-only : goal.returns-then-gt-clause-only
returns-then-gt-clause-only c first last are =
    let front : c.split_at.result.0.now ≡ day_text first.0 = c.split_at.ensures.front ∙ days_front c.args.text.now first last are in
    let rest : c.split_at.result.1.now ≡ 32 ∷ day_text last.0 = c.split_at.ensures.back ∙ days_back c.args.text.now first last are in
    let back : c.in_ok-last.last.now ≡ day_text last.0 = rw (c.as_slice.ensures, rest) at c.in_ok-last.ensures.cases.1 in
    let firsts : c.in_ok-first.first ≡ first = (let same : Some c.in_ok-first.first ≡ Some first = sym c.in_ok-first.was ∙ c.from_text.ensures.only first are.1.from front in cc) in
    let lasts : c.in_ok-last-2.last ≡ last = (let same : Some c.in_ok-last-2.last ≡ Some last = sym c.in_ok-last-2.was ∙ c.from_text-2.ensures.only last are.1.to back in cc) in
    absurd (not_behind first.0 last.0 are.1.order
    (sym (ap (λ (day : DayNumber). is_gt (int_cmp day.0 c.in_ok-last-2.last.0)) firsts ∙ ap (λ (day : DayNumber). is_gt (int_cmp first.0 day.0)) lasts)
    ∙ (sym c.gt.ensures ∙ c.if-gt.true)))

pub returns-clause-only : goal.returns-clause-only
returns-clause-only c first last are =
    let front : c.split_at.result.0.now ≡ day_text first.0 = c.split_at.ensures.front ∙ days_front c.args.text.now first last are in
    let rest : c.split_at.result.1.now ≡ 32 ∷ day_text last.0 = c.split_at.ensures.back ∙ days_back c.args.text.now first last are in
    let back : c.in_ok-last.last.now ≡ day_text last.0 = rw (c.as_slice.ensures, rest) at c.in_ok-last.ensures.cases.1 in
    let firsts : c.in_ok-first.first ≡ first = (let same : Some c.in_ok-first.first ≡ Some first = sym c.in_ok-first.was ∙ c.from_text.ensures.only first are.1.from front in cc) in
    let lasts : c.in_ok-last-2.last ≡ last = (let same : Some c.in_ok-last-2.last ≡ Some last = sym c.in_ok-last-2.was ∙ c.from_text-2.ensures.only last are.1.to back in cc) in
    ap (λ (day : DayNumber). Some (day, c.in_ok-last-2.last)) firsts ∙ ap (λ (day : DayNumber). Some (first, day)) lasts
