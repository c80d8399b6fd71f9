use Rattle.std.proofs.Common.{◌≡◌, ◌*◌, ◌<◌, ℕ, length, get_or, sym, ◌∙◌, ap, arith}
use Rattle.std.specs.Char.{digit_value}
use Rattle.std.proofs.lemmas.Int.Digits.{digits_more, digits_value_more}
use Rattle.numerals.proofs.Digits.{below, one_more, small_front, whole_number}
use Rattle.numerals.proofs.numeral.read_number.Goals as goal

pub overflow_mul-number : goal.overflow_mul-number
overflow_mul-number c =
    let small : c.loop-digit.number < 68719476736 = small_front c.args.base c.loop-digit.digit-index c.loop-digit.number c.args.digits.now (omega arith) c.requires.greatest_base (omega arith) c.loop-digit.invariant.read in
    let same : c.loop-digit.number * c.from.result ≡ c.loop-digit.number * c.args.base = ap (λ (b : ℕ). c.loop-digit.number * b) c.from.ensures in
    omega (arith, same, one_more c.args.base c.loop-digit.number c.requires.greatest_base small)

pub overflow_add-number : goal.overflow_add-number
overflow_add-number c =
    let small : c.loop-digit.number < 68719476736 = small_front c.args.base c.loop-digit.digit-index c.loop-digit.number c.args.digits.now (omega arith) c.requires.greatest_base (omega arith) c.loop-digit.invariant.read in
    let digit : digit_value c.from-in-loop-digit.result < c.args.base = c.in_ok-to_digit.ensures.value.0 in
    let same : c.in_ok-to_digit.field-0 ≡ digit_value c.from-in-loop-digit.result = c.in_ok-to_digit.ensures.value.1 in
    let below : c.in_ok-to_digit.field-0 < c.args.base = rw same digit in
    let wide : c.from-in-loop-digit-2.result ≡ c.in_ok-to_digit.field-0 = c.from-in-loop-digit-2.ensures in
    let product : c.loop-digit.number * c.from.result ≡ c.loop-digit.number * c.args.base = ap (λ (b : ℕ). c.loop-digit.number * b) c.from.ensures in
    omega (arith, product, wide, one_more c.args.base c.loop-digit.number c.requires.greatest_base small)

pub loop-digit-preserved : goal.loop-digit-preserved
loop-digit-preserved c =
    let index : c.loop-digit.digit-index < length c.args.digits.now = c.loop-digit-test.true in
    let same : c.from-in-loop-digit.result ≡ get_or c.args.digits.now c.loop-digit.digit-index 0 = c.from-in-loop-digit.ensures in
    let digit : digit_value (get_or c.args.digits.now c.loop-digit.digit-index 0) < c.args.base = rw (← same) c.in_ok-to_digit.ensures.value.0 in
    let last : c.from-in-loop-digit-2.result ≡ digit_value (get_or c.args.digits.now c.loop-digit.digit-index 0) = c.from-in-loop-digit-2.ensures ∙ c.in_ok-to_digit.ensures.value.1 ∙ ap digit_value same in
    record {
      read = record {
        within = omega arith;
        all = digits_more c.args.base c.args.digits.now c.loop-digit.digit-index index c.loop-digit.invariant.read.all digit;
        value = rw (last, c.from.ensures, c.loop-digit.invariant.read.value) (sym (digits_value_more c.args.base c.args.digits.now c.loop-digit.digit-index index));
      };
      nonempty = c.loop-digit.invariant.nonempty;
      short = c.loop-digit.invariant.short;
    }

pub returns-clause-number : goal.returns-clause-number
returns-clause-number c =
    whole_number c.args.base c.args.most c.loop-digit.digit-index c.loop-digit.number c.args.digits.now c.loop-digit.invariant.nonempty c.loop-digit.invariant.short (omega arith) c.loop-digit.invariant.read

pub returns-clause-below : goal.returns-clause-below
returns-clause-below c =
    below c.args.base c.args.most c.loop-digit.digit-index c.loop-digit.number c.args.digits.now (omega arith) (omega arith) c.loop-digit.invariant.read
