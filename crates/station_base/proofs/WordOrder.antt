-- The order of two stamps' words is that of their minutes.
use Rattle.std.proofs.Common.{◌≡◌, ℕ, ◌+◌, ◌*◌, ◌<◌, ◌==◌, ◌||◌, ◌&&◌, ◌∙◌, arith}
use Rattle.std.specs.Prelude.{nat_lt}
use Rattle.std.specs.Ordering.{nat_cmp}
use Rattle.std.proofs.lemmas.Bool.Decides.{nat_tests}
use Rattle.station_base.specs.CivilMinute.{CivilMinute, IsCivilMinute, minute_of}
use Rattle.station_base.specs.Stamp.{date_word_of, time_word_of, order_key, words_exceed}
use Rattle.station_base.proofs.Order.{order_key-minute_of}

pub words_exceed_when_later : (a b : CivilMinute) → IsCivilMinute a → IsCivilMinute b
    → words_exceed (date_word_of a) (time_word_of a) (date_word_of b) (time_word_of b) ≡ nat_lt (minute_of a) (minute_of b)
words_exceed_when_later a b a_civil b_civil =
    let order = order_key-minute_of a b a_civil b_civil in
    let a_time : time_word_of a < 10000 = omega (arith, a_civil.hour_to, a_civil.minute_to) in
    let b_time : time_word_of b < 10000 = omega (arith, b_civil.hour_to, b_civil.minute_to) in
    key (date_word_of a) (time_word_of a) (date_word_of b) (time_word_of b) a_time b_time
    ∙ by_cmp (order_key a) (order_key b) (minute_of a) (minute_of b) order.0
  where
    key : (d t e u : ℕ) → t < 10000 → u < 10000 → (nat_lt d e || (d == e && nat_lt t u)) ≡ nat_lt (10000 * d + t) (10000 * e + u)
    key d t e u t_small u_small = grind (arith, nat_tests, t_small, u_small)

    by_cmp : (m n p q : ℕ) → nat_cmp m n ≡ nat_cmp p q → nat_lt m n ≡ nat_lt p q
    by_cmp m n p q same = grind (arith, nat_tests, same)
