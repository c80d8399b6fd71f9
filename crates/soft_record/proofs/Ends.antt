-- The least multiple of a period that is not below a minute, and the end of an interval.
use Rattle.std.proofs.Common.{ℕ, ◌≡◌, ◌≢◌, ◌<◌, ◌≤◌, ◌+◌, ◌-◌, ◌*◌, ◌/◌, ◌%◌, Bool, true, false, IsTrue, List, [], ◌∷◌, ◌==◌, refl, sym, ap, ◌∙◌, arith}
use Rattle.std.specs.Prelude.{nat_le}
use Rattle.std.specs.Int.{next_multiple_of}
use Rattle.std.specs.List.{list_any, AllByRecursion}
use Rattle.std.proofs.Math.Nat.{add-zero, sub-zero, mod_self, mod-lt, mod-eq_of_lt, mul-mod_left, mul-le-mul, mod-mod_of_dvd, dvd_iff_mod-eq-zero}
use Rattle.std.proofs.lemmas.Bool.{eqb-true, eqb-false}
use Rattle.std.proofs.lemmas.Bool.Decides.{nat_tests}
use Rattle.std.proofs.lemmas.Nat.{div-add-mod'}
use Rattle.station_base.specs.Period.{IsPeriod}
use Rattle.soft_record.specs.declared.entry.Entry.{Entry}
use Rattle.soft_record.specs.Entry.{interval_end, full_minute, moment}
use Rattle.soft_record.specs.IntervalEnd.{IsEarliest}

-- what is known of the least multiple of y that is not below x
pub record IsAround (x y : ℕ) : Type 0 where
  pub from : x ≤ next_multiple_of x y
  pub to : next_multiple_of x y < x + y
  pub whole : next_multiple_of x y % y ≡ 0

around_by : (x y : ℕ) → 0 < y → (test : Bool) → (x % y == 0) ≡ test → IsAround x y
around_by x y some true is =
    let left : x % y ≡ 0 = eqb-true _ _ is in
    let none : (y - x % y) % y ≡ 0 = ap (λ (k : ℕ). (y - k) % y) left ∙ (ap (λ (k : ℕ). k % y) (sub-zero y) ∙ mod_self y) in
    record {
      from = omega arith;
      to = omega arith;
      whole = ap (λ (k : ℕ). (x + k) % y) none ∙ (ap (λ (k : ℕ). k % y) (add-zero x) ∙ left);
    }
around_by x y some false is =
    let left : x % y ≢ 0 = eqb-false _ _ is in
    let below : x % y < y = mod-lt x some in
    let gap : (y - x % y) % y ≡ y - x % y = mod-eq_of_lt (omega arith) in
    let whole : x + (y - x % y) % y ≡ (x / y + 1) * y = omega (arith, div-add-mod' x y) in
    record {
      from = omega arith;
      to = omega arith;
      whole = ap (λ (k : ℕ). k % y) whole ∙ mul-mod_left (x / y + 1) y;
    }

pub around : (x y : ℕ) → 0 < y → IsAround x y
around x y some = around_by x y some (x % y == 0) refl

-- quotients rise with multiples
quotients : (p q k m t : ℕ) → 1 ≤ p → k * p ≡ m → q * p ≡ t → t < m + p → (test : Bool) → nat_le q k ≡ test → q ≤ k
quotients p q k m t some km qt near true below = grind (arith, nat_tests)
quotients p q k m t some km qt near false above =
    let less : k + 1 ≤ q = grind (arith, nat_tests) in
    let more : (k + 1) * p ≤ q * p = mul-le-mul less (omega arith) in
    absurd (omega (arith, more, km, qt, near))

-- no multiple from x on is less
pub least : (x y m : ℕ) → 0 < y → x ≤ m → m % y ≡ 0 → next_multiple_of x y ≤ m
least x y m some from left =
    let n = next_multiple_of x y in
    let is = around x y some in
    let whole_n : n / y * y ≡ n = omega (arith, div-add-mod' n y, is.whole) in
    let whole_m : m / y * y ≡ m = omega (arith, div-add-mod' m y, left) in
    let below : n / y ≤ m / y = quotients y (n / y) (m / y) m n (omega arith) whole_m whole_n (omega (arith, is.to, from)) _ refl in
    let least : n / y * y ≤ m / y * y = mul-le-mul below (omega arith) in
    omega (arith, least, whole_n, whole_m)

-- periods are from one minute to two hours, and divide the day
pub period_some : (period : ℕ) → IsPeriod period → 0 < period
period_some period is = grind (arith, nat_tests)

divides_by : (period p : ℕ) (more : List ℕ) (test : Bool) → (period == p) ≡ test → 1440 % p ≡ 0
    → (IsTrue (list_any (λ q. period == q) more) → 1440 % period ≡ 0) → IsTrue (list_any (λ q. period == q) (p ∷ more)) → 1440 % period ≡ 0
divides_by period p more true same here rest is = ap (λ (k : ℕ). 1440 % k) (eqb-true _ _ same) ∙ here
divides_by period p more false other here rest is = rest (rw other at is)

divides : (period : ℕ) (periods : List ℕ) → AllByRecursion (λ p. 1440 % p ≡ 0) periods → IsTrue (list_any (λ p. period == p) periods) → 1440 % period ≡ 0
divides period [] all is = absurd (let no : false ≡ true = is in cc)
divides period (p ∷ more) all is = divides_by period p more (period == p) refl all.0 (divides period more all.1) is

pub in_day : (period minute : ℕ) → IsPeriod period → minute % 1440 % period ≡ minute % period
in_day period minute is =
    let periods : List ℕ = 1 ∷ 5 ∷ 10 ∷ 15 ∷ 30 ∷ 60 ∷ 120 ∷ [] in
    let all : AllByRecursion (λ p. 1440 % p ≡ 0) periods = (refl, (refl, (refl, (refl, (refl, (refl, (refl, tt))))))) in
    let divided : 1440 % period ≡ 0 = divides period periods all is in
    mod-mod_of_dvd period minute ((dvd_iff_mod-eq-zero period).1 divided)

-- the earliest full minute by cases of the second
full_by : (e : Entry) (test : Bool) → (e.second == 0) ≡ test → e.second < 60 → (moment e ≤ 60 * full_minute e) × (60 * full_minute e ≤ moment e + 59)
full_by e true is civil = rw is (let none : e.second ≡ 0 = eqb-true _ _ is in (omega arith, omega arith))
full_by e false is civil = rw is (let some : e.second ≢ 0 = eqb-false _ _ is in (omega arith, omega arith))

-- it is not before the entry, and less than a minute behind it
pub full_near : (e : Entry) → e.second < 60 → (moment e ≤ 60 * full_minute e) × (60 * full_minute e ≤ moment e + 59)
full_near e civil = full_by e (e.second == 0) refl civil

first_by : (e : Entry) (minute : ℕ) (test : Bool) → (e.second == 0) ≡ test → moment e ≤ 60 * minute → full_minute e ≤ minute
first_by e minute true is reached = rw is (omega arith)
first_by e minute false is reached = rw is (let some : e.second ≢ 0 = eqb-false _ _ is in omega arith)

-- and no full minute is earlier
pub full_first : (e : Entry) (minute : ℕ) → moment e ≤ 60 * minute → full_minute e ≤ minute
full_first e minute reached = first_by e minute (e.second == 0) refl reached

pub end_is_earliest : (period : ℕ) (e : Entry) → IsPeriod period → e.second < 60 → IsEarliest period e (interval_end period e)
end_is_earliest period e is civil =
    let some = period_some period is in
    let end = around (full_minute e) period some in
    record {
      ends = record {
        reached = omega (arith, (full_near e civil).0, end.from);
        whole = in_day period (interval_end period e) is ∙ end.whole;
      };
      first = λ other can. least (full_minute e) period other some (full_first e other can.reached) (sym (in_day period other is) ∙ can.whole);
    }

-- of two entries the later one's interval does not end earlier
pub end_rises : (period : ℕ) (b e : Entry) → 0 < period → e.second < 60 → moment b < moment e → interval_end period b ≤ interval_end period e
end_rises period b e some civil later =
    let end = around (full_minute e) period some in
    let full : full_minute b ≤ full_minute e = full_first b (full_minute e) (omega (arith, (full_near e civil).0, later)) in
    least (full_minute b) period (interval_end period e) some (omega (arith, full, end.from)) end.whole
