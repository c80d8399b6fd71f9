-- What words name is a civil minute, and no minute comes after the last.
use Rattle.std.proofs.Common.{◌≡◌, ℕ, ◌≤◌, Bool, true, false, pos, cond, refl, subst, arith, Some, None}
use Rattle.std.specs.Prelude.{nat_le, nat_lt}
use Rattle.std.proofs.lemmas.Bool.{and_parts, leb-true, ltb-true}
use Rattle.jiff_core.specs.Calendar.{days_in_month, days_from_civil}
use Rattle.jiff_core.proofs.SignedLemmas.{signed_arith}
use Rattle.station_base.specs.CivilMinute.{CivilMinute, IsCivilMinute, is_civil_minute, archive_day_of, day_of, minute_of}
use Rattle.station_base.specs.DayText.{IsDayNumber}
use Rattle.station_base.specs.Stamp.{stamp_of_words, spelled_stamp}
use Rattle.station_base.proofs.Days.{epoch_day_from, epoch_day_to, unsigned_between}
use Rattle.station_base.proofs.Order.{date_of}

-- the day of a civil minute is one of the years that two words can name
day_within : (c : CivilMinute) → IsCivilMinute c → (10957 ≤ day_of c) × (day_of c ≤ 57707)
unfolding date_of
day_within c civil =
    unsigned_between 10957 57707 (days_from_civil (pos c.year) c.month c.day)
    (epoch_day_from (date_of c civil) (omega (arith, signed_arith))) (epoch_day_to (date_of c civil) (omega (arith, signed_arith)))

pub minute_within : (c : CivilMinute) → IsCivilMinute c → minute_of c ≤ 83099519
minute_within c civil = omega (arith, (day_within c civil).1, civil.hour_to, civil.minute_to)

-- its archive day lies in 1999-12-31 to 2127-12-31
pub archive_day_within : (c : CivilMinute) → IsCivilMinute c → IsDayNumber (pos (archive_day_of c))
archive_day_within c civil =
    let day = day_within c civil in
    (omega (arith, signed_arith, day.0), omega (arith, signed_arith, minute_within c civil))

pub test_tells : (c : CivilMinute) → is_civil_minute c ≡ true → IsCivilMinute c
test_tells c e =
    let minute = and_parts _ (nat_lt c.minute 60) e in
    let hour = and_parts _ (nat_lt c.hour 24) minute.0 in
    let day_to = and_parts _ (nat_le c.day (days_in_month (pos c.year) c.month)) hour.0 in
    let day_from = and_parts _ (nat_le 1 c.day) day_to.0 in
    let month_to = and_parts _ (nat_le c.month 12) day_from.0 in
    let month_from = and_parts _ (nat_le 1 c.month) month_to.0 in
    let years = and_parts (nat_le 2000 c.year) (nat_le c.year 2127) month_from.0 in
    record {
      year_from = leb-true 2000 c.year years.0;
      year_to = leb-true c.year 2127 years.1;
      month_from = leb-true 1 c.month month_from.1;
      month_to = leb-true c.month 12 month_to.1;
      day_from = leb-true 1 c.day day_from.1;
      day_to = leb-true c.day (days_in_month (pos c.year) c.month) day_to.1;
      hour_to = ltb-true c.hour 24 hour.1;
      minute_to = ltb-true c.minute 60 minute.1;
    }

named : (test : Bool) (s c : CivilMinute) → is_civil_minute s ≡ test → cond test (Some s) None ≡ Some c → IsCivilMinute c
named true s c e is = let same : s ≡ c = cc in subst (λ (x : CivilMinute). IsCivilMinute x) same (test_tells s e)
named false s c e is = cc

-- a stamp that words name is civil
pub stamp_civil : (date time : ℕ) (c : CivilMinute) → stamp_of_words date time ≡ Some c → IsCivilMinute c
unfolding stamp_of_words
stamp_civil date time c is = named (is_civil_minute (spelled_stamp date time)) (spelled_stamp date time) c refl is
