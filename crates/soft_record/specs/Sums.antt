-- What the entries of an interval come to.
use Rattle.std.specs.Prelude.{ℕ, ◌≡◌, ◌≤◌, ◌*◌, List, sum_by}
use Rattle.soft_record.specs.Interval.{Rising}
use Rattle.soft_record.specs.Numbers.{last_of_numbers}
use Rattle.soft_record.specs.Readings.{IsPacketReading}
use Rattle.soft_record.specs.SoftRow.{out_temps, in_temps, barometers, radiations, winds, uvs, rain_rates}
use Rattle.soft_record.specs.SoftRow.{in_humidities, out_humidities}
use Rattle.soft_record.specs.Spread.{IsSpreadOf, IsSmallOf}
use Rattle.soft_record.specs.declared.sums.Sums.{Sums}

-- it is what these entries come to
pub record AreSumsOf (rs : List Rising) (s : Sums) : Type 0 where
  pub out_temp : IsSpreadOf (out_temps rs) s.out_temp
  pub in_temp : IsSpreadOf (in_temps rs) s.in_temp
  pub barometer : IsSpreadOf (barometers rs) s.barometer
  pub radiation : IsSpreadOf (radiations rs) s.radiation
  pub wind : IsSpreadOf (winds rs) s.wind
  pub uv : IsSpreadOf (uvs rs) s.uv
  pub rain_rate : IsSpreadOf (rain_rates rs) s.rain_rate
  pub in_humidity : s.in_humidity ≡ last_of_numbers (in_humidities rs)
  pub out_humidity : s.out_humidity ≡ last_of_numbers (out_humidities rs)
  pub rain : s.rain ≡ sum_by (λ r. r.rain) rs
  pub et : s.et ≡ sum_by (λ r. r.et) rs

-- how many entries there are, each of which has a rain rate
abbrev pub entries_in : Sums → ℕ
entries_in s = s.rain_rate.count

-- its numbers are those of so many packets: of two bytes at most
pub record AreSmall (s : Sums) : Type 0 where
  pub out_temp : IsSmallOf (entries_in s) s.out_temp
  pub in_temp : IsSmallOf (entries_in s) s.in_temp
  pub barometer : IsSmallOf (entries_in s) s.barometer
  pub radiation : IsSmallOf (entries_in s) s.radiation
  pub wind : IsSmallOf (entries_in s) s.wind
  pub uv : IsSmallOf (entries_in s) s.uv
  pub rain_rate : IsSmallOf (entries_in s) s.rain_rate
  pub in_humidity : IsPacketReading s.in_humidity
  pub out_humidity : IsPacketReading s.out_humidity
  pub rain : s.rain ≤ 65535 * entries_in s
  pub et : s.et ≤ 65535 * entries_in s
