-- The row that the entries of an interval make. (This project's own.)
use Rattle.std.specs.Prelude.{ℕ, ℤ, ◌≡◌, pos, min, not, List, ◌∷◌, length, map, filter, sum_by, replicate, Some, None}
use Rattle.std.specs.Ordering.{int_eq}
use Rattle.std.specs.declared.option.Option.{Option}
use Rattle.station_base.specs.CivilMinute.{IsCivilMinute, minute_of}
use Rattle.station_base.specs.declared.row.Row.{Row}
use Rattle.loop_packet.specs.declared.packet.LoopPacket.{LoopPacket}
use Rattle.soft_record.specs.Interval.{Rising}
use Rattle.soft_record.specs.Marks.{no_temperature, no_barometer, no_radiation, no_byte}
use Rattle.soft_record.specs.Numbers.{mean_of, least_of, greatest_of, last_of_numbers}

-- a number of each packet
abbrev pub numbers : (LoopPacket → ℤ) → List Rising → List ℤ
numbers number rs = map (λ r. number r.entry.packet) rs

-- those that are there: all but the mark that means none
abbrev pub there_in : ℤ → (LoopPacket → ℤ) → List Rising → List ℤ
there_in mark number rs = filter (λ n. not (int_eq n mark)) (numbers number rs)

abbrev pub out_temps : List Rising → List ℤ
out_temps = there_in no_temperature (λ p. p.out_temp)

abbrev pub in_temps : List Rising → List ℤ
in_temps = there_in no_temperature (λ p. p.in_temp)

abbrev pub barometers : List Rising → List ℤ
barometers = there_in no_barometer (λ p. pos p.barometer)

abbrev pub radiations : List Rising → List ℤ
radiations = there_in no_radiation (λ p. pos p.radiation)

abbrev pub winds : List Rising → List ℤ
winds = there_in no_byte (λ p. pos p.wind)

abbrev pub uvs : List Rising → List ℤ
uvs = there_in no_byte (λ p. pos p.uv)

abbrev pub rain_rates : List Rising → List ℤ
rain_rates = numbers (λ p. pos p.rain_rate)

abbrev pub in_humidities : List Rising → List ℤ
in_humidities = there_in no_byte (λ p. pos p.in_humidity)

abbrev pub out_humidities : List Rising → List ℤ
out_humidities = there_in no_byte (λ p. pos p.out_humidity)

-- a sum, and of a greater one the most that two bytes hold
abbrev pub at_most : ℕ → Option ℤ
at_most sum = Some (pos (min sum 65535))

-- the values of the row, in the order of the fields
unfoldable pub soft_values : List Rising → List (Option ℤ)
soft_values rs =
    mean_of (out_temps rs)
    ∷ greatest_of (out_temps rs)
    ∷ least_of (out_temps rs)
    ∷ at_most (sum_by (λ r. r.rain) rs)
    ∷ greatest_of (rain_rates rs)
    ∷ mean_of (barometers rs)
    ∷ mean_of (radiations rs)
    ∷ Some (pos (length (winds rs)))
    ∷ mean_of (in_temps rs)
    ∷ last_of_numbers (in_humidities rs)
    ∷ last_of_numbers (out_humidities rs)
    ∷ mean_of (winds rs)
    ∷ greatest_of (winds rs)
    ∷ None ∷ None
    ∷ mean_of (uvs rs)
    ∷ at_most (sum_by (λ r. r.et) rs)
    ∷ greatest_of (radiations rs)
    ∷ greatest_of (uvs rs)
    ∷ replicate 18 None

-- the row of the interval that ends at this minute, of its entries
pub record IsSoftRow (period end : ℕ) (rs : List Rising) (row : Row) : Type 0 where
  pub civil : IsCivilMinute row.stamp
  pub stamp : minute_of row.stamp ≡ end
  pub interval : row.interval ≡ period
  pub values : row.values ≡ soft_values rs
  pub limited : row.limited ≡ 0
