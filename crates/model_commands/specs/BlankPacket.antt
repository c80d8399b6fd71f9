-- The packet of a new console's sensors.
use Rattle.std.specs.Prelude.{ℕ, List, pos, replicate}
use Rattle.loop_packet.specs.declared.packet.LoopPacket.{LoopPacket}

-- so many bytes, each of them 0
abbrev pub blank_bytes : ℕ → List ℕ
blank_bytes n = replicate n 0

-- every field is 0
abbrev pub blank_packet : LoopPacket
blank_packet = record {
  trend = pos 0;
  next_slot = 0;
  barometer = 0;
  in_temp = pos 0;
  in_humidity = 0;
  out_temp = pos 0;
  wind = 0;
  wind_ten = 0;
  wind_dir = 0;
  extra_temps = blank_bytes 7;
  soil_temps = blank_bytes 4;
  leaf_temps = blank_bytes 4;
  out_humidity = 0;
  extra_humids = blank_bytes 7;
  rain_rate = 0;
  uv = 0;
  radiation = 0;
  storm_rain = 0;
  storm_date = 0;
  day_rain = 0;
  month_rain = 0;
  year_rain = 0;
  day_et = 0;
  month_et = 0;
  year_et = 0;
  soil_moists = blank_bytes 4;
  leaf_wets = blank_bytes 4;
  alarms = blank_bytes 16;
  tx_battery = 0;
  console_battery = 0;
  icons = 0;
  rule = 0;
  sunrise = 0;
  sunset = 0;
}
