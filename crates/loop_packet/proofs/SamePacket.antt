-- A packet is fixed by its values.
use Rattle.std.proofs.Common.{◌≡◌, ℕ, ◌∙◌, List, [], get_or, refl, sym, ap}
use Rattle.std.specs.Prelude.{ℤ, pos}
use Rattle.loop_packet.specs.declared.packet.LoopPacket.{LoopPacket}
use Rattle.loop_packet.specs.Layout.{values}
use Rattle.loop_packet.specs.Part.{Value}
use Rattle.loop_packet.specs.Part.Value.{Number, Signed, Many}

-- what a value is, where it is of that kind
number_of : Value → ℕ
number_of (Number n) = n
number_of (Signed z) = 0
number_of (Many bytes) = 0

signed_of : Value → ℤ
signed_of (Number n) = pos 0
signed_of (Signed z) = z
signed_of (Many bytes) = pos 0

bytes_of : Value → List ℕ
bytes_of (Number n) = []
bytes_of (Signed z) = []
bytes_of (Many bytes) = bytes

at : List Value → ℕ → Value
at vs place = get_or vs place (Number 0)

-- the packet of the values, in the order of their places
packet_of : List Value → LoopPacket
packet_of vs = record {
  trend = signed_of (at vs 0);
  next_slot = number_of (at vs 1);
  barometer = number_of (at vs 2);
  in_temp = signed_of (at vs 3);
  in_humidity = number_of (at vs 4);
  out_temp = signed_of (at vs 5);
  wind = number_of (at vs 6);
  wind_ten = number_of (at vs 7);
  wind_dir = number_of (at vs 8);
  extra_temps = bytes_of (at vs 9);
  soil_temps = bytes_of (at vs 10);
  leaf_temps = bytes_of (at vs 11);
  out_humidity = number_of (at vs 12);
  extra_humids = bytes_of (at vs 13);
  rain_rate = number_of (at vs 14);
  uv = number_of (at vs 15);
  radiation = number_of (at vs 16);
  storm_rain = number_of (at vs 17);
  storm_date = number_of (at vs 18);
  day_rain = number_of (at vs 19);
  month_rain = number_of (at vs 20);
  year_rain = number_of (at vs 21);
  day_et = number_of (at vs 22);
  month_et = number_of (at vs 23);
  year_et = number_of (at vs 24);
  soil_moists = bytes_of (at vs 25);
  leaf_wets = bytes_of (at vs 26);
  alarms = bytes_of (at vs 27);
  tx_battery = number_of (at vs 28);
  console_battery = number_of (at vs 29);
  icons = number_of (at vs 30);
  rule = number_of (at vs 31);
  sunrise = number_of (at vs 32);
  sunset = number_of (at vs 33);
}

packet_of-values : (packet : LoopPacket) → packet_of (values packet) ≡ packet
unfolding packet_of at number_of signed_of bytes_of
packet_of-values packet = refl

-- packets of the same values are the same
pub same_packet : (packet other : LoopPacket) → values packet ≡ values other → packet ≡ other
same_packet packet other same = sym (packet_of-values packet) ∙ ap packet_of same ∙ packet_of-values other
