use Rattle.std.proofs.Common.{arith, pos}
use Rattle.soft_record.specs.Marks.{no_barometer, no_byte, no_radiation, no_temperature}
use Rattle.soft_record.proofs.OneEntryMore.{latest_more, rate_more, spread_more, sum_more}
use Rattle.soft_record.proofs.sums.Sums.with_packet.Goals as goal

pub returns-clause-sums : goal.returns-clause-sums
returns-clause-sums c rs r come is rain et =
    let s = c.args.self.now in
    let p = c.args.packet.now in
    record {
      out_temp = spread_more no_temperature (λ p. p.out_temp) rs r p c.out_temp.result s.out_temp c.with.result is c.out_temp.ensures.exact c.with.ensures.spread come.out_temp;
      in_temp = spread_more no_temperature (λ p. p.in_temp) rs r p c.in_temp.result s.in_temp c.with-2.result is c.in_temp.ensures.exact c.with-2.ensures.spread come.in_temp;
      barometer = spread_more no_barometer (λ p. pos p.barometer) rs r p c.barometer.result s.barometer c.with-3.result is c.barometer.ensures.exact c.with-3.ensures.spread come.barometer;
      radiation = spread_more no_radiation (λ p. pos p.radiation) rs r p c.radiation.result s.radiation c.with-4.result is c.radiation.ensures.exact c.with-4.ensures.spread come.radiation;
      wind = spread_more no_byte (λ p. pos p.wind) rs r p c.byte.result s.wind c.with-5.result is c.byte.ensures.exact c.with-5.ensures.spread come.wind;
      uv = spread_more no_byte (λ p. pos p.uv) rs r p c.byte-2.result s.uv c.with-6.result is c.byte-2.ensures.exact c.with-6.ensures.spread come.uv;
      rain_rate = rate_more (λ p. pos p.rain_rate) rs r p c.rain_rate.result s.rain_rate c.with-7.result is c.rain_rate.ensures.exact c.with-7.ensures.spread come.rain_rate;
      in_humidity = latest_more no_byte (λ p. pos p.in_humidity) rs r p c.byte-3.result s.in_humidity c.latest.result is c.byte-3.ensures.exact c.latest.ensures.exact come.in_humidity;
      out_humidity = latest_more no_byte (λ p. pos p.out_humidity) rs r p c.byte-4.result s.out_humidity c.latest-2.result is c.byte-4.ensures.exact c.latest-2.ensures.exact come.out_humidity;
      rain = sum_more (λ r. r.rain) rs r s.rain c.args.rain _ come.rain rain (omega (arith, c.from.ensures));
      et = sum_more (λ r. r.et) rs r s.et c.args.et _ come.et et (omega (arith, c.from-2.ensures));
    }
