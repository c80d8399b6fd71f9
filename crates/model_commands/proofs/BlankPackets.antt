-- There is one blank packet.
use Rattle.std.proofs.Common.{◌≡◌, ℕ, List, [], ◌∷◌, length, replicate, refl, ap, ◌∙◌}
use Rattle.std.specs.List.{AllByRecursion}
use Rattle.loop_packet.proofs.SamePacket.{same_packet}
use Rattle.loop_packet.specs.Blank.{PacketIsBlank}
use Rattle.loop_packet.specs.declared.packet.LoopPacket.{LoopPacket}
use Rattle.model_commands.specs.BlankPacket.{blank_packet}

-- bytes that are all 0 are so many zeros
zeros : (bytes : List ℕ) → AllByRecursion (λ byte. byte ≡ 0) bytes → bytes ≡ replicate (length bytes) 0
zeros [] zero = refl
zeros (byte ∷ bytes) zero =
    ap (λ (b : ℕ). b ∷ bytes) zero.0 ∙ ap (λ (bs : List ℕ). 0 ∷ bs) (zeros bytes zero.1)

zeros_are : (n : ℕ) (bytes : List ℕ) → length bytes ≡ n → AllByRecursion (λ byte. byte ≡ 0) bytes → bytes ≡ replicate n 0
zeros_are n bytes long zero = zeros bytes zero ∙ ap (λ (k : ℕ). replicate k 0) long

-- The lists of a packet are as long as the fields that they are.
pub record HasLengths (p : LoopPacket) : Type 0 where
  pub extra_temps : length p.extra_temps ≡ 7
  pub soil_temps : length p.soil_temps ≡ 4
  pub leaf_temps : length p.leaf_temps ≡ 4
  pub extra_humids : length p.extra_humids ≡ 7
  pub soil_moists : length p.soil_moists ≡ 4
  pub leaf_wets : length p.leaf_wets ≡ 4
  pub alarms : length p.alarms ≡ 16

pub is_blank : (p : LoopPacket) → HasLengths p → PacketIsBlank p → p ≡ blank_packet
is_blank p long (
  trend,
  (
    next_slot,
    (
      barometer,
      (
        in_temp,
        (
          in_humidity,
          (
            out_temp,
            (
              wind,
              (
                wind_ten,
                (
                  wind_dir,
                  (
                    extra_temps,
                    (
                      soil_temps,
                      (
                        leaf_temps,
                        (
                          out_humidity,
                          (
                            extra_humids,
                            (
                              rain_rate,
                              (
                                uv,
                                (
                                  radiation,
                                  (
                                    storm_rain,
                                    (
                                      storm_date,
                                      (
                                        day_rain,
                                        (
                                          month_rain,
                                          (
                                            year_rain,
                                            (
                                              day_et,
                                              (
                                                month_et,
                                                (
                                                  year_et,
                                                  (
                                                    soil_moists,
                                                    (
                                                      leaf_wets,
                                                      (
                                                        alarms,
                                                        (
                                                          tx_battery,
                                                          (console_battery, (icons, (rule, (sunrise, (sunset, done))))),
                                                        ),
                                                      ),
                                                    ),
                                                  ),
                                                ),
                                              ),
                                            ),
                                          ),
                                        ),
                                      ),
                                    ),
                                  ),
                                ),
                              ),
                            ),
                          ),
                        ),
                      ),
                    ),
                  ),
                ),
              ),
            ),
          ),
        ),
      ),
    ),
  ),
) =
    let extra_temps_are = zeros_are 7 p.extra_temps long.extra_temps extra_temps in
    let soil_temps_are = zeros_are 4 p.soil_temps long.soil_temps soil_temps in
    let leaf_temps_are = zeros_are 4 p.leaf_temps long.leaf_temps leaf_temps in
    let extra_humids_are = zeros_are 7 p.extra_humids long.extra_humids extra_humids in
    let soil_moists_are = zeros_are 4 p.soil_moists long.soil_moists soil_moists in
    let leaf_wets_are = zeros_are 4 p.leaf_wets long.leaf_wets leaf_wets in
    let alarms_are = zeros_are 16 p.alarms long.alarms alarms in
    same_packet p blank_packet (rw (
      trend,
      next_slot,
      barometer,
      in_temp,
      in_humidity,
      out_temp,
      wind,
      wind_ten,
      wind_dir,
      extra_temps_are,
      soil_temps_are,
      leaf_temps_are,
      out_humidity,
      extra_humids_are,
      rain_rate,
      uv,
      radiation,
      storm_rain,
      storm_date,
      day_rain,
      month_rain,
      year_rain,
      day_et,
      month_et,
      year_et,
      soil_moists_are,
      leaf_wets_are,
      alarms_are,
      tx_battery,
      console_battery,
      icons,
      rule,
      sunrise,
      sunset,
    ) refl)
