use Rattle.std.proofs.Common.{ap, subst, sym, ◌∙◌, refl, ◌≡◌, [], ◌∷◌, List, ℕ, length, rules}
use Rattle.std.proofs.lemmas.Int.{to_z-of_z}
use Rattle.std.specs.Int.{w8, w16}
use Rattle.std.specs.Prelude.{FitsSigned, Ok}
use Rattle.loop_packet.specs.Layout.{layout, values}
use Rattle.loop_packet.specs.Part.{signed_byte_of, word_of, signed_word_of}
use Rattle.loop_packet.specs.Reading.{TellsPacket, packet_bytes, frame_of}
use Rattle.loop_packet.proofs.InOrder.{AreOf}
use Rattle.loop_packet.proofs.Inverse.{told_of_packet}
use Rattle.loop_packet.proofs.Pieces.{joins, keeps, keeps_byte}
use Rattle.loop_packet.proofs.writing.write.Goals as goal

written : goal.returns-clause-bytes
unfolding packet_bytes
written c =
    let packet = c.args.packet.now in
    let trend : c.signed_byte.result ≡ signed_byte_of packet.trend = c.signed_byte.ensures ∙ ap signed_byte_of (to_z-of_z w8 packet.trend (search rules)) in
    let next_slot : c.word.result ≡ word_of packet.next_slot = c.word.ensures.bytes in
    let barometer : c.word-2.result ≡ word_of packet.barometer = c.word-2.ensures.bytes in
    let in_temp : c.signed_word.result ≡ signed_word_of packet.in_temp = c.signed_word.ensures ∙ ap signed_word_of (to_z-of_z w16 packet.in_temp (search rules)) in
    let in_humidity : c.byte.result ≡ packet.in_humidity ∷ [] = c.byte.ensures.bytes in
    let out_temp : c.signed_word-2.result ≡ signed_word_of packet.out_temp = c.signed_word-2.ensures ∙ ap signed_word_of (to_z-of_z w16 packet.out_temp (search rules)) in
    let wind : c.byte-2.result ≡ packet.wind ∷ [] = c.byte-2.ensures.bytes in
    let wind_ten : c.byte-3.result ≡ packet.wind_ten ∷ [] = c.byte-3.ensures.bytes in
    let wind_dir : c.word-3.result ≡ word_of packet.wind_dir = c.word-3.ensures.bytes in
    let out_humidity : c.byte-4.result ≡ packet.out_humidity ∷ [] = c.byte-4.ensures.bytes in
    let rain_rate : c.word-4.result ≡ word_of packet.rain_rate = c.word-4.ensures.bytes in
    let uv : c.byte-5.result ≡ packet.uv ∷ [] = c.byte-5.ensures.bytes in
    let radiation : c.word-5.result ≡ word_of packet.radiation = c.word-5.ensures.bytes in
    let storm_rain : c.word-6.result ≡ word_of packet.storm_rain = c.word-6.ensures.bytes in
    let storm_date : c.word-7.result ≡ word_of packet.storm_date = c.word-7.ensures.bytes in
    let day_rain : c.word-8.result ≡ word_of packet.day_rain = c.word-8.ensures.bytes in
    let month_rain : c.word-9.result ≡ word_of packet.month_rain = c.word-9.ensures.bytes in
    let year_rain : c.word-10.result ≡ word_of packet.year_rain = c.word-10.ensures.bytes in
    let day_et : c.word-11.result ≡ word_of packet.day_et = c.word-11.ensures.bytes in
    let month_et : c.word-12.result ≡ word_of packet.month_et = c.word-12.ensures.bytes in
    let year_et : c.word-13.result ≡ word_of packet.year_et = c.word-13.ensures.bytes in
    let tx_battery : c.byte-6.result ≡ packet.tx_battery ∷ [] = c.byte-6.ensures.bytes in
    let console_battery : c.word-14.result ≡ word_of packet.console_battery = c.word-14.ensures.bytes in
    let icons : c.byte-7.result ≡ packet.icons ∷ [] = c.byte-7.ensures.bytes in
    let rule : c.byte-8.result ≡ packet.rule ∷ [] = c.byte-8.ensures.bytes in
    let sunrise : c.word-15.result ≡ word_of packet.sunrise = c.word-15.ensures.bytes in
    let sunset : c.word-16.result ≡ word_of packet.sunset = c.word-16.ensures.bytes in
    c.joined.ensures ∙ ap frame_of (
    keeps_byte (keeps_byte (keeps_byte (joins trend (keeps_byte (joins next_slot (joins barometer (joins in_temp
    (joins in_humidity (joins out_temp (joins wind (joins wind_ten (joins wind_dir (keeps packet.extra_temps (keeps
    packet.soil_temps (keeps packet.leaf_temps (joins out_humidity (keeps packet.extra_humids (joins rain_rate
    (joins uv (joins radiation (joins storm_rain (joins storm_date (joins day_rain (joins month_rain (joins
    year_rain (joins day_et (joins month_et (joins year_et (keeps packet.soil_moists (keeps packet.leaf_wets (keeps
    packet.alarms (joins tx_battery (joins console_battery (joins icons (joins rule (joins sunrise (joins sunset
    refl)))))))))))))))))))))))))))))))))))))
    )

pub returns-clause-bytes : goal.returns-clause-bytes
returns-clause-bytes c = written c

pub returns-clause-told : goal.returns-clause-told
returns-clause-told c =
    let packet = c.args.packet.now in
    let trend_fits : FitsSigned w8 packet.trend = search rules in
    let in_temp_fits : FitsSigned w16 packet.in_temp = search rules in
    let out_temp_fits : FitsSigned w16 packet.out_temp = search rules in
    let extra_temps_long : length packet.extra_temps ≡ 7 = search rules in
    let soil_temps_long : length packet.soil_temps ≡ 4 = search rules in
    let leaf_temps_long : length packet.leaf_temps ≡ 4 = search rules in
    let extra_humids_long : length packet.extra_humids ≡ 7 = search rules in
    let soil_moists_long : length packet.soil_moists ≡ 4 = search rules in
    let leaf_wets_long : length packet.leaf_wets ≡ 4 = search rules in
    let alarms_long : length packet.alarms ≡ 16 = search rules in
    let are : AreOf layout (values packet) = (
      trend_fits,
      (
        c.word.ensures.small,
        (
          c.word-2.ensures.small,
          (
            in_temp_fits,
            (
              c.byte.ensures.small,
              (
                out_temp_fits,
                (
                  c.byte-2.ensures.small,
                  (
                    c.byte-3.ensures.small,
                    (
                      c.word-3.ensures.small,
                      (
                        extra_temps_long,
                        (
                          soil_temps_long,
                          (
                            leaf_temps_long,
                            (
                              c.byte-4.ensures.small,
                              (
                                extra_humids_long,
                                (
                                  c.word-4.ensures.small,
                                  (
                                    c.byte-5.ensures.small,
                                    (
                                      c.word-5.ensures.small,
                                      (
                                        c.word-6.ensures.small,
                                        (
                                          c.word-7.ensures.small,
                                          (
                                            c.word-8.ensures.small,
                                            (
                                              c.word-9.ensures.small,
                                              (
                                                c.word-10.ensures.small,
                                                (
                                                  c.word-11.ensures.small,
                                                  (
                                                    c.word-12.ensures.small,
                                                    (
                                                      c.word-13.ensures.small,
                                                      (
                                                        soil_moists_long,
                                                        (
                                                          leaf_wets_long,
                                                          (
                                                            alarms_long,
                                                            (
                                                              c.byte-6.ensures.small,
                                                              (
                                                                c.word-14.ensures.small,
                                                                (
                                                                  c.byte-7.ensures.small,
                                                                  (
                                                                    c.byte-8.ensures.small,
                                                                    (c.word-15.ensures.small, (c.word-16.ensures.small, tt)),
                                                                  ),
                                                                ),
                                                              ),
                                                            ),
                                                          ),
                                                        ),
                                                      ),
                                                    ),
                                                  ),
                                                ),
                                              ),
                                            ),
                                          ),
                                        ),
                                      ),
                                    ),
                                  ),
                                ),
                              ),
                            ),
                          ),
                        ),
                      ),
                    ),
                  ),
                ),
              ),
            ),
          ),
        ),
      ),
    )
    in
    let P : List ℕ → Type 0 = λ bytes. TellsPacket bytes (Ok packet) in
    subst P (sym (written c)) (told_of_packet packet are)
