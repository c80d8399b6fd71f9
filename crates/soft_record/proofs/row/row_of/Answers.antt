use Rattle.std.proofs.Common.{ℤ, List, [], ◌∷◌, Option, None, refl, ◌∙◌, ap}
use Rattle.std.specs.List.{AllByRecursion}
use Rattle.std.proofs.lemmas.List.Elements.{All-from_recursion}
use Rattle.station_base.specs.RowLine.{IsValueWithin}
use Rattle.soft_record.specs.SoftRow.{at_most, soft_values}
use Rattle.soft_record.proofs.Within.{none_within, reading_within}
use Rattle.soft_record.proofs.row.row_of.Goals as goal

pub returns-clause-row : goal.returns-clause-row
unfolding soft_values
returns-clause-row c rs civil come =
    let out_mean = c.mean.ensures.mean _ come.out_temp in
    let out_high = c.greatest.ensures.greatest _ come.out_temp in
    let out_low = c.least.ensures.least _ come.out_temp in
    let rain = c.at_most.ensures.exact ∙ ap at_most come.rain in
    let rate = c.greatest-2.ensures.greatest _ come.rain_rate in
    let barometer = c.mean-2.ensures.mean _ come.barometer in
    let radiation = c.mean-3.ensures.mean _ come.radiation in
    let samples = c.samples.ensures.samples _ come.wind in
    let inside = c.mean-4.ensures.mean _ come.in_temp in
    let wind = c.mean-5.ensures.mean _ come.wind in
    let gust = c.greatest-3.ensures.greatest _ come.wind in
    let uv = c.mean-6.ensures.mean _ come.uv in
    let et = c.at_most-2.ensures.exact ∙ ap at_most come.et in
    let high_radiation = c.greatest-4.ensures.greatest _ come.radiation in
    let high_uv = c.greatest-5.ensures.greatest _ come.uv in
    record {
      civil = civil;
      stamp = refl;
      interval = refl;
      values = rw (
        out_mean,
        out_high,
        out_low,
        rain,
        rate,
        barometer,
        radiation,
        samples,
        inside,
        come.in_humidity,
        come.out_humidity,
        wind,
        gust,
        uv,
        et,
        high_radiation,
        high_uv,
      ) refl;
      limited = refl;
    }

pub returns-clause-readings : goal.returns-clause-readings
returns-clause-readings c =
    let no = none_within in
    let s = c.requires in
    let w = c.args.sums.now in
    let values : List (Option ℤ) =
    c.mean.result ∷ c.greatest.result ∷ c.least.result ∷ c.at_most.result ∷ c.greatest-2.result ∷ c.mean-2.result ∷
    c.mean-3.result ∷ c.samples.result ∷ c.mean-4.result ∷ w.in_humidity ∷ w.out_humidity ∷ c.mean-5.result ∷
    c.greatest-3.result ∷ None ∷ None ∷ c.mean-6.result ∷ c.at_most-2.result ∷ c.greatest-4.result ∷ c.greatest-5.result ∷
    None ∷ None ∷ None ∷ None ∷ None ∷ None ∷ None ∷ None ∷ None ∷ None ∷ None ∷ None ∷ None ∷ None ∷ None ∷ None ∷ None ∷
    None ∷ [] in
    let all : AllByRecursion (IsValueWithin 65535) values = (
      reading_within _ c.mean.ensures.reading,
      (
        reading_within _ c.greatest.ensures.reading,
        (
          reading_within _ c.least.ensures.reading,
          (
            reading_within _ c.at_most.ensures.reading,
            (
              reading_within _ c.greatest-2.ensures.reading,
              (
                reading_within _ c.mean-2.ensures.reading,
                (
                  reading_within _ c.mean-3.ensures.reading,
                  (
                    reading_within _ c.samples.ensures.reading,
                    (
                      reading_within _ c.mean-4.ensures.reading,
                      (
                        reading_within _ s.in_humidity,
                        (
                          reading_within _ s.out_humidity,
                          (
                            reading_within _ c.mean-5.ensures.reading,
                            (
                              reading_within _ c.greatest-3.ensures.reading,
                              (
                                no,
                                (
                                  no,
                                  (
                                    reading_within _ c.mean-6.ensures.reading,
                                    (
                                      reading_within _ c.at_most-2.ensures.reading,
                                      (
                                        reading_within _ c.greatest-4.ensures.reading,
                                        (
                                          reading_within _ c.greatest-5.ensures.reading,
                                          (no, (no, (no, (no, (no, (no, (no, (no, (no, (no, (no, (no, (no, (no, (no, (no, (no, (no, tt)))))))))))))))))),
                                        ),
                                      ),
                                    ),
                                  ),
                                ),
                              ),
                            ),
                          ),
                        ),
                      ),
                    ),
                  ),
                ),
              ),
            ),
          ),
        ),
      ),
    ) in
    record {
      values = All-from_recursion (IsValueWithin 65535) values all;
      unlimited = refl;
    }
