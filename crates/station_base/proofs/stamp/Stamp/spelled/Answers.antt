use Rattle.std.proofs.Common.{◌∙◌, arith}
use Rattle.station_base.specs.Stamp.{spelled_in}
use Rattle.station_base.proofs.StampTexts.{words_name}
use Rattle.station_base.proofs.stamp.Stamp.spelled.Goals as goal

pub returns : goal.returns
returns c =
    let exact = rw (c.two_digits_at.ensures.value, c.two_digits_at-2.ensures.value, c.two_digits_at-month.ensures.value, c.two_digits_at-day.ensures.value, c.two_digits_at-hour.ensures.value, c.two_digits_at-minute.ensures.value) at c.from_words.ensures.exact in
    exact ∙ words_name (spelled_in c.args.text.now) (omega arith) (omega arith) (omega arith) (omega arith)
