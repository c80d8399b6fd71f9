use Rattle.std.proofs.Common.{◌≡◌, rules}
use Rattle.command_words.proofs.DayWords.{day_read}
use Rattle.command_words.proofs.report_words.read_day.Goals as goal

pub returns : goal.returns
returns c =
    let same : c.as_bytes.result.now ≡ c.args.word.now = search rules in
    rw same at (day_read c.as_bytes.result.now c.from_text.result c.from_text.ensures.found c.from_text.ensures.only)
