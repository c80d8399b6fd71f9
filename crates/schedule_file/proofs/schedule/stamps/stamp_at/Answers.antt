use Rattle.std.proofs.Common.{◌∙◌, arith}
use Rattle.schedule_file.proofs.MinuteWords.{words_name}
use Rattle.schedule_file.proofs.schedule.stamps.stamp_at.Goals as goal

pub returns : goal.returns
returns c = c.from_words.ensures.exact ∙ words_name c.args.date c.args.clock (omega arith) (omega arith) (omega arith) (omega arith)
