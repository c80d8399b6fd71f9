use Rattle.std.proofs.Common.{arith}
use Rattle.std.proofs.lemmas.Bool.Decides.{nat_tests}
use Rattle.console_ring.proofs.Words.{stamp_words}
use Rattle.console_ring.proofs.newer.is_newer.Goals as goal

pub returns-then-date_word-date : goal.returns-then-date_word-date
returns-then-date_word-date c =
    let words = stamp_words c.args.rec.now c.stamp-stamp.result c.stamp-stamp.ensures in grind (arith, nat_tests, words.0, words.1)

pub returns-then-date_word-date-2 : goal.returns-then-date_word-date-2
returns-then-date_word-date-2 c =
    let words = stamp_words c.args.rec.now c.stamp-stamp.result c.stamp-stamp.ensures in grind (arith, nat_tests, words.0, words.1)

pub returns-else-date_word-date-2 : goal.returns-else-date_word-date-2
returns-else-date_word-date-2 c =
    let words = stamp_words c.args.rec.now c.stamp-stamp.result c.stamp-stamp.ensures in grind (arith, nat_tests, words.0, words.1)
