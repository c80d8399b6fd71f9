use Rattle.std.proofs.Common.{◌≡◌, drop, fold}
use Rattle.crc_ccitt.specs.Words.{after_word}
use Rattle.crc_ccitt.proofs.sliced.after_words.Given as goal

abbrev pub invariant-loop-word : goal.invariant-loop-word
invariant-loop-word l = fold after_word l.rest (drop l.word-index l.words) ≡ fold after_word 0 l.words
