use Rattle.std.proofs.Common.{ℕ, List, ap, ◌∙◌, fold}
use Rattle.crc_ccitt.specs.Check.{divided, message_bits}
use Rattle.crc_ccitt.proofs.sliced.after_word.Goals as goal

pub returns : goal.returns
unfolding Rattle.crc_ccitt.specs.Words.after_word
returns c = c.after_chunk.ensures ∙ ap (λ (bytes : List ℕ). fold divided c.args.rest (message_bits bytes)) c.to_le_bytes.ensures
