use Rattle.std.proofs.Common.{ℕ, ap, fold}
use Rattle.std.specs.List.{concat}
use Rattle.crc_ccitt.specs.Check.{divided, message_bits}
use Rattle.crc_ccitt.proofs.Words.{zeros}
use Rattle.crc_ccitt.proofs.sliced.after_chunks.Goals as goal

pub loop-chunk-init : goal.loop-chunk-init
loop-chunk-init c = ap (λ (rest : ℕ). fold divided rest (message_bits (concat c.args.chunks.now))) zeros
