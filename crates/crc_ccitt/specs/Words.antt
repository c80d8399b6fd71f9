-- Words of 64 bits, in which the code takes a message.
use Rattle.std.specs.Prelude.{ℕ, fold}
use Rattle.std.specs.Int.{w64, to_le_bytes}
use Rattle.crc_ccitt.specs.Check.{divided, message_bits}

-- what is left after one more word, whose eight bytes stand in the message with the lowest first
unfoldable pub after_word : ℕ → ℕ → ℕ
after_word rest word = fold divided rest (message_bits (to_le_bytes w64 word))
