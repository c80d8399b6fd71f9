-- Frames of two words and a check.
use Rattle.std.specs.Prelude.{ℕ, List, ◌++◌}
use Rattle.std.specs.Int.{w16, to_le_bytes}
use Rattle.crc_ccitt.specs.Check.{sealed}

-- two bytes each, the low one first, and the check
unfoldable pub frame_of_words : ℕ → ℕ → List ℕ
frame_of_words first second = sealed (to_le_bytes w16 first ++ to_le_bytes w16 second)
