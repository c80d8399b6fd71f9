-- Which short files may be an archive that was being made.
use Rattle.std.specs.Prelude.{ℕ, ◌≡◌, ◌≤◌, ◌<◌, ◌==◌, ◌||◌, Bool, true, List, length, slice_index}
use Rattle.gated_log.specs.Layout.{empty_size}
use Rattle.gated_log.specs.Log.{empty_archive}

-- what a power cut may leave of a byte that was being written: that byte, or zeros, or ones
abbrev pub is_left_of : ℕ → ℕ → Bool
is_left_of wanted byte = (byte == wanted) || ((byte == 0) || (byte == 255))

-- no longer than an archive without rows, and each byte is what may be left of its byte at that place
pub record MayBeNewArchive (file : List ℕ) : Type 0 where
  pub short : length file ≤ empty_size
  pub left : (i : ℕ) → i < length file → is_left_of (slice_index empty_archive i) (slice_index file i) ≡ true
