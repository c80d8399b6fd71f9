-- What the answer to a stamp frame is. (Davis serial manual, "Download Protocol"; the order of the tests is this
-- project's profile.)
use Rattle.std.specs.Prelude.{ℕ, ◌≡◌, ◌≢◌, ◌<◌, List, [], ◌∷◌, length, drop, slice_index, Option, Some, None}
use Rattle.crc_ccitt.specs.Check.{check}
use Rattle.vantage_frames.specs.Header.{CanBegin, CannotBegin}
use Rattle.vantage_frames.specs.HeaderReading.{HasNumbers}
use Rattle.dmpaft_pump.specs.declared.outcome.Trouble.{Trouble}
use Rattle.dmpaft_pump.specs.declared.outcome.Trouble.TheVariants.{ShortHeader, NoHeaderAck}
use Rattle.dmpaft_pump.specs.declared.outcome.Trouble.TheVariants.{HeaderCheck, HeaderNumbers}

-- Seven bytes are 0x06 and a header of these numbers.
pub record IsHeader (bytes : List ℕ) (pages place : ℕ) : Type 0 where
  pub whole : length bytes ≡ 7
  pub acked : slice_index bytes 0 ≡ 6
  pub numbers : HasNumbers (drop 1 bytes) pages place
  pub possible : CanBegin pages place

-- the bytes are no such answer, by the first of its tests that they fail
abbrev pub IsNoHeader : List ℕ → Trouble → Type 0
IsNoHeader bytes (ShortHeader count) = (length bytes ≡ count) × (count < 7)
IsNoHeader bytes (NoHeaderAck first) = (length bytes ≡ 7) × (slice_index bytes 0 ≡ first) × (first ≢ 6)
IsNoHeader bytes HeaderCheck = (length bytes ≡ 7) × (slice_index bytes 0 ≡ 6) × (check (drop 1 bytes) ≢ 0)
IsNoHeader bytes (HeaderNumbers pages place) =
    (length bytes ≡ 7) × (slice_index bytes 0 ≡ 6) × HasNumbers (drop 1 bytes) pages place × CannotBegin pages place
IsNoHeader bytes other = ⊥

-- the first byte, if there is one
abbrev pub first_of : List ℕ → Option ℕ
first_of [] = None
first_of (b ∷ bs) = Some b
