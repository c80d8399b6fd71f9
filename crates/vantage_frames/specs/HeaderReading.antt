-- What the reading of a header tells.
use Rattle.std.specs.Prelude.{ℕ, ◌≡◌, ◌≢◌, List}
use Rattle.crc_ccitt.specs.Check.{check}
use Rattle.vantage_frames.specs.declared.header.HeaderRead.{HeaderRead}
use Rattle.vantage_frames.specs.declared.header.HeaderRead.TheVariants.{Good, BadCheck, BadNumbers}
use Rattle.vantage_frames.specs.Header.{pages_in, place_in, CanBegin, CannotBegin}

-- The bytes have a good check, and these are their numbers.
pub record HasNumbers (bytes : List ℕ) (count at : ℕ) : Type 0 where
  pub good : check bytes ≡ 0
  pub pages : pages_in bytes ≡ count
  pub place : place_in bytes ≡ at

-- the check is judged before the numbers
abbrev pub TellsHeader : List ℕ → HeaderRead → Type 0
TellsHeader bytes (Good pages place) = HasNumbers bytes pages place × CanBegin pages place
TellsHeader bytes BadCheck = check bytes ≢ 0
TellsHeader bytes (BadNumbers pages place) = HasNumbers bytes pages place × CannotBegin pages place
