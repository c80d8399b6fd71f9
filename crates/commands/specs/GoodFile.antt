-- Files of whole good pages.
use Rattle.std.specs.Prelude.{ℕ, ◌≡◌, ◌*◌, ◌/◌, ◌≤◌, List, [], length, drop, All}
use Rattle.std.specs.Simd.{first_chunks}
use Rattle.crc_ccitt.specs.Check.{check}
use Rattle.vantage_frames.specs.Slots.{page_size}
use Rattle.station_io.specs.Files.{most_bytes}

-- the file has whole pages alone, each with a good check, and is not too long
pub record IsGoodFile (file : List ℕ) : Type 0 where
  pub within : length file ≤ most_bytes
  pub whole : drop (length file / page_size * page_size) file ≡ []
  pub good : All (λ page. check page ≡ 0) (first_chunks page_size (length file / page_size) file)
