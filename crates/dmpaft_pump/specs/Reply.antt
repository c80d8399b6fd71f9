-- What the answer to a stamp frame is read as. (Davis serial manual, "Download Protocol"; the order of the tests is
-- this project's profile.)
use Rattle.std.specs.Prelude.{ℕ, zero, suc, ◌==◌, nat_lt, Bool, true, false, List, length, drop, slice_index}
use Rattle.vantage_frames.specs.Header.{pages_in, place_in}
use Rattle.vantage_frames.specs.declared.header.TheConstants.{MOST_PAGES, LAST_PLACE}
use Rattle.dmpaft_pump.specs.declared.outcome.Trouble.{Trouble}
use Rattle.dmpaft_pump.specs.declared.outcome.Trouble.TheVariants.{ShortHeader, NoHeaderAck, HeaderCheck}
use Rattle.dmpaft_pump.specs.declared.outcome.Trouble.TheVariants.{HeaderNumbers}
use Rattle.crc_ccitt.specs.Check.{is_good}

-- so many pages from this place on, or a trouble
pub data Reply : Type 0 where
  Header : (pages : ℕ) → (place : ℕ) → Reply
  NoHeader : (trouble : Trouble) → Reply

-- by whether the place is too great
abbrev pub placed : ℕ → ℕ → Bool → Reply
placed pages place true = NoHeader (HeaderNumbers pages place)
placed pages place false = Header pages place

-- by whether there are too many pages
abbrev pub paged : ℕ → ℕ → Bool → Reply
paged pages place true = NoHeader (HeaderNumbers pages place)
paged zero place false = Header zero place
paged (suc n) place false = placed (suc n) place (nat_lt LAST_PLACE place)

-- by the numbers of a header
abbrev pub numbered_reply : ℕ → ℕ → Reply
numbered_reply pages place = paged pages place (nat_lt MOST_PAGES pages)

-- by whether the check of the header is good
abbrev pub checked_reply : List ℕ → Bool → Reply
checked_reply header true = numbered_reply (pages_in header) (place_in header)
checked_reply header false = NoHeader HeaderCheck

-- by whether 0x06 came first
abbrev pub acknowledged_reply : List ℕ → Bool → Reply
acknowledged_reply bytes true = checked_reply (drop 1 bytes) (is_good (drop 1 bytes))
acknowledged_reply bytes false = NoHeader (NoHeaderAck (slice_index bytes 0))

-- by whether all bytes of the answer came
abbrev pub sized : List ℕ → Bool → Reply
sized bytes true = acknowledged_reply bytes (slice_index bytes 0 == 6)
sized bytes false = NoHeader (ShortHeader (length bytes))

-- what an answer of at most seven bytes is read as
abbrev pub reply_of : List ℕ → Reply
reply_of bytes = sized bytes (length bytes == 7)
