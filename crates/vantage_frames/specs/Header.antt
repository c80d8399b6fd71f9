-- The header that begins a dump: how many pages come, and where in the first of them the first record stands (Davis
-- serial manual, "Download Protocol"; the bound on pages, and that there are five places, is this project's profile).
use Rattle.std.specs.Prelude.{ℕ, ◌≡◌, ◌≢◌, ◌⊎◌, ◌<◌, ◌≤◌, List, drop}
use Rattle.std.specs.Int.{w16, from_le_bytes}
use Rattle.vantage_frames.specs.Words.{frame_of_words}

-- the most pages of a dump: those of a full archive, whose oldest record stands within a page (this project's profile)
abbrev pub most_pages : ℕ
most_pages = 513

-- the header of these numbers
abbrev pub header_of : ℕ → ℕ → List ℕ
header_of pages place = frame_of_words pages place

-- the number of pages in a header
abbrev pub pages_in : List ℕ → ℕ
pages_in bytes = from_le_bytes w16 bytes

-- the place in a header
abbrev pub place_in : List ℕ → ℕ
place_in bytes = from_le_bytes w16 (drop 2 bytes)

-- a dump can have so many pages, and begin at this place of its first page, if it has one
abbrev pub CanBegin : ℕ → ℕ → Type 0
CanBegin pages place = (pages ≤ most_pages) × ((pages ≡ 0) ⊎ (place ≤ 4))

-- no dump has so many pages, or begins at this place
abbrev pub CannotBegin : ℕ → ℕ → Type 0
CannotBegin pages place = (most_pages < pages) ⊎ ((pages ≢ 0) × (4 < place))
