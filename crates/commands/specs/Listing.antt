-- What is written of a file of pages.
use Rattle.std.specs.Prelude.{ℕ, ◌+◌, ◌*◌, ◌/◌, ◌==◌, if◌then◌else◌, List, [], ◌∷◌, ◌++◌, length, drop, codes}
use Rattle.std.specs.Simd.{first_chunks}
use Rattle.crc_ccitt.specs.Check.{check}
use Rattle.station_base.specs.NumberText.{number_text}
use Rattle.vantage_frames.specs.Slots.{page_size}
use Rattle.run_output.specs.declared.status.Status.TheVariants.{Done, BadPage}
use Rattle.run_output.specs.Output.{Output, led_by}
use Rattle.commands.specs.PageText.{page_text}
use Rattle.commands.specs.Style.{RowStyle}

-- the line that names a bad page
unfoldable pub bad_page_text : ℕ → List ℕ
bad_page_text number = codes "bad page " ++ number_text number ++ codes "\n"

abbrev pub bad_page : ℕ → Output
bad_page number = record { text = bad_page_text number; status = BadPage }

-- the lines of the pages, counted from this number, up to the first with a bad check; behind them may be a short page
abbrev pub listing_from : RowStyle → ℕ → List (List ℕ) → List ℕ → Output
listing_from style number [] [] = record { text = []; status = Done }
listing_from style number [] (byte ∷ bytes) = bad_page number
listing_from style number (page ∷ pages) short =
    if check page == 0 then led_by (page_text style number page) (listing_from style (number + 1) pages short)
    else bad_page number

-- the bytes of a file, page by page
abbrev pub listing : RowStyle → List ℕ → Output
listing style file =
    let count = length file / page_size in
    listing_from style 0 (first_chunks page_size count file) (drop (count * page_size) file)
