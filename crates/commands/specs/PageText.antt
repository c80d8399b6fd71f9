-- The lines of a page.
use Rattle.std.specs.Prelude.{ℕ, zero, suc, List, [], ◌++◌}
use Rattle.vantage_frames.specs.Slots.{slot_at}
use Rattle.commands.specs.SlotText.{slot_line}
use Rattle.commands.specs.Style.{RowStyle}

-- the lines of the first slots of a page, so many
abbrev pub slots_text : RowStyle → ℕ → List ℕ → ℕ → List ℕ
slots_text style number page zero = []
slots_text style number page (suc place) =
    slots_text style number page place ++ slot_line style number place (slot_at page place)

unfoldable pub page_text : RowStyle → ℕ → List ℕ → List ℕ
page_text style number page = slots_text style number page 5
