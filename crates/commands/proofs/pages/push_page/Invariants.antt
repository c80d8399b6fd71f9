use Rattle.std.proofs.Common.{◌≡◌, ◌+◌, ◌*◌, ◌≤◌, ◌++◌}
use Rattle.arrayvec.specs.ArrayVec.{array_vec_len}
use Rattle.station_base.specs.declared.row.TheConstants.{LINE_ROOM}
use Rattle.commands.specs.PageText.{slots_text}
use Rattle.commands.specs.StyleRead.{style_of}
use Rattle.commands.proofs.pages.push_page.Given as goal

-- the lines of the slots before, none longer than there is room for
abbrev pub invariant-loop-place : goal.invariant-loop-place
invariant-loop-place l =
    (l.text.items ≡ l.initial.text.items ++ slots_text (style_of l.style) l.number l.page l.place)
    × (array_vec_len l.text ≤ array_vec_len l.initial.text + LINE_ROOM * l.place)
