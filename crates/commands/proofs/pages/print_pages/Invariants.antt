use Rattle.std.proofs.Common.{◌≡◌, ◌+◌, ◌≤◌, ◌<◌, length}
use Rattle.arrayvec.specs.ArrayVec.{array_vec_len}
use Rattle.run_output.specs.declared.text.TheConstants.{PAGE_ROOM, ROOM}
use Rattle.commands.specs.Listing.{listing}
use Rattle.commands.specs.StyleRead.{style_of}
use Rattle.commands.proofs.Listings.{LeftAt}
use Rattle.commands.proofs.pages.print_pages.Given as goal

-- of the listing what waits is left, and what the pages ahead give
abbrev pub invariant-loop-page : goal.invariant-loop-page
invariant-loop-page g l =
    (l.number ≡ l.page-index)
    × (length l.pages < 100000)
    × (g.K.Sink.outlet.faults l.out ≡ g.K.Sink.outlet.faults l.initial.out)
    × (array_vec_len l.pending + PAGE_ROOM ≤ ROOM)
    × LeftAt (g.K.Sink.outlet.taken l.initial.out) (g.K.Sink.outlet.taken l.out) (listing (style_of l.style) l.file)
    (style_of l.style) l.number l.page-index l.pages l.short l.pending.items
