use Rattle.std.proofs.Common.{arith, refl, rules}
use Rattle.run_output.proofs.PrintedPieces.{left_streams, part_streams, pending_shrinks}
use Rattle.commands.proofs.Listings.{left-good, left-bad, left-short, left-end}
use Rattle.commands.proofs.pages.print_pages.Goals as goal

pub returns-in_default : goal.returns-in_default
returns-in_default g c =
    left_streams _ _ _ _ _ _ (left-bad c.loop-page.invariant.4 (omega arith) (search rules)) (search rules) (λ e. cc) c.loop-page.invariant.2

pub returns-in-Failed : goal.returns-in-Failed
returns-in-Failed g c =
    part_streams _ _ _ _ _ _ _ _ (left-good c.loop-page.invariant.4 c.push_page.new.text.items (search rules) (omega arith) (search rules)).left
    (c.in-Failed.ensures.failed refl) (search rules) c.loop-page.invariant.2 c.in-Failed.ensures.cause.never_falls (c.in-Failed.ensures.cause.rose refl)

pub loop-page-preserved : goal.loop-page-preserved
loop-page-preserved g c = (
  omega arith,
  omega arith,
  omega arith,
  c.make_room.ensures.room,
  record {
    left = pending_shrinks _ _ _ _ _ _ _ (left-good c.loop-page.invariant.4 c.push_page.new.text.items (search rules) (omega arith) (search rules)).left
        (c.make_room.ensures.done (search rules));
  },
)

pub returns-then-is_empty : goal.returns-then-is_empty
returns-then-is_empty g c =
    left_streams _ _ _ _ _ _ (left-end c.loop-page.invariant.4 (omega arith) (search rules)) (search rules) (λ e. cc) c.loop-page.invariant.2

pub returns : goal.returns
returns g c =
    left_streams _ _ _ _ _ _ (left-short c.loop-page.invariant.4 (omega arith) (search rules)) (search rules) (λ e. cc) c.loop-page.invariant.2
