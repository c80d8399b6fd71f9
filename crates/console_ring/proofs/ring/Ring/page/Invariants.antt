use Rattle.std.proofs.Common.{ℕ, List, ◌%◌}
use Rattle.console_ring.specs.Picture.{slot_on}
use Rattle.console_ring.specs.Standing.{RingStandsFor}
use Rattle.console_ring.proofs.Pages.{Begins}
use Rattle.console_ring.proofs.ring.Ring.page.Given as goal

abbrev pub invariant-loop-place : goal.invariant-loop-place
invariant-loop-place l = (history : List (List ℕ)) → RingStandsFor l.self history → Begins l.page (l.k % 256) (slot_on history l.plan l.k) l.place
