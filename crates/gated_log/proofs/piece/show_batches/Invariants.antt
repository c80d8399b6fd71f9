use Rattle.std.proofs.Common.{◌≡◌, ◌+◌, ◌-◌, ◌*◌, ◌<◌, ◌≤◌, List, ℕ, length, take, drop}
use Rattle.gated_log.specs.Visits.{IsShown}
use Rattle.gated_log.specs.Walk.{WalksOn}
use Rattle.gated_log.proofs.piece.show_batches.Given as goal
use Rattle.gated_log.specs.Layout.{slot_size}

abbrev pub invariant-loop-at : goal.invariant-loop-at
invariant-loop-at g l = record {
  place : l.at ≡ slot_size * l.slots;
  held : l.at ≤ length l.piece;
  within : 0 < l.left → l.at < l.left;
  shown : IsShown g.V.Visitor.visits l.version l.fn.visitor l.slots (λ slots. (c : List ℕ) → length c ≡ l.place + l.left
      → l.piece ≡ take (length l.piece) (drop l.place c) → WalksOn c l.place slots) l.visitor;
}

abbrev pub decreases-loop-at : goal.decreases-loop-at
decreases-loop-at g l = length l.piece + 1 - l.at
