use Rattle.std.proofs.Common.{◌≡◌, ◌+◌}
use Rattle.gated_log.specs.Log.{in_slots, as_handed}
use Rattle.gated_log.proofs.show.show.Given as goal

abbrev pub invariant-loop-k : goal.invariant-loop-k
invariant-loop-k g l = record {
  saw : g.V.Visitor.visits.saw l.version l.fn.visitor (in_slots l.k (as_handed l.batch)) l.visitor;
  count : g.V.Visitor.visits.count l.visitor ≡ g.V.Visitor.visits.count l.fn.visitor + l.k;
}
