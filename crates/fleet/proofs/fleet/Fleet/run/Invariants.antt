use Rattle.fleet.specs.Crew.{crew_of}
use Rattle.fleet.specs.Log.{turns_left}
use Rattle.fleet.proofs.LogSteps.{SoFar}
use Rattle.fleet.proofs.fleet.Fleet.run.Given as goal

abbrev pub invariant-loop-station : goal.invariant-loop-station
invariant-loop-station g l = SoFar g.M.Member.turning g.K.Sink.outlet l.fn.seed (crew_of l.fn.self) l.fn.out
    l.draws.number l.turns l.switches l.before (crew_of l.self) l.out

abbrev pub decreases-loop-station : goal.decreases-loop-station
decreases-loop-station g l = turns_left g.M.Member.turning (crew_of l.self).members (crew_of l.self).last
