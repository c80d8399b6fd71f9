use Rattle.std.proofs.Common.{◌≡◌, ◌+◌, drop}
use Rattle.fleet.specs.OpenStations.{least_unseen}
use Rattle.fleet.proofs.fleet.Fleet.first_unseen.Given as goal

-- none was found yet
abbrev pub invariant-loop-index : goal.invariant-loop-index
invariant-loop-index g l = least_unseen (l.index + 1) (drop l.index l.self.last) ≡ least_unseen 1 l.self.last
