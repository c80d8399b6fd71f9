use Rattle.std.proofs.Common.{◌≡◌, ◌≤◌, ◌+◌, ◌++◌, drop}
use Rattle.arrayvec.specs.ArrayVec.{array_vec_len}
use Rattle.fleet.specs.OpenStations.{open_from}
use Rattle.fleet.proofs.fleet.open_stations.Given as goal

-- those found, and those behind them
abbrev pub invariant-loop-index : goal.invariant-loop-index
invariant-loop-index l = record {
  found : l.open.items ++ open_from (l.index + 1) (drop l.index l.last) ≡ open_from 1 l.last;
  few : array_vec_len l.open ≤ l.index;
}
