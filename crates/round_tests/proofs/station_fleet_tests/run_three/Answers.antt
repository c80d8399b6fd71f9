use Rattle.std.proofs.Common.{◌<◌, ◌^◌, List, [], ◌∷◌, sym, subst, arith}
use Rattle.std.specs.Prelude.{All}
use Rattle.std.proofs.lemmas.List.Elements.{All-from_recursion}
use Rattle.station_fleet.specs.StationTurns.{station_turning}
use Rattle.station_fleet.specs.declared.station.Station.{Station}
use Rattle.round_tests.proofs.station_fleet_tests.run_three.Goals as goal

pub new-fleet-requires-clause-may_turn : goal.new-fleet-requires-clause-may_turn
new-fleet-requires-clause-may_turn g c =
    let one = c.in_ok-station.field-0 in
    let two = c.in_ok-station-2.field-0 in
    let three = c.in_ok-station-3.field-0 in
    let all : All station_turning.may_turn (one ∷ two ∷ three ∷ []) =
    All-from_recursion station_turning.may_turn (one ∷ two ∷ three ∷ [])
    (c.in_ok-station.ensures.may_turn, (c.in_ok-station-2.ensures.may_turn, (c.in_ok-station-3.ensures.may_turn, tt))) in
    subst (λ (members : List Station). All station_turning.may_turn members) (sym c.in_ok-from_array.ensures.items) all

pub run-requires-clause-few : goal.run-requires-clause-few
run-requires-clause-few g c =
    let one = c.in_ok-station.field-0 in
    let two = c.in_ok-station-2.field-0 in
    let three = c.in_ok-station-3.field-0 in
    let P : Station → Type 0 = λ (s : Station). station_turning.left s < 2 ^ 48 in
    let all : All P (one ∷ two ∷ three ∷ []) =
    All-from_recursion P (one ∷ two ∷ three ∷ [])
    (c.in_ok-station.ensures.left, (c.in_ok-station-2.ensures.left, (c.in_ok-station-3.ensures.left, tt))) in
    let here : All P c.in_ok-from_array.field-0.items =
    subst (λ (members : List Station). All P members) (sym c.in_ok-from_array.ensures.items) all in
    let few = c.new-fleet.ensures.left (2 ^ 48) here in
    omega (arith, few, c.in_ok-from_array.ensures.len)
