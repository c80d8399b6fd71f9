use Rattle.std.proofs.Common.{Err, Ok, refl, rules, ap, arith}
use Rattle.run_output.specs.Ended.{Lines}
use Rattle.run_output.specs.Output.{Output, no_memory}
use Rattle.std.specs.declared.result.Result.{Result}
use Rattle.run_output.proofs.Behind.{ended, went_on}
use Rattle.model_commands.specs.FleetRun.{IsNewStation}
use Rattle.model_commands.proofs.NewStations.{all_left, all_may_turn, zip_long}
use Rattle.model_commands.proofs.fleet_run.run_fleet.Goals as goal

pub returns-in_err-settings : goal.returns-in_err-settings
returns-in_err-settings g c = ended _ _ _ _ _ _ _ (c.settle.ensures, refl) c.in_err-settings.was (search rules)

pub returns-in_err-schedules : goal.returns-in_err-schedules
returns-in_err-schedules g c =
    went_on _ _ _ _ _ _ _ _ (c.settle.ensures, refl) c.in_ok-settings.was
    (ended _ _ _ _ _ _ _ (rw (c.period.ensures, c.deref.ensures.0) at c.read_schedules.ensures.reads) c.in_err-schedules.was (search rules))

pub returns-in_default : goal.returns-in_default
returns-in_default g c =
    went_on _ _ _ _ _ _ _ _ (c.settle.ensures, refl) c.in_ok-settings.was
    (went_on _ _ _ _ _ _ _ _ (rw (c.period.ensures, c.deref.ensures.0) at c.read_schedules.ensures.reads) c.in_ok-schedules.was
    (ended _ _ _ _ (Err no_memory) _ no_memory (tt, refl, refl) refl (ap (λ (o : Output). let r : Result Lines Output = Err o in r) c.silent.ensures)))

pub take_turns-requires-clause-few : goal.take_turns-requires-clause-few
take_turns-requires-clause-few g c =
    let long = zip_long (IsNewStation c.in_ok-settings.settings) c.in_ok-schedules.schedules.items c.in-Ok.stations.items c.in-Ok.ensures in
    let many = c.in_ok-schedules.ensures.as_many in
    omega (arith, long, many, c.deref.ensures.1)

pub take_turns-requires-clause-may_turn : goal.take_turns-requires-clause-may_turn
take_turns-requires-clause-may_turn g c =
    all_may_turn c.in_ok-settings.settings c.in_ok-schedules.schedules.items c.in-Ok.stations.items c.in-Ok.ensures

pub take_turns-requires-clause-left : goal.take_turns-requires-clause-left
take_turns-requires-clause-left g c =
    all_left c.in_ok-settings.settings c.in_ok-schedules.schedules.items c.in-Ok.stations.items
    (rw c.period.ensures at c.in_ok-schedules.ensures.fit) c.in-Ok.ensures

pub returns : goal.returns
returns g c =
    went_on _ _ _ _ _ _ _ _ (c.settle.ensures, refl) c.in_ok-settings.was
    (went_on _ _ _ _ _ _ _ _ (rw (c.period.ensures, c.deref.ensures.0) at c.read_schedules.ensures.reads) c.in_ok-schedules.was
    (went_on _ _ _ _ _ (Ok c.in-Ok.stations) _ c.in-Ok.stations (c.in-Ok.ensures, tt, refl) refl (c.take_turns.ensures, refl)))
