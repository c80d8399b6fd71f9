use Rattle.std.proofs.Common.{List, [], ◌∷◌, ◌++◌, ap, append_assoc, subst, sym, ◌∙◌}
use Rattle.std.specs.List.{AllZip}
use Rattle.std.specs.Prelude.{All}
use Rattle.std.specs.Vec.Iter.{into_iter_items}
use Rattle.schedule_file.specs.declared.schedule.Schedule.{Schedule}
use Rattle.station_fleet.specs.declared.station.Station.{Station}
use Rattle.model_commands.specs.FleetRun.{IsNewStation}
use Rattle.model_commands.specs.ScheduleReading.{IsFit}
use Rattle.model_commands.proofs.NewStations.{each_at, zip_push}
use Rattle.model_commands.proofs.fleet_run.make_stations.Goals as goal

pub make_station-requires : goal.make_station-requires
make_station-requires c =
    let whole = sym c.loop-schedule.invariant.rest ∙ ap (λ (xs : List Schedule). c.loop-schedule.yielded ++ xs) c.in-Some.ensures.steps.0 in
    record {
      fit = each_at (IsFit c.args.settings.now.period) c.loop-schedule.yielded c.in-Some.schedule (into_iter_items c.next.new.self)
          (subst (All (IsFit c.args.settings.now.period)) whole c.requires.fit);
    }

pub loop-schedule-preserved : goal.loop-schedule-preserved
loop-schedule-preserved c =
    let whole = sym c.loop-schedule.invariant.rest ∙ ap (λ (xs : List Schedule). c.loop-schedule.yielded ++ xs) c.in-Some.ensures.steps.0 in
    record {
      made = subst (λ (ys : List Station). AllZip (IsNewStation c.args.settings.now) (c.loop-schedule.yielded ++ c.in-Some.schedule ∷ []) ys)
          (sym c.in_ok-push.ensures.items)
          (zip_push (IsNewStation c.args.settings.now) c.loop-schedule.yielded c.loop-schedule.stations.items c.in-Some.schedule
          c.in_ok-make_station.field-0 c.loop-schedule.invariant.made c.in_ok-make_station.ensures);
      rest = append_assoc c.loop-schedule.yielded (c.in-Some.schedule ∷ []) (into_iter_items c.next.new.self) ∙ sym {A = List Schedule} whole;
    }
