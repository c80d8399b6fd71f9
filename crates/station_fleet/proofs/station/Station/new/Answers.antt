use Rattle.std.proofs.Common.{[], refl}
use Rattle.station_fleet.proofs.NewStation.{accepted_steps, new_disk}
use Rattle.station_fleet.proofs.station.Station.new.Goals as goal

pub returns-clause-may_turn : goal.returns-clause-may_turn
returns-clause-may_turn c =
    let m = c.requires.line in
    let schedule = c.args.schedule in
    let period = c.args.settings.now.period in (
      m.0,
      m.1,
      [],
      c.args.line,
      c.args.disk,
      c.new-run.ensures.begins schedule.steps.items m.0 m.1 c.args.line c.args.disk
          (accepted_steps schedule period c.requires.period c.requires.accepted) m.2
          (new_disk schedule period m.0 m.1 c.args.disk c.requires.period c.requires.accepted m.3),
    )

pub returns-clause-left : goal.returns-clause-left
returns-clause-left c few = c.new-run.ensures.left c.args.schedule.steps.items
    (accepted_steps c.args.schedule c.args.settings.now.period c.requires.period c.requires.accepted) few

pub returns-clause-begins : goal.returns-clause-begins
returns-clause-begins c eeprom packet at disk =
    let schedule = c.args.schedule in
    let period = c.args.settings.now.period in
    record {
      settings_are = c.new-run.ensures.settings;
      steps_are = refl;
      stands = c.new-run.ensures.begins schedule.steps.items eeprom packet c.args.line c.args.disk
          (accepted_steps schedule period c.requires.period c.requires.accepted) at
          (new_disk schedule period eeprom packet c.args.disk c.requires.period c.requires.accepted disk);
    }
