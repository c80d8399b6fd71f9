use Rattle.std.proofs.Common.{List, false, true, subst}
use Rattle.replay_laws.specs.Replay.{start}
use Rattle.replay_laws.specs.Schedule.{ReplayStep}
use Rattle.schedule_replay.specs.Replayed.{ReplayIsCutOff, IsReplayed, TookPart}
use Rattle.schedule_replay.proofs.Sinks.{front_written, part_written, run_written, steps_are}
use Rattle.schedule_replay.proofs.replaying.replay.Goals as goal

pub returns-clause-done : goal.returns-clause-done
returns-clause-done g c is eeprom packet at =
    let steps = steps_are c.args.settings.now c.args.schedule.now c.steps.result.now c.requires.period c.steps.ensures in
    subst (λ (xs : List ReplayStep). IsReplayed false c.args.settings.now (start eeprom packet) xs (g.K.Sink.outlet.taken c.args.out.now) (g.K.Sink.outlet.taken c.replay_steps.new.teller)) steps
    (run_written g.K.Sink.outlet false c.args.settings.now (start eeprom packet) _ c.args.out.now c.replay_steps.new.teller (c.replay_steps.ensures.done is eeprom packet at))

pub returns-clause-unseen : goal.returns-clause-unseen
returns-clause-unseen g c is eeprom packet at =
    let steps = steps_are c.args.settings.now c.args.schedule.now c.steps.result.now c.requires.period c.steps.ensures in
    subst (λ (xs : List ReplayStep). IsReplayed true c.args.settings.now (start eeprom packet) xs (g.K.Sink.outlet.taken c.args.out.now) (g.K.Sink.outlet.taken c.replay_steps.new.teller)) steps
    (run_written g.K.Sink.outlet true c.args.settings.now (start eeprom packet) _ c.args.out.now c.replay_steps.new.teller (c.replay_steps.ensures.unseen is eeprom packet at))

pub returns-clause-cut_off : goal.returns-clause-cut_off
returns-clause-cut_off g c is eeprom packet at =
    let steps = steps_are c.args.settings.now c.args.schedule.now c.steps.result.now c.requires.period c.steps.ensures in
    subst (λ (xs : List ReplayStep). ReplayIsCutOff c.args.settings.now (start eeprom packet) xs (g.K.Sink.outlet.taken c.args.out.now) (g.K.Sink.outlet.taken c.replay_steps.new.teller)) steps
    (front_written g.K.Sink.outlet c.args.settings.now (start eeprom packet) _ c.args.out.now c.replay_steps.new.teller (c.replay_steps.ensures.cut_off is eeprom packet at))

pub returns-clause-took_part : goal.returns-clause-took_part
returns-clause-took_part g c is eeprom packet at =
    let steps = steps_are c.args.settings.now c.args.schedule.now c.steps.result.now c.requires.period c.steps.ensures in
    subst (λ (xs : List ReplayStep). (run : IsReplayed false c.args.settings.now (start eeprom packet) xs (g.K.Sink.outlet.taken c.args.out.now) (g.K.Sink.outlet.taken c.replay_steps.new.teller)) × TookPart c.args.settings.now (start eeprom packet) xs run.items c.args.line.now c.replay_steps.new.line c.replay_steps.new.disk) steps
    (part_written g.K.Sink.outlet c.args.settings.now (start eeprom packet) _ c.args.out.now c.replay_steps.new.teller c.args.line.now c.replay_steps.new.line c.replay_steps.new.disk (c.replay_steps.ensures.took_part is eeprom packet at))
