use Rattle.std.proofs.Common.{◌++◌, [], inl, inr, refl, subst, ◌∙◌, rules}
use Rattle.settings_file.specs.StationSettings.{StationSettings}
use Rattle.replay_laws.specs.Replay.{start}
use Rattle.schedule_steps.specs.Steps.{steps_for}
use Rattle.schedule_replay.specs.Turns.{BreaksRun, CutsRun, EndsRun}
use Rattle.schedule_replay.proofs.Turned.{broken_told, front_told, part_taken, run_told}
use Rattle.schedule_replay.proofs.replaying.replay_steps.Goals as goal

pub turns-init : goal.turns-init
turns-init g c = record {
  settings = c.new-run.ensures.settings;
  so_far = λ eeprom packet at. (
    [],
    g.T.Teller.telling.tells_none c.args.teller.now,
    c.new-run.ensures.begins c.args.steps.now eeprom packet c.args.line.now c.args.disk.now c.requires.accepted at (record { rests = c.requires.line.3.rests; room = c.requires.line.3.room }),
  );
  still = refl;
}

pub turn-requires : goal.turn-requires
turn-requires g c =
    let m = c.requires.line in
    let so = c.turns.invariant.so_far m.0 m.1 m.2 in
    (m.0, m.1, so.0, c.args.line.now, c.args.disk.now, so.2)

pub returns-in-Ended-clause-done : goal.returns-in-Ended-clause-done
returns-in-Ended-clause-done g c is eeprom packet at =
    let so = c.turns.invariant.so_far eeprom packet at in let xs = c.args.steps.now in
    let ends = subst (λ (s : StationSettings). EndsRun g.T.Teller.telling s (start eeprom packet) (steps_for s.period xs) so.0 c.args.line.now c.turn.new.line c.turn.new.disk c.turns.teller c.turn.new.teller) c.turns.invariant.settings
    (c.turn.ensures.ended c.in-Ended.is eeprom packet so.0 c.args.line.now c.args.disk.now so.2) in
    run_told g.T.Teller.telling c.args.settings.now (start eeprom packet) (steps_for c.args.settings.now.period xs) so.0 c.args.teller.now c.turns.teller c.turn.new.teller so.1 c.args.line.now c.turn.new.line c.turn.new.disk ends

pub returns-in-Ended-clause-took_part : goal.returns-in-Ended-clause-took_part
returns-in-Ended-clause-took_part g c is eeprom packet at =
    let so = c.turns.invariant.so_far eeprom packet at in let xs = c.args.steps.now in
    let ends = subst (λ (s : StationSettings). EndsRun g.T.Teller.telling s (start eeprom packet) (steps_for s.period xs) so.0 c.args.line.now c.turn.new.line c.turn.new.disk c.turns.teller c.turn.new.teller) c.turns.invariant.settings
    (c.turn.ensures.ended c.in-Ended.is eeprom packet so.0 c.args.line.now c.args.disk.now so.2) in
    part_taken g.T.Teller.telling c.args.settings.now (start eeprom packet) (steps_for c.args.settings.now.period xs) so.0 c.args.teller.now c.turns.teller c.turn.new.teller so.1 c.args.line.now c.turn.new.line c.turn.new.disk ends

pub returns-in-Unseen-clause-unseen : goal.returns-in-Unseen-clause-unseen
returns-in-Unseen-clause-unseen g c is eeprom packet at =
    let so = c.turns.invariant.so_far eeprom packet at in let xs = c.args.steps.now in
    let breaks = subst (λ (s : StationSettings). BreaksRun g.T.Teller.telling s (start eeprom packet) (steps_for s.period xs) so.0 c.turns.teller c.turn.new.teller) c.turns.invariant.settings
    (c.turn.ensures.unseen c.in-Unseen.is eeprom packet so.0 c.args.line.now c.args.disk.now so.2) in
    broken_told g.T.Teller.telling c.args.settings.now (start eeprom packet) (steps_for c.args.settings.now.period xs) so.0 c.args.teller.now c.turns.teller c.turn.new.teller so.1 breaks

pub returns-in-WriteFault-clause-cut_off : goal.returns-in-WriteFault-clause-cut_off
returns-in-WriteFault-clause-cut_off g c is eeprom packet at =
    let so = c.turns.invariant.so_far eeprom packet at in let xs = c.args.steps.now in
    let cuts = subst (λ (s : StationSettings). CutsRun g.T.Teller.telling s (start eeprom packet) (steps_for s.period xs) so.0 c.turns.teller c.turn.new.teller) c.turns.invariant.settings
    (c.turn.ensures.cut_off (inl c.in-WriteFault.is) eeprom packet so.0 c.args.line.now c.args.disk.now so.2) in
    front_told g.T.Teller.telling c.args.settings.now (start eeprom packet) (steps_for c.args.settings.now.period xs) so.0 c.args.teller.now c.turns.teller c.turn.new.teller so.1 cuts

pub returns-in-OutOfMemory-clause-cut_off : goal.returns-in-OutOfMemory-clause-cut_off
returns-in-OutOfMemory-clause-cut_off g c is eeprom packet at =
    let so = c.turns.invariant.so_far eeprom packet at in let xs = c.args.steps.now in
    let cuts = subst (λ (s : StationSettings). CutsRun g.T.Teller.telling s (start eeprom packet) (steps_for s.period xs) so.0 c.turns.teller c.turn.new.teller) c.turns.invariant.settings
    (c.turn.ensures.cut_off (inr c.in-OutOfMemory.is) eeprom packet so.0 c.args.line.now c.args.disk.now so.2) in
    front_told g.T.Teller.telling c.args.settings.now (start eeprom packet) (steps_for c.args.settings.now.period xs) so.0 c.args.teller.now c.turns.teller c.turn.new.teller so.1 cuts

pub turns-preserved : goal.turns-preserved
turns-preserved g c = record {
  settings = c.turn.ensures.settings ∙ c.turns.invariant.settings;
  so_far = λ eeprom packet at.
      let so = c.turns.invariant.so_far eeprom packet at in
      let t = c.turn.ensures.more c.in-More.is eeprom packet so.0 c.args.line.now c.args.disk.now so.2 in
      (so.0 ++ t.0, g.T.Teller.telling.tells_joins c.args.teller.now c.turns.teller c.turn.new.teller so.0 t.0 so.1 t.1, t.2);
  still = search rules;
}

pub turns-smaller : goal.turns-smaller
turns-smaller g c = c.turn.ensures.left c.in-More.is
