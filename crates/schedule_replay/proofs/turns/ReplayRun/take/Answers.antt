use Rattle.std.proofs.Common.{◌+◌, ◌++◌, None, Option, inl, length, sym, subst, arith}
use Rattle.replay_laws.specs.Schedule.{records}
use Rattle.round_play.specs.declared.playing.Playing.{Playing}
use Rattle.schedule_steps.specs.Accepted.{IsInRange}
use Rattle.schedule_replay.specs.Replaying.{StandsAt}
use Rattle.schedule_steps.specs.Steps.{steps_for}
use Rattle.schedule_replay.proofs.StepsSoFar.{in_range_at, ready}
use Rattle.schedule_replay.proofs.Turned.{cut_to, left_behind, left_none, may_run, stands, stands_between, turn_cut, turn_taken}
use Rattle.schedule_replay.proofs.turns.ReplayRun.take.Goals as goal

pub take-requires-clause-may : goal.take-requires-clause-may
take-requires-clause-may g c =
    let m = c.requires.may in let k = m.0 in let p = m.2 in let run = c.args.self.now.run in let s = c.args.self.now.settings in let i = c.args.self.now.taken in
    let so = stands_between k s i m.1 run c.args.line.now c.args.disk.now c.args.step.now m.3 c.requires.no_round p.stands in
    may_run s k.eeprom k.packet k.steps i k.made c.args.disk.now m.1 so.stage so.openings (ready s k.steps k.made p.accepted p.room) so.runs so.few so.limits c.args.step.now run c.args.line.now m.3 so.holds so.at

pub take-requires-clause-range : goal.take-requires-clause-range
take-requires-clause-range g c =
    let m = c.requires.may in let s = c.args.self.now.settings in
    subst (IsInRange s.period) (sym m.3.is) (in_range_at s.period m.0.steps c.args.self.now.taken c.args.step.now m.3.within m.2.accepted.ranges)

pub returns-in-Ok-clause-turns_to : goal.returns-in-Ok-clause-turns_to
returns-in-Ok-clause-turns_to g c k items p n =
    let run = c.args.self.now.run in let s = c.args.self.now.settings in let i = c.args.self.now.taken in let x = c.args.step.now in
    let so = stands_between k s i items run c.args.line.now c.args.disk.now x n c.requires.no_round p.stands in
    let r = ready s k.steps k.made p.accepted p.room in
    let there = stands s k.eeprom k.packet k.steps i k.made c.args.disk.now items so.stage so.openings r so.runs so.few so.limits x n in
    let t = turn_taken s k.eeprom k.packet k.steps i k.made c.args.disk.now items so.stage so.openings r so.runs so.few so.limits
    g.T.Teller.telling x k.before c.args.line.now c.take.new.line c.take.new.disk c.take.new.self c.args.teller.now c.take.new.teller n so.said
    (c.in-Ok.ensures.ok (length (records (steps_for s.period k.steps))) so.openings so.stage so.holds so.at there) c.take.ensures.limits in
    let falls = left_behind s.period k.steps i x n in
    let now : StandsAt None k s (i + 1) (c.args.self.now.turns + 1) (items ++ t.0) c.take.new.self c.take.new.line c.take.new.disk = record {
      accepted = p.accepted;
      room = p.room;
      few = omega (arith, p.few, falls, c.take.ensures.closes);
      stands = inl t.2;
    } in
    (t.0, t.1, subst (λ (o : Option Playing). StandsAt o k s (i + 1) (c.args.self.now.turns + 1) (items ++ t.0) c.take.new.self c.take.new.line c.take.new.disk) (sym c.requires.none) now)

pub returns-in-Ok-clause-left : goal.returns-in-Ok-clause-left
returns-in-Ok-clause-left g c more steps n =
    let s = c.args.self.now.settings in let i = c.args.self.now.taken in
    let old = left_none c.args.self.now.playing s.period steps i c.args.self.now.run.session c.requires.none in
    let new = left_none c.args.self.now.playing s.period steps (i + 1) c.take.new.self.session c.requires.none in
    omega (arith, old, new, left_behind s.period steps i c.args.step.now n, c.take.ensures.closes)

pub returns-in-Err-clause-turns_to : goal.returns-in-Err-clause-turns_to
returns-in-Err-clause-turns_to g c k items p n =
    let run = c.args.self.now.run in let s = c.args.self.now.settings in let i = c.args.self.now.taken in let x = c.args.step.now in
    let so = stands_between k s i items run c.args.line.now c.args.disk.now x n c.requires.no_round p.stands in
    let r = ready s k.steps k.made p.accepted p.room in
    let there = stands s k.eeprom k.packet k.steps i k.made c.args.disk.now items so.stage so.openings r so.runs so.few so.limits x n in
    cut_to g.T.Teller.telling c.cut_off.result k s items _ _ _ c.args.teller.now c.take.new.teller c.cut_off.ensures.answer
    (turn_cut s k.eeprom k.packet k.steps i k.made c.args.disk.now items so.stage so.openings r so.runs so.few so.limits
    g.T.Teller.telling x c.args.teller.now c.take.new.teller n (c.in-Err.ensures.err (length (records (steps_for s.period k.steps))) so.openings so.stage so.holds so.at there))

pub returns-in-Ok-clause-says_or_stores : goal.returns-in-Ok-clause-says_or_stores
returns-in-Ok-clause-says_or_stores g c = inl c.take.ensures.talk

pub returns-in-Err-clause-says_or_stores : goal.returns-in-Err-clause-says_or_stores
returns-in-Err-clause-says_or_stores g c = inl c.take.ensures.talk
