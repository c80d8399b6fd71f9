use Rattle.std.proofs.Common.{◌≡◌, ◌+◌, ◌++◌, List, None, Some, sym, subst, rules}
use Rattle.replay_laws.specs.Replay.{Item, opening_if_closed, start}
use Rattle.replay_laws.specs.Schedule.{IsSchedule, ReplayStep}
use Rattle.schedule_steps.specs.Steps.{steps_for}
use Rattle.schedule_replay.specs.Turns.{CutsRun, EndsRun}
use Rattle.schedule_replay.proofs.StepsSoFar.{all_done, end_cut, steps_all}
use Rattle.schedule_replay.proofs.RunLaws.{ready_readable, told_front}
use Rattle.schedule_replay.proofs.Turned.{cut_to, goes_on_ahead, opens_at_end, recovered_left, recovered_moves, stands_open, without_session}
use Rattle.schedule_replay.proofs.turns.ReplayRun.close.Goals as goal

pub recover-requires-clause-may : goal.recover-requires-clause-may
recover-requires-clause-may g c =
    let m = c.requires.may in let k = m.0 in let s = c.args.self.now.settings in let i = c.args.self.now.taken in
    let none : c.args.self.now.run.session ≡ None = search rules in
    (k, m.1, m.2, without_session k s i c.args.self.now.turns m.1 c.args.self.now.run c.take.new.self m.2 c.args.disk.now none c.take.ensures.after m.3, opens_at_end s.period k.steps i m.4)

pub returns-in_default-clause-turns_to : goal.returns-in_default-clause-turns_to
returns-in_default-clause-turns_to g c k items line p end =
    let s = c.args.self.now.settings in let i = c.args.self.now.taken in
    let none : c.args.self.now.run.session ≡ None = search rules in
    c.recover.ensures.turns_to k items line (without_session k s i c.args.self.now.turns items c.args.self.now.run c.take.new.self line c.args.disk.now none c.take.ensures.after p) (opens_at_end s.period k.steps i end)

pub returns-in_default-clause-left : goal.returns-in_default-clause-left
returns-in_default-clause-left g c more steps =
    let none : c.args.self.now.run.session ≡ None = search rules in
    recovered_left steps c.args.self.now c.recover.new.self c.recover.ensures.others c.requires.none none (c.recover.ensures.is_open more)

pub returns-in_default-clause-one_turn : goal.returns-in_default-clause-one_turn
returns-in_default-clause-one_turn g c more =
    let none : c.args.self.now.run.session ≡ None = search rules in
    recovered_moves c.args.self.now c.recover.new.self c.recover.ensures.others c.requires.none none (c.recover.ensures.is_open more)

pub ended-requires : goal.ended-requires
ended-requires g c =
    let m = c.requires.may in let k = m.0 in let s = c.args.self.now.settings in let i = c.args.self.now.taken in let run = c.args.self.now.run in
    let some : run.session ≡ Some c.in-Some.session = search rules in
    let ahead = stands_open k s i m.1 run c.in-Some.session m.2 c.args.disk.now some (opens_at_end s.period k.steps i m.4) m.3.stands in
    ready_readable ahead.openings s ahead.stage _ c.in-Some.session c.args.disk.now (goes_on_ahead ahead.openings s ahead.stage run c.in-Some.session c.args.disk.now some ahead.holds)

pub returns-in-Ok-clause-turns_to : goal.returns-in-Ok-clause-turns_to
returns-in-Ok-clause-turns_to g c k items line p end =
    let s = c.args.self.now.settings in let i = c.args.self.now.taken in let run = c.args.self.now.run in
    let some : run.session ≡ Some c.in-Some.session = search rules in
    let ahead = stands_open k s i items run c.in-Some.session line c.args.disk.now some (opens_at_end s.period k.steps i end) p.stands in
    let x = goes_on_ahead ahead.openings s ahead.stage run c.in-Some.session c.args.disk.now some ahead.holds in
    let all = steps_all s.period k.steps i end in
    let told = c.in-Ok.ensures.tells s ahead.stage.archive.rows x.goes_on in
    let rest = c.ended.ensures.disk.rests _ _ x.rests in
    subst (λ (z : List Item). EndsRun g.T.Teller.telling s (start k.eeprom k.packet) (steps_for s.period k.steps) z k.before line c.ended.new.disk c.args.teller.now c.ended.new.self) (sym ahead.items_are)
    (subst (λ (z : List ReplayStep). EndsRun g.T.Teller.telling s (start k.eeprom k.packet) z (ahead.given ++ opening_if_closed ahead.stage.is_open ahead.stage) k.before line c.ended.new.disk c.args.teller.now c.ended.new.self) all
    (all_done g.T.Teller.telling s k.eeprom k.packet _ ahead.given ahead.stage c.args.teller.now c.ended.new.self k.before line c.ended.new.disk (subst IsSchedule (sym all) p.accepted.rules) ahead.runs ahead.at ahead.said (ahead.openings + 1) rest told))

pub returns-clause-turns_to : goal.returns-clause-turns_to
returns-clause-turns_to g c k items line p end =
    let s = c.args.self.now.settings in let i = c.args.self.now.taken in let run = c.args.self.now.run in
    let some : run.session ≡ Some c.in-Some.session = search rules in
    let ahead = stands_open k s i items run c.in-Some.session line c.args.disk.now some (opens_at_end s.period k.steps i end) p.stands in
    let x = goes_on_ahead ahead.openings s ahead.stage run c.in-Some.session c.args.disk.now some ahead.holds in
    let all = steps_all s.period k.steps i end in
    let told = told_front g.T.Teller.telling c.args.teller.now c.ended.new.self _ c.in-Err.cut (c.in-Err.ensures.tells s ahead.stage.archive.rows x.goes_on) in
    cut_to g.T.Teller.telling c.cut_off.result k s items _ _ _ c.args.teller.now c.ended.new.self c.cut_off.ensures.answer
    (subst (λ (z : List Item). CutsRun g.T.Teller.telling s (start k.eeprom k.packet) (steps_for s.period k.steps) z c.args.teller.now c.ended.new.self) (sym ahead.items_are)
    (subst (λ (z : List ReplayStep). CutsRun g.T.Teller.telling s (start k.eeprom k.packet) z (ahead.given ++ opening_if_closed ahead.stage.is_open ahead.stage) c.args.teller.now c.ended.new.self) all
    (end_cut g.T.Teller.telling s k.eeprom k.packet _ ahead.given ahead.stage c.args.teller.now c.ended.new.self (subst IsSchedule (sym all) p.accepted.rules) ahead.runs told)))
