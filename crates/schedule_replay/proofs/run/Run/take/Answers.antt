use Rattle.std.proofs.Common.{◌≡◌, ◌+◌, ℕ, false, sym, subst, arith, rules}
use Rattle.schedule_file.specs.declared.schedule.step.Step as code_step
use Rattle.station_sim.specs.Standing.{SimStandsFor}
use Rattle.replay_laws.specs.Room.{step_lines}
use Rattle.schedule_replay.specs.Running.{After, StepIsCut}
use Rattle.schedule_steps.specs.Steps.{passed, step_of}
use Rattle.schedule_replay.specs.Standing.{HasSaid, HoldsAt, IsNoRound, LineAt}
use Rattle.schedule_replay.proofs.Ahead.{err_of, few_to_open, ok_of}
use Rattle.schedule_replay.proofs.RoundLaws.{may_open}
use Rattle.schedule_replay.proofs.RunLaws.{on_err, on_ok}
use Rattle.schedule_replay.proofs.StepLaws.{open_after, wait_after, waiting}
use Rattle.schedule_replay.proofs.run.Run.take.Goals as goal

pub open-requires-clause-may : goal.open-requires-clause-may
open-requires-clause-may g c = may_open c.args.settings.now (step_of c.args.settings.now.period c.args.step.now) c.args.self.now c.args.line.now c.args.disk.now c.requires.may

pub returns-in-Open-clause-err : goal.returns-in-Open-clause-err
returns-in-Open-clause-err g c = on_err c.open.result (λ cut is records openings s h l st.
    subst (λ (y : code_step.Step). StepIsCut g.T.Teller.telling c.args.settings.now (step_of c.args.settings.now.period y) s c.args.teller.now c.open.new.teller) (sym c.in-Open.is)
    (err_of c.open.result cut is c.open.ensures.err openings s h))

pub returns-in-Open-clause-ok : goal.returns-in-Open-clause-ok
returns-in-Open-clause-ok g c = on_ok c.open.result (λ is records openings s h l st.
    let old = c.args.teller.now in let new = c.open.new.teller in
    subst (λ (y : code_step.Step). After g.T.Teller.telling false c.args.settings.now (step_of c.args.settings.now.period y) s (λ is u. HoldsAt (openings + step_lines (step_of c.args.settings.now.period y)) c.args.settings.now u c.open.new.self c.open.new.disk × LineAt u c.args.line.now × HasSaid is c.args.line.now c.args.line.now) old new) (sym c.in-Open.is)
    (open_after g.T.Teller.telling (openings + 1) c.args.settings.now c.in-Open.stop s c.open.new.self c.args.line.now c.open.new.disk old new l (ok_of c.open.result is c.open.ensures.ok openings s h)))

pub returns-in-Open-clause-closes : goal.returns-in-Open-clause-closes
returns-in-Open-clause-closes g c = rw c.in-Open.is (omega (arith, few_to_open c.open.new.self.session))

pub returns-in-Ok-clause-ok : goal.returns-in-Ok-clause-ok
returns-in-Ok-clause-ok g c records openings s h l st =
    let old = c.args.teller.now in
    let period : c.period.result ≡ c.args.settings.now.period = search rules in
    wait_after g.T.Teller.telling openings (step_lines (step_of c.args.settings.now.period c.args.step.now)) c.args.settings.now c.args.settings.now.period c.args.step.now s c.args.self.now c.args.line.now c.wait.new.line c.args.disk.now old (waiting c.args.step.now c.in-Due.is) h l
    (subst (λ (p : ℕ). SimStandsFor c.wait.new.line (passed (step_of p c.args.step.now) s.line)) period (c.in-Ok.ensures.stands s.line l.stands)) c.wait.ensures.fates c.wait.ensures.talk

pub unreachable-requires : goal.unreachable-requires
unreachable-requires g c = subst IsNoRound c.in-Round.is c.requires.no_round
