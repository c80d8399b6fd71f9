use Rattle.std.proofs.Common.{◌++◌, List, sym, subst}
use Rattle.schedule_file.specs.declared.schedule.step.Step as code_step
use Rattle.schedule_replay.specs.Replaying.{MayTurn}
use Rattle.round_tests.proofs.replay_member.Member.turn.Goals as goal

pub turn-requires : goal.turn-requires
turn-requires c = subst (λ (xs : List code_step.Step). MayTurn xs c.args.self.now.line c.args.self.now.disk c.args.self.now.run) (sym c.steps.ensures) c.requires

pub returns : goal.returns
returns c is =
    let m = subst (λ (xs : List code_step.Step). MayTurn xs c.args.self.now.line c.args.self.now.disk c.args.self.now.run) (sym c.steps.ensures) c.requires in
    let t = c.turn.ensures.more is m.0 m.1 m.2 m.3 m.4 m.5 in
    subst (λ (xs : List code_step.Step). MayTurn xs c.turn.new.line c.turn.new.disk c.turn.new.self) c.steps.ensures (m.0, m.1, m.2 ++ t.0, m.3, m.4, t.2)
