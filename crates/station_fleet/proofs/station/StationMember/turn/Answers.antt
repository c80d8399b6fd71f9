use Rattle.std.proofs.Common.{List, sym, subst}
use Rattle.fleet.specs.declared.member.MemberTurn.{MemberTurn}
use Rattle.fleet.specs.MemberTurns.{MemberTakesTurn}
use Rattle.schedule_file.specs.declared.schedule.step.Step as code_step
use Rattle.schedule_replay.specs.Replaying.{MayTurn}
use Rattle.station_fleet.specs.StationTurns.{station_turning}
use Rattle.station_fleet.proofs.OneTurn.{takes, with_parts}
use Rattle.station_fleet.proofs.station.StationMember.turn.Goals as goal

pub turn-turn-requires : goal.turn-turn-requires
turn-turn-requires g c =
    let self = c.args.self.now in
    subst (λ (xs : List code_step.Step). MayTurn xs self.line self.disk self.run) (sym c.steps.ensures) c.requires

pub returns : goal.returns
returns g c =
    let took = c.turn-turn.ensures in
    let new = with_parts c.args.self.now c.turn-turn.new.self c.turn-turn.new.line c.turn-turn.new.disk in
    subst (λ (answer : MemberTurn). MemberTakesTurn station_turning g.K.Sink.outlet c.args.self.now c.args.out.now answer new c.turn-turn.new.teller) (sym c.answer_of.ensures)
    (takes g.K.Sink.outlet c.args.self.now c.steps.result.now c.args.out.now c.turn-turn.result c.turn-turn.new.self
    c.turn-turn.new.line c.turn-turn.new.disk c.turn-turn.new.teller
    (record {
      more = took.more;
      ended = took.ended;
      unseen = took.unseen;
      cut_off = took.cut_off;
      settings = took.settings;
      turns = took.turns;
      not_counted = took.not_counted;
      one_turn = took.one_turn;
      says_or_stores = took.says_or_stores;
      unseen_says_or_stores = took.unseen_says_or_stores;
      one_call = took.one_call;
      ends_open = took.ends_open;
      ends_alone = took.ends_alone;
      left = took.left;
      write_fault = took.write_fault;
      still = took.still;
    })
    c.steps.ensures c.requires)
