use Rattle.std.proofs.Common.{◌+◌, ◌++◌, None, Option, inr, refl, sym, subst, ap, ◌∙◌, arith}
use Rattle.replay_laws.specs.Replay.{opening_if_closed}
use Rattle.round_play.specs.declared.playing.Playing.{Playing}
use Rattle.schedule_replay.specs.Left.{left_to_open}
use Rattle.schedule_replay.specs.Replaying.{StandsAt}
use Rattle.schedule_replay.proofs.StepsSoFar.{ready}
use Rattle.schedule_replay.proofs.Turned.{cut_to, left_open, may_open_now, opening_cut_off, stands_closed}
use Rattle.schedule_replay.proofs.turns.ReplayRun.recover.Goals as goal

pub recover-requires : goal.recover-requires
recover-requires g c =
    let m = c.requires.may in let k = m.0 in let p = m.3 in let run = c.args.self.now.run in let s = c.args.self.now.settings in let i = c.args.self.now.taken in
    let so = stands_closed k s i m.1 run m.2 c.args.disk.now c.requires.closed p.stands in
    record { may = may_open_now s k.eeprom k.packet k.steps i k.made c.args.disk.now m.1 so.stage so.openings (ready s k.steps k.made p.accepted p.room) so.runs so.few so.limits run so.holds }

pub returns-in-Ok-clause-turns_to : goal.returns-in-Ok-clause-turns_to
returns-in-Ok-clause-turns_to g c k items line p next =
    let run = c.args.self.now.run in let s = c.args.self.now.settings in let i = c.args.self.now.taken in
    let so = stands_closed k s i items run line c.args.disk.now c.requires.closed p.stands in
    let x = c.in-Ok.ensures.ok so.openings so.stage so.holds in
    let was = ap left_to_open c.requires.closed in
    let is = left_open c.recover.new.self.session c.in-Ok.ensures.is_open in
    let given = opening_if_closed so.stage.is_open so.stage in
    let now : StandsAt None k s i (c.args.self.now.turns + 1) (items ++ given) c.recover.new.self line c.recover.new.disk = record {
      accepted = p.accepted;
      room = p.room;
      few = omega (arith, p.few, was, is);
      stands = inr (record {
        given = items;
        stage = so.stage;
        runs = so.runs;
        items_are = refl;
        next = next;
        openings = so.openings;
        few = so.few;
        holds = x.0;
        at = so.at;
        said = so.said;
        limits = c.recover.ensures.limits ∙ so.limits;
      });
    } in
    (given, x.1, subst (λ (o : Option Playing). StandsAt o k s i (c.args.self.now.turns + 1) (items ++ given) c.recover.new.self line c.recover.new.disk) (sym c.requires.none) now)

pub returns-in-Err-clause-turns_to : goal.returns-in-Err-clause-turns_to
returns-in-Err-clause-turns_to g c k items line p next =
    let run = c.args.self.now.run in let s = c.args.self.now.settings in let i = c.args.self.now.taken in
    let so = stands_closed k s i items run line c.args.disk.now c.requires.closed p.stands in
    cut_to g.T.Teller.telling c.cut_off.result k s items _ _ _ c.args.teller.now c.recover.new.teller c.cut_off.ensures.answer
    (opening_cut_off s k.eeprom k.packet k.steps i k.made c.args.disk.now items so.stage so.openings (ready s k.steps k.made p.accepted p.room) so.runs so.few so.limits
    g.T.Teller.telling c.args.teller.now c.recover.new.teller next (c.in-Err.ensures.err so.openings so.stage so.holds))
