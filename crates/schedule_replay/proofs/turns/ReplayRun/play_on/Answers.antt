use Rattle.std.proofs.Common.{◌≡◌, ◌+◌, ◌++◌, [], true, false, Bool, List, None, Some, Option, inl, length, sym, subst, ap, ◌∙◌, append-nil, arith, rules}
use Rattle.std.specs.Prelude.{is_some}
use Rattle.std.proofs.lemmas.Option.{same_Some}
use Rattle.replay_laws.specs.Replay.{Item, Stage, opening_if_closed, opened, start}
use Rattle.replay_laws.specs.Schedule.{records}
use Rattle.schedule_file.specs.declared.schedule.step.Stop.{Stop}
use Rattle.round_play.specs.declared.playing.Playing.{Playing}
use Rattle.round_play.specs.Opening.{stopping_limits}
use Rattle.round_play.specs.Playing.{RoundIsUnderWay}
use Rattle.schedule_replay.specs.Replaying.{StandsAt}
use Rattle.schedule_replay.specs.Running.{After}
use Rattle.schedule_replay.specs.Standing.{HasSaid, HoldsAt, LineAt, round_step}
use Rattle.schedule_steps.specs.Steps.{steps_for}
use Rattle.schedule_replay.specs.Turns.{BreaksRun, CutsRun}
use Rattle.schedule_replay.proofs.Ahead.{few_to_open}
use Rattle.schedule_replay.proofs.StepsSoFar.{few_rounds, ready}
use Rattle.schedule_replay.proofs.RoundLaws.{opened_rounds}
use Rattle.round_play.proofs.TurnPlayed.{then_still}
use Rattle.schedule_replay.proofs.Turned.{cut_else, cut_to, ends_moves, goes_on_moves, left_none, left_playing, none_plays, round_cut_off, round_taken, stands_some, taken_on, taken_out, turn_broken}
use Rattle.schedule_replay.proofs.turns.ReplayRun.play_on.Goals as goal

pub turn-requires : goal.turn-requires
turn-requires g c =
    let m = c.requires.may in let k = m.0 in let s = c.args.self.now.settings in
    let p = stands_some c.args.self.now.playing c.in-Some.playing k s c.args.self.now.taken c.args.self.now.turns m.1 c.args.self.now.run c.args.line.now c.args.disk.now c.in-Some.is m.2 in
    record { may = p.stands.2.may }

pub returns-in-More-clause-turns_to : goal.returns-in-More-clause-turns_to
returns-in-More-clause-turns_to g c k items stands =
    let p = stands_some c.args.self.now.playing c.in-Some.playing k c.args.self.now.settings c.args.self.now.taken c.args.self.now.turns items c.args.self.now.run c.args.line.now c.args.disk.now c.in-Some.is stands in
    let s = c.args.self.now.settings in let i = c.args.self.now.taken in let run = c.args.self.now.run in
    let w = p.stands.2 in let e = c.turn.ensures in
    let stop = e.stop in
    let falls = e.left c.in-More.is in
    let now : StandsAt (Some c.turn.new.self) k s i (c.args.self.now.turns + 1) (items ++ []) run c.turn.new.line c.turn.new.disk = record {
      accepted = p.accepted;
      room = p.room;
      few = omega (arith, p.few, falls);
      stands = (
        p.stands.0,
        p.stands.1,
        record {
          given = w.given;
          stage = w.stage;
          runs = w.runs;
          items_are = append-nil items ∙ w.items_are;
          openings = w.openings;
          few = w.few;
          fates = w.fates;
          is_round = w.is_round ∙ ap (λ (z : Option Stop). round_step w.fates z) (sym stop);
          old = w.old;
          begun = w.begun;
          way = subst (λ (z : Option Stop). RoundIsUnderWay w.fates z w.old c.turn.new.self c.turn.new.line c.turn.new.disk) (sym stop) (e.more c.in-More.is w.fates c.in-Some.playing.stop w.old w.way);
          may = e.may c.in-More.is;
          said = w.said;
          limits = w.limits;
        },
      );
    } in
    ([], g.T.Teller.telling.tells_none c.args.teller.now, now)

pub returns-in-More-clause-left : goal.returns-in-More-clause-left
returns-in-More-clause-left g c more steps =
    let old = left_playing c.args.self.now.playing c.in-Some.playing c.args.self.now.settings.period steps c.args.self.now.taken c.args.self.now.run.session c.in-Some.is in
    omega (arith, old, c.turn.ensures.left c.in-More.is)

pub returns-in-More-clause-one_turn : goal.returns-in-More-clause-one_turn
returns-in-More-clause-one_turn g c more = goes_on_moves c.args.self.now.playing c.in-Some.playing c.turn.new.self (is_some c.args.self.now.run.session) (is_some c.args.self.now.run.session) c.args.self.now.taken c.in-Some.is

pub returns-in-More-clause-one_call : goal.returns-in-More-clause-one_call
returns-in-More-clause-one_call g c more some = c.turn.ensures.one_call c.in-More.is

pub end_round-requires : goal.end_round-requires
end_round-requires g c =
    let m = c.requires.may in let k = m.0 in let s = c.args.self.now.settings in let i = c.args.self.now.taken in
    let p = stands_some c.args.self.now.playing c.in-Some.playing k s i c.args.self.now.turns m.1 c.args.self.now.run c.args.line.now c.args.disk.now c.in-Some.is m.2 in
    let w = p.stands.2 in let e = c.turn.ensures in let now = c.unwrap-playing.result in
    let same : c.turn.new.self ≡ now = same_Some _ _ (sym c.take.ensures.value ∙ c.unwrap-playing.ensures) in
    let over = taken_out w.fates w.old c.in-Ended.end c.in-Some.playing c.turn.new.self now c.turn.new.line c.turn.new.disk e.stop same (e.ended c.in-Ended.end c.in-Ended.is w.fates c.in-Some.playing.stop w.old w.way) in
    let rounds = few_rounds s k.eeprom k.packet k.steps i k.made w.old.disk w.given w.stage w.openings (ready s k.steps k.made p.accepted p.room) w.runs w.few w.limits in
    let same = opened_rounds w.stage.is_open w.stage in
    record { may = (s, length (records (steps_for s.period k.steps)), w.openings + 1, opened w.stage.is_open w.stage, w.fates, w.old, w.begun, over, omega (arith, rounds, same, w.begun.rounds)) }

pub returns-in-Ok-false-clause-turns_to : goal.returns-in-Ok-false-clause-turns_to
returns-in-Ok-false-clause-turns_to g c k items stands =
    let p = stands_some c.args.self.now.playing c.in-Some.playing k c.args.self.now.settings c.args.self.now.taken c.args.self.now.turns items c.args.self.now.run c.args.line.now c.args.disk.now c.in-Some.is stands in
    let s = c.args.self.now.settings in let i = c.args.self.now.taken in
    let w = p.stands.2 in let e = c.turn.ensures in let now = c.unwrap-playing.result in
    let same : c.turn.new.self ≡ now = same_Some _ _ (sym c.take.ensures.value ∙ c.unwrap-playing.ensures) in
    let stop : now.stop ≡ c.in-Some.playing.stop = ap (λ (z : Playing). z.stop) (sym same) ∙ e.stop in
    let over = taken_out w.fates w.old c.in-Ended.end c.in-Some.playing c.turn.new.self now c.turn.new.line c.turn.new.disk e.stop same (e.ended c.in-Ended.end c.in-Ended.is w.fates c.in-Some.playing.stop w.old w.way) in
    let u = opened w.stage.is_open w.stage in
    let seen : c.in-Ok-false.field-0 ≡ false = search rules in
    let after = subst (λ (t : Bool). After g.T.Teller.telling t s (round_step w.fates now.stop) u (λ is v. (HoldsAt (w.openings + 1) s v c.end_round.new.self c.end_round.new.disk × LineAt v c.end_round.new.line × HasSaid is w.old.link c.end_round.new.line) × (stopping_limits c.end_round.new.disk ≡ stopping_limits w.old.disk)) c.args.teller.now c.end_round.new.teller) seen
    (c.in-Ok-false.ensures.ok (length (records (steps_for s.period k.steps))) (w.openings + 1) s u w.fates w.old w.begun over) in
    let t = round_taken s k.eeprom k.packet k.steps i k.made w.old.disk w.given w.stage w.openings (ready s k.steps k.made p.accepted p.room) w.runs w.few w.limits
    g.T.Teller.telling p.stands.0 w.fates now.stop k.before w.old.link c.end_round.new.line w.old.disk c.end_round.new.disk c.end_round.new.self c.args.teller.now c.end_round.new.teller p.stands.1
    (w.is_round ∙ ap (λ (z : Option Stop). round_step w.fates z) (sym stop)) w.said after w.limits in
    let opens = few_to_open c.end_round.new.self.session in
    let whole : StandsAt None k s (i + 1) (c.args.self.now.turns + 1) (items ++ t.0) c.end_round.new.self c.end_round.new.line c.end_round.new.disk = record {
      accepted = p.accepted;
      room = p.room;
      few = omega (arith, p.few, opens);
      stands = inl (taken_on k s i items (w.given ++ opening_if_closed w.stage.is_open w.stage) t.0 c.end_round.new.line c.end_round.new.disk c.end_round.new.self w.items_are t.2);
    } in
    (t.0, t.1, subst (λ (o : Option Playing). StandsAt o k s (i + 1) (c.args.self.now.turns + 1) (items ++ t.0) c.end_round.new.self c.end_round.new.line c.end_round.new.disk) (sym c.take.ensures.after) whole)

pub returns-in-Ok-false-clause-left : goal.returns-in-Ok-false-clause-left
returns-in-Ok-false-clause-left g c more steps =
    let old = left_playing c.args.self.now.playing c.in-Some.playing c.args.self.now.settings.period steps c.args.self.now.taken c.args.self.now.run.session c.in-Some.is in
    let new = left_none c.take.new.self c.args.self.now.settings.period steps (c.args.self.now.taken + 1) c.end_round.new.self.session c.take.ensures.after in
    omega (arith, old, new, few_to_open c.end_round.new.self.session)

pub returns-in-Ok-false-clause-one_turn : goal.returns-in-Ok-false-clause-one_turn
returns-in-Ok-false-clause-one_turn g c more = ends_moves c.args.self.now.playing c.take.new.self c.in-Some.playing (is_some c.args.self.now.run.session) (is_some c.end_round.new.self.session) c.args.self.now.taken c.in-Some.is c.take.ensures.after

pub returns-in-Ok-false-clause-one_call : goal.returns-in-Ok-false-clause-one_call
returns-in-Ok-false-clause-one_call g c more some = absurd (none_plays c.take.new.self c.take.ensures.after some)

pub returns-in-Ok-true-clause-turns_to : goal.returns-in-Ok-true-clause-turns_to
returns-in-Ok-true-clause-turns_to g c k items stands =
    let p = stands_some c.args.self.now.playing c.in-Some.playing k c.args.self.now.settings c.args.self.now.taken c.args.self.now.turns items c.args.self.now.run c.args.line.now c.args.disk.now c.in-Some.is stands in
    let s = c.args.self.now.settings in let i = c.args.self.now.taken in
    let w = p.stands.2 in let e = c.turn.ensures in let now = c.unwrap-playing.result in
    let same : c.turn.new.self ≡ now = same_Some _ _ (sym c.take.ensures.value ∙ c.unwrap-playing.ensures) in
    let stop : now.stop ≡ c.in-Some.playing.stop = ap (λ (z : Playing). z.stop) (sym same) ∙ e.stop in
    let over = taken_out w.fates w.old c.in-Ended.end c.in-Some.playing c.turn.new.self now c.turn.new.line c.turn.new.disk e.stop same (e.ended c.in-Ended.end c.in-Ended.is w.fates c.in-Some.playing.stop w.old w.way) in
    let u = opened w.stage.is_open w.stage in
    let unseen : c.in-Ok-true.field-0 ≡ true = search rules in
    let P : List Item → Stage → Type 0 = λ is v. (HoldsAt (w.openings + 1) s v c.end_round.new.self c.end_round.new.disk × LineAt v c.end_round.new.line × HasSaid is w.old.link c.end_round.new.line) × (stopping_limits c.end_round.new.disk ≡ stopping_limits w.old.disk) in
    let after = subst (λ (t : Bool). After g.T.Teller.telling t s (round_step w.fates now.stop) u P c.args.teller.now c.end_round.new.teller) unseen
    (c.in-Ok-true.ensures.ok (length (records (steps_for s.period k.steps))) (w.openings + 1) s u w.fates w.old w.begun over) in
    subst (λ (z : List Item). BreaksRun g.T.Teller.telling s (start k.eeprom k.packet) (steps_for s.period k.steps) z c.args.teller.now c.end_round.new.teller) (sym w.items_are)
    (turn_broken s k.eeprom k.packet k.steps i k.made w.old.disk w.given w.stage w.openings (ready s k.steps k.made p.accepted p.room) w.runs w.few w.limits
    g.T.Teller.telling p.stands.0 w.fates now.stop P c.args.teller.now c.end_round.new.teller p.stands.1 (w.is_round ∙ ap (λ (z : Option Stop). round_step w.fates z) (sym stop)) after)

pub returns-in-Err-clause-turns_to : goal.returns-in-Err-clause-turns_to
returns-in-Err-clause-turns_to g c k items stands =
    let p = stands_some c.args.self.now.playing c.in-Some.playing k c.args.self.now.settings c.args.self.now.taken c.args.self.now.turns items c.args.self.now.run c.args.line.now c.args.disk.now c.in-Some.is stands in
    let s = c.args.self.now.settings in let i = c.args.self.now.taken in
    let w = p.stands.2 in let e = c.turn.ensures in let now = c.unwrap-playing.result in
    let same : c.turn.new.self ≡ now = same_Some _ _ (sym c.take.ensures.value ∙ c.unwrap-playing.ensures) in
    let stop : now.stop ≡ c.in-Some.playing.stop = ap (λ (z : Playing). z.stop) (sym same) ∙ e.stop in
    let over = taken_out w.fates w.old c.in-Ended.end c.in-Some.playing c.turn.new.self now c.turn.new.line c.turn.new.disk e.stop same (e.ended c.in-Ended.end c.in-Ended.is w.fates c.in-Some.playing.stop w.old w.way) in
    let u = opened w.stage.is_open w.stage in
    cut_to g.T.Teller.telling c.cut_off.result k s items _ _ _ c.args.teller.now c.end_round.new.teller c.cut_off.ensures.answer
    (subst (λ (z : List Item). CutsRun g.T.Teller.telling s (start k.eeprom k.packet) (steps_for s.period k.steps) z c.args.teller.now c.end_round.new.teller) (sym w.items_are)
    (round_cut_off s k.eeprom k.packet k.steps i k.made w.old.disk w.given w.stage w.openings (ready s k.steps k.made p.accepted p.room) w.runs w.few w.limits
    g.T.Teller.telling p.stands.0 w.fates now.stop c.args.teller.now c.end_round.new.teller p.stands.1 (w.is_round ∙ ap (λ (z : Option Stop). round_step w.fates z) (sym stop))
    (c.in-Err.ensures.err (length (records (steps_for s.period k.steps))) (w.openings + 1) s u w.fates w.old w.begun over)))

pub returns-in-More-clause-says_or_stores : goal.returns-in-More-clause-says_or_stores
returns-in-More-clause-says_or_stores g c more = c.turn.ensures.says_or_stores

pub returns-in-Ok-false-clause-says_or_stores : goal.returns-in-Ok-false-clause-says_or_stores
returns-in-Ok-false-clause-says_or_stores g c more =
    then_still c.args.line.now c.turn.new.line c.end_round.new.line c.args.disk.now c.turn.new.disk c.end_round.new.disk c.turn.ensures.says_or_stores c.in-Ok-false.ensures.is_still

pub returns-in-Ok-true-clause-unseen_says_or_stores : goal.returns-in-Ok-true-clause-unseen_says_or_stores
returns-in-Ok-true-clause-unseen_says_or_stores g c unseen =
    then_still c.args.line.now c.turn.new.line c.end_round.new.line c.args.disk.now c.turn.new.disk c.end_round.new.disk c.turn.ensures.says_or_stores c.in-Ok-true.ensures.is_still

pub returns-in-Err-clause-still : goal.returns-in-Err-clause-still
returns-in-Err-clause-still g c other =
    let memory = c.cut_off.ensures.out_of_memory (cut_else c.cut_off.result c.cut_off.ensures.answer other) in
    c.end_round.ensures.still (λ e. let is = c.in-Err.is in cc)
