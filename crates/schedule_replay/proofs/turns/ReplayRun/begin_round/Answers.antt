use Rattle.std.proofs.Common.{◌≡◌, List, None, Some, inl, refl, length, sym, subst, ap, ◌∙◌, arith, rules}
use Rattle.std.specs.Prelude.{is_some}
use Rattle.replay_laws.specs.Replay.{Item, start}
use Rattle.replay_laws.specs.Schedule.{records}
use Rattle.schedule_file.specs.declared.schedule.step.Step.TheVariants as code
use Rattle.schedule_replay.specs.Standing.{round_step}
use Rattle.schedule_steps.specs.Steps.{steps_for}
use Rattle.schedule_replay.specs.declared.turns.ReplayRun.{ReplayRun}
use Rattle.schedule_replay.specs.Turns.{CutsRun}
use Rattle.schedule_replay.proofs.StepsSoFar.{ready}
use Rattle.schedule_replay.proofs.RoundLaws.{moments_left}
use Rattle.schedule_replay.proofs.StepLaws.{wait_cut}
use Rattle.round_play.proofs.TurnPlayed.{one_call_behind, still_then}
use Rattle.schedule_replay.proofs.Turned.{begun_moves, goes_on_ahead, left_behind, left_none, left_some, next_round, none_plays, opens_next, recovered_left, recovered_moves, round_cut_off, stands, stands_begun, stands_open, without_session}
use Rattle.schedule_replay.proofs.turns.ReplayRun.begin_round.Goals as goal

pub recover-requires-clause-may : goal.recover-requires-clause-may
recover-requires-clause-may g c =
    let m = c.requires.may in let k = m.0 in let s = c.args.self.now.settings in let i = c.args.self.now.taken in
    let none : c.args.self.now.run.session ≡ None = search rules in
    (k, m.1, c.args.line.now, without_session k s i c.args.self.now.turns m.1 c.args.self.now.run c.take.new.self c.args.line.now c.args.disk.now none c.take.ensures.after m.2, opens_next s.period k.steps i c.args.fates.now c.args.stop m.3)

pub returns-in_default-clause-turns_to : goal.returns-in_default-clause-turns_to
returns-in_default-clause-turns_to g c k items p n =
    let s = c.args.self.now.settings in let i = c.args.self.now.taken in
    let none : c.args.self.now.run.session ≡ None = search rules in
    c.recover.ensures.turns_to k items c.args.line.now (without_session k s i c.args.self.now.turns items c.args.self.now.run c.take.new.self c.args.line.now c.args.disk.now none c.take.ensures.after p) (opens_next s.period k.steps i c.args.fates.now c.args.stop n)

pub returns-in_default-clause-left : goal.returns-in_default-clause-left
returns-in_default-clause-left g c more steps n =
    let none : c.args.self.now.run.session ≡ None = search rules in
    recovered_left steps c.args.self.now c.recover.new.self c.recover.ensures.others c.requires.none none (c.recover.ensures.is_open more)

pub returns-in_default-clause-one_turn : goal.returns-in_default-clause-one_turn
returns-in_default-clause-one_turn g c more =
    let none : c.args.self.now.run.session ≡ None = search rules in
    recovered_moves c.args.self.now c.recover.new.self c.recover.ensures.others c.requires.none none (c.recover.ensures.is_open more)

pub returns-in_default-clause-one_call : goal.returns-in_default-clause-one_call
returns-in_default-clause-one_call g c more some = absurd (none_plays c.recover.new.self.playing (ap (λ (r : ReplayRun). r.playing) c.recover.ensures.others ∙ c.requires.none) some)

pub begin_play-requires-clause-goes : goal.begin_play-requires-clause-goes
begin_play-requires-clause-goes g c =
    let m = c.requires.may in let k = m.0 in let p = m.2 in let s = c.args.self.now.settings in let i = c.args.self.now.taken in let run = c.args.self.now.run in
    let some : run.session ≡ Some c.in-Some.session = search rules in
    let ahead = stands_open k s i m.1 run c.in-Some.session c.args.line.now c.args.disk.now some (opens_next s.period k.steps i c.args.fates.now c.args.stop m.3) p.stands in
    ahead.holds.rests.rests.goes

pub begin_play-requires-clause-stop : goal.begin_play-requires-clause-stop
begin_play-requires-clause-stop g c =
    let m = c.requires.may in let k = m.0 in let p = m.2 in let s = c.args.self.now.settings in let i = c.args.self.now.taken in let run = c.args.self.now.run in
    let some : run.session ≡ Some c.in-Some.session = search rules in
    let ahead = stands_open k s i m.1 run c.in-Some.session c.args.line.now c.args.disk.now some (opens_next s.period k.steps i c.args.fates.now c.args.stop m.3) p.stands in
    (stands s k.eeprom k.packet k.steps i k.made c.args.disk.now ahead.given ahead.stage ahead.openings (ready s k.steps k.made p.accepted p.room) ahead.runs ahead.few ahead.limits (code.Round c.args.fates.now c.args.stop) (next_round k.steps i c.args.fates.now c.args.stop m.3)).1.0

pub begin_play-requires-clause-fresh : goal.begin_play-requires-clause-fresh
begin_play-requires-clause-fresh g c =
    let m = c.requires.may in let k = m.0 in let p = m.2 in let s = c.args.self.now.settings in let i = c.args.self.now.taken in let run = c.args.self.now.run in
    let some : run.session ≡ Some c.in-Some.session = search rules in
    let ahead = stands_open k s i m.1 run c.in-Some.session c.args.line.now c.args.disk.now some (opens_next s.period k.steps i c.args.fates.now c.args.stop m.3) p.stands in
    (goes_on_ahead ahead.openings s ahead.stage run c.in-Some.session c.args.disk.now some ahead.holds).goes_on.fresh

pub begin_play-requires-clause-room : goal.begin_play-requires-clause-room
begin_play-requires-clause-room g c =
    let m = c.requires.may in let k = m.0 in let p = m.2 in let s = c.args.self.now.settings in let i = c.args.self.now.taken in let run = c.args.self.now.run in
    let some : run.session ≡ Some c.in-Some.session = search rules in
    let ahead = stands_open k s i m.1 run c.in-Some.session c.args.line.now c.args.disk.now some (opens_next s.period k.steps i c.args.fates.now c.args.stop m.3) p.stands in
    let there = stands s k.eeprom k.packet k.steps i k.made c.args.disk.now ahead.given ahead.stage ahead.openings (ready s k.steps k.made p.accepted p.room) ahead.runs ahead.few ahead.limits (code.Round c.args.fates.now c.args.stop) (next_round k.steps i c.args.fates.now c.args.stop m.3) in
    moments_left (length (records (steps_for s.period k.steps))) ahead.openings s ahead.stage _ c.in-Some.session c.args.disk.now c.args.disk.now there.0 (goes_on_ahead ahead.openings s ahead.stage run c.in-Some.session c.args.disk.now some ahead.holds)

pub returns-in-Err-clause-turns_to : goal.returns-in-Err-clause-turns_to
returns-in-Err-clause-turns_to g c k items p n =
    let s = c.args.self.now.settings in let i = c.args.self.now.taken in let run = c.args.self.now.run in let t = c.args.teller.now in
    let some : run.session ≡ Some c.in-Some.session = search rules in
    let ahead = stands_open k s i items run c.in-Some.session c.args.line.now c.args.disk.now some (opens_next s.period k.steps i c.args.fates.now c.args.stop n) p.stands in
    subst (λ (z : List Item). CutsRun g.T.Teller.telling s (start k.eeprom k.packet) (steps_for s.period k.steps) z t t) (sym ahead.items_are)
    (round_cut_off s k.eeprom k.packet k.steps i k.made c.args.disk.now ahead.given ahead.stage ahead.openings (ready s k.steps k.made p.accepted p.room) ahead.runs ahead.few ahead.limits
    g.T.Teller.telling (code.Round c.args.fates.now c.args.stop) c.args.fates.now c.args.stop t t (next_round k.steps i c.args.fates.now c.args.stop n) refl (wait_cut g.T.Teller.telling s (round_step c.args.fates.now c.args.stop) _ t))

pub play_on-requires-clause-may : goal.play_on-requires-clause-may
play_on-requires-clause-may g c =
    let m = c.requires.may in let e = c.in-Ok.ensures in let s = c.args.self.now.settings in let run = c.args.self.now.run in
    let some : run.session ≡ Some c.in-Some.session = search rules in
    (m.0, m.1, stands_begun m.0 s c.args.self.now.taken c.args.self.now.turns m.1 run c.in-Some.session c.take.new.self c.args.line.now c.begin_play.new.line c.args.disk.now c.begin_play.new.disk c.args.fates.now c.args.stop c.in-Ok.playing some m.3 m.2 e.begins e.may e.left e.stop_is)

pub returns-in-Ok-clause-turns_to : goal.returns-in-Ok-clause-turns_to
returns-in-Ok-clause-turns_to g c k items p n =
    let e = c.in-Ok.ensures in let s = c.args.self.now.settings in let run = c.args.self.now.run in
    let some : run.session ≡ Some c.in-Some.session = search rules in
    c.play_on.ensures.turns_to k items (stands_begun k s c.args.self.now.taken c.args.self.now.turns items run c.in-Some.session c.take.new.self c.args.line.now c.begin_play.new.line c.args.disk.now c.begin_play.new.disk c.args.fates.now c.args.stop c.in-Ok.playing some n p e.begins e.may e.left e.stop_is)

pub returns-in-Ok-clause-left : goal.returns-in-Ok-clause-left
returns-in-Ok-clause-left g c more steps n =
    let s = c.args.self.now.settings in let i = c.args.self.now.taken in
    let some : c.args.self.now.run.session ≡ Some c.in-Some.session = search rules in
    let old = left_none c.args.self.now.playing s.period steps i c.args.self.now.run.session c.requires.none in
    let opens = left_some c.args.self.now.run.session c.in-Some.session some in
    let falls = left_behind s.period steps i (code.Round c.args.fates.now c.args.stop) (next_round steps i c.args.fates.now c.args.stop n) in
    omega (arith, old, opens, falls, c.in-Ok.ensures.left, c.play_on.ensures.left more steps)

pub returns-in-Ok-clause-one_turn : goal.returns-in-Ok-clause-one_turn
returns-in-Ok-clause-one_turn g c more =
    let some : c.args.self.now.run.session ≡ Some c.in-Some.session = search rules in
    begun_moves c.args.self.now.playing c.play_on.new.self.playing c.in-Ok.playing (is_some c.args.self.now.run.session) (is_some c.take.new.self) (is_some c.play_on.new.self.run.session) c.args.self.now.taken c.play_on.new.self.taken c.requires.none (ap is_some some) (c.play_on.ensures.one_turn more)

pub returns-in-Ok-clause-one_call : goal.returns-in-Ok-clause-one_call
returns-in-Ok-clause-one_call g c more some =
    one_call_behind c.args.line.now c.begin_play.new.line c.play_on.new.line c.args.disk.now c.begin_play.new.disk c.play_on.new.disk c.in-Ok.ensures.still (c.play_on.ensures.one_call more some)

pub returns-in_default-clause-says_or_stores : goal.returns-in_default-clause-says_or_stores
returns-in_default-clause-says_or_stores g c more = inl refl

pub returns-in-Ok-clause-says_or_stores : goal.returns-in-Ok-clause-says_or_stores
returns-in-Ok-clause-says_or_stores g c more =
    still_then c.args.line.now c.begin_play.new.line c.play_on.new.line c.args.disk.now c.begin_play.new.disk c.play_on.new.disk c.in-Ok.ensures.still (c.play_on.ensures.says_or_stores more)

pub returns-in_default-clause-unseen_says_or_stores : goal.returns-in_default-clause-unseen_says_or_stores
returns-in_default-clause-unseen_says_or_stores g c unseen = inl refl

pub returns-in-Ok-clause-unseen_says_or_stores : goal.returns-in-Ok-clause-unseen_says_or_stores
returns-in-Ok-clause-unseen_says_or_stores g c unseen =
    still_then c.args.line.now c.begin_play.new.line c.play_on.new.line c.args.disk.now c.begin_play.new.disk c.play_on.new.disk c.in-Ok.ensures.still (c.play_on.ensures.unseen_says_or_stores unseen)
