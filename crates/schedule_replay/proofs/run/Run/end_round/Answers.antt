use Rattle.std.proofs.Common.{◌≡◌, ◌+◌, ℕ, List, None, Err, sym, ap, ◌∙◌, arith, rules}
use Rattle.replay_laws.specs.Replay.{Item, Stage, opened}
use Rattle.station_session.specs.Round.{round_host}
use Rattle.schedule_file.specs.Lists.{fates_of, records_left_in}
use Rattle.schedule_replay.proofs.Ahead.{broken_opened, none_first, played_opened, with_limits}
use Rattle.schedule_replay.proofs.RoundLaws.{number_of, opened_rounds, played_seen, played_unseen, told_after, told_cut, told_of, unseen_after, unseen_cut, written_of}
use Rattle.schedule_replay.proofs.RunLaws.{told_front}
use Rattle.schedule_replay.proofs.StepLaws.{wait_cut}
use Rattle.schedule_replay.specs.Standing.{round_step}
use Rattle.schedule_replay.proofs.run.Run.end_round.Goals as goal

pub returns-in_default-clause-err : goal.returns-in_default-clause-err
returns-in_default-clause-err g c records openings settings s fates old begun over = wait_cut g.T.Teller.telling settings (round_step fates c.args.playing.stop) s c.args.teller.now

pub overflow_add-self : goal.overflow_add-self
overflow_add-self g c = let m = c.requires.may in omega (arith, m.8)

pub returns-in_err-unseen-clause-err : goal.returns-in_err-unseen-clause-err
returns-in_err-unseen-clause-err g c =
    let given : c.from_residual.result ≡ Err c.in_err-unseen.field-0.0 = search rules in
    rw given (λ records openings settings s fates old begun over.
    let t = c.args.teller.now in let new = c.unseen.new.self in
    let broken = broken_opened settings (fates_of fates) c.args.playing.stop s _ begun.is_open
    (played_unseen c.in-Ok.played.unseen c.in-Some.which settings _ _ _ _ _ _ _ _ c.in-Some.is (c.in-Ok.ensures.played records openings settings s fates c.args.playing.stop old c.args.playing.session over begun.may)) in
    unseen_cut g.T.Teller.telling settings fates c.args.playing.stop s (c.args.self.now.rounds + 1) c.in-Some.which t t new broken (ap (λ (k : ℕ). k + 1) begun.rounds) (none_first g.T.Teller.telling s t begun.is_open)
    (told_front g.T.Teller.telling t new _ c.in_err-unseen.field-0.0 c.in_err-unseen.ensures.tells))

pub returns-in-Some-clause-ok : goal.returns-in-Some-clause-ok
returns-in-Some-clause-ok g c records openings settings s fates old begun over =
    let t = c.args.teller.now in let new = c.unseen.new.self in
    let broken = broken_opened settings (fates_of fates) c.args.playing.stop s _ begun.is_open
    (played_unseen c.in-Ok.played.unseen c.in-Some.which settings _ _ _ _ _ _ _ _ c.in-Some.is (c.in-Ok.ensures.played records openings settings s fates c.args.playing.stop old c.args.playing.session over begun.may)) in
    unseen_after g.T.Teller.telling settings fates c.args.playing.stop s (λ (is : List Item) (u : Stage). Unit {0}) (c.args.self.now.rounds + 1) c.in-Some.which t t new broken (ap (λ (k : ℕ). k + 1) begun.rounds) (none_first g.T.Teller.telling s t begun.is_open) c.in_ok-unseen.ensures.tells

pub tell_round-requires : goal.tell_round-requires
tell_round-requires g c =
    let m = c.requires.may in
    let none : c.in-Ok.played.unseen ≡ None = search rules in
    let o = played_seen c.in-Ok.played.unseen m.0 (fates_of m.4) (records_left_in m.4.mids.items) c.args.playing.stop m.2 m.3 m.5 c.in-Ok.played (round_host c.args.playing.session c.end_play.new.line c.end_play.new.disk) none (c.in-Ok.ensures.played m.1 m.2 m.0 m.3 m.4 c.args.playing.stop m.5 c.args.playing.session m.7 m.6.may) in
    (m.0, m.2, o.round, o.next.archive, told_of m.0 _ _ _ _ _ _ c.in-Ok.played c.args.playing.session c.end_play.new.line c.end_play.new.disk o)

pub returns-in_err-tell_round-clause-err : goal.returns-in_err-tell_round-clause-err
returns-in_err-tell_round-clause-err g c =
    let given : c.from_residual-in_err-tell_round.result ≡ Err c.in_err-tell_round.field-0.0 = search rules in
    let none : c.in-Ok.played.unseen ≡ None = search rules in
    rw given (λ records openings settings s fates old begun over.
    let t = c.args.teller.now in let new = c.tell_round.new.teller in
    let o = played_opened settings (fates_of fates) (records_left_in fates.mids.items) c.args.playing.stop openings s old c.in-Ok.played (round_host c.args.playing.session c.end_play.new.line c.end_play.new.disk) begun.is_open
    (played_seen c.in-Ok.played.unseen settings (fates_of fates) (records_left_in fates.mids.items) c.args.playing.stop openings s old c.in-Ok.played (round_host c.args.playing.session c.end_play.new.line c.end_play.new.disk) none (c.in-Ok.ensures.played records openings settings s fates c.args.playing.stop old c.args.playing.session over begun.may)) in
    let number = number_of settings _ _ _ _ _ _ _ _ o ∙ ap (λ (k : ℕ). k + 1) (opened_rounds s.is_open s) ∙ ap (λ (k : ℕ). k + 1) (sym begun.rounds) in
    let written = written_of settings _ _ _ _ _ _ _ _ o ∙ ap (λ (u : Stage). u.written) (ap (λ b. opened b s) begun.is_open) ∙ sym begun.written in
    told_cut g.T.Teller.telling settings openings fates c.args.playing.stop s old c.in-Ok.played _ t t new o (none_first g.T.Teller.telling s t begun.is_open)
    (c.in_err-tell_round.ensures.err settings openings o.round o.next.archive (told_of settings _ _ _ _ _ _ c.in-Ok.played c.args.playing.session c.end_play.new.line c.end_play.new.disk o) number written))

pub returns-clause-ok : goal.returns-clause-ok
returns-clause-ok g c records openings settings s fates old begun over =
    let none : c.in-Ok.played.unseen ≡ None = search rules in
    let t = c.args.teller.now in let new = c.tell_round.new.teller in
    let o = played_opened settings (fates_of fates) (records_left_in fates.mids.items) c.args.playing.stop openings s old c.in-Ok.played (round_host c.args.playing.session c.end_play.new.line c.end_play.new.disk) begun.is_open
    (played_seen c.in-Ok.played.unseen settings (fates_of fates) (records_left_in fates.mids.items) c.args.playing.stop openings s old c.in-Ok.played (round_host c.args.playing.session c.end_play.new.line c.end_play.new.disk) none (c.in-Ok.ensures.played records openings settings s fates c.args.playing.stop old c.args.playing.session over begun.may)) in
    let number = number_of settings _ _ _ _ _ _ _ _ o ∙ ap (λ (k : ℕ). k + 1) (opened_rounds s.is_open s) ∙ ap (λ (k : ℕ). k + 1) (sym begun.rounds) in
    let es = ap (λ b. opened b s) begun.is_open in
    let was = begun.written ∙ ap (λ (u : Stage). u.written) (sym es) in
    let written = written_of settings _ _ _ _ _ _ _ _ o ∙ sym was in
    let told = c.in_ok-tell_round.ensures.ok settings openings o.round o.next.archive (told_of settings _ _ _ _ _ _ c.in-Ok.played c.args.playing.session c.end_play.new.line c.end_play.new.disk o) number written in
    with_limits g.T.Teller.telling openings settings fates c.args.playing.stop s old.link c.end_play.new.line old.disk c.tell_round.new.disk c.tell_round.new.self t new (c.tell_round.ensures.limits ∙ o.limits)
    (told_after g.T.Teller.telling openings settings fates c.args.playing.stop s old c.in-Ok.played c.args.playing.session c.end_play.new.line c.end_play.new.disk c.tell_round.new.disk c.tell_round.new.self c.args.self.now.written t t new o c.in-Ok.ensures.fates told.0
    (c.tell_round.ensures.rounds ∙ ap (λ (k : ℕ). k + 1) begun.rounds) was (none_first g.T.Teller.telling s t begun.is_open) told.1)

pub returns-in-Some-clause-is_still : goal.returns-in-Some-clause-is_still
returns-in-Some-clause-is_still g c = c.in-Ok.ensures.is_still

pub returns-clause-is_still : goal.returns-clause-is_still
returns-clause-is_still g c = (c.in-Ok.ensures.is_still.0, c.tell_round.ensures.moment ∙ c.in-Ok.ensures.is_still.1)
