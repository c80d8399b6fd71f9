use Rattle.std.proofs.Common.{◌≡◌, ◌+◌, ℕ, None, Err, [], ◌∷◌, ap, subst, ◌∙◌, rules}
use Rattle.replay_laws.specs.Replay.{Item, cut_short, opening, recovered}
use Rattle.schedule_replay.specs.declared.run.Run.{Run}
use Rattle.schedule_replay.specs.Telling.{TellsAll}
use Rattle.schedule_replay.proofs.RunLaws.{closed_stage, does_open, does_plainly, does_stop, holds_closed, on_err, on_ok, open_cut, opens_none, opens_some, told_all, told_front, told_less}
use Rattle.schedule_replay.proofs.run.Run.open.Goals as goal

pub ready-requires : goal.ready-requires
ready-requires g c = let m = c.requires.may in record { may = (m.0, closed_stage m.1, holds_closed m.0 c.args.settings.now m.1 c.args.self.now c.args.disk.now m.2, m.3) }

pub returns-in_err-session-clause-err : goal.returns-in_err-session-clause-err
returns-in_err-session-clause-err g c =
    let given : c.from_residual.result ≡ Err c.in_err-session.field-0.0 = search rules in
    let none : c.args.stop ≡ None = search rules in
    rw given (λ openings s h.
    let old = c.args.teller.now in let new = c.ready.new.teller in
    open_cut g.T.Teller.telling c.args.settings.now s (recovered s) c.args.stop (opening s) old new (does_plainly c.args.settings.now s c.args.stop none)
    (c.in_err-session.ensures.err openings (closed_stage s) (holds_closed openings c.args.settings.now s c.args.self.now c.args.disk.now h)))

pub returns-in_default-clause-ok : goal.returns-in_default-clause-ok
returns-in_default-clause-ok g c openings s h =
    let none : c.args.stop ≡ None = search rules in
    let old = c.args.teller.now in let new = c.ready.new.teller in
    let x = c.in_ok-session.ensures.ok openings (closed_stage s) (holds_closed openings c.args.settings.now s c.args.self.now c.args.disk.now h) in (
      opening s ∷ [],
      recovered s,
      does_plainly c.args.settings.now s c.args.stop none,
      record { rests = x.0.rests; session = x.0.goes_on; rounds = x.0.rounds; written = x.0.written },
      x.1,
    )

pub tell_opening-requires : goal.tell_opening-requires
tell_opening-requires g c =
    let m = c.requires.may in
    let x = opens_some _ c.args.settings.now c.in-Some.stop m.0 m.1.archive _ c.in-Ok-Some.session c.recover_with_stop.new.disk (c.in-Ok-Some.ensures.opened m.0 m.1.archive m.2.rests) c.in-Ok-Some.field-0-is in
    record { openings = m.0 + 1; archive = _; settings = c.args.settings.now; rows = m.1.archive.rows; rests = x.1.0; goes_on = x.1.1 }

pub returns-in_err-tell_opening-in-Ok-Some-clause-err : goal.returns-in_err-tell_opening-in-Ok-Some-clause-err
returns-in_err-tell_opening-in-Ok-Some-clause-err g c =
    let given : c.from_residual-in_err-tell_opening-in-Ok-Some.result ≡ Err c.in_err-tell_opening-in-Ok-Some.field-0.0 = search rules in
    rw given (λ openings s h.
    let old = c.args.teller.now in let new = c.tell_opening.new.teller in
    let x = opens_some _ c.args.settings.now c.in-Some.stop openings s.archive _ c.in-Ok-Some.session c.recover_with_stop.new.disk (c.in-Ok-Some.ensures.opened openings s.archive h.rests) c.in-Ok-Some.field-0-is in
    open_cut g.T.Teller.telling c.args.settings.now s (recovered s) c.args.stop (opening s) old new (does_open c.args.settings.now s c.args.stop c.in-Some.stop c.in-Some.is x.0)
    (told_front g.T.Teller.telling old new _ c.in_err-tell_opening-in-Ok-Some.field-0.0 (subst (λ (n : ℕ). TellsAll g.T.Teller.telling old (Item.Opened s.archive.rows n ∷ []) (Err c.in_err-tell_opening-in-Ok-Some.field-0.0) new) h.written (c.in_err-tell_opening-in-Ok-Some.ensures.tells c.args.settings.now s.archive.rows x.1.1))))

pub returns-in_ok-tell_opening-in-Ok-Some-clause-ok : goal.returns-in_ok-tell_opening-in-Ok-Some-clause-ok
returns-in_ok-tell_opening-in-Ok-Some-clause-ok g c openings s h =
    let old = c.args.teller.now in let new = c.tell_opening.new.teller in
    let x = opens_some _ c.args.settings.now c.in-Some.stop openings s.archive _ c.in-Ok-Some.session c.recover_with_stop.new.disk (c.in-Ok-Some.ensures.opened openings s.archive h.rests) c.in-Ok-Some.field-0-is in
    let read = c.tell_opening.ensures.disk in (
      opening s ∷ [],
      recovered s,
      does_open c.args.settings.now s c.args.stop c.in-Some.stop c.in-Some.is x.0,
      record {
        rests = read.rests _ _ x.1.0;
        session = read.goes_on _ _ _ x.1.1;
        rounds = ap (λ (r : Run). r.rounds) c.tell_opening.ensures.others ∙ h.rounds;
        written = c.in_ok-tell_opening-in-Ok-Some.ensures.written s.archive.rows x.1.1.stands.stands_for;
      },
      subst (λ (n : ℕ). g.T.Teller.telling.tells old (Item.Opened s.archive.rows n ∷ []) new) h.written (c.in_ok-tell_opening-in-Ok-Some.ensures.tells c.args.settings.now s.archive.rows x.1.1),
    )

pub returns-in-Ok-None-clause-ok : goal.returns-in-Ok-None-clause-ok
returns-in-Ok-None-clause-ok g c = on_ok c.open_stopped.result (λ is openings s h.
    let old = c.args.teller.now in let new = c.open_stopped.new.self in
    let x = opens_none _ c.args.settings.now c.in-Some.stop openings s.archive _ c.recover_with_stop.new.disk (c.in-Ok-None.ensures.opened openings s.archive h.rests) c.in-Ok-None.field-0-is in (
      Item.OpenStopped c.in-Some.stop.change s.archive.rows ∷ [],
      cut_short c.in-Some.stop s,
      does_stop c.args.settings.now s c.args.stop c.in-Some.stop c.in-Some.is x.0,
      record { rests = x.1; session = tt; rounds = h.rounds; written = h.written },
      told_all g.T.Teller.telling old new _ c.open_stopped.result is (c.open_stopped.ensures.tells s.archive.rows),
    ))

pub returns-in-Ok-None-clause-err : goal.returns-in-Ok-None-clause-err
returns-in-Ok-None-clause-err g c = on_err c.open_stopped.result (λ cut is openings s h.
    let old = c.args.teller.now in let new = c.open_stopped.new.self in
    let x = opens_none _ c.args.settings.now c.in-Some.stop openings s.archive _ c.recover_with_stop.new.disk (c.in-Ok-None.ensures.opened openings s.archive h.rests) c.in-Ok-None.field-0-is in
    open_cut g.T.Teller.telling c.args.settings.now s (cut_short c.in-Some.stop s) c.args.stop (Item.OpenStopped c.in-Some.stop.change s.archive.rows) old new (does_stop c.args.settings.now s c.args.stop c.in-Some.stop c.in-Some.is x.0)
    (told_less g.T.Teller.telling old new _ c.open_stopped.result cut is (c.open_stopped.ensures.tells s.archive.rows)))
