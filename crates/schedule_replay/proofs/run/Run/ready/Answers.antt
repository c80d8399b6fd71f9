use Rattle.std.proofs.Common.{◌≡◌, ℕ, Err, None, [], ◌∷◌, ap, subst, ◌∙◌, rules}
use Rattle.replay_laws.specs.Replay.{Item}
use Rattle.schedule_replay.specs.declared.run.Run.{Run}
use Rattle.schedule_replay.specs.Telling.{TellsAll}
use Rattle.schedule_replay.proofs.RunLaws.{closed_by, may_tell, opens_front, opens_told, readies_closed, told_front}
use Rattle.schedule_replay.proofs.run.Run.ready.Goals as goal

pub returns-in_default-recover-clause-err : goal.returns-in_default-recover-clause-err
returns-in_default-recover-clause-err g c openings s h = g.T.Teller.telling.breaks_none c.args.teller.now _

pub tell_opening-requires : goal.tell_opening-requires
tell_opening-requires g c = may_tell c.args.settings.now c.args.self.now c.args.disk.now c.recover.new.disk c.in-Ok.session c.requires.may c.in-Ok.ensures.opened

pub returns-in_err-tell_opening-clause-err : goal.returns-in_err-tell_opening-clause-err
returns-in_err-tell_opening-clause-err g c =
    let given : c.from_residual.result ≡ Err c.in_err-tell_opening.field-0.0 = search rules in
    rw given (λ openings s h.
    let none : c.args.self.now.session ≡ None = search rules in
    let old = c.args.teller.now in let new = c.tell_opening.new.teller in
    let x = c.in-Ok.ensures.opened openings s.archive h.rests in
    opens_front g.T.Teller.telling s old new (closed_by s.is_open c.args.settings.now s.archive.rows c.args.self.now.session c.args.disk.now h.session none)
    (told_front g.T.Teller.telling old new _ c.in_err-tell_opening.field-0.0 (subst (λ (n : ℕ). TellsAll g.T.Teller.telling old (Item.Opened s.archive.rows n ∷ []) (Err c.in_err-tell_opening.field-0.0) new) h.written (c.in_err-tell_opening.ensures.tells c.args.settings.now s.archive.rows x.1))))

pub returns-clause-ok : goal.returns-clause-ok
returns-clause-ok g c openings s h =
    let none : c.args.self.now.session ≡ None = search rules in
    let old = c.args.teller.now in let new = c.tell_opening.new.teller in
    let x = c.in-Ok.ensures.opened openings s.archive h.rests in
    let closed = closed_by s.is_open c.args.settings.now s.archive.rows c.args.self.now.session c.args.disk.now h.session none in
    let read = c.tell_opening.ensures.disk in (
      readies_closed openings c.args.settings.now s c.tell_opening.new.self c.in-Ok.session c.tell_opening.new.disk closed (read.rests _ _ x.0) (read.goes_on _ _ _ x.1)
          (ap (λ (r : Run). r.rounds) c.tell_opening.ensures.others ∙ h.rounds) (c.in_ok-tell_opening.ensures.written s.archive.rows x.1.stands.stands_for) (ap (λ (r : Run). r.session) c.tell_opening.ensures.others ∙ c.take.ensures.after),
      opens_told g.T.Teller.telling s old new closed (subst (λ (n : ℕ). g.T.Teller.telling.tells old (Item.Opened s.archive.rows n ∷ []) new) h.written (c.in_ok-tell_opening.ensures.tells c.args.settings.now s.archive.rows x.1)),
    )
