use Rattle.std.proofs.Common.{◌≡◌, Err, List, false, length, refl, sym, ap, subst, ◌∙◌, rules}
use Rattle.weather_book.specs.declared.book.Book.{Book}
use Rattle.weather_book.specs.Book.{BookStandsFor}
use Rattle.disk_model.specs.StoppingState.{StoppingState}
use Rattle.replay_laws.specs.Replay.{Item, is_stop}
use Rattle.schedule_replay.specs.Telling.{Telling, TellsAll}
use Rattle.schedule_replay.specs.declared.cut.Cut.{Cut}
use Rattle.schedule_replay.specs.declared.cut.Cut.TheVariants.{WriteFault, OutOfMemory}
use Rattle.schedule_replay.proofs.RunLaws.{line_tells, told_on}
use Rattle.schedule_replay.proofs.Told.{not_stopped}
use Rattle.schedule_replay.proofs.run.Run.tell_round.Goals as goal

pub returns : goal.returns
returns g c = record {
  ok = λ settings openings r a told number written.
      let ends = c.ending.ensures r.end told.tells.ends in
      let still : is_stop r.end ≡ false = ap is_stop (sym ends) ∙ not_stopped c.ending.result c.in_default.not-Stopped in
      let stands : BookStandsFor c.book.result.now r.rows = subst (λ (b : Book). BookStandsFor b r.rows) (sym c.book.ensures) (told.goes_on still).stands.stands_for in
      let long = c.len.ensures.rows r.rows stands in
      let tells = line_tells c.args.stop c.args.played.now _ r r.end ends told.tells refl number refl refl refl refl (sym c.acked.ensures) (λ z. sym long) c.args.self.now.written written in (
        told_on settings openings c.args.stop c.args.session c.args.played.now c.args.disk.now c.round.new.disk r a c.args.self.now.written c.args.self.now.rounds c.len.result told c.round.ensures.disk still (long ∙ ap length (sym told.rows)),
        c.in_ok-round.ensures.tells r tells (λ z. (settings, told.goes_on z)),
      );
  err = tt;
  limits = ap (λ (s : StoppingState). s.inner.limits) c.round.ensures.disk.state;
  moment = c.round.ensures.disk.stays.at;
  rounds = refl;
  cause = search rules;
  still = search rules;
}

broke : {T : Type 0} (telling : Telling T) (old new : T) (items : List Item) (cut : Cut) → TellsAll telling old items (Err cut) new
    → telling.breaks_off old items new
broke telling old new items WriteFault told = told
broke telling old new items OutOfMemory told = absurd told

pub returns-in_err-round-clause-err : goal.returns-in_err-round-clause-err
returns-in_err-round-clause-err g c =
    let is : c.from_residual.result ≡ Err c.in_err-round.field-0.0 = search rules in
    rw is (λ settings openings r a told number written.
    let ends = c.ending.ensures r.end told.tells.ends in
    let long : is_stop r.end ≡ false → c.len.result ≡ length r.rows = λ still. c.len.ensures.rows r.rows (subst (λ (b : Book). BookStandsFor b r.rows) (sym c.book.ensures) (told.goes_on still).stands.stands_for) in
    let tells = line_tells c.args.stop c.args.played.now _ r r.end ends told.tells refl number refl refl refl refl (sym c.acked.ensures) (λ z. sym (long z)) c.args.self.now.written written in
    broke g.T.Teller.telling _ _ _ c.in_err-round.field-0.0 (c.in_err-round.ensures.tells r tells (λ z. (settings, told.goes_on z))))
