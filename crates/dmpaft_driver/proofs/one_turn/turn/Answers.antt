use Rattle.serial_link.specs.Talk.{message}
use Rattle.serial_link.specs.declared.talk.TalkItem.{TalkItem}
use Rattle.dmpaft_pump.specs.Shown.{PumpShows, said_at}
use Rattle.dmpaft_pump.specs.Pump.{pump_from}
use Rattle.std.proofs.Common.{◌≡◌, ℕ, ◌<◌, [], ◌∷◌, List, length, sym, ◌∙◌, ap, subst, refl, inl, inr, arith}
use Rattle.serial_link.proofs.GrownTalk.{adds_none}
use Rattle.dmpaft_pump.specs.Keeper.{Handed, one_batch, count, last_kept}
use Rattle.dmpaft_pump.specs.Pump.{AttemptState}
use Rattle.dmpaft_driver.specs.Standing.{gives}
use Rattle.dmpaft_driver.proofs.CutTurns.{some_words, stays_saying, says_saying, listened, keeps_same, last_same, not_keeping_said, not_keeping_heard}
use Rattle.dmpaft_pump.proofs.HandedBatches.{one_size, one_some}
use Rattle.dmpaft_driver.proofs.one_turn.turn.Goals as goal

pub returns-in-Failed-clause-turns : goal.returns-in-Failed-clause-turns
returns-in-Failed-clause-turns g c = λ start after s h.
    let talk = c.in-Failed.ensures.talk in
    let (rest, whole) = talk.are in
    let tells = c.in-Say.ensures.tells start after s h in
    let allows = c.in-Say.ensures.allows start after s h in
    let k = c.args.keeper.now in
    record {
      said = talk.items;
      answers = [];
      adds = talk.adds;
      handed = keeps_same g.K.Keeper.ledger after s k;
      still = λ none. refl;
      newest = last_same g.K.Keeper.ledger after s k;
      few = omega arith;
      turns = (
        refl,
        inr (
          inl refl,
          refl,
          not_keeping_said after c.args.pump.now.stage (subst (λ (y : List ℕ). 0 < length y) allows.0 allows.1),
          stays_saying after s tells.0 c.as_slice.result.now talk.items rest tells.1 (c.as_slice.ensures.value ∙ tells.2) whole,
          says_saying after s tells.0 c.as_slice.result.now talk.items rest (subst (λ (y : List ℕ). 0 < length y) (sym c.as_slice.ensures.value) allows.1) tells.1 (c.as_slice.ensures.value ∙ tells.2) whole,
        ),
      );
    }

pub returns-in-OutOfMemory-clause-turns : goal.returns-in-OutOfMemory-clause-turns
returns-in-OutOfMemory-clause-turns g c = λ start after s h.
    let talk = c.in-OutOfMemory.ensures.talk in
    let (rest, whole) = talk.are in
    let tells = c.in-Say.ensures.tells start after s h in
    let allows = c.in-Say.ensures.allows start after s h in
    let k = c.args.keeper.now in
    record {
      said = talk.items;
      answers = [];
      adds = talk.adds;
      handed = keeps_same g.K.Keeper.ledger after s k;
      still = λ none. refl;
      newest = last_same g.K.Keeper.ledger after s k;
      few = omega arith;
      turns = (
        refl,
        inr (
          inr refl,
          refl,
          not_keeping_said after c.args.pump.now.stage (subst (λ (y : List ℕ). 0 < length y) allows.0 allows.1),
          stays_saying after s tells.0 c.as_slice.result.now talk.items rest tells.1 (c.as_slice.ensures.value ∙ tells.2) whole,
          says_saying after s tells.0 c.as_slice.result.now talk.items rest (subst (λ (y : List ℕ). 0 < length y) (sym c.as_slice.ensures.value) allows.1) tells.1 (c.as_slice.ensures.value ∙ tells.2) whole,
        ),
      );
    }

pub returns-in-Listen-clause-turns : goal.returns-in-Listen-clause-turns
returns-in-Listen-clause-turns g c = λ start after s h.
    let hears = c.listen.ensures.hears start after s h in
    let allows = c.in-Listen.ensures.allows start after s h in
    let k = c.args.keeper.now in
    record {
      said = hears.items;
      answers = [];
      adds = hears.adds;
      handed = keeps_same g.K.Keeper.ledger after s k;
      still = λ none. refl;
      newest = last_same g.K.Keeper.ledger after s k;
      few = omega arith;
      turns = listened start after s hears.items c.args.pump.now c.listen.new.pump h (not_keeping_heard c.args.pump.now.stage c.args.pump.now.count (omega (arith, allows.0, allows.1))) c.listen.result hears.are;
    }

pub returns-in-Keep-clause-turns : goal.returns-in-Keep-clause-turns
returns-in-Keep-clause-turns g c = λ start after s h.
    let tells = c.in-Keep.ensures.tells start after s h in
    let answer = c.keep-answer.result in
    let given : one_batch answer c.in-Keep.rows.now ≡ gives after s (answer ∷ []) = ap (λ (y : List (List ℕ)). one_batch answer y) tells.5 ∙ ap (λ (y : AttemptState). gives after y (answer ∷ [])) (sym tells.4) in
    record {
      said = [];
      answers = answer ∷ [];
      adds = adds_none g.L.Link.traffic c.args.link.now;
      handed = subst (λ (y : Handed). g.K.Keeper.ledger.keeps c.args.keeper.now y c.keep-answer.new.self) given c.keep-answer.ensures.keeps;
      still = λ none. absurd (one_some answer c.in-Keep.rows.now (given ∙ none));
      newest = c.keep-answer.ensures.last ∙ ap (λ (y : Handed). last_kept y (g.K.Keeper.ledger.last c.args.keeper.now)) given;
      few = omega (arith, c.keep-answer.ensures.room, one_size answer c.in-Keep.rows.now, ap count given);
      turns = (c.kept.ensures.shows start after s h, inr (refl, answer, refl, tells.0, tells.1, tells.2, tells.3, tells.4, tells.6));
    }

pub returns-in-Ended-clause-turns : goal.returns-in-Ended-clause-turns
returns-in-Ended-clause-turns g c = λ start after s h.
    let tells = c.in-Ended.ensures.tells start after s h in
    let k = c.args.keeper.now in
    record {
      said = [];
      answers = [];
      adds = adds_none g.L.Link.traffic c.args.link.now;
      handed = keeps_same g.K.Keeper.ledger after s k;
      still = λ none. refl;
      newest = last_same g.K.Keeper.ledger after s k;
      few = omega arith;
      turns = (refl, inl (tells.0, tells.1, c.in-Ended.end, tells.2, c.dump_end.ensures, refl, refl));
    }

pub returns-in-Done-clause-turns : goal.returns-in-Done-clause-turns
returns-in-Done-clause-turns g c = λ start after s h.
    let talk = c.in-Done.ensures.talk in
    let allows = c.in-Say.ensures.allows start after s h in
    let words : c.as_slice.result.now ≡ said_at after c.args.pump.now.stage = c.as_slice.ensures.value ∙ allows.0 in
    let k = c.args.keeper.now in
    record {
      said = talk.items;
      answers = [];
      adds = talk.adds;
      handed = keeps_same g.K.Keeper.ledger after s k;
      still = λ none. refl;
      newest = last_same g.K.Keeper.ledger after s k;
      few = omega arith;
      turns = (
        subst (λ (y : List TalkItem). PumpShows start after (pump_from after s y []) c.said.new.self) (sym (talk.are ∙ ap message words)) (c.said.ensures.shows start after s h),
        inl (refl, inl (c.as_slice.result.now, some_words c.as_slice.result.now (subst (λ (y : List ℕ). 0 < length y) (sym c.as_slice.ensures.value) allows.1), inl talk.are)),
      );
    }
