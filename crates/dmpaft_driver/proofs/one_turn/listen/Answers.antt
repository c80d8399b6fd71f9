use Rattle.std.proofs.Common.{take, map, refl, inl, inr, arith}
use Rattle.std.proofs.lemmas.List.{length-take-le}
use Rattle.serial_link.specs.declared.talk.TalkItem.TheVariants.{Heard}
use Rattle.dmpaft_driver.proofs.CutTurns.{some_words}
use Rattle.dmpaft_driver.proofs.one_turn.listen.Goals as goal

pub returns-in-Got-clause-hears : goal.returns-in-Got-clause-hears
returns-in-Got-clause-hears g c = λ start after s h.
    let n = c.in-Got.count in
    let bytes = take n c.recv.new.buf in
    record {
      items = map Heard bytes;
      are = (
        c.heard.ensures.shows start after s h,
        inl (bytes, some_words bytes (omega (arith, length-take-le n c.recv.new.buf c.in-Got.ensures.within.1, c.in-Got.ensures.within.0)), inr refl),
      );
      adds = c.in-Got.ensures.talk;
    }
