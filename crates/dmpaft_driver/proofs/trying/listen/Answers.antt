use Rattle.std.proofs.Common.{◌∷◌, [], List, refl, sym, ◌∙◌, ap, subst}
use Rattle.serial_link.specs.declared.talk.TalkItem.{TalkItem}
use Rattle.serial_link.specs.declared.talk.TalkItem.TheVariants as talk_item
use Rattle.dmpaft_pump.specs.Pump.{pump_from}
use Rattle.dmpaft_driver.proofs.Trials.{Unended, hears_more, hears_nothing_said, no_items}
use Rattle.dmpaft_driver.proofs.trying.listen.Goals as goal

pub returns-in_default-clause-steps : goal.returns-in_default-clause-steps
returns-in_default-clause-steps c = λ start after s h.
    subst (λ (y : List TalkItem). Unended after (pump_from after s y [])) (sym (no_items c.args.items.now c.in_default.ensures.cases)) (hears_more after start s c.args.pump.now h c.requires.room)

pub returns-in-Heard-clause-steps : goal.returns-in-Heard-clause-steps
returns-in-Heard-clause-steps c = λ start after s h. record {
  front = talk_item.Heard c.in-Heard.byte ∷ [];
  rest = c.in-Some.field-0-1.now;
  answers = [];
  items_are = c.in-Some.ensures.cases.0 ∙ ap (λ (y : TalkItem). y ∷ c.in-Some.field-0-1.now) c.in-Heard.is;
  counted = refl;
  kept = tt;
  shows = c.heard.ensures.shows start after s h;
}

pub returns-in-Quiet-clause-steps : goal.returns-in-Quiet-clause-steps
returns-in-Quiet-clause-steps c = λ start after s h. record {
  front = talk_item.Quiet ∷ [];
  rest = c.in-Some.field-0-1.now;
  answers = [];
  items_are = c.in-Some.ensures.cases.0 ∙ ap (λ (y : TalkItem). y ∷ c.in-Some.field-0-1.now) c.in-Quiet.is;
  counted = refl;
  kept = tt;
  shows = c.quiet.ensures.shows start after s h;
}

pub returns-in-Said-clause-steps : goal.returns-in-Said-clause-steps
returns-in-Said-clause-steps c = λ start after s h.
    let m = hears_more after start s c.args.pump.now h c.requires.room in
    record {
      front = [];
      next = talk_item.Said c.in-Said.byte c.in-Said.ends;
      rest = c.in-Some.field-0-1.now;
      items_are = c.in-Some.ensures.cases.0 ∙ ap (λ (y : TalkItem). y ∷ c.in-Some.field-0-1.now) c.in-Said.is;
      counted = refl;
      other = m.0;
      might_end = m.2;
      astray = hears_nothing_said after start s c.args.pump.now h c.requires.room c.in-Said.byte c.in-Said.ends;
    }
