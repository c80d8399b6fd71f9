use Rattle.std.proofs.Common.{ℕ, ◌∷◌, [], List, length, refl, sym, ◌∙◌, ap}
use Rattle.causes.specs.declared.stored.Stored.TheVariants as stored
use Rattle.dmpaft_driver.proofs.Trials.{stops_short, stops_wrong, stops_over}
use Rattle.dmpaft_driver.proofs.trying.step.Goals as goal

pub returns-then-count-items-clause-steps : goal.returns-then-count-items-clause-steps
returns-then-count-items-clause-steps c = λ start after s h.
    let tells = c.in-Say.ensures.tells start after s h in
    let spelled = c.said_of-count.ensures in
    stops_short after s tells.0 c.as_slice.result.now c.args.items.now c.said_of-count.result spelled.0 spelled.1 tells.1 (c.as_slice.ensures.value ∙ tells.2) spelled.2
    (λ e. c.if-count-len.false (e ∙ ap (λ (y : List ℕ). length y) c.as_slice.ensures.value ∙ sym c.len.ensures.value)) c.if-count-items.true

pub returns-else-count-items-clause-steps : goal.returns-else-count-items-clause-steps
returns-else-count-items-clause-steps c = λ start after s h.
    let tells = c.in-Say.ensures.tells start after s h in
    let spelled = c.said_of-count.ensures in
    stops_wrong after s tells.0 c.as_slice.result.now c.args.items.now c.said_of-count.result spelled.0 spelled.1 tells.1 (c.as_slice.ensures.value ∙ tells.2) spelled.2
    (λ e. c.if-count-len.false (e ∙ ap (λ (y : List ℕ). length y) c.as_slice.ensures.value ∙ sym c.len.ensures.value)) c.if-count-items.false spelled.3

pub returns-in-Keep-clause-steps : goal.returns-in-Keep-clause-steps
returns-in-Keep-clause-steps c = λ start after s h. record {
  front = [];
  rest = c.args.items.now;
  answers = stored.Done ∷ [];
  items_are = refl;
  counted = refl;
  kept = (refl, tt);
  shows = c.kept.ensures.shows start after s h;
}

pub returns-else-is_empty-clause-steps : goal.returns-else-is_empty-clause-steps
returns-else-is_empty-clause-steps c = λ start after s h.
    let tells = c.in-Ended.ensures.tells start after s h in
    stops_over after s tells.0 tells.1 c.in-Ended.end c.args.items.now tells.2 (sym c.if-is_empty.ensures)
