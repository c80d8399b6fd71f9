use Rattle.std.proofs.Common.{[], ◌∷◌, ◌++◌, length-append, sym, ◌∙◌, arith}
use Rattle.dmpaft_pump.proofs.PagesSoFar.{skips_more, newest_more, place_more, all_few}
use Rattle.dmpaft_pump.proofs.pump.Pump.count_page.Goals as goal

pub returns-clause-counts : goal.returns-clause-counts
returns-clause-counts c = λ start after place taken page h l. record {
  tallied = record {
    asked = h.tallied.asked;
    bounded = omega (arith, l, length-append taken (page ∷ []));
    pages = omega (arith, c.saturating_add-self-2.ensures, h.tallied.pages, h.few, l, length-append taken (page ∷ []));
    skipped = omega (arith, c.saturating_add-self.ensures, h.tallied.skipped, h.missed, h.rare, l, skips_more place taken page, all_few place (taken ++ page ∷ []), length-append taken (page ∷ []));
    last = h.tallied.last;
  };
  number = omega (arith, c.saturating_add-self-3.ensures, h.number, l, length-append taken (page ∷ []));
  from = sym (place_more place taken page);
  low = omega arith;
  newest = h.newest ∙ sym (newest_more after place taken page);
  few = h.few;
  rare = h.rare;
}
