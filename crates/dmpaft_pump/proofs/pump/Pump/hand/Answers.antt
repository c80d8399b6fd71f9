use Rattle.std.proofs.Common.{◌≡◌, ◌≢◌, ℕ, [], ◌∷◌, ◌++◌, List, length-append, sym, ◌∙◌, ap, subst, arith}
use Rattle.dmpaft_pump.specs.Keeper.{Handed}
use Rattle.dmpaft_pump.specs.Pump.{Next, state_at, batched, batch_of}
use Rattle.dmpaft_pump.specs.Shown.{PumpShows, PumpCounts}
use Rattle.dmpaft_pump.proofs.PagesSoFar.{kept_none, none_in, some_in, batched_some}
use Rattle.dmpaft_pump.proofs.pump.Pump.hand.Goals as goal

pub returns-then-is_empty-clause-shows : goal.returns-then-is_empty-clause-shows
returns-then-is_empty-clause-shows c = λ start after place taken page h b l.
    let e : batch_of after place taken page ≡ [] = sym b ∙ none_in c.args.self.now.batch (sym c.is_empty.ensures ∙ c.if-is_empty.true) in
    subst (λ (y : List (List ℕ)). PumpShows start after (state_at after (batched c.args.more place taken page y)) c.go_on.new.self) (sym e)
    (c.go_on.ensures.shows start after place (taken ++ page ∷ []) (subst (λ (y : Handed). PumpCounts start after place (taken ++ page ∷ []) y c.args.self.now) (sym (kept_none after place taken page e)) h) (omega (arith, l, length-append taken (page ∷ []))))

pub returns-else-is_empty-clause-shows : goal.returns-else-is_empty-clause-shows
returns-else-is_empty-clause-shows c = λ start after place taken page h b l.
    let ne : batch_of after place taken page ≢ [] = λ z. some_in c.args.self.now.batch (sym c.is_empty.ensures ∙ c.if-is_empty.false) (b ∙ z) in
    record {
      place = place;
      taken = taken;
      page = page;
      is = ap (λ (y : Next). state_at after y) (batched_some c.args.more place taken page (batch_of after place taken page) ne);
      counts = record { tallied = record { asked = h.tallied.asked; bounded = h.tallied.bounded; pages = h.tallied.pages; skipped = h.tallied.skipped; last = h.tallied.last }; number = h.number; from = h.from; low = h.low; newest = h.newest; few = h.few; rare = h.rare };
      batch = b;
      some = ne;
      fits = l;
    }
