use Rattle.std.proofs.Common.{◌≡◌, ℕ, suc, ◌-◌, ◌≤◌, ◌⊎◌, inl, inr, [], subst, arith}
use Rattle.dmpaft_pump.specs.Pump.{state_at, headed}
use Rattle.dmpaft_pump.specs.Reply.{Header}
use Rattle.vantage_frames.specs.declared.header.TheConstants.{LAST_PLACE}
use Rattle.vantage_frames.specs.Header.{most_pages}
use Rattle.dmpaft_pump.specs.Shown.{PumpShows}
use Rattle.dmpaft_pump.proofs.pump.Pump.start.Goals as goal

within : (n p : ℕ) → (n ≡ 0 → ⊥) → (n ≡ 0) ⊎ (p ≤ LAST_PLACE) → p ≤ LAST_PLACE
within n p some (inl z) = absurd (some z)
within n p some (inr l) = l

pub returns-else-pages-eq0-clause-shows : goal.returns-else-pages-eq0-clause-shows
returns-else-pages-eq0-clause-shows c = λ start after h can.
    let low : c.args.place ≤ 4 = within c.args.pages c.args.place c.if-pages-eq0.false can.1 in
    let from : c.min.result ≡ c.args.place = omega (arith, c.min.ensures, low) in
    let n : suc (c.args.pages - 1) ≡ c.args.pages = grind (arith, c.if-pages-eq0.false) in
    let few : c.args.pages ≤ most_pages = can.0 in
    subst (λ n. PumpShows start after (state_at after (headed (Header n c.args.place))) c.begin.new.self) n
    (c.begin.ensures.shows start after c.args.place [] (record {
      tallied = record { asked = h.tallied.asked; bounded = h.tallied.bounded; pages = h.tallied.pages; skipped = h.tallied.skipped; last = h.tallied.last };
      number = h.number;
      from = from;
      low = omega (arith, from, low);
      newest = h.newest;
      few = h.few;
      rare = h.rare;
    }) (omega (arith, few, n)))
