use Rattle.std.proofs.Common.{◌≡◌, ℕ, true, Bool, List, length, sym, ◌∙◌, ap, subst, arith, Option}
use Rattle.station_base.specs.CivilMinute.{CivilMinute}
use Rattle.vantage_frames.specs.Slots.{page_size}
use Rattle.dmpaft_pump.specs.Page.{is_page_for, is_ahead}
use Rattle.dmpaft_pump.specs.Batch.{slots_in_page, newest, rising, skipped}
use Rattle.dmpaft_pump.specs.Pump.{state_at, page_judged, next_place, batch_of}
use Rattle.dmpaft_pump.specs.Shown.{PumpShows}
use Rattle.dmpaft_pump.proofs.PagesSoFar.{all_of}
use Rattle.dmpaft_pump.proofs.pump.Pump.after_page.Goals as goal

pub returns-in-This-clause-shows : goal.returns-in-This-clause-shows
returns-in-This-clause-shows c = λ start after place taken bytes b h.
    let whole : c.args.self.now.answer ≡ bytes = all_of bytes c.args.self.now.answer page_size h.sized (omega arith) h.heard in
    let page : c.in-This.page ≡ bytes = c.in-This.ensures.1 ∙ whole in
    let p : is_page_for (length taken) bytes ≡ true = ap (λ n. is_page_for n bytes) (sym h.counts.number) ∙ ap (λ (y : List ℕ). is_page_for c.args.self.now.number y) (sym whole) ∙ c.in-This.ensures.0 in
    let from : c.min-from.result ≡ next_place place taken = omega (arith, c.min-from.ensures, h.counts.low, h.counts.from) in
    let all : slots_in_page c.min-from.result c.in-This.page ≡ slots_in_page (next_place place taken) bytes = ap (λ n. slots_in_page n c.in-This.page) from ∙ ap (λ (y : List ℕ). slots_in_page (next_place place taken) y) page in
    let batch : c.gather-skipped.new.batch ≡ batch_of after place taken bytes = c.gather-skipped.ensures.rows ∙ ap (λ (y : List (List ℕ)). rising c.args.self.now.newest y) all ∙ ap (λ (y : Option CivilMinute). rising y (slots_in_page (next_place place taken) bytes)) h.counts.newest in
    subst (λ (y : Bool). PumpShows start after (state_at after (page_judged after c.args.more place taken c.args.left bytes y (is_ahead (length taken) bytes))) c.hand.new.self) (sym p)
    (c.hand.ensures.shows start after place taken bytes (c.count_page.ensures.counts start after place taken bytes (record {
      tallied = record { asked = h.counts.tallied.asked; bounded = h.counts.tallied.bounded; pages = h.counts.tallied.pages; skipped = h.counts.tallied.skipped; last = h.counts.tallied.last };
      number = h.counts.number;
      newest = c.gather-skipped.ensures.newest ∙ ap (λ (y : List (List ℕ)). newest c.args.self.now.newest y) all ∙ ap (λ (y : Option CivilMinute). newest y (slots_in_page (next_place place taken) bytes)) h.counts.newest;
      few = h.counts.few;
      rare = h.counts.rare;
      missed = c.gather-skipped.ensures.skipped ∙ ap skipped all;
      batch = batch;
    }) (omega (arith, h.fits))) (c.count_page.ensures.batch ∙ batch) h.fits)
