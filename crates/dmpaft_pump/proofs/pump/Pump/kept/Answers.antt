use Rattle.std.proofs.Common.{[], ◌∷◌, ◌++◌, length-append, sym, ◌∙◌, ap, subst, arith}
use Rattle.causes.specs.declared.stored.Stored.{Stored}
use Rattle.dmpaft_pump.specs.declared.stage.Stage.{Stage}
use Rattle.dmpaft_pump.specs.Pump.{AttemptState, Keeping, pump_from}
use Rattle.dmpaft_pump.specs.Shown.{PumpShows, ShowsAt}
use Rattle.dmpaft_pump.proofs.LastBatch.{gives_so}
use Rattle.dmpaft_pump.proofs.Steps.{last_done, last_full, last_stale, last_disk_fault}
use Rattle.dmpaft_pump.proofs.pump.Pump.kept.Goals as goal

pub returns-in-Done-clause-shows : goal.returns-in-Done-clause-shows
returns-in-Done-clause-shows c = λ start after s h.
    let k = subst (λ (y : Stage). ShowsAt y start after s c.args.self.now) c.in-Keeping.is h in
    let e = ap (λ (x : AttemptState). pump_from after x [] (c.args.answer ∷ [])) k.is ∙ ap (λ (x : Stored). pump_from after (Keeping c.in-Keeping.more k.place k.taken k.page) [] (x ∷ [])) c.in-Done.is in
    subst (λ (x : AttemptState). PumpShows start after x c.go_on.new.self) (sym e)
    (c.go_on.ensures.shows start after k.place (k.taken ++ k.page ∷ []) (record {
      tallied = record { asked = k.counts.tallied.asked; bounded = k.counts.tallied.bounded; pages = k.counts.tallied.pages; skipped = k.counts.tallied.skipped; last = k.counts.newest ∙ last_done after k.place k.taken k.page k.some start.last };
      number = k.counts.number;
      from = k.counts.from;
      low = k.counts.low;
      newest = k.counts.newest;
      few = k.counts.few;
      rare = k.counts.rare;
    }) (omega (arith, k.fits, length-append k.taken (k.page ∷ []))))

pub returns-in-Full-clause-shows : goal.returns-in-Full-clause-shows
returns-in-Full-clause-shows c = λ start after s h.
    let k = subst (λ (y : Stage). ShowsAt y start after s c.args.self.now) c.in-Keeping.is h in
    record {
      place = k.place;
      taken = k.taken ++ k.page ∷ [];
      is = ap (λ (x : AttemptState). pump_from after x [] (c.args.answer ∷ [])) k.is ∙ ap (λ (x : Stored). pump_from after (Keeping c.in-Keeping.more k.place k.taken k.page) [] (x ∷ [])) c.in-Full.is;
      tallied = record { asked = k.counts.tallied.asked; bounded = k.counts.tallied.bounded; pages = k.counts.tallied.pages; skipped = k.counts.tallied.skipped; last = k.counts.tallied.last ∙ last_full after k.place k.taken k.page k.some start.last };
      gives = λ ne. gives_so after k.place k.taken k.page k.some;
    }

pub returns-in-Stale-clause-shows : goal.returns-in-Stale-clause-shows
returns-in-Stale-clause-shows c = λ start after s h.
    let k = subst (λ (y : Stage). ShowsAt y start after s c.args.self.now) c.in-Keeping.is h in
    record {
      place = k.place;
      taken = k.taken ++ k.page ∷ [];
      is = ap (λ (x : AttemptState). pump_from after x [] (c.args.answer ∷ [])) k.is ∙ ap (λ (x : Stored). pump_from after (Keeping c.in-Keeping.more k.place k.taken k.page) [] (x ∷ [])) c.in-Stale.is;
      tallied = record { asked = k.counts.tallied.asked; bounded = k.counts.tallied.bounded; pages = k.counts.tallied.pages; skipped = k.counts.tallied.skipped; last = k.counts.tallied.last ∙ last_stale after k.place k.taken k.page k.some start.last };
      gives = λ ne. gives_so after k.place k.taken k.page k.some;
    }

pub returns-in-DiskFault-clause-shows : goal.returns-in-DiskFault-clause-shows
returns-in-DiskFault-clause-shows c = λ start after s h.
    let k = subst (λ (y : Stage). ShowsAt y start after s c.args.self.now) c.in-Keeping.is h in
    record {
      place = k.place;
      taken = k.taken ++ k.page ∷ [];
      is = ap (λ (x : AttemptState). pump_from after x [] (c.args.answer ∷ [])) k.is ∙ ap (λ (x : Stored). pump_from after (Keeping c.in-Keeping.more k.place k.taken k.page) [] (x ∷ [])) c.in-DiskFault.is;
      tallied = record { asked = k.counts.tallied.asked; bounded = k.counts.tallied.bounded; pages = k.counts.tallied.pages; skipped = k.counts.tallied.skipped; last = k.counts.tallied.last ∙ last_disk_fault after k.place k.taken k.page k.some start.last };
      gives = λ ne. gives_so after k.place k.taken k.page k.some;
    }
