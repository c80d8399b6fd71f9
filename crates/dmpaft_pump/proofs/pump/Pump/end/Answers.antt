use Rattle.std.proofs.Common.{refl, sym, ◌∙◌, ap}
use Rattle.causes.specs.declared.stored.Stored.{Stored}
use Rattle.dmpaft_pump.specs.Keeper.{Handed, last_kept}
use Rattle.dmpaft_pump.specs.Batch.{batches, answered_batches}
use Rattle.dmpaft_pump.proofs.HandedBatches.{kept_answered}
use Rattle.dmpaft_pump.proofs.pump.Pump.end.Goals as goal

pub returns-clause-shows : goal.returns-clause-shows
returns-clause-shows c = λ start after place taken h. record {
  place = place;
  taken = taken;
  is = refl;
  tallied = record {
    asked = h.asked;
    bounded = h.bounded;
    pages = h.pages;
    skipped = h.skipped;
    last = h.last ∙ ap (λ (x : Handed). last_kept x start.last) (sym (kept_answered (batches after place taken)) ∙ ap (λ (y : Stored). answered_batches y (batches after place taken)) (sym c.requires));
  };
  gives = λ ne. absurd (ne c.requires);
}
