-- What a keeper answers to the batches of an attempt.
use Rattle.std.proofs.Common.{◌≡◌, ◌≢◌, ℕ, ◌+◌, ◌-◌, ◌/◌, ◌≤◌, ◌==◌, Bool, true, false, List, [], ◌∷◌, ◌++◌}
use Rattle.std.proofs.Common.{length, Option, Some, None, refl, sym, ◌∙◌, ap, subst, arith, length-append}
use Rattle.std.specs.Prelude.{nat_lt}
use Rattle.station_base.specs.CivilMinute.{CivilMinute}
use Rattle.causes.specs.declared.stored.Stored.{Stored}
use Rattle.causes.specs.declared.stored.Stored.TheVariants as stored
use Rattle.dmpaft_pump.specs.Batch.{batches, answered_batches, EndsGiving}
use Rattle.dmpaft_pump.specs.Keeper.{Handed, one_batch, kept_all, join}
use Rattle.dmpaft_pump.specs.Pump.{batch_of}
use Rattle.dmpaft_pump.proofs.HandedBatches.{kept_answered, kept_in_all}
use Rattle.dmpaft_pump.proofs.PagesSoFar.{kept_none}
use Rattle.dmpaft_pump.proofs.Steps.{one_more}
use Rattle.dmpaft_pump.proofs.LastBatch.{gives_so}
use Rattle.station_session.specs.Batches.{kept_records, kept_count, Fit}
use Rattle.station_session.proofs.Parts.{count_parts}
use Rattle.schedule_file.specs.declared.schedule.step.Stop.{Stop}
use Rattle.replay_laws.specs.Session.{NotPast, ComesAt}
use Rattle.replay_laws.specs.Keeping.{batches_before}

-- where both parts fit, the second behind what was kept of the first, both do
pub fit_joins : (most held : ℕ) (xs ys : Handed) → Fit most held xs → Fit most (held + length (kept_records xs)) ys
    → Fit most held (join xs ys)
fit_joins most held Handed.Nothing ys front back =
    let same : held + 0 ≡ held = omega arith in subst (λ (n : ℕ). Fit most n ys) same back
fit_joins most held (Handed.Kept rows more) ys front back =
    let same : held + length (rows ++ kept_records more) ≡ held + length rows + length (kept_records more)
    = omega (arith, length-append rows (kept_records more)) in
    (front.0, fit_joins most (held + length rows) more ys front.1 (subst (λ (n : ℕ). Fit most n ys) same back))
fit_joins most held (Handed.Refused rows why) ys front back = front

-- What a keeper answers to a batch of these records, where so many rows are held, and so many batches were stored
-- before.
pub record Answers (most held before : ℕ) (stop : Option Stop) (rows : List (List ℕ)) : Type 0 where
  pub answer : Stored
  pub fresh : answer ≢ stored.Stale
  pub fits : Fit most held (one_batch answer rows)
  pub not_past : NotPast stop (before + kept_count (one_batch answer rows))
  pub at : answer ≡ stored.DiskFault → ComesAt stop (before + kept_count (one_batch answer rows))

-- there is such an answer to each batch before which no stop came
pub answers : (most held before : ℕ) (stop : Option Stop) (rows : List (List ℕ)) → NotPast stop before
    → Answers most held before stop rows
answers most held before stop rows not_past = by_room (nat_lt most (held + length rows)) refl
  where
    none_more : before ≡ before + 0
    none_more = omega arith

    stores : (stop : Option Stop) → held + length rows ≤ most → NotPast stop (before + 1)
        → Answers most held before stop rows
    stores stop room next = record {
      answer = stored.Done;
      fresh = λ e. cc;
      fits = (room, tt);
      not_past = next;
      at = λ e. cc;
    }

    by_place : (s : Stop) (here : Bool) → (batches_before s.change == before) ≡ here → held + length rows ≤ most
        → before ≤ batches_before s.change → Answers most held before (Some s) rows
    by_place s true is room not_past = record {
      answer = stored.DiskFault;
      fresh = λ e. cc;
      fits = room;
      not_past = omega (arith, not_past);
      at = λ e. grind (arith, is);
    }
    by_place s false is room not_past =
        let other : batches_before s.change ≢ before = grind (arith, is) in
        stores (Some s) room (omega (arith, not_past, other))

    by_stop : (stop : Option Stop) → held + length rows ≤ most → NotPast stop before
        → Answers most held before stop rows
    by_stop None room not_past = stores None room tt
    by_stop (Some s) room not_past = by_place s (batches_before s.change == before) refl room not_past

    by_room : (full : Bool) → nat_lt most (held + length rows) ≡ full → Answers most held before stop rows
    by_room true is = record {
      answer = stored.Full;
      fresh = λ e. cc;
      fits = grind (arith, is);
      not_past = subst (NotPast stop) none_more not_past;
      at = λ e. cc;
    }
    by_room false is = let room : held + length rows ≤ most = grind (arith, is) in by_stop stop room not_past

module _ (after : Option CivilMinute) (most held before : ℕ) (stop : Option Stop) where
  -- the batches of these pages, where the last was answered so
  abbrev given : Stored → ℕ → List (List ℕ) → Handed
  given answer place taken = answered_batches answer (batches after place taken)

  -- The batches of these pages were given to the keeper, and the last of them was answered so.
  pub record Kept (answer : Stored) (place : ℕ) (taken : List (List ℕ)) : Type 0 where
    pub fresh : answer ≢ stored.Stale
    pub fits : Fit most held (given answer place taken)
    pub not_past : NotPast stop (before + kept_count (given answer place taken))
    pub at : answer ≡ stored.DiskFault → ComesAt stop (before + kept_count (given answer place taken))
    pub gives : answer ≢ stored.Done → EndsGiving after place taken

  -- before the first page
  pub none_kept : NotPast stop before → (place : ℕ) → Kept stored.Done place []
  none_kept not_past place =
      let same : before ≡ before + 0 = omega arith in
      record {
        fresh = λ e. cc;
        fits = tt;
        not_past = subst (NotPast stop) same not_past;
        at = λ e. cc;
        gives = λ ne. absurd (ne refl);
      }

  -- after a page with no batch
  pub same_kept : (place : ℕ) (taken : List (List ℕ)) (page : List ℕ) → batch_of after place taken page ≡ []
      → Kept stored.Done place taken → Kept stored.Done place (taken ++ page ∷ [])
  same_kept place taken page none k =
      let old = kept_answered (batches after place taken) in
      let new = kept_answered (batches after place (taken ++ page ∷ [])) in
      let same = old ∙ sym (kept_none after place taken page none) ∙ sym new in
      record {
        fresh = λ e. cc;
        fits = subst (λ (ss : Handed). Fit most held ss) same k.fits;
        not_past = subst (λ (ss : Handed). NotPast stop (before + kept_count ss)) same k.not_past;
        at = λ e. cc;
        gives = λ ne. absurd (ne refl);
      }

  -- after a page with one, there is an answer to it
  pub more_kept : (place : ℕ) (taken : List (List ℕ)) (page : List ℕ) → batch_of after place taken page ≢ []
      → Kept stored.Done place taken → (answer : Stored) × Kept answer place (taken ++ page ∷ [])
  more_kept place taken page some k =
      let bs = batches after place taken in
      let old = kept_all bs in
      let batch = batch_of after place taken page in
      let not_past = subst (λ (ss : Handed). NotPast stop (before + kept_count ss)) (kept_answered bs) k.not_past in
      let y = answers most (held + length (kept_records old)) (before + kept_count old) stop batch not_past in
      let new = one_batch y.answer batch in
      let same = sym (one_more after place taken page some y.answer) in
      let stored_is : before + kept_count old + kept_count new ≡ before + kept_count (join old new)
      = omega (arith, count_parts bs new, ap length (kept_in_all bs)) in (
        y.answer,
        record {
          fresh = y.fresh;
          fits = subst (λ (ss : Handed). Fit most held ss) same
              (fit_joins most held old new (subst (λ (ss : Handed). Fit most held ss) (kept_answered bs) k.fits) y.fits);
          not_past = subst (λ (ss : Handed). NotPast stop (before + kept_count ss)) same
              (subst (NotPast stop) stored_is y.not_past);
          at = λ e. subst (λ (ss : Handed). ComesAt stop (before + kept_count ss)) same
              (subst (ComesAt stop) stored_is (y.at e));
          gives = λ ne. gives_so after place taken page some;
        },
      )
