-- The calls of an opening, of reads and of batches, together.
use Rattle.std.proofs.Common.{◌≡◌, ℕ, zero, suc, ◌+◌, ◌-◌, ◌*◌, ◌<◌, ◌≤◌, Bool, false, List, [], ◌++◌, take, refl, sym, ◌∙◌, ap, arith, append-nil}
use Rattle.std.specs.Prelude.{◌||◌}
use Rattle.disk_model.specs.Medium.{Medium}
use Rattle.disk_model.specs.Calls.{DiskCall}
use Rattle.disk_model.specs.declared.disk.Disked.{Disked}
use Rattle.disk_model.specs.declared.disk.Disked.TheVariants.{Done}
use Rattle.gated_log.specs.Calls.{any_failed, changes, last_length, Looked, RecoveryCalls, recovery_changes, up_to}
use Rattle.gated_log.proofs.CallsMade.{any_join, no_changes}
use Rattle.station_base.specs.declared.row.Row.{Row}
use Rattle.gated_log.specs.Layout.{slot_size}
use Rattle.batch_adding.specs.Calls.{AddsBatches, changes_of_batches, failed_answer, rows_of_batches, slots_end, ToCalls}
use Rattle.batch_adding.proofs.Changes.{are_for, are_take, changes_join, fit_more, fits_join, up_fits, up_kept}

-- the slots end within a length that those of an archive with some reach
pub reach : (slots len : ℕ) → (0 < slots → slot_size * (slots + 1) ≤ len) → slots_end slots ≤ len
reach zero len is = omega arith
reach (suc n) len is = is (omega arith)

module _ {D : Type 0} (medium : Medium D) (d : D) where
  none_added : (n : ℕ) (mine : List Row) (a : Disked) → up_to (take n (changes_of_batches mine [])) a ≡ []
  none_added zero mine a = refl
  none_added (suc n) mine a = refl

  -- nothing was called
  pub calls_none : (are : List Row → List Row → Type 0) → ToCalls medium false are d d
  calls_none are = record {
    calls = [];
    by = medium.went_none d;
    opening = 0;
    opened = Done;
    mine = [];
    batches = [];
    sizes = tt;
    begun = omega arith;
    changes_are = sym (none_added _ [] (failed_answer false));
    rows_are = λ some. absurd (omega arith);
    fits = tt;
    fails = refl;
  }

  -- a recovery alone, and then reads
  pub calls_opening : (are : List Row → List Row → Type 0) (e : D) (slots : ℕ) (failed : Bool) → medium.moment d ≤ medium.moment e
      → RecoveryCalls medium d e (medium.moment e - medium.moment d) slots failed → ToCalls medium failed are d e
  calls_opening are e slots failed le calls = record {
    calls = calls.calls;
    by = calls.by;
    opening = medium.moment e - medium.moment d;
    opened = calls.answer;
    mine = [];
    batches = [];
    sizes = tt;
    begun = omega (arith, le);
    changes_are = calls.changes_are
        ∙ sym (append-nil (up_to (take (medium.moment e - medium.moment d) recovery_changes) calls.answer))
        ∙ ap (λ (xs : List DiskCall). up_to (take (medium.moment e - medium.moment d) recovery_changes) calls.answer ++ xs) (sym (none_added _ [] (failed_answer failed)));
    rows_are = λ some. absurd (omega arith);
    fits = calls.fits;
    fails = calls.fails;
  }

  pub calls_looked : (are : List Row → List Row → Type 0) (e f : D) (slots : ℕ) (failed : Bool) → medium.moment d ≤ medium.moment e → medium.moment f ≡ medium.moment e
      → RecoveryCalls medium d e (medium.moment e - medium.moment d) slots false → Looked medium (slots_end slots) failed e f → ToCalls medium failed are d f
  calls_looked are e f slots failed le same calls looked = record {
    calls = calls.calls ++ looked.calls;
    by = medium.went_joins d e f calls.calls looked.calls calls.by looked.by;
    opening = medium.moment e - medium.moment d;
    opened = calls.answer;
    mine = [];
    batches = [];
    sizes = tt;
    begun = omega (arith, le, same);
    changes_are = changes_join calls.calls looked.calls
        ∙ ap (λ (xs : List DiskCall). xs ++ changes looked.calls) calls.changes_are
        ∙ ap (λ (xs : List DiskCall). up_to (take (medium.moment e - medium.moment d) recovery_changes) calls.answer ++ xs)
        (no_changes (slots_end slots) looked.calls looked.within ∙ sym (none_added _ [] (failed_answer failed)));
    rows_are = λ some. absurd (omega arith);
    fits = fits_join 0 calls.calls looked.calls calls.fits (fit_more (slots_end slots) (last_length 0 calls.calls) looked.calls (reach slots (last_length 0 calls.calls) calls.reach) looked.within);
    fails = any_join calls.calls looked.calls ∙ ap (λ (t : Bool). t || any_failed looked.calls) calls.fails ∙ looked.fails;
  }

  -- a recovery, reads, and then batches
  pub calls_added : (mine : List Row) (are : List Row → List Row → Type 0) (next : List Row → Type 0) (e f g : D) (slots : ℕ) (failed : Bool) → medium.moment d ≤ medium.moment e
      → medium.moment f ≡ medium.moment e → RecoveryCalls medium d e (medium.moment e - medium.moment d) slots false → Looked medium (slots_end slots) false e f
      → AddsBatches medium mine failed next f g → ((rows : List Row) → next rows → are mine rows) → ToCalls medium failed are d g
  calls_added mine are next e f g slots failed le same calls looked adds on =
      let n = medium.moment g - medium.moment f in let cs = take (medium.moment g - medium.moment f) (changes_of_batches mine adds.batches) in
      let ups = up_to (take (medium.moment g - medium.moment f) (changes_of_batches mine adds.batches)) (failed_answer failed) in
      let ok = are_take n (changes_of_batches mine adds.batches) (are_for mine adds.batches) in
      let place : medium.moment g - medium.moment f ≡ medium.moment g - (medium.moment d + (medium.moment e - medium.moment d)) = omega (arith, le, same, adds.begun) in
      record {
        calls = calls.calls ++ (looked.calls ++ ups);
        by = medium.went_joins d e g calls.calls (looked.calls ++ ups) calls.by (medium.went_joins e f g looked.calls ups looked.by adds.by);
        opening = medium.moment e - medium.moment d;
        opened = calls.answer;
        mine = mine;
        batches = adds.batches;
        sizes = adds.sizes;
        begun = omega (arith, le, same, adds.begun);
        changes_are = changes_join calls.calls (looked.calls ++ ups)
            ∙ ap (λ (xs : List DiskCall). xs ++ changes (looked.calls ++ ups)) calls.changes_are
            ∙ ap (λ (xs : List DiskCall). up_to (take (medium.moment e - medium.moment d) recovery_changes) calls.answer ++ xs)
            (changes_join looked.calls ups ∙ ap (λ (xs : List DiskCall). xs ++ changes ups) (no_changes (slots_end slots) looked.calls looked.within)
            ∙ up_kept cs (failed_answer failed) ok ∙ ap (λ (k : ℕ). up_to (take k (changes_of_batches mine adds.batches)) (failed_answer failed)) place);
        rows_are = λ some. on (rows_of_batches adds.batches) adds.rows_are;
        fits = fits_join 0 calls.calls (looked.calls ++ ups) calls.fits
            (fits_join (last_length 0 calls.calls) looked.calls ups
            (fit_more (slots_end slots) (last_length 0 calls.calls) looked.calls (reach slots (last_length 0 calls.calls) calls.reach) looked.within)
            (up_fits cs (failed_answer failed) (last_length (last_length 0 calls.calls) looked.calls) ok));
        fails = any_join calls.calls (looked.calls ++ ups) ∙ ap (λ (t : Bool). t || any_failed (looked.calls ++ ups)) calls.fails
            ∙ any_join looked.calls ups ∙ ap (λ (t : Bool). t || any_failed ups) looked.fails ∙ adds.fails;
      }
