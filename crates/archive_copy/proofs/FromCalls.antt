-- The calls on the disk to copy from, together.
use Rattle.std.proofs.Common.{ℕ, Bool, false, List, ◌++◌, ◌∙◌, ap}
use Rattle.std.specs.Prelude.{◌||◌}
use Rattle.disk_model.specs.Medium.{Medium}
use Rattle.disk_model.specs.Calls.{DiskCall}
use Rattle.gated_log.specs.Calls.{any_failed, changes, last_length, Looked, RecoveryCalls}
use Rattle.gated_log.proofs.CallsMade.{any_join, no_changes}
use Rattle.batch_adding.specs.Calls.{slots_end}
use Rattle.batch_adding.proofs.CallsTogether.{reach}
use Rattle.batch_adding.proofs.Changes.{changes_join, fit_more, fits_join}
use Rattle.archive_copy.specs.Calls.{OnlyReads}

module _ {D : Type 0} (medium : Medium D) (d : D) where
  -- a recovery that changes nothing
  pub reads_recovery : (e : D) (slots : ℕ) (failed : Bool) → RecoveryCalls medium d e 0 slots failed → OnlyReads medium failed d e
  reads_recovery e slots failed calls = record { calls = calls.calls; by = calls.by; no_change = calls.changes_are; fits = calls.fits; fails = calls.fails }

  -- and then reads of its slots
  pub reads_more : (e f : D) (slots : ℕ) (failed : Bool) → RecoveryCalls medium d e 0 slots false → Looked medium (slots_end slots) failed e f → OnlyReads medium failed d f
  reads_more e f slots failed calls looked = record {
    calls = calls.calls ++ looked.calls;
    by = medium.went_joins d e f calls.calls looked.calls calls.by looked.by;
    no_change = changes_join calls.calls looked.calls ∙ ap (λ (xs : List DiskCall). xs ++ changes looked.calls) calls.changes_are ∙ no_changes (slots_end slots) looked.calls looked.within;
    fits = fits_join 0 calls.calls looked.calls calls.fits (fit_more (slots_end slots) (last_length 0 calls.calls) looked.calls (reach slots (last_length 0 calls.calls) calls.reach) looked.within);
    fails = any_join calls.calls looked.calls ∙ ap (λ (t : Bool). t || any_failed looked.calls) calls.fails ∙ looked.fails;
  }
