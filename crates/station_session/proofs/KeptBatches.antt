-- The batches of an attempt that were kept: all of them, or all but the last, where that was refused.
use Rattle.std.proofs.Common.{◌≡◌, ℕ, List, [], ◌∷◌, refl, ◌∙◌, ap}
use Rattle.causes.specs.declared.stored.Stored.TheVariants.{Done}
use Rattle.dmpaft_pump.specs.Batch.{records_in, answered_batches}
use Rattle.dmpaft_pump.specs.Keeper.{Refusal, answer_for, one_batch, kept_in}
use Rattle.dmpaft_pump.specs.declared.outcome.DumpEnd.{DumpEnd}
use Rattle.dmpaft_pump.specs.declared.outcome.DumpEnd.TheVariants as dump_end
use Rattle.dmpaft_pump.proofs.HandedBatches.{kept_answered, kept_in_all}
use Rattle.dmpaft_driver.specs.Gathered as gathered
use Rattle.station_session.specs.Batches.{kept_records}

-- all but the last
abbrev pub but_last : List (List (List ℕ)) → List (List (List ℕ))
but_last [] = []
but_last (b ∷ []) = []
but_last (b ∷ c ∷ bs) = b ∷ but_last (c ∷ bs)

-- those that were kept, by how the attempt ended
abbrev pub kept_batches : DumpEnd → List (List (List ℕ)) → List (List (List ℕ))
kept_batches dump_end.Full bs = but_last bs
kept_batches dump_end.Stale bs = but_last bs
kept_batches dump_end.DiskFault bs = but_last bs
kept_batches other bs = bs

none_of : (why : Refusal) (b : List (List ℕ)) → kept_in (one_batch (answer_for why) b) ≡ []
none_of Refusal.Full b = refl
none_of Refusal.Stale b = refl
none_of Refusal.DiskFault b = refl

kept_refused : (why : Refusal) (bs : List (List (List ℕ))) → kept_in (answered_batches (answer_for why) bs) ≡ but_last bs
kept_refused why [] = refl
kept_refused why (b ∷ []) = none_of why b
kept_refused why (b ∷ c ∷ bs) = ap (λ (z : List (List (List ℕ))). b ∷ z) (kept_refused why (c ∷ bs))

kept_whole : (bs : List (List (List ℕ))) → kept_in (answered_batches Done bs) ≡ bs
kept_whole bs = ap kept_in (kept_answered bs) ∙ kept_in_all bs

-- they are those that became kept of the batches handed over
pub kept_in_end : (e : DumpEnd) (bs : List (List (List ℕ))) → kept_in (answered_batches (gathered.keeper_answer e) bs) ≡ kept_batches e bs
kept_in_end dump_end.Whole bs = kept_whole bs
kept_in_end (dump_end.Failed trouble) bs = kept_whole bs
kept_in_end dump_end.Full bs = kept_refused Refusal.Full bs
kept_in_end dump_end.Stale bs = kept_refused Refusal.Stale bs
kept_in_end dump_end.DiskFault bs = kept_refused Refusal.DiskFault bs
kept_in_end dump_end.Flood bs = kept_whole bs
kept_in_end dump_end.LinkFault bs = kept_whole bs
kept_in_end dump_end.OutOfMemory bs = kept_whole bs

-- and so are their records
pub kept_by_end : (e : DumpEnd) (bs : List (List (List ℕ))) → kept_records (answered_batches (gathered.keeper_answer e) bs) ≡ records_in (kept_batches e bs)
kept_by_end e bs = ap records_in (kept_in_end e bs)
