-- What a chain of batches tells of a book, its disk and the last stamp.
use Rattle.std.proofs.Common.{◌≡◌, ℕ, ◌+◌, ◌*◌, ◌≤◌, Bool, true, false, List, length, refl, ◌∙◌, ap, subst, arith, Option}
use Rattle.disk_model.specs.Medium.{Medium}
use Rattle.causes.specs.Cause.{Rose}
use Rattle.station_base.specs.CivilMinute.{CivilMinute}
use Rattle.settings_file.specs.StationSettings.{StationSettings}
use Rattle.weather_book.specs.Book.{last_stamp_of, len_of, most_rows_of, book_is_stale}
use Rattle.causes.specs.declared.stored.Stored.{Stored}
use Rattle.causes.specs.declared.stored.Stored.TheVariants.{Done, Full, Stale, DiskFault}
use Rattle.dmpaft_pump.specs.Keeper.{Handed, Refusal, answer_for, one_batch, count, last_kept}
use Rattle.causes.specs.Stored.{stale_after}
use Rattle.station_session.specs.Batches.{ChangesAreBegun, begun_for, last_answer}
use Rattle.station_session.specs.Holding.{Holding}
use Rattle.station_session.specs.OneBatch.{AddsBatch, JudgesBatch, Chain}

-- one batch that was refused
one_refused : (why : Refusal) (rows : List (List ℕ)) → one_batch (answer_for why) rows ≡ Handed.Refused rows why
one_refused Refusal.Full rows = refl
one_refused Refusal.Stale rows = refl
one_refused Refusal.DiskFault rows = refl

few_begun : (a : Stored) (failed : ℕ) → ChangesAreBegun a failed → begun_for a failed ≤ 4
few_begun Done failed h = omega arith
few_begun Full failed h = omega arith
few_begun Stale failed h = omega arith
few_begun DiskFault failed h = h.1

module _ {D : Type 0} (medium : Medium D) (settings : StationSettings) where
  pub chain_last : (k : Holding D) (h : Handed) (l : Holding D) → Chain (AddsBatch medium settings) k h l → last_stamp_of l.book ≡ last_kept h (last_stamp_of k.book)
  chain_last k Handed.Nothing l c = ap (λ (x : Holding D). last_stamp_of x.book) c
  chain_last k (Handed.Kept rows more) l c = chain_last c.0 more l c.2 ∙ ap (λ (x : Option CivilMinute). last_kept more x) c.1.newest
  chain_last k (Handed.Refused rows why) l c = c.newest ∙ ap (λ (x : Handed). last_kept x (last_stamp_of k.book)) (one_refused why rows)

  pub chain_most : (k : Holding D) (h : Handed) (l : Holding D) → Chain (AddsBatch medium settings) k h l → most_rows_of l.book ≡ most_rows_of k.book
  chain_most k Handed.Nothing l c = ap (λ (x : Holding D). most_rows_of x.book) c
  chain_most k (Handed.Kept rows more) l c = chain_most c.0 more l c.2 ∙ c.1.most
  chain_most k (Handed.Refused rows why) l c = c.most

  pub chain_faults : (k : Holding D) (h : Handed) (l : Holding D) → Chain (AddsBatch medium settings) k h l → medium.faults k.disk ≤ medium.faults l.disk
  chain_faults k Handed.Nothing l c = omega (arith, ap (λ (x : Holding D). medium.faults x.disk) c)
  chain_faults k (Handed.Kept rows more) l c = omega (arith, chain_faults c.0 more l c.2, c.1.cause.never_falls)
  chain_faults k (Handed.Refused rows why) l c = c.cause.never_falls

  pub chain_begun : (k : Holding D) (h : Handed) (l : Holding D) → Chain (AddsBatch medium settings) k h l → medium.moment k.disk ≤ medium.moment l.disk
  chain_begun k Handed.Nothing l c = omega (arith, ap (λ (x : Holding D). medium.moment x.disk) c)
  chain_begun k (Handed.Kept rows more) l c = omega (arith, chain_begun c.0 more l c.2, c.1.moved)
  chain_begun k (Handed.Refused rows why) l c = omega (arith, c.moved)

  pub chain_moved : (k : Holding D) (h : Handed) (l : Holding D) → Chain (AddsBatch medium settings) k h l → medium.moment l.disk ≤ medium.moment k.disk + 4 * count h
  chain_moved k Handed.Nothing l c = omega (arith, ap (λ (x : Holding D). medium.moment x.disk) c)
  chain_moved k (Handed.Kept rows more) l c = omega (arith, chain_moved c.0 more l c.2, c.1.moved)
  chain_moved k (Handed.Refused rows why) l c = omega (arith, c.moved, few_begun (answer_for why) c.failed c.begun)

  pub chain_stale : (k : Holding D) (h : Handed) (l : Holding D) → Chain (AddsBatch medium settings) k h l → book_is_stale l.book ≡ stale_after (last_answer h) (book_is_stale k.book)
  chain_stale k Handed.Nothing l c = ap (λ (x : Holding D). book_is_stale x.book) c
  chain_stale k (Handed.Kept rows more) l c = chain_stale c.0 more l c.2 ∙ ap (λ (b : Bool). stale_after (last_answer more) b) c.1.stale
  chain_stale k (Handed.Refused rows why) l c = c.stale

  pub chain_rose : (k : Holding D) (h : Handed) (l : Holding D) → last_answer h ≡ DiskFault → Chain (AddsBatch medium settings) k h l → Rose (medium.faults k.disk) (medium.faults l.disk)
  chain_rose k Handed.Nothing l e c = cc
  chain_rose k (Handed.Kept rows more) l e c = omega (arith, chain_rose c.0 more l e c.2, c.1.cause.never_falls)
  chain_rose k (Handed.Refused rows why) l e c = c.cause.rose e

  -- a book that was not stale refuses no batch as stale
  pub chain_never_stale : (k : Holding D) (h : Handed) (l : Holding D) → book_is_stale k.book ≡ false → last_answer h ≡ Stale → Chain (AddsBatch medium settings) k h l → ⊥
  chain_never_stale k Handed.Nothing l fresh e c = cc
  chain_never_stale k (Handed.Kept rows more) l fresh e c = chain_never_stale c.0 more l (c.1.stale ∙ fresh) e c.2
  chain_never_stale k (Handed.Refused rows why) l fresh e c =
      let stale : book_is_stale k.book ≡ true = subst (λ (a : Stored). JudgesBatch a (book_is_stale k.book) (most_rows_of k.book) (len_of k.book + length rows)) e c.judged in cc
