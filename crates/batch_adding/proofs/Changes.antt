-- Changes among the calls of a disk.
use Rattle.std.proofs.Common.{◌≡◌, ℕ, zero, suc, ◌<◌, ◌≤◌, Bool, true, false, List, [], ◌∷◌, ◌++◌, Option, Some, None, length, take, refl, ◌∙◌, ap, arith}
use Rattle.std.specs.Prelude.{◌||◌}
use Rattle.disk_model.specs.Calls.{DiskCall, attached, measured, was_read, wrote, synced, answered_failed}
use Rattle.disk_model.specs.declared.disk.Disked.{Disked}
use Rattle.disk_model.specs.declared.disk.Disked.TheVariants.{Done, Failed}
use Rattle.disk_model.specs.declared.disk.Length.TheVariants as told
use Rattle.gated_log.specs.Calls.{any_failed, changes, last_length, reads_fit, reads_within, up_to}
use Rattle.station_base.specs.declared.row.Row.{Row}
use Rattle.batch_adding.specs.Calls.{changes_of_batch, changes_of_batches}

-- it is a change, whatever it is answered
pub record IsChange (c : Disked → DiskCall) : Type 0 where
  pub kept : (a : Disked) (more : List DiskCall) → changes (c a ∷ more) ≡ c a ∷ changes more
  pub fits : (a : Disked) (n : ℕ) (more : List DiskCall) → reads_fit n more → reads_fit n (c a ∷ more)
  pub done : answered_failed (c Done) ≡ false
  pub fails : answered_failed (c Failed) ≡ true

-- each of them is
abbrev pub AreChanges : List (Disked → DiskCall) → Type 0
AreChanges [] = Unit {0}
AreChanges (c ∷ cs) = IsChange c × AreChanges cs

are_join : (xs ys : List (Disked → DiskCall)) → AreChanges xs → AreChanges ys → AreChanges (xs ++ ys)
are_join [] ys one two = two
are_join (x ∷ xs) ys one two = (one.0, are_join xs ys one.1 two)

pub are_take : (n : ℕ) (xs : List (Disked → DiskCall)) → AreChanges xs → AreChanges (take n xs)
are_take zero xs are = tt
are_take (suc n) [] are = tt
are_take (suc n) (x ∷ xs) are = (are.0, are_take n xs are.1)

a_write : (at n : ℕ) (byte : Option ℕ) → IsChange (λ a. wrote at n byte a)
a_write at n byte = record { kept = λ a more. refl; fits = λ a n more fits. fits; done = refl; fails = refl }

a_sync : IsChange (λ a. synced a)
a_sync = record { kept = λ a more. refl; fits = λ a n more fits. fits; done = refl; fails = refl }

pub are_batch : (old new : List Row) → AreChanges (changes_of_batch old new)
are_batch old new = (a_write _ _ None, (a_sync, (a_write _ 1 (Some 1), (a_sync, tt))))

pub are_for : (mine : List Row) (bs : List (List Row)) → AreChanges (changes_of_batches mine bs)
are_for mine [] = tt
are_for mine (b ∷ bs) = are_join (changes_of_batch mine b) (changes_of_batches (mine ++ b) bs) (are_batch mine b) (are_for (mine ++ b) bs)

pub up_kept : (cs : List (Disked → DiskCall)) (a : Disked) → AreChanges cs → changes (up_to cs a) ≡ up_to cs a
up_kept [] a are = refl
up_kept (c ∷ []) a are = are.0.kept a []
up_kept (c ∷ d ∷ cs) a are = are.0.kept Done (up_to (d ∷ cs) a) ∙ ap (λ (xs : List DiskCall). c Done ∷ xs) (up_kept (d ∷ cs) a are.1)

pub up_fits : (cs : List (Disked → DiskCall)) (a : Disked) (n : ℕ) → AreChanges cs → reads_fit n (up_to cs a)
up_fits [] a n are = tt
up_fits (c ∷ []) a n are = are.0.fits a n [] tt
up_fits (c ∷ d ∷ cs) a n are = are.0.fits Done n (up_to (d ∷ cs) a) (up_fits (d ∷ cs) a n are.1)

or_by : (a b c : Bool) → a ≡ false → b ≡ c → (a || b) ≡ c
or_by a b c is more = ap (λ (v : Bool). v || b) is ∙ more

or_true : (a b : Bool) → a ≡ true → (a || b) ≡ true
or_true a b is = ap (λ (v : Bool). v || b) is

pub up_done : (cs : List (Disked → DiskCall)) → AreChanges cs → any_failed (up_to cs Done) ≡ false
up_done [] are = refl
up_done (c ∷ []) are = or_by (answered_failed (c Done)) false false are.0.done refl
up_done (c ∷ d ∷ cs) are = or_by (answered_failed (c Done)) (any_failed (up_to (d ∷ cs) Done)) false are.0.done (up_done (d ∷ cs) are.1)

pub up_failed : (cs : List (Disked → DiskCall)) → 0 < length cs → AreChanges cs → any_failed (up_to cs Failed) ≡ true
up_failed [] some are = absurd (omega arith)
up_failed (c ∷ []) some are = or_true (answered_failed (c Failed)) false are.0.fails
up_failed (c ∷ d ∷ cs) some are = or_by (answered_failed (c Done)) (any_failed (up_to (d ∷ cs) Failed)) true are.0.done (up_failed (d ∷ cs) (omega arith) are.1)

pub changes_join : (a b : List DiskCall) → changes (a ++ b) ≡ changes a ++ changes b
changes_join [] b = refl
changes_join (attached n m x ∷ a) b = ap (λ (xs : List DiskCall). attached n m x ∷ xs) (changes_join a b)
changes_join (measured x ∷ a) b = changes_join a b
changes_join (was_read at n x ∷ a) b = changes_join a b
changes_join (wrote at n y x ∷ a) b = ap (λ (xs : List DiskCall). wrote at n y x ∷ xs) (changes_join a b)
changes_join (synced x ∷ a) b = ap (λ (xs : List DiskCall). synced x ∷ xs) (changes_join a b)

pub fits_join : (len : ℕ) (a b : List DiskCall) → reads_fit len a → reads_fit (last_length len a) b → reads_fit len (a ++ b)
fits_join len [] b one two = two
fits_join len (attached n m x ∷ a) b one two = fits_join len a b one two
fits_join len (measured (told.Known n) ∷ a) b one two = fits_join n a b one two
fits_join len (measured told.Failed ∷ a) b one two = fits_join len a b one two
fits_join len (was_read at n x ∷ a) b one two = (one.0, fits_join len a b one.1 two)
fits_join len (wrote at n y x ∷ a) b one two = fits_join len a b one two
fits_join len (synced x ∷ a) b one two = fits_join len a b one two

-- reads within a length end within a greater one
pub fit_more : (m n : ℕ) (a : List DiskCall) → m ≤ n → reads_within m a → reads_fit n a
fit_more m n [] le one = tt
fit_more m n (was_read at k x ∷ a) le one = (omega (arith, le, one.0), fit_more m n a le one.1)
fit_more m n (attached k y x ∷ a) le one = absurd one
fit_more m n (measured x ∷ a) le one = absurd one
fit_more m n (wrote at k y x ∷ a) le one = absurd one
fit_more m n (synced x ∷ a) le one = absurd one
