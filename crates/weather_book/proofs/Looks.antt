-- Reads of a book.
use Rattle.std.proofs.Common.{◌≡◌, ℕ, ◌+◌, ◌≤◌, [], ◌∷◌, refl, false}
use Rattle.disk_model.specs.Medium.{Medium}
use Rattle.disk_model.specs.Calls.{was_read}
use Rattle.disk_model.specs.declared.disk.Disked.{Disked}
use Rattle.disk_model.specs.declared.disk.Disked.TheVariants.{Done, Failed}
use Rattle.gated_log.specs.Calls.{any_failed, Looked}
use Rattle.gated_log.proofs.CallsMade.{did_fail}

-- no read
pub no_look : {D : Type 0} (medium : Medium D) (len : ℕ) (d : D) → Looked medium len false d d
no_look medium len d = record { calls = []; by = medium.went_none d; within = tt; fails = refl }

fails_as : (at n : ℕ) (answer : Disked) → any_failed (was_read at n answer ∷ []) ≡ did_fail answer
fails_as at n Done = refl
fails_as at n Failed = refl

-- one read
pub one_look : {D : Type 0} (medium : Medium D) (d e : D) (len at n : ℕ) (answer : Disked) → at + n ≤ len → medium.went d (was_read at n answer ∷ []) e → Looked medium len (did_fail answer) d e
one_look medium d e len at n answer fits went = record { calls = was_read at n answer ∷ []; by = went; within = (fits, tt); fails = fails_as at n answer }
