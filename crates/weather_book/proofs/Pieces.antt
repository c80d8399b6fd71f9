-- Slots that are read many at once.
use Rattle.std.proofs.Common.{◌≡◌, ◌<◌, ◌+◌, ◌-◌, ◌*◌, ℕ, Bool, false, take, drop, length, List, [], ◌∷◌, ◌++◌, ◌∙◌, ap, arith}
use Rattle.std.specs.Prelude.{◌||◌}
use Rattle.std.proofs.lemmas.List.{length-drop, drop-drop, drop-take, take-take, take-append-le, drop-append-le}
use Rattle.disk_model.specs.Medium.{Medium}
use Rattle.disk_model.specs.Calls.{DiskCall, attached, measured, was_read, wrote, synced}
use Rattle.gated_log.specs.Calls.{reads_within, any_failed, Looked}
use Rattle.gated_log.proofs.CallsMade.{any_join}
use Rattle.gated_log.specs.Layout.{slot_size}

-- one slot of those that were read of a place of a file
pub slot_of_piece : (buf rest file : List ℕ) (p k n : ℕ) → buf ≡ take (length buf) (drop p file) → length buf ≡ slot_size * n → k < n
    → take slot_size (drop (slot_size * k) (buf ++ rest)) ≡ take slot_size (drop (p + slot_size * k) file)
slot_of_piece buf rest file p k n is long lt =
    let m : ℕ = length buf - slot_size * k in
    let split : length buf ≡ slot_size * k + (length buf - slot_size * k) = omega (arith, long, lt) in
    let part : drop (slot_size * k) buf ≡ take (length buf - slot_size * k) (drop (slot_size * k) (drop p file))
    = ap (λ (xs : List ℕ). drop (slot_size * k) xs) (is ∙ ap (λ (j : ℕ). take j (drop p file)) split) ∙ drop-take (slot_size * k) (length buf - slot_size * k) (drop p file) in
    ap (λ (xs : List ℕ). take slot_size xs) (drop-append-le (slot_size * k) buf rest (omega (arith, long, lt)))
    ∙ take-append-le slot_size (drop (slot_size * k) buf) rest (omega (arith, length-drop (slot_size * k) buf, long, lt))
    ∙ ap (λ (xs : List ℕ). take slot_size xs) part
    ∙ take-take slot_size (length buf - slot_size * k) (drop (slot_size * k) (drop p file)) (omega (arith, long, lt))
    ∙ ap (λ (xs : List ℕ). take slot_size xs) (drop-drop (slot_size * k) p file)

within_join : (len : ℕ) (xs ys : List DiskCall) → reads_within len xs → reads_within len ys → reads_within len (xs ++ ys)
within_join len [] ys one two = two
within_join len (was_read a m x ∷ xs) ys one two = (one.0, within_join len xs ys one.1 two)
within_join len (attached a m x ∷ xs) ys one two = one
within_join len (measured x ∷ xs) ys one two = one
within_join len (wrote a m b x ∷ xs) ys one two = one
within_join len (synced x ∷ xs) ys one two = one

-- reads behind others, none of which failed
pub more_reads : {D : Type 0} (medium : Medium D) {d e f : D} {len : ℕ} {failed : Bool} → Looked medium len false d e → Looked medium len failed e f → Looked medium len failed d f
more_reads medium {d} {e} {f} {len} {failed} one two = record {
  calls = one.calls ++ two.calls;
  by = medium.went_joins d e f one.calls two.calls one.by two.by;
  within = within_join len one.calls two.calls one.within two.within;
  fails = any_join one.calls two.calls ∙ ap (λ (t : Bool). t || any_failed two.calls) one.fails ∙ two.fails;
}
