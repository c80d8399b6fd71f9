-- The reads of a copy.
use Rattle.std.proofs.Common.{◌≡◌, ℕ, zero, suc, ◌+◌, ◌*◌, ◌<◌, Bool, List, length, refl, subst, arith}
use Rattle.disk_model.specs.Medium.{Medium}
use Rattle.gated_log.specs.Calls.{Looked}
use Rattle.station_base.specs.declared.row.Row.{Row}
use Rattle.gated_log.specs.Layout.{slot_size}
use Rattle.packed_rows.specs.Rows.{slot_total}
use Rattle.batch_adding.specs.Calls.{slots_end}

some_slots : (n : ℕ) → 0 < n → slot_size * (n + 1) ≡ slots_end n
some_slots zero pos = absurd (omega arith)
some_slots (suc n) pos = refl

-- reads of an archive that has a row
pub some_look : {D : Type 0} (medium : Medium D) (rows : List Row) (failed : Bool) (d e : D) → 0 < length rows → Looked medium (slot_size * (slot_total rows + 1)) failed d e
    → Looked medium (slots_end (slot_total rows)) failed d e
some_look medium rows failed d e pos looked = subst (λ (n : ℕ). Looked medium n failed d e) (some_slots (slot_total rows) (omega (arith, pos))) looked
