-- Slots as the version of their archive reads them.
use Rattle.std.proofs.Common.{◌≡◌, ℕ, zero, suc, ℤ, ◌+◌, ◌&&◌, Bool, true, false, cond, List, [], ◌∷◌, map, get_or, Some, None, refl, sym, ◌∙◌, ap}
use Rattle.std.specs.Prelude.{nat_lt, length}
use Rattle.std.specs.Str.{bytes_eq}
use Rattle.std.proofs.lemmas.Bool.{and_right}
use Rattle.daily_summary.specs.declared.summary.DaySummary.{DaySummary}
use Rattle.station_base.specs.declared.row.Row.{Row}
use Rattle.row_slot.specs.Slot.{row_in_slot}
use Rattle.gated_log.specs.Log.{log_of, as_handed}
use Rattle.gated_log.specs.Log as log
use Rattle.gated_log.specs.Version.{version_of}
use Rattle.gated_log.specs.declared.version.Version.{Version}
use Rattle.gated_log.specs.declared.version.Version.TheVariants.{First, Second}
use Rattle.packed_rows.specs.Closed.{IsClosedAt}
use Rattle.packed_rows.specs.Closing.{closing_slot, summary_slot}
use Rattle.packed_rows.specs.Rows.{rows_from, rows_of_log, rows_of, is_known, as_read, is_right}
use Rattle.daily_summary.specs.Parts.{part_count}

-- in the second version each slot is read as it stands
pub read_second : (slots : List (List ℕ)) → map (as_read Second) slots ≡ slots
read_second [] = refl
read_second (slot ∷ slots) = ap (λ (xs : List (List ℕ)). slot ∷ xs) (read_second slots)

pub read_as_second : (v : Version) (slots : List (List ℕ)) → v ≡ Second → map (as_read v) slots ≡ slots
read_as_second v slots is = ap (λ (w : Version). map (as_read w) slots) is ∙ read_second slots

-- what holds slots has their rows, as its version reads them
pub has_read : (v : Version) (slots : List (List ℕ)) (image : List ℕ) → log_of image ≡ log.holds slots → version_of image ≡ v → rows_of image ≡ rows_from [] 0 0 (map (as_read v) slots)
unfolding rows_of
has_read v slots image has is = ap (rows_of_log (version_of image)) has ∙ ap (λ (w : Version). rows_of_log w (log.holds slots)) is

-- a slot by its number
pub read_at : (v : Version) (slots : List (List ℕ)) (i : ℕ) → get_or (map (as_read v) slots) i [] ≡ as_read v (get_or slots i [])
read_at First [] i = refl
read_at Second [] i = refl
read_at v (slot ∷ slots) zero = refl
read_at v (slot ∷ slots) (suc i) = read_at v slots i

no_row : row_in_slot [] ≡ None
unfolding row_in_slot
no_row = refl

-- a slot that is none of its version has no row
pub unknown_none : (known : Bool) (slot : List ℕ) → known ≡ false → row_in_slot (cond known slot []) ≡ None
unknown_none known slot is = ap (λ (b : Bool). row_in_slot (cond b slot [])) is ∙ no_row

row_by : (known : Bool) (slot : List ℕ) (row : Row) → row_in_slot (cond known slot []) ≡ Some row → row_in_slot slot ≡ Some row
row_by true slot row is = is
row_by false slot row is = absurd (let e : None ≡ Some row = sym no_row ∙ is in cc e)

-- a row that is read so stands in the slot
pub row_read : (v : Version) (slot : List ℕ) (row : Row) → row_in_slot (as_read v slot) ≡ Some row → row_in_slot slot ≡ Some row
row_read v slot row is = row_by (is_known v slot) slot row is

summary_by : (known : Bool) (slot : List ℕ) (day : ℤ) (k : ℕ) (s : DaySummary) → as_handed (cond known slot []) ≡ summary_slot day k s → as_handed slot ≡ summary_slot day k s
unfolding summary_slot
summary_by true slot day k s is = is
summary_by false slot day k s is = cc

-- and so does a summary
pub closed_read : (v : Version) (slots : List (List ℕ)) (place : ℕ) (day : ℤ) (s : DaySummary) → IsClosedAt (map (as_read v) slots) place day s → IsClosedAt slots place day s
closed_read v slots place day s closed = record {
  each = λ k small. summary_by (is_known v (get_or slots (place + k) [])) (get_or slots (place + k) []) day k s (ap as_handed (sym (read_at v slots (place + k))) ∙ closed.each k small);
  bounds = closed.bounds;
  typed = closed.typed;
}

no_bytes : (rows : List Row) (shown : ℕ) → bytes_eq [] (closing_slot rows shown) ≡ false
unfolding summary_slot
no_bytes rows shown = refl

-- a slot without bytes fits nowhere
none_right : (rows : List Row) (shown : ℕ) → is_right rows shown [] (row_in_slot []) ≡ false
none_right rows shown = ap (is_right rows shown []) no_row ∙ and_right (nat_lt 0 (length rows) && nat_lt shown part_count) (bytes_eq [] (closing_slot rows shown)) (no_bytes rows shown)

pub unknown_wrong : (known : Bool) (rows : List Row) (shown : ℕ) (slot : List ℕ) → known ≡ false → is_right rows shown (cond known slot []) (row_in_slot (cond known slot [])) ≡ false
unknown_wrong known rows shown slot is = ap (λ (b : Bool). is_right rows shown (cond b slot []) (row_in_slot (cond b slot []))) is ∙ none_right rows shown
