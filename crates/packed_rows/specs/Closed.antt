-- A day that is over, as it is read back.
use Rattle.std.specs.Prelude.{ℕ, ℤ, ◌≡◌, ◌+◌, ◌*◌, ◌<◌, List, [], drop, flat_map, slice_index_or, take}
use Rattle.std.specs.List.{range_with_len}
use Rattle.daily_summary.specs.declared.summary.DaySummary.{DaySummary}
use Rattle.daily_summary.specs.Bounds.{IsInBounds}
use Rattle.daily_summary.specs.Parts.{AreTyped, part_size, part_count}
use Rattle.gated_log.specs.Log.{as_handed}
use Rattle.gated_log.specs.Layout.{slot_size}
use Rattle.packed_rows.specs.Closing.{part_place, summary_slot}

-- the part of a summary that stands in slot k of these bytes
abbrev pub part_at : List ℕ → ℕ → List ℕ
part_at bytes k = take part_size (drop (slot_size * k + part_place) bytes)

-- all thirteen one behind another
abbrev pub parts_at : List ℕ → List ℕ
parts_at bytes = flat_map (part_at bytes) (range_with_len 0 part_count)

-- the thirteen slots from a place on close this day, whose summary is one that can be read back
pub record IsClosedAt (slots : List (List ℕ)) (place : ℕ) (day : ℤ) (s : DaySummary) : Type 0 where
  pub each : (k : ℕ) → k < part_count → as_handed (slice_index_or slots (place + k) []) ≡ summary_slot day k s
  pub bounds : IsInBounds s
  pub typed : AreTyped s
