use Rattle.std.proofs.Common.{◌≡◌, ℕ, ◌<◌, true}
use Rattle.station_base.proofs.FieldSets.{is_free}
use Rattle.station_base.proofs.field_set.FieldSet.are_missing.Given as goal

abbrev pub invariant-loop-index : goal.invariant-loop-index
invariant-loop-index l = (field : ℕ) → field < l.index → is_free l.self l.values field ≡ true
