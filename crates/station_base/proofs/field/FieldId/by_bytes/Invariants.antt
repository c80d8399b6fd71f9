use Rattle.std.proofs.Common.{◌≡◌, ℕ, ◌<◌}
use Rattle.station_base.specs.Fields.{name_of}
use Rattle.station_base.proofs.field.FieldId.by_bytes.Given as goal

abbrev pub invariant-loop-index : goal.invariant-loop-index
invariant-loop-index l = (k : ℕ) → k < l.index → name_of k ≡ l.name → ⊥
