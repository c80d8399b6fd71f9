-- Corrections that name nothing.
use Rattle.std.proofs.Common.{ℕ, Option, None, IfSome, get_or, replicate, refl}
use Rattle.settings_file.specs.Corrections.{AreCorrections, nothing_named}
use Rattle.settings_file.proofs.Lists.{get_or-replicate_default}
use Rattle.station_base.specs.Fields.{field_count}

nothing_there : {A : Type 0} (P : A → Type 0) (n i : ℕ) → IfSome (get_or (replicate n None) i None) P
nothing_there {A = A} P n i = rw (get_or-replicate_default {A = Option A} n i None) tt

-- they are in their ranges
pub nothing_within : AreCorrections nothing_named
nothing_within = record {
  calibrations = record { count = refl; each = nothing_there _ field_count };
  limits = record { count = refl; each = nothing_there _ field_count };
}
