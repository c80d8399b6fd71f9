-- The eight bytes of a head, one by one.
use Rattle.std.proofs.Common.{◌≡◌, ℕ, List, [], ◌∷◌, length, refl, arith}
use Rattle.std.specs.Prelude.{nat_eq, codes}
use Rattle.std.specs.Cmp.Lexicographic.{pointwise}
use Rattle.gated_log.specs.Log.{begins_first, stand_from}

pub first_by_bytes : (bytes : List ℕ) → length bytes ≡ 8 → pointwise nat_eq bytes (codes "DVARCH01") ≡ begins_first bytes
first_by_bytes (a ∷ b ∷ c ∷ d ∷ e ∷ f ∷ g ∷ h ∷ []) long = refl
first_by_bytes other long = absurd (omega arith)

pub second_by_bytes : (bytes : List ℕ) → length bytes ≡ 8 → pointwise nat_eq bytes (codes "DVARCH02") ≡ stand_from 0 (codes "DVARCH02") bytes
second_by_bytes (a ∷ b ∷ c ∷ d ∷ e ∷ f ∷ g ∷ h ∷ []) long = refl
second_by_bytes other long = absurd (omega arith)
