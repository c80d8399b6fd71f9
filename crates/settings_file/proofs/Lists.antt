-- Elements of lists, and what stands past their end.
use Rattle.std.proofs.Common.{◌≡◌, ℕ, zero, suc, List, [], ◌∷◌, get_or, replicate, set, Option, Some, None, IfSome, refl}

-- the same element everywhere, past the end too
pub get_or-replicate_default : {A : Type 0} (n i : ℕ) (x : A) → get_or (replicate n x) i x ≡ x
get_or-replicate_default zero i x = refl
get_or-replicate_default (suc n) zero x = refl
get_or-replicate_default (suc n) (suc i) x = get_or-replicate_default n i x

-- what is named stays in its range where one more is named
pub named_set : {A : Type 0} (P : A → Type 0) (xs : List (Option A)) (i : ℕ) (x : A) → ((j : ℕ) → IfSome (get_or xs j None) P) → P x
    → (j : ℕ) → IfSome (get_or (set xs i (Some x)) j None) P
named_set P [] i x each px j = each j
named_set P (y ∷ xs) zero x each px zero = px
named_set P (y ∷ xs) zero x each px (suc j) = each (suc j)
named_set P (y ∷ xs) (suc i) x each px zero = each zero
named_set P (y ∷ xs) (suc i) x each px (suc j) = named_set P xs i x (λ k. each (suc k)) px j
