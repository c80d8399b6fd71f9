-- Members in the order of their numbers.
use Rattle.std.specs.Prelude.{ℕ, Bool, true, ◌&&◌, nat_le, List, [], ◌∷◌}

-- no number is below this one, or below that of the member before
abbrev pub is_in_order : {A : Type 0} → (A → ℕ) → ℕ → List A → Bool
is_in_order number least [] = true
is_in_order number least (x ∷ xs) = nat_le least (number x) && is_in_order number (number x) xs

-- the number of the last member, or this one where there is none
abbrev pub last_number : {A : Type 0} → (A → ℕ) → ℕ → List A → ℕ
last_number number before [] = before
last_number number before (x ∷ xs) = last_number number (number x) xs
