-- Members in order with one more, and the last of them.
use Rattle.std.proofs.Common.{◌≡◌, ℕ, suc, ◌-◌, ◌≤◌, true, false, Some, List, [], ◌∷◌, ◌++◌, length, refl, ap, arith}
use Rattle.std.specs.Prelude.{nat_le, nat_lt}
use Rattle.std.specs.List.{slice_get}
use Rattle.std.proofs.lemmas.Bool.{le-leb, and_parts}
use Rattle.schedule_file.specs.declared.fates.Mid.{Mid}
use Rattle.schedule_file.specs.InOrder.{is_in_order, last_number}

module _ {A : Type 0} (number : A → ℕ) where
  pub in_order_more : (least : ℕ) (xs : List A) (x : A) → is_in_order number least xs ≡ true → last_number number least xs ≤ number x
      → is_in_order number least (xs ++ x ∷ []) ≡ true
  in_order_more least [] x ordered behind = rw (le-leb least (number x) behind) refl
  in_order_more least (y ∷ ys) x ordered behind =
      let here = (and_parts (nat_le least (number y)) (is_in_order number (number y) ys) ordered).0 in
      let rest = in_order_more (number y) ys x (and_parts (nat_le least (number y)) (is_in_order number (number y) ys) ordered).1 behind in
      rw (here, rest) refl

  pub last_is : (before : ℕ) (xs : List A) (x : A) → slice_get xs (length xs - 1) ≡ Some x → last_number number before xs ≡ number x
  last_is before [] x found = cc
  last_is before (y ∷ []) x found = let same : y ≡ x = cc in ap number same
  last_is before (y ∷ z ∷ xs) x found =
      let e : length (y ∷ z ∷ xs) - 1 ≡ suc (length (z ∷ xs) - 1) = omega arith in
      last_is (number y) (z ∷ xs) x (rw e at found)

-- numbers that are not below the last one
pub not_below : (n : ℕ) (xs : List Mid) (m : Mid) → slice_get xs (length xs - 1) ≡ Some m → nat_lt n m.number ≡ false
    → last_number (λ (x : Mid). x.number) 0 xs ≤ n
not_below n xs m found above =
    let last : last_number (λ (x : Mid). x.number) 0 xs ≡ m.number = last_is (λ (x : Mid). x.number) 0 xs m found in
    let over : m.number ≤ n = grind (arith, above) in
    omega (arith, last, over)

last_behind : (before : ℕ) (xs : List Mid) (m : Mid) → last_number (λ (x : Mid). x.number) before (xs ++ m ∷ []) ≡ m.number
last_behind before [] m = refl
last_behind before (x ∷ xs) m = last_behind x.number xs m

-- the last of several and one more
pub last_mid : (xs : List Mid) (m : Mid) → last_number (λ (x : Mid). x.number) 0 (xs ++ m ∷ []) ≡ m.number
last_mid xs m = last_behind 0 xs m
