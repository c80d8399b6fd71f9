-- Where a byte stands first in a text.
use Rattle.std.proofs.Common.{◌≡◌, ℕ, suc, ◌+◌, ◌≤◌, ◌==◌, Bool, true, false, cond, List, [], ◌∷◌, length, position, Some, None, refl, arith}
use Rattle.std.specs.Prelude.{nat_lt, not}
use Rattle.std.specs.List.{position_or_len}
use Rattle.std.proofs.lemmas.Bool.{ltb-false}

-- the place of the first byte that passes is at most the length
pub place_within : (passes : ℕ → Bool) (text : List ℕ) → position_or_len passes text ≤ length text
place_within passes [] = omega arith
place_within passes (byte ∷ text) = go (passes byte) (place_within passes text)
  where
    go : (here : Bool) → position_or_len passes text ≤ length text → cond (not here) (1 + position_or_len passes text) 0 ≤ suc (length text)
    go true rest = omega arith
    go false rest = omega arith

module _ (separator : ℕ) (text : List ℕ) where
  place : ℕ
  place = position_or_len (λ byte. byte == separator) text

  -- a byte that is found stands there
  pub place_found : (end : ℕ) → position (λ byte. byte == separator) text ≡ Some end → end ≡ position_or_len (λ byte. byte == separator) text
  unfolding place
  place_found end found = go (nat_lt place (length text)) found
    where
      go : (within : Bool) → cond within (Some place) None ≡ Some end → end ≡ place
      go true is = cc
      go false is = cc

  -- and if none is found, it is the length
  pub place_missing : position (λ byte. byte == separator) text ≡ None → length text ≡ position_or_len (λ byte. byte == separator) text
  unfolding place
  place_missing none = go (nat_lt place (length text)) refl none
    where
      go : (within : Bool) → nat_lt place (length text) ≡ within → cond within (Some place) None ≡ None → length text ≡ place
      go true is found = cc
      go false is found = omega (arith, ltb-false place (length text) is, place_within (λ byte. byte == separator) text)
