-- A good frame is one whose check is 0.
use Rattle.std.proofs.Common.{◌≡◌, ℕ, Bool, true, false, List, refl}
use Rattle.std.proofs.lemmas.Bool.{eqb-true, eq-eqb}
use Rattle.crc_ccitt.specs.Check.{check, is_good}

pub good_when : (frame : List ℕ) → check frame ≡ 0 → is_good frame ≡ true
unfolding is_good
good_when frame zero = eq-eqb (check frame) 0 zero

pub good_check : (frame : List ℕ) → is_good frame ≡ true → check frame ≡ 0
unfolding is_good
good_check frame good = eqb-true (check frame) 0 good

pub not_good : (frame : List ℕ) → (check frame ≡ 0 → ⊥) → is_good frame ≡ false
not_good frame bad = go (is_good frame) refl
  where
    go : (test : Bool) → is_good frame ≡ test → test ≡ false
    go true good = absurd (bad (good_check frame good))
    go false good = refl
