-- What tests that passed say.
use Rattle.std.proofs.Common.{◌≡◌, ◌≢◌, ℕ, true, false}
use Rattle.std.proofs.lemmas.Bool.{eq-eqb, ne_eqb}
use Rattle.std.specs.Prelude.{not, ◌==◌}

-- a number that passes as another than this is another
pub other_than : (n other : ℕ) → not (n == other) ≡ true → n ≢ other
other_than n other passed same = let equal : (n == other) ≡ true = eq-eqb n other same in let no : false ≡ true = rw equal at passed in cc

-- and another passes
pub differs : (n other : ℕ) → n ≢ other → not (n == other) ≡ true
differs n other apart = rw (ne_eqb n other apart)
