-- The records that fall due in a round, put and held or still to come.
use Rattle.std.specs.Prelude.{◌≡◌, ℕ, List, [], ◌∷◌, ◌++◌}
use Rattle.console_model.specs.Console.{Begun}
use Rattle.console_model.specs.Laws.{records_of}
use Rattle.console_model.specs.Valid.{IsTidy}
use Rattle.station_sim.specs.Line.{Line}
use Rattle.causes.specs.Lists.{IsFrontOf}

-- each dump began with the first of these
abbrev pub BegunIn : List (List ℕ) → List Begun → Type 0
BegunIn all [] = Unit {0}
BegunIn all (b ∷ bs) = IsFrontOf b.history all × BegunIn all bs

-- What is put and held, with the rest that is still to fall due, is all; nothing is held outside a dump, and each
-- dump began with the first of all.
pub record Sums (rest all : List (List ℕ)) (w : Line) : Type 0 where
  pub sum : records_of w.console ++ rest ≡ all
  pub tidy : IsTidy w.console.state w.console.held
  pub begun : BegunIn all w.dumps

-- What is put and held, with what is left to fall due after so many messages, is all; nothing is held outside a dump,
-- and each dump began with the first of all.
abbrev pub Now : (ℕ → List (List ℕ)) → List (List ℕ) → Line → Type 0
Now left all w = Sums (left w.messages) all w
