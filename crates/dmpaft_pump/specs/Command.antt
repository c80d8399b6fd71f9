-- The command that asks for the records after a stamp (Davis serial manual, "Download Protocol").
use Rattle.std.specs.Prelude.{ℕ, List, [], ◌∷◌}

-- DMPAFT and a line feed
unfoldable pub dmpaft : List ℕ
dmpaft = 68 ∷ 77 ∷ 80 ∷ 65 ∷ 70 ∷ 84 ∷ 10 ∷ []
