-- The byte by which a console tells that it has understood (Davis serial manual, "Commands").
use Rattle.std.specs.Prelude.{ℕ, List, [], ◌∷◌}

-- the byte 0x06, by which a console reports that it has understood
abbrev pub ack : List ℕ
ack = 6 ∷ []
