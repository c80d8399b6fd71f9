-- Lines with the number of their station before them.
use Rattle.std.specs.Prelude.{ℕ, ◌≡◌, ◌+◌, ◌==◌, Bool, true, false, List, [], ◌∷◌, ◌++◌}
use Rattle.causes.specs.Lists.{IsFrontOf}
use Rattle.fleet.specs.declared.pen.Pen.{Pen}
use Rattle.fleet.specs.declared.pen.Pen.TheVariants.{AtStart, Inside, Stuck}

-- the digit of a station, and a space
abbrev pub head : ℕ → List ℕ
head digit = digit ∷ 32 ∷ []

-- what goes before the next byte
abbrev pub lead : ℕ → Pen → List ℕ
lead digit AtStart = head digit
lead digit Inside = []
lead digit Stuck = []

-- where the pen is behind a byte, by whether that is a line feed
abbrev pub pen_behind : Bool → Pen
pen_behind true = AtStart
pen_behind false = Inside

-- where it is behind these bytes
abbrev pub pen_after : Pen → List ℕ → Pen
pen_after pen [] = pen
pen_after pen (b ∷ bs) = pen_after (pen_behind (b == 10)) bs

-- the bytes, each line with its head
abbrev pub numbered_lines : ℕ → Pen → List ℕ → List ℕ
numbered_lines digit pen [] = []
numbered_lines digit pen (b ∷ bs) = lead digit pen ++ b ∷ numbered_lines digit (pen_behind (b == 10)) bs

-- the bytes are whole lines: behind them a line begins
abbrev pub AreLines : List ℕ → Type 0
AreLines bytes = pen_after AtStart bytes ≡ AtStart

-- each line with the number of the station, a digit, and a space before it
abbrev pub with_station_number : ℕ → List ℕ → List ℕ
with_station_number station bytes = numbered_lines (48 + station) AtStart bytes

-- whether a write failed
abbrev pub is_stuck : Pen → Bool
is_stuck AtStart = false
is_stuck Inside = false
is_stuck Stuck = true

-- A pen that is stuck takes no bytes, writes nothing and stays stuck.
pub record StaysStuck (bytes : List ℕ) (to : Pen) (text : List ℕ) : Type 0 where
  pub no_bytes : bytes ≡ []
  pub stuck : to ≡ Stuck
  pub no_text : text ≡ []

-- The pen came from here to there as these bytes became that text. Behind the text of bytes that were cut off a part of
-- what goes before the next byte may stand: of a head, where a line begins.
pub record PenSpells (digit : ℕ) (from : Pen) (bytes : List ℕ) (to : Pen) (text : List ℕ) : Type 0 where
  pub part : List ℕ
  pub small : IsFrontOf part (lead digit (pen_after from bytes))
  pub whole : text ≡ numbered_lines digit from bytes ++ part
  pub none : is_stuck to ≡ false → part ≡ []
  pub pen : is_stuck to ≡ false → to ≡ pen_after from bytes
  pub stays : from ≡ Stuck → StaysStuck bytes to text
