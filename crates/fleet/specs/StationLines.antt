-- The lines of one station in the text of all.
use Rattle.std.specs.Prelude.{ℕ, ◌≢◌, ◌+◌, ◌==◌, Bool, true, false, List, [], ◌∷◌}
use Rattle.fleet.specs.declared.member.MemberTurn.TheVariants.{WriteFault, OutOfMemory}
use Rattle.fleet.specs.TurnText.{TurnEntry}

-- where a reader of the text stands: at the digit of a line, at its space, or within it; the line is of the station, or
-- not
pub data Place : Type 0 where
  AtDigit : Place
  AtSpace : Bool → Place
  Within : Bool → Place

-- where it stands behind a byte of a line, by whether that is a line feed
abbrev pub place_behind : Bool → Bool → Place
place_behind counts true = Place.AtDigit
place_behind counts false = Place.Within counts

-- the lines that have this digit before them, without it and the space behind it
abbrev pub station_lines_from : ℕ → Place → List ℕ → List ℕ
station_lines_from digit place [] = []
station_lines_from digit Place.AtDigit (b ∷ bytes) = station_lines_from digit (Place.AtSpace (b == digit)) bytes
station_lines_from digit (Place.AtSpace counts) (b ∷ bytes) = station_lines_from digit (Place.Within counts) bytes
station_lines_from digit (Place.Within true) (b ∷ bytes) =
    b ∷ station_lines_from digit (place_behind true (b == 10)) bytes
station_lines_from digit (Place.Within false) (b ∷ bytes) =
    station_lines_from digit (place_behind false (b == 10)) bytes

-- the lines of a station, without its number
abbrev pub station_lines : ℕ → List ℕ → List ℕ
station_lines station text = station_lines_from (48 + station) Place.AtDigit text

-- none of the turns was cut off
abbrev pub AreUncut : {K : Type 0} → List (TurnEntry K) → Type 0
AreUncut [] = Unit {0}
AreUncut (e ∷ log) = (e.answer ≢ WriteFault) × (e.answer ≢ OutOfMemory) × AreUncut log

-- none of the turns before the last was cut off
abbrev pub AreUncutBeforeLast : {K : Type 0} → List (TurnEntry K) → Type 0
AreUncutBeforeLast [] = Unit {0}
AreUncutBeforeLast (e ∷ []) = Unit {0}
AreUncutBeforeLast (e ∷ next ∷ log) =
    (e.answer ≢ WriteFault) × (e.answer ≢ OutOfMemory) × AreUncutBeforeLast (next ∷ log)
