-- The months of days that follow one another.
use Rattle.std.specs.Prelude.{ℕ, ℤ, Bool, false, if◌then◌else◌, List, [], ◌∷◌, ◌++◌, take, bytes_eq}
use Rattle.station_base.specs.DayText.{day_text}

-- YYYY-MM
abbrev pub month_text : ℤ → List ℕ
month_text day = take 7 (day_text day)

-- the day is of the same month as the first of these
abbrev pub is_of_month : List ℤ → ℤ → Bool
is_of_month [] day = false
is_of_month (first ∷ more) day = bytes_eq (month_text first) (month_text day)

-- The days of each month, where the first month has begun with some: a day of another month begins the next one.
abbrev pub months_from : List ℤ → List ℤ → List (List ℤ)
months_from begun [] = begun ∷ []
months_from begun (day ∷ days) =
    if is_of_month begun day then months_from (begun ++ day ∷ []) days
    else begun ∷ months_from (day ∷ []) days

-- the days of each month
abbrev pub months_of : List ℤ → List (List ℤ)
months_of [] = []
months_of (day ∷ days) = months_from (day ∷ []) days
