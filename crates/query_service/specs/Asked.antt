-- What the line of a request asks for. (This project's own.)
use Rattle.std.specs.Prelude.{ℕ, ◌≡◌, ◌<◌, ◌≤◌, ◌≤ℤ◌, List, ◌++◌, length, codes}
use Rattle.station_base.specs.DayText.{IsDayNumber, day_text}
use Rattle.station_base.specs.declared.day.DayNumber.{DayNumber}
use Rattle.query_service.specs.declared.request.Request.{Request}
use Rattle.query_service.specs.declared.request.Request.TheVariants.{Count, Last, Rows, Day, Unknown}

-- the bytes of a request that is known, at most
abbrev pub longest_request : ℕ
longest_request = 64

-- FIRST LAST
abbrev pub day_span_text : DayNumber → DayNumber → List ℕ
day_span_text first last = day_text first.0 ++ (codes " " ++ day_text last.0)

-- both are days of a stamp, and the first is no later
pub record AreInOrder (first last : DayNumber) : Type 0 where
  pub from : IsDayNumber first.0
  pub to : IsDayNumber last.0
  pub order : first.0 ≤ℤ last.0

-- the text is that of these days
abbrev pub AreDays : List ℕ → DayNumber → DayNumber → Type 0
AreDays text first last = (text ≡ day_span_text first last) × AreInOrder first last

-- the line is one of the table's, and asks for this
abbrev pub IsRequest : List ℕ → Request → Type 0
IsRequest line Count = line ≡ codes "count"
IsRequest line Last = line ≡ codes "last"
IsRequest line (Rows first last) = (line ≡ codes "rows " ++ day_span_text first last) × AreInOrder first last
IsRequest line (Day day) = (line ≡ codes "day " ++ day_text day.0) × IsDayNumber day.0
IsRequest line Unknown = ⊥

-- the line is one of the table's, or there is none that it is
abbrev pub Means : List ℕ → Request → Type 0
Means line Count = IsRequest line Count
Means line Last = IsRequest line Last
Means line (Rows first last) = IsRequest line (Rows first last)
Means line (Day day) = IsRequest line (Day day)
Means line Unknown = (request : Request) → IsRequest line request → ⊥

-- A line asks for what the table has for it; one that is longer than a request asks for nothing that is known.
pub record LineAsks (line : List ℕ) (request : Request) : Type 0 where
  pub long : longest_request < length line → request ≡ Unknown
  pub short : length line ≤ longest_request → Means line request
