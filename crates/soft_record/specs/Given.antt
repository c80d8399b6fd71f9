-- The rows that entries make, interval by interval. (This project's own.)
use Rattle.std.specs.Prelude.{ℕ, ◌≤◌, ◌<◌, ◌==◌, if◌then◌else◌, List, [], ◌∷◌, ◌++◌, Some, None}
use Rattle.std.specs.declared.option.Option.{Option}
use Rattle.std.specs.List.{AllZip}
use Rattle.std.specs.Option.{ForSome}
use Rattle.station_base.specs.CivilMinute.{minute_of, last_minute}
use Rattle.station_base.specs.declared.row.Row.{Row}
use Rattle.soft_record.specs.declared.entry.Entry.{Entry}
use Rattle.soft_record.specs.Entry.{SpellsEntry, interval_end, moment}
use Rattle.soft_record.specs.Interval.{interval_of, last_entry}
use Rattle.soft_record.specs.SoftRow.{IsSoftRow}

-- The entry's second is one of a minute, it comes later than the entry before, if there is one, and its interval ends
-- at a stamp.
pub record EntryCanFollow (period : ℕ) (before : Option Entry) (e : Entry) : Type 0 where
  pub civil : e.second < 60
  pub later : ForSome before (λ b. moment b < moment e)
  pub ends : interval_end period e ≤ minute_of last_minute

-- each of the entries can follow the one before
abbrev pub AreGood : ℕ → Option Entry → List Entry → Type 0
AreGood period before [] = Unit {0}
AreGood period before (e ∷ es) = EntryCanFollow period before e × AreGood period (Some e) es

-- the bytes are those of this entry, and it can follow the entries
abbrev pub IsGood : ℕ → List Entry → List ℕ → Entry → Type 0
IsGood period entries bytes e = SpellsEntry bytes e × EntryCanFollow period (last_entry None entries) e

-- the end of the interval that an entry ends by being of another one
abbrev pub ended_by : ℕ → Option Entry → Entry → List ℕ
ended_by period None e = []
ended_by period (Some b) e = if interval_end period b == interval_end period e then [] else interval_end period b ∷ []

-- the ends of the intervals that are over, in order: all but that of the last entry
abbrev pub ends_over : ℕ → Option Entry → List Entry → List ℕ
ends_over period before [] = []
ends_over period before (e ∷ es) = ended_by period before e ++ ends_over period (Some e) es

-- the end of the entry's interval, if there is an entry
abbrev pub last_end : ℕ → Option Entry → List ℕ
last_end period None = []
last_end period (Some e) = interval_end period e ∷ []

-- the ends of all intervals that have an entry, in order
abbrev pub ends_of : ℕ → List Entry → List ℕ
ends_of period entries = ends_over period None entries ++ last_end period (last_entry None entries)

-- the row is that of the interval that ends at this minute
abbrev pub IsRowOf : ℕ → List Entry → ℕ → Row → Type 0
IsRowOf period entries end row = IsSoftRow period end (interval_of period end entries) row

-- these are the rows of the intervals that are over, one of each, in order
abbrev pub AreRowsSoFar : ℕ → List Entry → List Row → Type 0
AreRowsSoFar period entries rows = AllZip (IsRowOf period entries) (ends_over period None entries) rows

-- these are the rows of all intervals that have an entry, one of each, in order
abbrev pub AreRows : ℕ → List Entry → List Row → Type 0
AreRows period entries rows = AllZip (IsRowOf period entries) (ends_of period entries) rows
