-- What a record stands for: the entries that it took since it was new, and the rows that it gave.
use Rattle.std.specs.Prelude.{ℕ, ◌≡◌, ◌≢◌, List, [], ◌∷◌, ◌++◌, Some, None}
use Rattle.std.specs.declared.option.Option.{Option}
use Rattle.station_base.specs.declared.row.Row.{Row}
use Rattle.soft_record.specs.declared.entry.Entry.{Entry}
use Rattle.soft_record.specs.declared.open_interval.OpenInterval.{OpenInterval}
use Rattle.soft_record.specs.declared.record.SoftRecord.{SoftRecord}
use Rattle.soft_record.specs.declared.record.Took.{Took}
use Rattle.soft_record.specs.declared.record.Took.TheVariants.{Joined, Closed, Bad}
use Rattle.soft_record.specs.Given.{AreGood, AreRows, AreRowsSoFar, IsGood}
use Rattle.soft_record.specs.OpenInterval.{IntervalIsOpen}

-- the interval of the last entry, and none if there is no entry
abbrev pub KeepsLast : ℕ → List Entry → Option OpenInterval → Type 0
KeepsLast period entries None = entries ≡ []
KeepsLast period entries (Some o) = IntervalIsOpen period entries o

-- it has this period, took these entries, all of them good, and gave the rows of all intervals but the last
pub record SoftRecordStandsFor (r : SoftRecord) (period : ℕ) (entries : List Entry) (rows : List Row) : Type 0 where
  pub its_period : r.period ≡ period
  pub good : AreGood period None entries
  pub last : KeepsLast period entries r.open
  pub given : AreRowsSoFar period entries rows

-- what became of an entry: it is taken, and the row of an interval given that it ends; or it is bad, and nothing
-- changed
abbrev pub TakesEntry : SoftRecord → ℕ → List Entry → List Row → List ℕ → Took → SoftRecord → Type 0
TakesEntry old period entries rows bytes Joined new =
    (e : Entry) × IsGood period entries bytes e × SoftRecordStandsFor new period (entries ++ e ∷ []) rows
TakesEntry old period entries rows bytes (Closed row) new =
    (e : Entry) × IsGood period entries bytes e × SoftRecordStandsFor new period (entries ++ e ∷ []) (rows ++ row ∷ [])
TakesEntry old period entries rows bytes Bad new = (new ≡ old) × ((e : Entry) → IsGood period entries bytes e → ⊥)

-- what is given at the end: with it the rows are those of all intervals, and none is given only if there is no entry
abbrev pub SoftRecordFinishes : ℕ → List Entry → List Row → Option Row → Type 0
SoftRecordFinishes period entries rows None = (entries ≡ []) × AreRows period entries rows
SoftRecordFinishes period entries rows (Some row) = (entries ≢ []) × AreRows period entries (rows ++ row ∷ [])

-- P of the row that is given, if one is
abbrev pub OnClosed : Took → (Row → Type 0) → Type 0
OnClosed Joined P = Unit {0}
OnClosed (Closed row) P = P row
OnClosed Bad P = Unit {0}
