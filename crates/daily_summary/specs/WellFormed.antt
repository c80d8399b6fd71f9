-- When bytes are those of a summary.
use Rattle.std.specs.Prelude.{ℕ, ◌≡◌, ◌≢◌, ◌≤◌, ◌<◌, All, List, drop}
use Rattle.std.specs.Option.{IsSomeAnd}
use Rattle.daily_summary.specs.declared.summary.DaySummary.{DaySummary}
use Rattle.daily_summary.specs.Bounds.{IsInBounds, IsSumOf}
use Rattle.daily_summary.specs.Parts.{count_in, entry_in, summary_parts, sum_in}
use Rattle.station_base.specs.Limits.{most_rows}
use Rattle.station_base.specs.Fields.{field_count}

-- each byte is 0
abbrev pub BytesAreBlank : List ℕ → Type 0
BytesAreBlank bytes = All (λ byte. byte ≡ 0) bytes

-- an entry with a count names stamps and is within the bounds of so many rows, and one without is all 0
pub record IsEntry (rows : ℕ) (entry : List ℕ) : Type 0 where
  pub blank : count_in entry ≡ 0 → BytesAreBlank entry
  pub sum : count_in entry ≢ 0 → IsSomeAnd (sum_in entry) (IsSumOf rows)

-- so many rows are within bounds, each field has an entry, and what stands past the last field is all 0
pub record AreParts (rows : ℕ) (parts : List ℕ) : Type 0 where
  pub few : rows ≤ most_rows
  pub entries : (field : ℕ) → field < field_count → IsEntry rows (entry_in field parts)
  pub past : BytesAreBlank (drop 1628 parts)

-- the summary is one of so many rows within bounds, and is stored as these parts
pub record IsStoredAs (rows : ℕ) (parts : List ℕ) (s : DaySummary) : Type 0 where
  pub count : s.rows ≡ rows
  pub bounds : IsInBounds s
  pub bytes : summary_parts s ≡ parts
