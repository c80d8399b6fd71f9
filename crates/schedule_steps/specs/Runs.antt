-- The records of a `run` step.
use Rattle.std.specs.Prelude.{◌≡◌, ℕ, zero, suc, ◌+◌, ◌-◌, ◌*◌, ◌≤◌, List, [], ◌∷◌}
use Rattle.std.specs.Option.{IsSomeAnd, unwrap_or}
use Rattle.station_base.specs.CivilMinute.{minute_of, last_minute}
use Rattle.station_base.specs.declared.row.Row.{Row}
use Rattle.archive_record.specs.declared.record_read.RecordRead.TheVariants.{Row as ReadRow}
use Rattle.archive_record.specs.MovedOn.{moved_on}
use Rattle.archive_record.specs.Reading.{reading, stamp_in}

-- the next record of a `run` step: this one with its stamp moved on by a period, or where it cannot be, as it is
abbrev pub next_record : ℕ → List ℕ → List ℕ
next_record period rec = unwrap_or (moved_on period rec) rec

-- so many records, each a period after the one before, with the values of the first
abbrev pub run_records : ℕ → List ℕ → ℕ → List (List ℕ)
run_records period first zero = []
run_records period first (suc count) = first ∷ run_records period (next_record period first) count

-- each of so many records, the first of which is this, has a stamp
abbrev pub IsRun : ℕ → List ℕ → ℕ → Type 0
IsRun period first count =
    IsSomeAnd (stamp_in first) (λ stamp. minute_of stamp + (count - 1) * period ≤ minute_of last_minute)

-- The bytes read as the row of the record at this place of a `run` step. Its stamp comes so many periods after the
-- first one, and the rest is the same.
pub record ReadsLater (period place : ℕ) (first : Row) (rec : List ℕ) : Type 0 where
  pub row : Row
  pub read : reading rec period ≡ ReadRow row
  pub minute : minute_of row.stamp ≡ minute_of first.stamp + place * period
  pub interval : row.interval ≡ first.interval
  pub values : row.values ≡ first.values
  pub limited : row.limited ≡ first.limited
