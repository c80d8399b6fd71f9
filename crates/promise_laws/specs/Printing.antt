-- What no run may print: a row twice, a row left out, and a number of a day that its rows do not give.
use Rattle.std.specs.Prelude.{◌≡◌, ◌≢◌, ◌⊎◌, ℕ, ◌<◌, Bool, true, false, List, length, IsSomeAnd, Some, None}
use Rattle.std.specs.declared.option.Option.{Option}
use Rattle.station_base.specs.declared.row.Row.{Row}
use Rattle.daily_summary.specs.Readings.{readings, readings_total, time, weighted}
use Rattle.daily_summary.specs.Summary.{rows_of_day}
use Rattle.weather_reports.specs.Recomputed.{DayLine}
use Rattle.replay_laws.specs.Kept.{Past}
use Rattle.replay_laws.specs.Replay.{Item, is_stop}

-- the rows of an archive, and how many of them an item passes over as it prints them
pub record Printed : Type 0 where
  pub rows : List Row
  pub passed : ℕ

-- what a round prints, by whether it was stopped: then it prints no row
abbrev pub printed_unless : Bool → List Row → ℕ → Option Printed
printed_unless true rows passed = None
printed_unless false rows passed = Some (record { rows = rows; passed = passed })

-- the rows that an item prints, if it prints any
abbrev pub printed_at : Item → Option Printed
printed_at (Item.Opened rows n) = Some (record { rows = rows; passed = n })
printed_at (Item.OpenStopped change rows) = None
printed_at (Item.Ran round) = printed_unless (is_stop round.end) round.rows round.written
printed_at (Item.Unsaid number which) = None
printed_at (Item.Ended rows) = None

-- it passes over fewer rows than were printed, and so prints one that was printed before
abbrev pub PrintsRowTwice : Past → Item → Type 0
PrintsRowTwice past item = IsSomeAnd (printed_at item) (λ printed. printed.passed < length past.written)

-- it passes over more rows than were printed, and so leaves one out
abbrev pub LeavesRowOut : Past → Item → Type 0
LeavesRowOut past item =
    IsSomeAnd (printed_at item) (λ printed. (length past.written < printed.passed)
    × (length past.written < length printed.rows))

-- the line of a day has a sum, a count, a weighted sum or a number of seconds that the day's rows do not give
abbrev pub HasWrongNumber : List Row → DayLine → Type 0
HasWrongNumber rows line =
    let given = readings line.field (rows_of_day line.day rows) in
    (line.told.sum ≢ readings_total given) ⊎ ((line.told.count ≢ length given)
    ⊎ ((line.told.wsum ≢ weighted given) ⊎ (line.told.sumtime ≢ time given)))
