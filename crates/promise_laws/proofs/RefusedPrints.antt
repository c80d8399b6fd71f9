-- No item that holds prints a row twice or leaves one out, and each number of a day is that of its rows.
use Rattle.std.proofs.Common.{◌≡◌, inl, inr, ℕ, ◌<◌, ◌+◌, ◌-◌, Bool, true, false, List, ◌++◌, length, drop, refl, sym, ap, ◌∙◌, arith}
use Rattle.std.specs.Prelude.{IsSomeAnd}
use Rattle.std.specs.List.{Contains}
use Rattle.std.proofs.lemmas.List.{length-append, length-drop}
use Rattle.std.proofs.lemmas.List.Elements.{All-contains}
use Rattle.station_base.specs.declared.row.Row.{Row}
use Rattle.settings_file.specs.StationSettings.{StationSettings}
use Rattle.weather_reports.specs.Recomputed.{AreDayLines, DayLine, IsRecomputed}
use Rattle.replay_laws.specs.Kept.{Past, ItemHolds, HoldsRound}
use Rattle.replay_laws.specs.Replay.{Item, Rounded, is_stop}
use Rattle.promise_laws.specs.Printing.{Printed, printed_at, printed_unless, PrintsRowTwice, LeavesRowOut, HasWrongNumber}

-- what was printed before and by an item are the rows
abbrev PrintsAll : List Row → Printed → Type 0
PrintsAll written printed = written ++ drop printed.passed printed.rows ≡ printed.rows

module _ (settings : StationSettings) (records : List (List ℕ)) where
  round_prints : (past : Past) (round : Rounded) (has : Printed → Type 0) (stopped : Bool) → is_stop round.end ≡ stopped
      → IsSomeAnd (printed_unless stopped round.rows round.written) has → HoldsRound settings records past round
      → (printed : Printed) × has printed × PrintsAll past.written printed
  round_prints past round has true is it h = absurd it
  round_prints past round has false is it h = (record { rows = round.rows; passed = round.written }, it, h.prints is)

  prints : (past : Past) (item : Item) (has : Printed → Type 0) → IsSomeAnd (printed_at item) has → ItemHolds settings records past item
      → (printed : Printed) × has printed × PrintsAll past.written printed
  prints past (Item.Opened rows n) has it h = (record { rows = rows; passed = n }, it, h.prints)
  prints past (Item.OpenStopped change rows) has it h = absurd it
  prints past (Item.Ran round) has it h = round_prints past round has (is_stop round.end) refl it h
  prints past (Item.Unsaid number which) has it h = absurd it
  prints past (Item.Ended rows) has it h = absurd it

  lengths : (written : List Row) (printed : Printed) → PrintsAll written printed
      → length written + (length printed.rows - printed.passed) ≡ length printed.rows
  lengths written printed all =
      ap (λ (n : ℕ). length written + n) (sym (length-drop printed.passed printed.rows))
      ∙ sym (length-append written (drop printed.passed printed.rows)) ∙ ap length all

  pub none_printed_twice : (past : Past) (item : Item) → PrintsRowTwice past item → ItemHolds settings records past item → ⊥
  none_printed_twice past item twice h =
      let (printed, fewer, all) = prints past item (λ printed. printed.passed < length past.written) twice h in
      omega (arith, fewer, lengths past.written printed all)

  pub none_left_out : (past : Past) (item : Item) → LeavesRowOut past item → ItemHolds settings records past item → ⊥
  none_left_out past item out h =
      let (printed, (more, longer), all) =
      prints past item (λ printed. (length past.written < printed.passed) × (length past.written < length printed.rows)) out h in
      omega (arith, more, longer, lengths past.written printed all)

pub right_numbers : (rows : List Row) (text : List ℕ) (are : AreDayLines rows text) (line : DayLine) → Contains are.lines line → HasWrongNumber rows line → ⊥
right_numbers rows text are line there wrong = each wrong
  where
    right : IsRecomputed rows line
    right = All-contains (IsRecomputed rows) are.lines line are.recomputed there

    each : HasWrongNumber rows line → ⊥
    each (inl other) = other right.sum
    each (inr (inl other)) = other right.count
    each (inr (inr (inl other))) = other right.wsum
    each (inr (inr (inr other))) = other right.sumtime
