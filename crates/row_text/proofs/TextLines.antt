-- The lines of a text, one after another.
use Rattle.std.proofs.Common.{◌≡◌, ℕ, ◌+◌, ◌<◌, true, false, List, [], ◌∷◌, length, take, drop, Option, Some, Result, Ok, Err, refl, sym, ap, ◌∙◌, arith, inl, inr, ◌≢◌}
use Rattle.std.specs.List.{slice_split, position_or_len}
use Rattle.std.proofs.lemmas.Bool.{cases_lt}
use Rattle.std.proofs.lemmas.List.{take_all}
use Rattle.std.proofs.lemmas.List.Sums.{fails_before_first}
use Rattle.std.proofs.lemmas.List.Splits.{slice_split_none, slice_split_first, length-slice_split}
use Rattle.station_base.specs.declared.row.Row.{Row}
use Rattle.station_base.specs.CivilMinute.{CivilMinute}
use Rattle.station_base.specs.LastStamp.{exceeds}
use Rattle.row_text.proofs.Places.{place_within}
use Rattle.row_text.specs.declared.fault.RowFault.{RowFault}
use Rattle.row_text.specs.declared.bad_line.BadLine.{BadLine}
use Rattle.row_text.specs.declared.bad_line.LineFault.TheVariants.{NoRowLine, NotAfter, NotEnded}
use Rattle.row_text.specs.RowOfLine.{row_of_line}
use Rattle.row_text.specs.RowsOfText.{is_line_feed, bad_line, row_following, onto_row, not_ended, row_then, rows_of_parts, rows_behind}

-- an end that is not the text's is before that
pub feed_before : (text : List ℕ) (end : ℕ) → end ≡ position_or_len is_line_feed text → end ≢ length text → end < length text
feed_before text end feed other = omega (arith, place_within is_line_feed text)

-- a line and others
pub more_lines : (last : Option CivilMinute) (line : ℕ) (part : List ℕ) (parts : List (List ℕ)) → 0 < length parts
    → rows_of_parts last line (part ∷ parts) ≡ row_then (row_following last line (row_of_line part)) (λ row. rows_of_parts (Some row.stamp) (line + 1) parts)
unfolding rows_of_parts
more_lines last line part [] some = absurd (omega arith)
more_lines last line [] (next ∷ parts) some = refl
more_lines last line (byte ∷ part) (next ∷ parts) some = refl

last_line : (last : Option CivilMinute) (line : ℕ) (part : List ℕ) → 0 < length part → rows_of_parts last line (part ∷ []) ≡ not_ended line (row_following last line (row_of_line part))
unfolding rows_of_parts
last_line last line [] some = absurd (omega arith)
last_line last line (byte ∷ part) some = refl

module _ (last : Option CivilMinute) (line end : ℕ) (text : List ℕ) (some : 0 < length text) (feed : end ≡ position_or_len is_line_feed text) where
  -- the last line has no line feed
  opened : end ≡ length text → rows_behind last line text ≡ not_ended line (row_following last line (row_of_line (take end text)))
  opened all =
      let whole : take end text ≡ text = take_all end text (omega arith) in
      let parts : slice_split is_line_feed text ≡ text ∷ [] =
      slice_split_none is_line_feed text (λ k d within. fails_before_first is_line_feed text k d (omega arith)) in
      ap (rows_of_parts last line) parts
      ∙ last_line last line text some
      ∙ ap (λ (part : List ℕ). not_ended line (row_following last line (row_of_line part))) (sym whole)

  -- any other line has one
  closed : end < length text → rows_behind last line text ≡ row_then (row_following last line (row_of_line (take end text))) (λ row. rows_behind (Some row.stamp) (line + 1) (drop (end + 1) text))
  closed within =
      let parts : slice_split is_line_feed text ≡ take (position_or_len is_line_feed text) text ∷ slice_split is_line_feed (drop (position_or_len is_line_feed text + 1) text) =
      slice_split_first is_line_feed text 0 (omega arith) in
      let here : take (position_or_len is_line_feed text) text ∷ slice_split is_line_feed (drop (position_or_len is_line_feed text + 1) text) ≡ take end text ∷ slice_split is_line_feed (drop (end + 1) text) =
      ap (λ (n : ℕ). take n text ∷ slice_split is_line_feed (drop (n + 1) text)) (sym feed) in
      ap (rows_of_parts last line) (parts ∙ here)
      ∙ more_lines last line (take end text) (slice_split is_line_feed (drop (end + 1) text)) (omega (arith, length-slice_split is_line_feed (drop (end + 1) text)))

  -- a line with a fault
  pub line_err : (fault : BadLine) → row_following last line (row_of_line (take end text)) ≡ Err fault → rows_behind last line text ≡ Err fault
  line_err fault is =
      elim (cases_lt end (length text)) [
        | inl within ↦
            closed within
            ∙ ap (λ (row : Result Row BadLine). row_then row (λ r. rows_behind (Some r.stamp) (line + 1) (drop (end + 1) text))) is
        | inr beyond ↦
            opened (omega (arith, place_within is_line_feed text)) ∙ ap (λ (row : Result Row BadLine). not_ended line row) is
      ]

  -- a row whose line is not ended
  pub line_open : (row : Row) → row_following last line (row_of_line (take end text)) ≡ Ok row → end ≡ length text → rows_behind last line text ≡ bad_line line NotEnded
  line_open row is all = opened all ∙ ap (λ (r : Result Row BadLine). not_ended line r) is

  -- a row, and those behind it
  pub line_ok : (row : Row) → row_following last line (row_of_line (take end text)) ≡ Ok row → end < length text
      → rows_behind last line text ≡ onto_row row (rows_behind (Some row.stamp) (line + 1) (drop (end + 1) text))
  line_ok row is within =
      closed within ∙ ap (λ (r : Result Row BadLine). row_then r (λ x. rows_behind (Some x.stamp) (line + 1) (drop (end + 1) text))) is

-- what is read of a line, by its row and its order
pub after_err : (last : Option CivilMinute) (line : ℕ) (read : Result Row RowFault) (fault : RowFault) → read ≡ Err fault → row_following last line read ≡ bad_line line (NoRowLine fault)
after_err last line read fault is = rw is refl

pub after_not : (last : Option CivilMinute) (line : ℕ) (read : Result Row RowFault) (row : Row) → read ≡ Ok row → exceeds last (Some row.stamp) ≡ false → row_following last line read ≡ bad_line line NotAfter
after_not last line read row is order = rw (is, order) refl

pub after_ok : (last : Option CivilMinute) (line : ℕ) (read : Result Row RowFault) (row : Row) → read ≡ Ok row → exceeds last (Some row.stamp) ≡ true → row_following last line read ≡ Ok row
after_ok last line read row is order = rw (is, order) refl

-- no line is left
pub no_lines : (last : Option CivilMinute) (line : ℕ) (text : List ℕ) → length text ≡ 0 → rows_behind last line text ≡ Ok []
unfolding rows_of_parts
no_lines last line [] none = refl
no_lines last line (byte ∷ text) none = absurd (omega (arith, none))
