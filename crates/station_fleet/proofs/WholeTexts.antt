-- The text of the items of a run is whole lines.
use Rattle.std.proofs.Common.{ℕ, ℤ, ◌≡◌, ◌+◌, List, [], ◌∷◌, ◌++◌, length, map, codes, Some, None, refl, ap, ◌∙◌}
use Rattle.std.specs.Prelude.{drop, flat_map}
use Rattle.std.specs.declared.option.Option.{Option}
use Rattle.station_base.specs.DayText.{day_text}
use Rattle.station_base.specs.Fields.{name_of}
use Rattle.station_base.specs.NumberText.{number_text}
use Rattle.station_base.specs.RowLine.{row_line, values_text}
use Rattle.station_base.specs.Stamp.{stamp_text}
use Rattle.station_base.specs.declared.row.Row.{Row}
use Rattle.fleet.specs.declared.pen.Pen.{Pen}
use Rattle.fleet.specs.declared.pen.Pen.TheVariants.{AtStart}
use Rattle.fleet.specs.Lines.{AreLines, pen_after}
use Rattle.fleet.specs.PenLaws.{pen_append}
use Rattle.daily_summary.specs.declared.field_sum.FieldSum.{FieldSum}
use Rattle.daily_summary.specs.Summary.{rows_of_day, summary_of}
use Rattle.packed_rows.specs.Days.{days_of}
use Rattle.weather_reports.specs.Line.{field_line, field_lines_from, sum_line, sum_text}
use Rattle.weather_reports.specs.Report.{all_day_lines, day_lines, later_lines}
use Rattle.station_session.specs.Attempts.{page_count, skip_count}
use Rattle.station_sim.specs.declared.unseen.Unseen.{Unseen}
use Rattle.replay_laws.specs.Round.{Ending, made_attempts}
use Rattle.replay_laws.specs.Replay.{Item, Rounded}
use Rattle.replay_laws.specs.Texts.{named_number, day_lines_text, end_line, ending_text, open_line, open_stop_line, round_line, rows_text_behind, rows_counted, rows_text, side_text, text, item_text, unseen_line}

-- Behind these bytes a line begins, wherever the first of them stands.
record Closes (bytes : List ℕ) : Type 0 where
  ends : (pen : Pen) → pen_after pen bytes ≡ AtStart

closes_behind : (a b : List ℕ) → Closes b → Closes (a ++ b)
closes_behind a b closes =
    record { ends = λ pen. pen_append pen a b ∙ closes.ends (pen_after pen a) }

-- a line of these pieces, the first of which stands before the others
abbrev line_with : List ℕ → List (List ℕ) → List ℕ
line_with front [] = front ++ codes "\n"
line_with front (piece ∷ pieces) = line_with (front ++ piece) pieces

line_closes : (front : List ℕ) (pieces : List (List ℕ)) → Closes (line_with front pieces)
line_closes front [] = closes_behind front (codes "\n") (record { ends = λ pen. refl })
line_closes front (piece ∷ pieces) = line_closes (front ++ piece) pieces

-- whole lines, and whole lines behind them
lines_behind : (a b : List ℕ) → AreLines a → AreLines b → AreLines (a ++ b)
lines_behind a b first later = pen_append AtStart a b ∙ (ap (λ (pen : Pen). pen_after pen b) first ∙ later)

-- each of the lines ends
abbrev AllClose : List (List ℕ) → Type 0
AllClose [] = Unit {0}
AllClose (line ∷ lines) = Closes line × AllClose lines

all_close_append : (a b : List (List ℕ)) → AllClose a → AllClose b → AllClose (a ++ b)
all_close_append [] b one two = two
all_close_append (line ∷ a) b one two = (one.0, all_close_append a b one.1 two)

lines_are : (lines : List (List ℕ)) → AllClose lines → AreLines (flat_map (λ line. line) lines)
lines_are [] all = refl
lines_are (line ∷ lines) all =
    lines_behind line (flat_map (λ line. line) lines) (all.0.ends AtStart) (lines_are lines all.1)

row_closes : (row : Row) → Closes (row_line row)
unfolding row_line
row_closes row = line_closes (codes "row ") (stamp_text row.stamp ∷ codes " " ∷ number_text row.interval
    ∷ values_text row.limited 0 row.values ∷ [])

rows_close : (rows : List Row) → AllClose (map row_line rows)
rows_close [] = tt
rows_close (row ∷ rows) = (row_closes row, rows_close rows)

rows_whole : (n : ℕ) (rows : List Row) → AreLines (rows_text n rows)
rows_whole n rows = lines_are (later_lines n rows) (rows_close (drop n rows))

sum_closes : (head : List ℕ) (field : ℕ) (s : FieldSum) → Closes (sum_line head field s)
sum_closes head field s =
    line_closes head (codes " " ∷ name_of field ∷ codes " " ∷ sum_text s ∷ [])

one_closes : (head : List ℕ) (field : ℕ) (sum : Option FieldSum) → AllClose (field_line head field sum)
one_closes head field None = tt
one_closes head field (Some s) = (sum_closes head field s, tt)

sums_close : (head : List ℕ) (field : ℕ) (sums : List (Option FieldSum)) → AllClose (field_lines_from head field sums)
sums_close head field [] = tt
sums_close head field (sum ∷ sums) = all_close_append (field_line head field sum) (field_lines_from head (field + 1) sums)
    (one_closes head field sum) (sums_close head (field + 1) sums)

days_close : (rows : List Row) (days : List ℤ) → AllClose (flat_map (day_lines rows) days)
days_close rows [] = tt
days_close rows (day ∷ days) = all_close_append (day_lines rows day) (flat_map (day_lines rows) days)
    (sums_close (codes "day " ++ day_text day) 0 (summary_of (rows_of_day day rows)).fields) (days_close rows days)

days_whole : (rows : List Row) → AreLines (day_lines_text rows)
days_whole rows = lines_are (all_day_lines rows) (days_close rows (days_of rows))

open_closes : (n : ℕ) → Closes (open_line n)
open_closes n = line_closes (named_number (codes "open rows ") n) []

open_stop_closes : (k : ℕ) → Closes (open_stop_line k)
open_stop_closes k = line_closes (named_number (codes "open stop ") k) []

round_closes : (x : Rounded) → Closes (round_line x)
round_closes x = line_closes (named_number (codes "round ") x.number) (codes " " ∷ ending_text x.end
    ∷ named_number (codes " attempts ") (length x.tried) ∷ named_number (codes " pages ") (page_count (made_attempts x.tried))
    ∷ named_number (codes " skipped ") (skip_count (made_attempts x.tried)) ∷ named_number (codes " harmed ") x.harmed
    ∷ named_number (codes " acked ") (length x.kept) ∷ rows_counted x.end (length x.rows) ∷ [])

unseen_closes : (n : ℕ) (u : Unseen) → Closes (unseen_line n u)
unseen_closes n u =
    line_closes (named_number (codes "unseen round ") n) (named_number (side_text u.from_host) u.number ∷ [])

end_closes : (n days : ℕ) → Closes (end_line n days)
end_closes n days = line_closes (named_number (codes "end rows ") n) (named_number (codes " days ") days ∷ [])

behind_whole : (end : Ending) (x : Rounded) → AreLines (rows_text_behind end x)
behind_whole Ending.Ok x = rows_whole x.written x.rows
behind_whole Ending.GaveUp x = rows_whole x.written x.rows
behind_whole Ending.Full x = rows_whole x.written x.rows
behind_whole (Ending.Stopped k) x = refl

item_whole : (i : Item) → AreLines (item_text i)
unfolding item_text
item_whole (Item.Opened rows n) =
    lines_behind (open_line (length rows)) (rows_text n rows) ((open_closes (length rows)).ends AtStart) (rows_whole n rows)
item_whole (Item.OpenStopped k rows) = (open_stop_closes k).ends AtStart
item_whole (Item.Ran x) = lines_behind (round_line x) (rows_text_behind x.end x) ((round_closes x).ends AtStart) (behind_whole x.end x)
item_whole (Item.Unsaid n u) = (unseen_closes n u).ends AtStart
item_whole (Item.Ended rows) =
    lines_behind (day_lines_text rows) (end_line (length rows) (length (days_of rows))) (days_whole rows)
    ((end_closes (length rows) (length (days_of rows))).ends AtStart)

pub text_whole : (items : List Item) → AreLines (text items)
text_whole [] = refl
text_whole (i ∷ items) = lines_behind (item_text i) (text items) (item_whole i) (text_whole items)
