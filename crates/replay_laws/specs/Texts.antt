-- What is written of a run.
use Rattle.std.specs.Prelude.{ℕ, Bool, true, false, List, [], ◌∷◌, ◌++◌, decimal, length, codes}
use Rattle.station_base.specs.declared.row.Row.{Row}
use Rattle.packed_rows.specs.Days.{days_of}
use Rattle.weather_reports.specs.Report.{all_day_lines, later_lines}
use Rattle.weather_reports.specs.Reported as reports
use Rattle.station_sim.specs.declared.unseen.Unseen.{Unseen}
use Rattle.station_session.specs.Attempts.{page_count, skip_count}
use Rattle.replay_laws.specs.Round.{Ending, made_attempts}
use Rattle.replay_laws.specs.Replay.{Rounded, Item}

-- the lines of the rows from a number on
abbrev pub rows_text : ℕ → List Row → List ℕ
rows_text n rows = reports.text_of_lines (later_lines n rows)

-- the lines of all days
abbrev pub day_lines_text : List Row → List ℕ
day_lines_text rows = reports.text_of_lines (all_day_lines rows)

-- ` NAME NUMBER`
abbrev pub named_number : List ℕ → ℕ → List ℕ
named_number name n = name ++ decimal n

-- `open rows N`
abbrev pub open_line : ℕ → List ℕ
open_line n = named_number (codes "open rows ") n ++ codes "\n"

-- `open stop K`
abbrev pub open_stop_line : ℕ → List ℕ
open_stop_line k = named_number (codes "open stop ") k ++ codes "\n"

-- the word of how a round ended
abbrev pub ending_text : Ending → List ℕ
ending_text Ending.Ok = codes "ok"
ending_text Ending.GaveUp = codes "gaveup"
ending_text Ending.Full = codes "full"
ending_text (Ending.Stopped k) = named_number (codes "stop ") k

-- how many rows there are, unless the round was stopped
abbrev pub rows_counted : Ending → ℕ → List ℕ
rows_counted (Ending.Stopped k) n = []
rows_counted other n = named_number (codes " rows ") n

-- `round R END attempts A pages P skipped S harmed H acked M`, and then ` rows N` unless it was stopped
abbrev pub round_line : Rounded → List ℕ
round_line x =
    named_number (codes "round ") x.number ++ codes " " ++ ending_text x.end
    ++ named_number (codes " attempts ") (length x.tried)
    ++ named_number (codes " pages ") (page_count (made_attempts x.tried))
    ++ named_number (codes " skipped ") (skip_count (made_attempts x.tried)) ++ named_number (codes " harmed ") x.harmed
    ++ named_number (codes " acked ") (length x.kept) ++ rows_counted x.end (length x.rows) ++ codes "\n"

-- the lines of the rows not yet written, unless the round was stopped
abbrev pub rows_text_behind : Ending → Rounded → List ℕ
rows_text_behind (Ending.Stopped k) x = []
rows_text_behind other x = rows_text x.written x.rows

-- whose message an unseen delivery was
abbrev pub side_text : Bool → List ℕ
side_text true = codes " host "
side_text false = codes " reply "

-- `unseen round R host D`, or `reply D`
abbrev pub unseen_line : ℕ → Unseen → List ℕ
unseen_line n u = named_number (codes "unseen round ") n ++ named_number (side_text u.from_host) u.number ++ codes "\n"

-- `end rows N days D`
abbrev pub end_line : ℕ → ℕ → List ℕ
end_line n days = named_number (codes "end rows ") n ++ named_number (codes " days ") days ++ codes "\n"

-- the text of an item
unfoldable pub item_text : Item → List ℕ
item_text (Item.Opened rows n) = open_line (length rows) ++ rows_text n rows
item_text (Item.OpenStopped k rows) = open_stop_line k
item_text (Item.Ran x) = round_line x ++ rows_text_behind x.end x
item_text (Item.Unsaid n u) = unseen_line n u
item_text (Item.Ended rows) = day_lines_text rows ++ end_line (length rows) (length (days_of rows))

-- the texts of items, one behind another
abbrev pub text : List Item → List ℕ
text [] = []
text (i ∷ is) = item_text i ++ text is
