-- What a schedule says: its steps, or the least fault of its first faulty line.
use Rattle.std.specs.Prelude.{ℕ, ◌+◌, ◌==◌, not, if◌then◌else◌, List, [], ◌∷◌, ◌++◌, Some, None, Result, Ok, Err}
use Rattle.std.specs.declared.option.Option.{Option}
use Rattle.schedule_file.specs.declared.schedule.form.Form.{Form}
use Rattle.schedule_file.specs.declared.schedule.form.Form.TheVariants.{Due, Run, Idle, Open, Round}
use Rattle.schedule_file.specs.declared.schedule.form.Form.TheVariants.{Host, Reply, Late, Mid, Stop}
use Rattle.schedule_file.specs.declared.schedule.turn.Turn.{Turn}
use Rattle.schedule_file.specs.declared.schedule.turn.Turn.TheVariants.{Opening, InRound}
use Rattle.schedule_file.specs.Pieces.{lines_of, words_of, is_silent, is_all_plain}
use Rattle.schedule_file.specs.Forms.{form_of}
use Rattle.schedule_file.specs.Steps.{ScheduleStep, DueStep, RunStep, IdleStep, Said, nothing_said}
use Rattle.schedule_file.specs.Steps.{no_details, steps_said, record_told, last_minute_of}
use Rattle.schedule_file.specs.Lists.{with_entry}
use Rattle.schedule_file.specs.Kinds.{kinds, first_applying}

-- a step more, behind the last `open` or `round`
abbrev pub with_step : Said → ScheduleStep → Said
with_step s step = record s { since = s.since ++ step ∷ [] }

-- an `open` or a `round` more
abbrev pub with_turn : Said → Turn → Said
with_turn s turn = record s {
  before = steps_said s;
  turn = turn;
  details = no_details;
  stop = None;
  since = [];
  turns = s.turns + 1;
}

-- what is said with a line of this form, which has no fault
abbrev pub said_with_form : ℕ → Said → Form → Said
said_with_form period s (Due told) = record s {
  since = s.since ++ DueStep (record_told period told) ∷ [];
  newest = last_minute_of period told.stamp 1;
  records = s.records + 1;
}
said_with_form period s (Run first count) = record s {
  since = s.since ++ RunStep (record_told period first) count ∷ [];
  newest = last_minute_of period first.stamp count;
  records = s.records + count;
}
said_with_form period s (Idle ticks) = record s { since = s.since ++ IdleStep ticks ∷ [] }
said_with_form period s Open = with_turn s Opening
said_with_form period s Round = with_turn s InRound
said_with_form period s
    (Host number fate) = record s { details = record s.details { host = with_entry s.details.host number fate } }
said_with_form period s (Reply number fate) = record s {
  details = record s.details { replies = with_entry s.details.replies number fate };
}
said_with_form period s (Late number waits place) = record s {
  details = record s.details { lates = with_entry s.details.lates number (record { waits = waits; place = place }) };
}
said_with_form period s (Mid number told) = record s {
  details = record s.details {
    mids = s.details.mids ++ record {
      number = number;
      record_read = record_told period told;
    } ∷ [];
  };
  newest = last_minute_of period told.stamp 1;
  records = s.records + 1;
}
said_with_form period s (Stop stop) = record s { stop = Some stop }

-- what is said, or the kind of the fault
abbrev pub said_or : Option ℕ → Said → Result Said ℕ
said_or None s = Ok s
said_or (Some kind) s = Err kind

-- a line of this form, after what was said
abbrev pub accept : ℕ → Said → Form → Result Said ℕ
accept period s form = said_or (first_applying (kinds period s form)) (said_with_form period s form)

-- a line of some form, or of none
abbrev pub accept_read : ℕ → Said → Result Form ℕ → Result Said ℕ
accept_read period s (Err kind) = Err kind
accept_read period s (Ok form) = accept period s form

-- a line of this number
unfoldable pub read_schedule_line : ℕ → ℕ → List ℕ → Said → Result Said ℕ
read_schedule_line period number line s =
    if number == 10001 then Err 1
    else if is_silent line then Ok s
    else if not (is_all_plain line) then Err 2
    else accept_read period s (form_of (words_of line))

-- A faulty line, and the kind of its fault.
pub record LineFault : Type 0 where
  pub line : ℕ
  pub kind : ℕ

-- what comes after a line of this number
abbrev pub next_line : ℕ → Result Said ℕ → (Said → Result Said LineFault) → Result Said LineFault
next_line number (Err kind) read_rest = Err (record { line = number; kind = kind })
next_line number (Ok s) read_rest = read_rest s

-- the lines from a number on, up to the first faulty one
abbrev pub read_lines : ℕ → ℕ → List (List ℕ) → Said → Result Said LineFault
read_lines period number [] s = Ok s
read_lines period number (line ∷ lines) s =
    next_line number (read_schedule_line period number line s) (λ said. read_lines period (number + 1) lines said)

-- what all lines of a text say
unfoldable pub said_by_text : List ℕ → ℕ → Result Said LineFault
said_by_text bytes period = read_lines period 1 (lines_of bytes) nothing_said
