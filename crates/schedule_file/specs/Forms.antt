-- The forms of a schedule's lines, each with its first word.
use Rattle.std.specs.Prelude.{ℕ, ℤ, ◌≤◌, Bool, true, false, not, if◌then◌else◌, List, [], ◌∷◌, map, replicate}
use Rattle.std.specs.Prelude.{slice_index_or, slice_set, Some, None, Result, Ok, Err, option_map, codes}
use Rattle.std.specs.declared.option.Option.{Option}
use Rattle.std.specs.Str.{bytes_eq}
use Rattle.station_base.specs.Fields.{field_named, field_count}
use Rattle.archive_record.specs.Record.{unmeasured}
use Rattle.archive_record.specs.Table.{places}
use Rattle.numerals.specs.Then.{◌>>=◌, only_if}
use Rattle.schedule_file.specs.declared.schedule.form.Form.{Form}
use Rattle.schedule_file.specs.declared.schedule.form.Form.TheVariants.{Due, Run, Idle, Open, Round}
use Rattle.schedule_file.specs.declared.schedule.form.Form.TheVariants.{Host, Reply, Late, Mid, Stop}
use Rattle.schedule_file.specs.declared.schedule.form.Told.{Told}
use Rattle.schedule_file.specs.Words.{number_in_word, schedule_number_within, count_in_word, Named}
use Rattle.schedule_file.specs.Words.{named_in, date_in_word, clock_of, minute_at, fate_of}

-- no field is named
abbrev pub none_taken : List Bool
none_taken = replicate field_count false

-- a field that is not named has no value, or 0 where no mark tells that
abbrev pub no_values : List (Option ℤ)
no_values = map (λ place. unmeasured place.mark) places

-- each word names a value
abbrev pub all_named : List (List ℕ) → Option (List Named)
all_named [] = Some []
all_named (word ∷ words) = do
  first ← named_in word
  others ← all_named words
  Some (first ∷ others)

-- the values with those that are named, unless a name is no field's or was taken before
abbrev pub with_named : List Named → List Bool → List (Option ℤ) → Option (List (Option ℤ))
with_named [] taken values = Some values
with_named (named ∷ others) taken values = do
  field ← field_named named.name
  free ← only_if (not (slice_index_or taken field true)) field
  with_named others (slice_set taken free true) (slice_set values free (Some named.value))

-- [NAME=VALUE ..]
unfoldable pub named_values_in : List (List ℕ) → Option (Option (List (Option ℤ)))
named_values_in words = do
  named ← all_named words
  Some (with_named named none_taken no_values)

-- DATE TIME [NAME=VALUE ..]
unfoldable pub told_in_words : List ℕ → List ℕ → List (List ℕ) → Option Told
told_in_words date time words = do
  d ← date_in_word date
  t ← clock_of time
  values ← named_values_in words
  Some (record { stamp = minute_at d t; values = values })

-- `due DATE TIME [NAME=VALUE ..]`
abbrev pub due_form : List (List ℕ) → Option Form
due_form (date ∷ time ∷ words) = do
  record_told ← told_in_words date time words
  Some (Due record_told)
due_form words = None

-- `run DATE TIME COUNT [NAME=VALUE ..]`
abbrev pub run_in : List (List ℕ) → Option Form
run_in (date ∷ time ∷ count ∷ words) = do
  n ← count_in_word count
  first ← told_in_words date time words
  Some (Run first n)
run_in words = None

-- `idle N`
abbrev pub idle_in : List (List ℕ) → Option Form
idle_in (ticks ∷ []) = do
  n ← schedule_number_within 1 100 ticks
  Some (Idle n)
idle_in words = None

-- `open`
abbrev pub open_in : List (List ℕ) → Option Form
open_in [] = Some Open
open_in (word ∷ words) = None

-- `round`
abbrev pub round_in : List (List ℕ) → Option Form
round_in [] = Some Round
round_in (word ∷ words) = None

-- `host D FATE`
abbrev pub host_in : List (List ℕ) → Option Form
host_in (number ∷ words) = do
  n ← count_in_word number
  fate ← fate_of words
  Some (Host n fate)
host_in [] = None

-- `K P` behind `reply D late`
abbrev pub late_form : ℕ → List (List ℕ) → Option Form
late_form number (waits ∷ place ∷ []) = do
  k ← number_in_word waits
  p ← number_in_word place
  Some (Late number k p)
late_form number words = None

-- `late K P`, or a FATE
abbrev pub answer_in : ℕ → List (List ℕ) → Option Form
answer_in number [] = None
answer_in number (word ∷ words) =
    if bytes_eq word (codes "late") then late_form number words else option_map (Reply number) (fate_of (word ∷ words))

-- `reply D FATE` and `reply D late K P`
abbrev pub reply_in : List (List ℕ) → Option Form
reply_in (number ∷ words) = do
  n ← count_in_word number
  answer_in n words
reply_in [] = None

-- `mid D DATE TIME [NAME=VALUE ..]`
abbrev pub mid_in : List (List ℕ) → Option Form
mid_in (number ∷ date ∷ time ∷ words) = do
  n ← count_in_word number
  told ← told_in_words date time words
  Some (Mid n told)
mid_in words = None

-- `stop K PICK`
abbrev pub stop_in : List (List ℕ) → Option Form
stop_in (change ∷ pick ∷ []) = do
  k ← count_in_word change
  p ← number_in_word pick
  Some (Stop (record { change = k; pick = p }))
stop_in words = None

-- the numbers of a form are in their ranges
abbrev pub IsInRanges : Form → Type 0
IsInRanges (Due told) = Unit {0}
IsInRanges (Run first count) = (1 ≤ count) × (count ≤ 9999999)
IsInRanges (Idle ticks) = Unit {0}
IsInRanges Open = Unit {0}
IsInRanges Round = Unit {0}
IsInRanges (Host number fate) = 1 ≤ number
IsInRanges (Reply number fate) = 1 ≤ number
IsInRanges (Late number waits place) = 1 ≤ number
IsInRanges (Mid number told) = 1 ≤ number
IsInRanges (Stop stop) = Unit {0}

-- A first word, and how the words behind it are read.
pub record FormEntry : Type 0 where
  pub word : List ℕ
  pub form : List (List ℕ) → Option Form

-- the form that lines with this first word have
abbrev pub form_entry : List ℕ → (List (List ℕ) → Option Form) → FormEntry
form_entry word form = record { word = word; form = form }

-- the table of lines
abbrev pub entries : List FormEntry
entries =
    form_entry (codes "due") due_form
    ∷ form_entry (codes "run") run_in
    ∷ form_entry (codes "idle") idle_in
    ∷ form_entry (codes "open") open_in
    ∷ form_entry (codes "round") round_in
    ∷ form_entry (codes "host") host_in
    ∷ form_entry (codes "reply") reply_in
    ∷ form_entry (codes "mid") mid_in
    ∷ form_entry (codes "stop") stop_in
    ∷ []

-- a line of wrong spelling has a fault of kind 4
abbrev pub or_misspelled : Option Form → Result Form ℕ
or_misspelled None = Err 4
or_misspelled (Some form) = Ok form

-- a first word that the table lacks is a fault of kind 3
abbrev pub form_by : List FormEntry → List ℕ → List (List ℕ) → Result Form ℕ
form_by [] word words = Err 3
form_by (e ∷ es) word words = if bytes_eq word e.word then or_misspelled (e.form words) else form_by es word words

-- the form of a line of these words
unfoldable pub form_of : List (List ℕ) → Result Form ℕ
form_of [] = Err 3
form_of (word ∷ words) = form_by entries word words
