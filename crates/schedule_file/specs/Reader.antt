-- What the code's reader has read, and how it answers.
use Rattle.std.specs.Prelude.{ℕ, ◌≡◌, Result, Ok, Err}
use Rattle.schedule_file.specs.declared.schedule.reader.Reader.{Reader}
use Rattle.schedule_file.specs.declared.schedule.refusal.Refusal.{Refusal}
use Rattle.schedule_file.specs.declared.schedule.refusal.Refusal.TheVariants.{Kind, OutOfMemory}
use Rattle.schedule_file.specs.Steps.{Said, steps_seen, details_seen}

-- what a reader stands for
abbrev pub said_by : Reader → Said
said_by r = record {
  before = steps_seen r.period r.before.items;
  turn = r.turn;
  details = details_seen r.period r.fates;
  stop = r.stop;
  since = steps_seen r.period r.since.items;
  newest = r.newest;
  records = r.records;
  turns = r.turns;
}

-- a reader that says this afterwards answered so; want of memory may come at any time
abbrev pub ReaderAnswers : {A : Type 0} → Result Said ℕ → Result A Refusal → Said → Type 0
ReaderAnswers outcome (Ok x) said = outcome ≡ Ok said
ReaderAnswers outcome (Err (Kind kind)) said = outcome ≡ Err kind
ReaderAnswers outcome (Err OutOfMemory) said = Unit {0}
