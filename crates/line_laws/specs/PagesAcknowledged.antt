-- The pages of a dump that a host acknowledges, by what it says alone.
use Rattle.std.specs.Prelude.{ℕ, ◌-◌, ◌*◌, max, bytes_eq, if◌then◌else◌, true, List, [], ◌∷◌, ◌++◌, Some, None}
use Rattle.std.specs.declared.option.Option.{Option}
use Rattle.vantage_frames.specs.Ack.{ack}
use Rattle.dmpaft_pump.specs.Batch.{page_slots}
use Rattle.serial_link.specs.declared.talk.TalkItem.{TalkItem}
use Rattle.serial_link.specs.declared.talk.TalkItem.TheVariants.{Said}
use Rattle.console_ring.specs.declared.plan.Plan.{Plan}
use Rattle.console_model.specs.Console.{ConsoleState}
use Rattle.console_model.specs.Console.ConsoleState.{Dump}
use Rattle.schedule_file.specs.Fates.{FatesByNumber}
use Rattle.station_sim.specs.Line.{Line}
use Rattle.station_sim.specs.Talk.{line_step}

-- how many pages of the dump under way were sent, from the first on
abbrev pub pages_sent : ConsoleState → ℕ
pages_sent (Dump plan sent) = sent
pages_sent other = 0

-- A message that is 0x06 acknowledges the pages that were sent. It counts as it is said, whatever becomes of it on the
-- line.
abbrev pub acknowledged_by : TalkItem → Line → ℕ
acknowledged_by (Said b true) w = if bytes_eq (w.begun ++ b ∷ []) ack then pages_sent w.console.state else 0
acknowledged_by other w = 0

-- what is counted from a line on, if there is one
abbrev pub counted_from : Option Line → (Line → ℕ) → ℕ
counted_from None count = 0
counted_from (Some w) count = count w

-- how many pages of a dump are acknowledged in a talk from a line on: the most that were sent as 0x06 was said
abbrev pub pages_acknowledged : FatesByNumber → List TalkItem → Line → ℕ
pages_acknowledged f [] w = 0
pages_acknowledged f (i ∷ t) w = max (acknowledged_by i w) (counted_from (line_step f i w) (pages_acknowledged f t))

-- so many records at most stand on the first pages of a dump, from the place in its header on
abbrev pub records_on_pages : ℕ → Plan → ℕ
records_on_pages pages plan = page_slots * pages - plan.place
