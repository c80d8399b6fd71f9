-- What a run does that makes one task of a console: its one connect, the talk of the task, and what is given of it.
use Rattle.std.specs.Prelude.{ℕ, ◌≡◌, List, ◌++◌, Some, codes, decimal}
use Rattle.std.specs.declared.result.Result.{Result}
use Rattle.command_words.specs.declared.task.Task.{Task}
use Rattle.command_words.specs.declared.task.Task.TheVariants.{Packets, ReadMemory, WriteMemory, ReadClock, SetClock}
use Rattle.command_words.specs.declared.task.Task.TheVariants.{SetPeriod, Kind}
use Rattle.console_tasks.specs.Exchange.{Exchange}
use Rattle.console_tasks.specs.TaskTalk.{DoesTask, HasEnd, TaskTalk}
use Rattle.console_tasks.specs.Tasks.{looping, reading_memory, writing_memory, asking_time, setting_time}
use Rattle.console_tasks.specs.Tasks.{setting_period, asking_kind}
use Rattle.console_tasks.specs.declared.end.TaskEnd.{TaskEnd}
use Rattle.console_tasks.specs.declared.end.TaskEnd.TheVariants as task_end
use Rattle.run_output.specs.Calls.{calls}
use Rattle.run_output.specs.Ended.{Lines, output_of}
use Rattle.run_output.specs.Output.{Output, link_fault, no_memory}
use Rattle.run_output.specs.Outside.{Meanings, over_link}
use Rattle.run_output.specs.Steps.{CommandStep, then}
use Rattle.run_output.specs.declared.outside.Outside.{Outside}
use Rattle.run_output.specs.declared.status.Status.TheVariants as ends
use Rattle.serial_link.specs.Traffic.{Traffic}
use Rattle.serial_link.specs.declared.link.Side.TheVariants.{Call}
use Rattle.serial_link.specs.declared.talk.TalkItem.{TalkItem}
use Rattle.station_base.specs.NumberText.{number_text}
use Rattle.commands.specs.TaskText.{task_text}

-- the exchanges of a task
abbrev pub exchanges_of : Task → List Exchange
exchanges_of (Packets count) = looping count
exchanges_of (ReadMemory at count) = reading_memory at count
exchanges_of (WriteMemory at bytes) = writing_memory at bytes.items
exchanges_of ReadClock = asking_time
exchanges_of (SetClock time) = setting_time time
exchanges_of (SetPeriod minutes) = setting_period minutes
exchanges_of Kind = asking_kind

-- the line of a byte that reads otherwise than it was written
abbrev pub difference_line : ℕ → ℕ → ℕ → List ℕ
difference_line at sent read =
    codes "task differs at " ++ number_text at ++ codes " sent " ++ number_text sent
    ++ codes " read " ++ number_text read ++ codes "\n"

-- a line that tells a trouble
abbrev pub trouble : List ℕ → Output
trouble line = record { text = line; status = ends.Trouble }

-- what is written at the end of a task, by what is written where it is done
abbrev pub output_at : List ℕ → TaskEnd → Output
output_at text task_end.Done = record { text = text; status = ends.Done }
output_at text task_end.Asleep = trouble (codes "task asleep\n")
output_at text (task_end.Refused byte) = trouble (codes "task refused " ++ number_text byte ++ codes "\n")
output_at text (task_end.Short count) = trouble (codes "task short " ++ decimal count ++ codes "\n")
output_at text task_end.BadCheck = trouble (codes "task bad check\n")
output_at text task_end.BadValue = trouble (codes "task bad value\n")
output_at text (task_end.Differs at sent read) = trouble (difference_line at sent read)
output_at text task_end.Flood = record { text = codes "flood\n"; status = ends.Flood }
output_at text task_end.LinkFault = link_fault
output_at text task_end.OutOfMemory = no_memory

-- The link gained the talk of a task that ended so, and where it is done these lines are what its answers give.
pub record TaskGives {L : Type 0} (traffic : Traffic L) (task : Task) (old : L) (end : TaskEnd) (lines : List ℕ)
    (new : L) : Type 0 where
  pub answers : List (List ℕ)
  pub talks : DoesTask traffic old (exchanges_of task) answers end new
  pub given : end ≡ task_end.Done → lines ≡ task_text task answers

-- What the link gained is the talk of the task, and what its answers give, or the one trouble that it shows, is given.
pub record makes_task {L : Type 0} (traffic : Traffic L) (task : Task) (old : L) (result : Result Lines Output)
    (new : L) : Type 0 where
  pub end : TaskEnd
  pub answers : List (List ℕ)
  pub talks : DoesTask traffic old (exchanges_of task) answers end new
  pub given : output_of result ≡ output_at (task_text task answers) end

-- The address is called, and then the task is made once.
abbrev pub calls_for : {F K L D : Type 0} → Meanings F K L D → List ℕ → Task → CommandStep (Outside F K L D) Lines
calls_for m address task =
    then (over_link (calls m.traffic Call address)) (λ _.
    over_link (makes_task m.traffic task))

-- What a link gained is told, and is the talk of the task that is done.
pub record ShowsDone {L : Type 0} (traffic : Traffic L) (asked : Task) (old new : L) : Type 0 where
  pub before : List TalkItem
  pub gained : List TalkItem
  pub told : traffic.talk old ≡ Some before
  pub grown : traffic.talk new ≡ Some (before ++ gained)
  pub done : HasEnd (TaskTalk (exchanges_of asked)) task_end.Done gained
