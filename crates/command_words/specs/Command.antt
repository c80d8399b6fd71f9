-- What the words of the command line ask for.
use Rattle.std.specs.Prelude.{ℕ, ◌-◌, ◌^◌, ◌&&◌, if◌then◌else◌, List, [], ◌∷◌, map, bytes_eq, codes, length, nat_le}
use Rattle.std.specs.Prelude.{Some, None, option_map}
use Rattle.std.specs.Borrow.{Bor}
use Rattle.std.specs.declared.option.Option.{Option}
use Rattle.command_words.specs.Numbers.{command_number_within, year_within}
use Rattle.command_words.specs.ReportWords.{wanted_in}
use Rattle.command_words.specs.TaskWords.{task_of}
use Rattle.numerals.specs.Then.{◌>>=◌, only_if}
use Rattle.command_words.specs.declared.command.Command.{Command}
use Rattle.command_words.specs.declared.command.Command.TheVariants as read
use Rattle.command_words.specs.declared.task.Task.{Task}
use Rattle.command_words.specs.declared.wanted.Wanted.{Wanted}
use Rattle.command_words.specs.declared.words.ConsoleWords.{ConsoleWords}
use Rattle.command_words.specs.declared.words.FleetWords.{FleetWords}
use Rattle.command_words.specs.declared.words.StationWords.{StationWords}

-- what the words of `station` and of `stay` name
pub record StationNames : Type 0 where
  pub settings : List ℕ
  pub archive : List ℕ
  pub address : List ℕ

-- what the words of `console` name, and for how many turns it is served
pub record ConsoleNames : Type 0 where
  pub settings : List ℕ
  pub schedule : List ℕ
  pub address : List ℕ
  pub turns : ℕ

-- what the words of `fleet` name, and the number from which its turns are drawn
pub record FleetNames : Type 0 where
  pub settings : List ℕ
  pub seed : ℕ
  pub schedules : List (List ℕ)

-- a command, with the names that its words give
pub data CommandLine : Type 0 where
  pages : List ℕ → CommandLine
  corrected_pages : List ℕ → List ℕ → CommandLine
  soft : List ℕ → List ℕ → CommandLine
  task : List ℕ → Task → CommandLine
  report : List ℕ → Wanted → CommandLine
  climate : List ℕ → ℕ → CommandLine
  serve : List ℕ → List ℕ → ℕ → CommandLine
  replay : List ℕ → List ℕ → CommandLine
  copy : List ℕ → List ℕ → CommandLine
  import : List ℕ → List ℕ → CommandLine
  station : StationNames → CommandLine
  stay : StationNames → ℕ → ℕ → CommandLine
  console : ConsoleNames → CommandLine
  fleet : FleetNames → CommandLine
  make : ℕ → ℕ → CommandLine

-- the words, each as its bytes
abbrev pub texts : List (Bor (List ℕ)) → List (List ℕ)
texts words = map (λ word. word.now) words

-- `FILE` or `SETTINGS FILE`
abbrev pub pages_command_in : List (List ℕ) → Option CommandLine
pages_command_in (file ∷ []) = Some (pages file)
pages_command_in (settings ∷ file ∷ []) = Some (corrected_pages settings file)
pages_command_in words = None

-- `SETTINGS FILE`
abbrev pub soft_in : List (List ℕ) → Option CommandLine
soft_in (settings ∷ file ∷ []) = Some (soft settings file)
soft_in words = None

-- `ADDRESS` and a task
abbrev pub task_in : List (List ℕ) → Option CommandLine
task_in [] = None
task_in (address ∷ words) = option_map (task address) (task_of words)

-- `ARCHIVE KIND FIRST LAST`
abbrev pub report_in : List (List ℕ) → Option CommandLine
report_in (archive ∷ kind ∷ first ∷ last ∷ []) = option_map (report archive) (wanted_in kind first last)
report_in words = None

-- `ARCHIVE YEAR`, a year from 1999 to 2127 in four digits
abbrev pub climate_in : List (List ℕ) → Option CommandLine
climate_in (archive ∷ year ∷ []) = option_map (climate archive) (year_within 1999 2127 year)
climate_in words = None

-- `ARCHIVE ADDRESS TURNS`, with 1 to 1,000,000 turns
abbrev pub serve_in : List (List ℕ) → Option CommandLine
serve_in (archive ∷ address ∷ turns ∷ []) = option_map (serve archive address) (command_number_within 1 1000000 turns)
serve_in words = None

-- `SETTINGS SCHEDULE`
abbrev pub replay_in : List (List ℕ) → Option CommandLine
replay_in (settings ∷ schedule ∷ []) = Some (replay settings schedule)
replay_in words = None

-- `OLD NEW`, two names that differ
abbrev pub copy_in : List (List ℕ) → Option CommandLine
copy_in (from ∷ to ∷ []) = if bytes_eq from to then None else Some (copy from to)
copy_in words = None

-- `ROWS ARCHIVE`, two names that differ
abbrev pub import_in : List (List ℕ) → Option CommandLine
import_in (rows ∷ archive ∷ []) = if bytes_eq rows archive then None else Some (import rows archive)
import_in words = None

-- `SETTINGS ARCHIVE ADDRESS`
abbrev pub station_in : List (List ℕ) → Option CommandLine
station_in (settings ∷ archive ∷ address ∷ []) =
    Some (station (record { settings = settings; archive = archive; address = address }))
station_in words = None

-- `SETTINGS ARCHIVE ADDRESS ROUNDS WAITS`, with 1 to 1,000,000 rounds, and 0 to 1,000,000 waits between two of them
unfoldable pub stay_in : List (List ℕ) → Option CommandLine
stay_in (settings ∷ archive ∷ address ∷ number ∷ count ∷ []) = do
  rounds ← command_number_within 1 1000000 number
  waits ← command_number_within 0 1000000 count
  Some (stay (record { settings = settings; archive = archive; address = address }) rounds waits)
stay_in words = None

-- `SETTINGS SCHEDULE ADDRESS TURNS`, with 1 to 1,000,000 turns
abbrev pub console_in : List (List ℕ) → Option CommandLine
console_in (settings ∷ schedule ∷ address ∷ turns ∷ []) =
    option_map
    (λ turns. console (record { settings = settings; schedule = schedule; address = address; turns = turns }))
    (command_number_within 1 1000000 turns)
console_in words = None

-- `SETTINGS SEED SCHEDULE ..`, a number below 2^31, and one to eight schedules
unfoldable pub fleet_in : List (List ℕ) → Option CommandLine
fleet_in (settings ∷ seed ∷ schedules) = do
  number ← command_number_within 0 (2 ^ 31 - 1) seed
  only_if (nat_le 1 (length schedules) && nat_le (length schedules) 8)
      (fleet (record { settings = settings; seed = number; schedules = schedules }))
fleet_in words = None

-- `SEED N`, a number below 2^31, and 1 to 5,000
unfoldable pub make_in : List (List ℕ) → Option CommandLine
make_in (seed ∷ count ∷ []) = do
  number ← command_number_within 0 (2 ^ 31 - 1) seed
  records ← command_number_within 1 5000 count
  Some (make number records)
make_in words = None

-- the command that the words spell, and none where they are outside the table
abbrev pub command_of_words : List (List ℕ) → Option CommandLine
command_of_words [] = None
command_of_words (command ∷ words) =
    if bytes_eq command (codes "pages") then pages_command_in words
    else if bytes_eq command (codes "soft") then soft_in words
    else if bytes_eq command (codes "task") then task_in words
    else if bytes_eq command (codes "report") then report_in words
    else if bytes_eq command (codes "climate") then climate_in words
    else if bytes_eq command (codes "serve") then serve_in words
    else if bytes_eq command (codes "replay") then replay_in words
    else if bytes_eq command (codes "copy") then copy_in words
    else if bytes_eq command (codes "import") then import_in words
    else if bytes_eq command (codes "station") then station_in words
    else if bytes_eq command (codes "stay") then stay_in words
    else if bytes_eq command (codes "console") then console_in words
    else if bytes_eq command (codes "fleet") then fleet_in words
    else if bytes_eq command (codes "make") then make_in words
    else None

-- the names that the words of `station` and of `stay` lend, as their bytes
abbrev pub station_names : StationWords → StationNames
station_names words =
    record { settings = words.settings.now; archive = words.archive.now; address = words.address.now }

-- the names that the words of `console` lend, as their bytes
abbrev pub console_names : ConsoleWords → ConsoleNames
console_names words =
    record {
      settings = words.settings.now;
      schedule = words.schedule.now;
      address = words.address.now;
      turns = words.turns;
    }

-- the names that the words of `fleet` lend, as their bytes
abbrev pub fleet_names : FleetWords → FleetNames
fleet_names words =
    record { settings = words.settings.now; seed = words.seed; schedules = texts words.schedules.items }

-- a command that was read, with the texts that it lends
abbrev pub command_read : Command → CommandLine
command_read (read.Pages file) = pages file.now
command_read (read.CorrectedPages settings file) = corrected_pages settings.now file.now
command_read (read.Soft settings file) = soft settings.now file.now
command_read (read.Task address asked) = task address.now asked
command_read (read.Report archive wanted) = report archive.now wanted
command_read (read.Climate archive year) = climate archive.now year
command_read (read.Serve archive address turns) = serve archive.now address.now turns
command_read (read.Replay settings schedule) = replay settings.now schedule.now
command_read (read.Copy from to) = copy from.now to.now
command_read (read.Import rows archive) = import rows.now archive.now
command_read (read.Station words) = station (station_names words)
command_read (read.Stay words rounds waits) = stay (station_names words) rounds waits
command_read (read.Console words) = console (console_names words)
command_read (read.Fleet words) = fleet (fleet_names words)
command_read (read.Make seed records) = make seed records

-- the command that was read, if one was, with the texts that it lends
abbrev pub command_line_of : Option Command → Option CommandLine
command_line_of command = option_map command_read command
