-- The exchanges of each task (Davis serial manual, "Commands").
use Rattle.std.specs.Prelude.{ℕ, zero, suc, false, List, [], ◌∷◌, ◌++◌, length}
use Rattle.crc_ccitt.specs.Check.{sealed}
use Rattle.station_base.specs.declared.clock.ClockTime.{ClockTime}
use Rattle.station_base.specs.ClockTime.{clock_bytes}
use Rattle.vantage_frames.specs.declared.command.Command.{Command}
use Rattle.vantage_frames.specs.declared.command.Command.TheVariants.{Kind, LoopFor, EepromRead, EepromWrite}
use Rattle.vantage_frames.specs.declared.command.Command.TheVariants.{TimeGet, TimeSet, SetPeriod}
use Rattle.vantage_frames.specs.LineWriting.{line_of}
use Rattle.console_tasks.specs.declared.end.TaskEnd.TheVariants.{Done}
use Rattle.console_tasks.specs.Exchange.{Exchange, answered_exchange, command, framed}
use Rattle.console_tasks.specs.Clock.{judge_clock}
use Rattle.console_tasks.specs.Memory.{judge_back}
use Rattle.console_tasks.specs.Packet.{judge_packet}

-- the line of a command, with its LF
abbrev pub said_line : Command → List ℕ
said_line command = line_of command ++ 10 ∷ []

-- so many bytes of the memory are read from a place on
abbrev pub reading_memory : ℕ → ℕ → List Exchange
reading_memory at count = framed (said_line (EepromRead at count)) count (λ bytes. Done) ∷ []

-- they are read back after they were written
abbrev pub reading_back : ℕ → List ℕ → Exchange
reading_back at bytes = framed (said_line (EepromRead at (length bytes))) (length bytes) (judge_back at bytes)

-- bytes are written into the memory, and read back
abbrev pub writing_memory : ℕ → List ℕ → List Exchange
writing_memory at bytes =
    command (said_line (EepromWrite at (length bytes))) ∷ command (sealed bytes) ∷ reading_back at bytes ∷ []

-- the clock is read
abbrev pub asking_time : List Exchange
asking_time = framed (said_line TimeGet) 6 judge_clock ∷ []

-- the clock is set
abbrev pub setting_time : ClockTime → List Exchange
setting_time time = command (said_line TimeSet) ∷ command (sealed (clock_bytes time)) ∷ []

-- a packet comes, with nothing said
abbrev pub packet : Exchange
packet = record { said = []; size = 99; begins = false; judge = judge_packet }

-- so many packets come
abbrev pub packets : ℕ → List Exchange
packets zero = []
packets (suc n) = packet ∷ packets n

-- so many packets are asked for
abbrev pub looping : ℕ → List Exchange
looping n = command (said_line (LoopFor n)) ∷ packets n

-- the period is set, and read back at its place in the memory
abbrev pub setting_period : ℕ → List Exchange
setting_period minutes = command (said_line (SetPeriod minutes)) ∷ reading_back 0x2D (minutes ∷ []) ∷ []

-- the kind of station is asked for: 0x06, and one byte
abbrev pub asking_kind : List Exchange
asking_kind = answered_exchange (said_line Kind) 2 (λ answer. Done) ∷ []
