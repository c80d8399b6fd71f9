-- How much an attempt hears and says at most. (The numbers of settlings and askings are this project's profile.)
use Rattle.std.specs.Prelude.{ℕ, ◌+◌, ◌*◌, List, Option, ◌-◌}
use Rattle.station_base.specs.CivilMinute.{CivilMinute}
use Rattle.vantage_frames.specs.Header.{most_pages}
use Rattle.vantage_frames.specs.Slots.{page_size}
use Rattle.serial_link.specs.declared.talk.TalkItem.{TalkItem}
use Rattle.wake_retry.specs.Bounds.{IsBounded}
use Rattle.wake_retry.specs.Parts.{flood_size, wake_tries}
use Rattle.dmpaft_pump.specs.declared.outcome.DumpEnd.{DumpEnd}
use Rattle.dmpaft_pump.specs.Pump.{most_askings}
use Rattle.dmpaft_driver.specs.OneAttempt.{IsAttempt}

-- the first settling, those of a wake and those between askings, each of a flood, an answer to DMPAFT, one to the stamp
-- frame, and the askings for each page
abbrev pub most_heard : ℕ
most_heard =
    (1 + wake_tries + (most_askings - 1) * most_pages) * flood_size + 1 + 7 + most_askings * most_pages * page_size

-- the line feeds of a wake, DMPAFT and its line feed, the stamp frame, the askings for each page, and the byte that
-- ends it
abbrev pub most_said : ℕ
most_said = wake_tries + 7 + 6 + most_askings * most_pages + 1

-- no attempt hears or says more, however it ended
abbrev pub AttemptsAreBounded : Type 0
AttemptsAreBounded = (after : Option CivilMinute) (talk : List TalkItem) (place : ℕ) (taken : List (List ℕ))
    (end : DumpEnd) → IsAttempt after talk place taken end → IsBounded most_heard most_said talk
