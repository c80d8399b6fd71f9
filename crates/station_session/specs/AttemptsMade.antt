-- What the attempts of a round make of a book, its disk and its marks.
use Rattle.std.specs.Prelude.{◌≡◌, ℕ, List, length}
use Rattle.serial_link.specs.Traffic.{Traffic}
use Rattle.disk_model.specs.Medium.{Medium}
use Rattle.serial_link.specs.Talk.{Adds}
use Rattle.settings_file.specs.StationSettings.{StationSettings}
use Rattle.weather_book.specs.Book.{last_stamp_of}
use Rattle.dmpaft_pump.specs.declared.outcome.Tally.{Tally}
use Rattle.dmpaft_pump.specs.declared.outcome.Trouble.{Trouble}
use Rattle.station_session.specs.declared.round_end.RoundEnd.{RoundEnd}
use Rattle.station_session.specs.Attempts.{MadeAttempt, AreAttempts, all_said, all_batches}
use Rattle.station_session.specs.Holding.{Holding}
use Rattle.station_session.specs.Round.{IsTally}
use Rattle.station_session.specs.OneBatch.{AddsBatch, Chain}
use Rattle.station_session.specs.Troubles.{troubles_of}

-- A round's attempts were made, and their batches were given to the book.
pub record MakesAttempts {L D : Type 0} (traffic : Traffic L) (medium : Medium D)
    (settings : StationSettings) (end : RoundEnd) (old : Holding D) (link : L) (new : Holding D) (link' : L)
    (made : ℕ) (tally : Tally) (troubles : List Trouble) : Type 0 where
  pub tries : List MadeAttempt
  pub attempts : AreAttempts 0 (last_stamp_of old.book) tries end
  pub adds : Adds traffic link (all_said tries) link'
  pub chain : Chain (AddsBatch medium settings) old (all_batches (last_stamp_of old.book) tries) new
  pub count : made ≡ length tries
  pub counted : IsTally (last_stamp_of old.book) tries tally
  pub noted : troubles ≡ troubles_of tries
