-- A session's round over a disk that may stop.
use Rattle.std.specs.Prelude.{List, []}
use Rattle.disk_model.specs.declared.mem_disk.MemDisk.{MemDisk}
use Rattle.disk_model.specs.declared.stopping.Stopping.{Stopping}
use Rattle.disk_model.specs.Stopping.{stopping_medium}
use Rattle.settings_file.specs.StationSettings.{StationSettings}
use Rattle.weather_book.specs.declared.book.Book.{Book}
use Rattle.station_session.specs.declared.report.Mark.{Mark}
use Rattle.station_session.specs.Attempts.{MadeAttempt}
use Rattle.station_session.specs.Holding.{Stores, holding}
use Rattle.replay_laws.specs.Keeping.{Archive}
use Rattle.replay_laws.specs.Session.{given_in}

-- The attempts of a round, and two books: the batches were stored from the one on the one disk to the other on the
-- other.
pub record RoundOn (settings : StationSettings) (a : Archive) (ts : List MadeAttempt) (old new : Stopping MemDisk)
    : Type 0 where
  pub book : Book
  pub next : Book
  pub marks : List Mark
  pub stores : Stores stopping_medium settings a.rows (given_in a ts) (holding book old []) (holding next new marks)
