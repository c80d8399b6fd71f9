-- A round of a run that is taken turn by turn.
use Rattle.std.specs.Prelude.{◌≡◌, ℕ, ◌⊎◌, List, ◌++◌}
use Rattle.std.specs.declared.option.Option.{Option}
use Rattle.disk_model.specs.Disk.{MayBegin, Stays}
use Rattle.disk_model.specs.Stopping.{stopping_medium, stopping_state_of}
use Rattle.disk_model.specs.declared.mem_disk.MemDisk.{MemDisk}
use Rattle.disk_model.specs.declared.stopping.Stopping.{Stopping}
use Rattle.serial_link.specs.declared.talk.TalkItem.{TalkItem}
use Rattle.dmpaft_driver.specs.Turning.{IsOneLinkCall}
use Rattle.weather_book.specs.Book.{IsSameBook}
use Rattle.station_session.specs.declared.report.Report.{Report}
use Rattle.station_session.specs.declared.round_end.RoundEnd.{RoundEnd}
use Rattle.station_session.specs.declared.session.Session.{Session}
use Rattle.station_session.specs.Fits.{RoundFits, changes_left}
use Rattle.station_session.specs.Round.{round_host}
use Rattle.station_session.specs.Session.{book_of, held, session_settings}
use Rattle.station_session.specs.Turning.{round_desk}
use Rattle.station_session.specs.UnderWay.{MakesRound, UnderWay}
use Rattle.schedule_file.specs.declared.fates.Fates as code_fates
use Rattle.station_sim.specs.declared.sim.Sim.{Sim}
use Rattle.station_sim.specs.Line.{Line}
use Rattle.schedule_file.specs.Lists.{fates_of}
use Rattle.station_sim.specs.Standing.{SimStandsFor}
use Rattle.station_sim.specs.Talk.{started}
use Rattle.station_sim.specs.Telling.{sim_traffic}
use Rattle.schedule_file.specs.declared.schedule.step.Stop.{Stop}
use Rattle.replay_laws.specs.Stopped.{IsStop}
use Rattle.round_play.specs.declared.playing.Playing.{Playing}
use Rattle.round_play.specs.Played.{PlayedHost}
use Rattle.round_play.specs.Restarting.{armed_with}

-- A round was begun: the line has its fates, its stop is armed, and the session has room for its rows.
pub record RoundStarts (fates : code_fates.Fates) (stop : Option Stop) (old began : PlayedHost) : Type 0 where
  pub starts : (w : Line) → SimStandsFor old.link w → SimStandsFor began.link (started w)
  pub fates_are : fates_of began.link.fates ≡ fates_of fates
  pub mids_are : began.link.fates.mids.items ≡ fates.mids.items
  pub said : began.link.talk.items ≡ old.link.talk.items
  pub armed : stopping_state_of began.disk ≡ armed_with stop (stopping_state_of old.disk)
  pub stays : Stays stopping_medium old.disk began.disk
  pub is_a_stop : IsStop stop
  pub same : IsSameBook (book_of old.session) (book_of began.session)
  pub settings : session_settings began.session ≡ session_settings old.session

-- The round is under way since its begin.
pub record RoundIsUnderWay (fates : code_fates.Fates) (stop : Option Stop) (old : PlayedHost) (playing : Playing)
    (line : Sim)
    (disk : Stopping MemDisk) : Type 0 where
  pub began : PlayedHost
  pub begins : RoundStarts fates stop old began
  pub talk : List TalkItem
  pub kept : List (List (List ℕ))
  pub way : UnderWay sim_traffic stopping_medium began talk kept
      (round_desk playing.session line disk playing.round playing.report)

-- Its next turn may be taken.
pub record MayGoOn (playing : Playing) (disk : Stopping MemDisk) : Type 0 where
  pub fits : RoundFits playing.session playing.round playing.report
  pub room : MayBegin stopping_medium (changes_left playing.report) disk

-- The round ended so, and did since its begin all that a round of the session does.
pub record RoundIsOver (fates : code_fates.Fates) (stop : Option Stop) (old : PlayedHost) (end : RoundEnd)
    (session : Session)
    (report : Report) (line : Sim) (disk : Stopping MemDisk) : Type 0 where
  pub began : PlayedHost
  pub begins : RoundStarts fates stop old began
  pub makes : MakesRound sim_traffic stopping_medium end (round_host old.session began.link began.disk)
      (round_host session line disk) report
  pub before : report.rows_before ≡ held old.session

-- nothing was said or heard, and no change of the disk was begun
abbrev pub IsStill : Sim → Stopping MemDisk → Sim → Stopping MemDisk → Type 0
IsStill line disk now next =
    (now.talk.items ≡ line.talk.items) × (stopping_medium.moment next ≡ stopping_medium.moment disk)

-- nothing was said or heard, or no change of the disk was begun
abbrev pub SaysOrStores : Sim → Stopping MemDisk → Sim → Stopping MemDisk → Type 0
SaysOrStores line disk now next =
    (now.talk.items ≡ line.talk.items) ⊎ (stopping_medium.moment next ≡ stopping_medium.moment disk)

-- either one message was said, or some bytes were heard, or one wait passed, and no change of the disk was begun; or
-- nothing was said or heard
abbrev pub MakesOneCall : Sim → Stopping MemDisk → Sim → Stopping MemDisk → Type 0
MakesOneCall line disk now next =
    ((said : List TalkItem) × IsOneLinkCall said × (now.talk.items ≡ line.talk.items ++ said)
    × (stopping_medium.moment next ≡ stopping_medium.moment disk))
    ⊎ (now.talk.items ≡ line.talk.items)
