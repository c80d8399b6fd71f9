-- A round that is under way, with the session, the link and the disk that it began with.
use Rattle.std.specs.Prelude.{◌≡◌, ℕ, ◌≤◌, false, List, [], ◌++◌}
use Rattle.disk_model.specs.Medium.{Medium}
use Rattle.serial_link.specs.declared.talk.TalkItem.{TalkItem}
use Rattle.serial_link.specs.Traffic.{Traffic}
use Rattle.serial_link.specs.Talk.{Adds}
use Rattle.station_base.specs.declared.row.Row.{Row}
use Rattle.dmpaft_pump.specs.Keeper.{kept_all}
use Rattle.weather_book.specs.Book.{last_stamp_of}
use Rattle.station_session.specs.declared.report.Report.{Report}
use Rattle.station_session.specs.declared.round.Turn.{Turn}
use Rattle.station_session.specs.declared.round.Turn.TheVariants as turn
use Rattle.station_session.specs.declared.round_end.RoundEnd.{RoundEnd}
use Rattle.station_session.specs.Holding.{holding}
use Rattle.station_session.specs.OneBatch.{AddsBatch, Chain}
use Rattle.station_session.specs.Round.{RoundHost, round_host, ServesRound, AnswersRound, LeavesRound}
use Rattle.station_session.specs.RoundAt.{RoundAt}
use Rattle.station_session.specs.Session.{SessionStandsFor, session_settings, held, session_is_stale}
use Rattle.station_session.specs.Turning.{RoundDesk, IsOneCallOrBatch}

-- Book, disk and marks are in step with a round that began with these: they became what they are by the batches that
-- it kept.
pub record InStep {L D : Type 0} (medium : Medium D) (began : RoundHost L D) (kept : List (List (List ℕ)))
    (now : RoundDesk L D) : Type 0 where
  pub fresh : session_is_stale began.session ≡ false
  pub settings : session_settings now.session ≡ session_settings began.session
  pub before : now.report.rows_before ≡ held began.session
  pub chain : Chain (AddsBatch medium (session_settings began.session)) (holding began.session.book began.disk [])
      (kept_all kept) (holding now.session.book now.disk now.report.marks.items)

-- A round that began with these is under way: it stands so, its link has said and heard this, and its book is in step.
-- No count of the link fell.
pub record UnderWay {L D : Type 0} (traffic : Traffic L) (medium : Medium D) (began : RoundHost L D)
    (talk : List TalkItem) (kept : List (List (List ℕ))) (now : RoundDesk L D) : Type 0 where
  pub at : RoundAt (last_stamp_of began.session.book) talk kept now.round
  pub adds : Adds traffic began.link talk now.link
  pub faults : traffic.faults began.link ≤ traffic.faults now.link
  pub shortages : traffic.shortages began.link ≤ traffic.shortages now.link
  pub in_step : InStep medium began kept now

-- A round that began with these is over, and did all that a round does.
pub record MakesRound {L D : Type 0} (traffic : Traffic L) (medium : Medium D) (end : RoundEnd)
    (began new : RoundHost L D) (report : Report) : Type 0 where
  pub serves : (rows : List Row) → SessionStandsFor began.session rows
      → ServesRound traffic medium rows end began new report
  pub answers : AnswersRound traffic medium end began new report.attempts
  pub leaves : LeavesRound medium end began new report.attempts

-- a round that had said and heard this, and kept these batches, is under way after one call more, or is over
abbrev pub GoesOnFrom : {L D : Type 0} → Traffic L → Medium D → Turn → RoundHost L D → List TalkItem
    → List (List (List ℕ)) → RoundDesk L D → Type 0
GoesOnFrom traffic medium turn.More began talk kept now = (said : List TalkItem) × (given : List (List (List ℕ)))
    × IsOneCallOrBatch said given × UnderWay traffic medium began (talk ++ said) (kept ++ given) now
GoesOnFrom traffic medium (turn.Ended end) began talk kept now =
    MakesRound traffic medium end began (round_host now.session now.link now.disk) now.report
