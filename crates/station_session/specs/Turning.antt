-- One turn of a round.
use Rattle.std.specs.Prelude.{◌≡◌, ◌⊎◌, ℕ, ◌<◌, ◌≤◌, Bool, false, List, [], ◌∷◌, ◌++◌, length, Option}
use Rattle.causes.specs.Cause.{Cause}
use Rattle.causes.specs.declared.stored.Stored.{Stored}
use Rattle.disk_model.specs.Disk.{Faults, BeginsChanges}
use Rattle.disk_model.specs.Medium.{Medium}
use Rattle.serial_link.specs.declared.talk.TalkItem.{TalkItem}
use Rattle.serial_link.specs.Traffic.{Traffic}
use Rattle.serial_link.specs.Talk.{Adds}
use Rattle.station_base.specs.CivilMinute.{CivilMinute}
use Rattle.dmpaft_pump.specs.Keeper.{Handed, one_batch, kept_all, join}
use Rattle.dmpaft_driver.specs.Turning.{IsOneLinkCall}
use Rattle.station_session.specs.declared.limits.TheConstants.{CHANGES, MOST_BATCHES}
use Rattle.station_session.specs.declared.report.Report.{Report}
use Rattle.station_session.specs.declared.round.Round.{Round}
use Rattle.station_session.specs.declared.round.Turn.{Turn}
use Rattle.station_session.specs.declared.round.Turn.TheVariants as turn
use Rattle.station_session.specs.declared.round_end.RoundEnd.{RoundEnd}
use Rattle.station_session.specs.declared.round_end.RoundEnd.TheVariants as round_end
use Rattle.station_session.specs.declared.session.Session.{Session}
use Rattle.station_session.specs.Attempts.{MadeAttempt, AreAttempts, all_batches, all_said}
use Rattle.station_session.specs.Holding.{holding}
use Rattle.station_session.specs.OneBatch.{AddsBatch, Chain}
use Rattle.station_session.specs.Round.{IsTally, stale_with}
use Rattle.station_session.specs.RoundAt.{RoundAt}
use Rattle.station_session.specs.Session.{session_settings, session_most_rows, held, session_is_stale}
use Rattle.station_session.specs.Troubles.{troubles_of}

-- What a turn works on: a session, its link and its disk, a round, and its report.
pub record RoundDesk (L D : Type 0) : Type 0 where
  pub session : Session
  pub link : L
  pub disk : D
  pub round : Round
  pub report : Report

-- a session, its link, its disk, a round and its report as one value
abbrev pub round_desk : {L D : Type 0} → Session → L → D → Round → Report → RoundDesk L D
round_desk session link disk round report =
    record { session = session; link = link; disk = disk; round = round; report = report }

-- one message was said, or some bytes were heard, or one wait passed, or one batch was kept
abbrev pub IsOneCallOrBatch : List TalkItem → List (List (List ℕ)) → Type 0
IsOneCallOrBatch said kept =
    (IsOneLinkCall said × (kept ≡ [])) ⊎ ((said ≡ []) × (rows : List (List ℕ)) × (kept ≡ rows ∷ []))

-- something was said or heard, or one batch was given, or neither
abbrev pub IsOneAtMost : List TalkItem → Handed → Type 0
IsOneAtMost said given = (given ≡ Handed.Nothing)
    ⊎ ((said ≡ []) × (answer : Stored) × (rows : List (List ℕ)) × (given ≡ one_batch answer rows))

-- A round that began after this stamp, and said, heard and was given this, is over: its attempts, what those met that
-- failed, and what was counted.
pub record EndsRound (last : Option CivilMinute) (talk : List TalkItem) (given : Handed) (end : RoundEnd)
    (report : Report) : Type 0 where
  pub tries : List MadeAttempt
  pub attempts : AreAttempts 0 last tries end
  pub talk_is : talk ≡ all_said tries
  pub given_are : given ≡ all_batches last tries
  pub made : report.attempts ≡ length tries
  pub some : 0 < report.attempts
  pub few : report.tally.pages ≤ MOST_BATCHES
  pub tally : IsTally last tries report.tally
  pub troubles : report.troubles.items ≡ troubles_of tries

-- where a round stands after a turn in which this was said, heard and given
abbrev pub RoundTurnsTo : {L D : Type 0} → Turn → Option CivilMinute → List TalkItem → List (List (List ℕ))
    → List TalkItem → Handed → RoundDesk L D → Type 0
RoundTurnsTo turn.More last talk kept said given new =
    (more : List (List (List ℕ))) × (given ≡ kept_all more) × RoundAt last (talk ++ said) (kept ++ more) new.round
    × IsOneCallOrBatch said more
RoundTurnsTo (turn.Ended end) last talk kept said given new =
    EndsRound last (talk ++ said) (join (kept_all kept) given) end new.report × IsOneAtMost said given

-- One turn of a round that stands so: what was said and heard, which batch was given to the book and what became of it,
-- and where the round stands then, or how it ended.
pub record RoundTakesTurn {L D : Type 0} (traffic : Traffic L) (medium : Medium D) (result : Turn)
    (last : Option CivilMinute) (talk : List TalkItem) (kept : List (List (List ℕ))) (old new : RoundDesk L D)
    : Type 0 where
  pub said : List TalkItem
  pub given : Handed
  pub adds : Adds traffic old.link said new.link
  pub chain : Chain (AddsBatch medium (session_settings old.session))
      (holding old.session.book old.disk old.report.marks.items) given
      (holding new.session.book new.disk new.report.marks.items)
  pub stands : RoundTurnsTo result last talk kept said given new

-- whether a session is stale after a turn
abbrev pub stale_by : Turn → Bool
stale_by turn.More = false
stale_by (turn.Ended end) = stale_with end false

-- Which answers a turn may give.
pub record AnswersTurn {L D : Type 0} (traffic : Traffic L) (medium : Medium D) (result : Turn)
    (old new : RoundDesk L D) : Type 0 where
  pub fault : Cause (traffic.faults old.link) (traffic.faults new.link) (result ≡ turn.Ended round_end.LinkFault)
  pub shortage : Cause (traffic.shortages old.link) (traffic.shortages new.link)
      (result ≡ turn.Ended round_end.OutOfMemory)
  pub disk_fault : Faults medium old.disk new.disk (result ≡ turn.Ended round_end.DiskFault)
  pub never_stale : result ≡ turn.Ended round_end.Stale → ⊥

-- What a turn leaves as it was, and how many changes of the disk it may begin.
pub record LeavesTurn {L D : Type 0} (medium : Medium D) (result : Turn) (old new : RoundDesk L D) : Type 0 where
  pub settings : session_settings new.session ≡ session_settings old.session
  pub most : session_most_rows new.session ≡ session_most_rows old.session
  pub before : new.report.rows_before ≡ old.report.rows_before
  pub after : new.report.rows_after ≡ held new.session
  pub marked : session_is_stale new.session ≡ stale_by result
  pub begun : BeginsChanges medium CHANGES old.disk new.disk
