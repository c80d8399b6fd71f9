-- A round that was begun, and turned to its end.
use Rattle.std.proofs.Common.{◌≡◌, ℕ, true, false, List, [], refl, sym, ◌∙◌, ap, subst, arith}
use Rattle.disk_model.specs.Medium.{Medium}
use Rattle.serial_link.specs.Traffic.{Traffic}
use Rattle.serial_link.specs.Talk.{Adds}
use Rattle.station_base.specs.CivilMinute.{CivilMinute}
use Rattle.std.specs.Prelude.{Option}
use Rattle.serial_link.specs.declared.talk.TalkItem.{TalkItem}
use Rattle.serial_link.proofs.GrownTalk.{adds_joins}
use Rattle.station_base.specs.declared.row.Row.{Row}
use Rattle.settings_file.specs.StationSettings.{StationSettings}
use Rattle.weather_book.specs.Book.{IsSameBook, last_stamp_of}
use Rattle.dmpaft_pump.specs.Keeper.{Handed, kept_all, join}
use Rattle.station_session.specs.declared.round.Turn.{Turn}
use Rattle.station_session.specs.declared.round.Turn.TheVariants as turn
use Rattle.station_session.specs.declared.report.Report.{Report}
use Rattle.station_session.specs.declared.round_end.RoundEnd.{RoundEnd}
use Rattle.station_session.specs.declared.round_end.RoundEnd.TheVariants as round_end
use Rattle.station_session.specs.declared.session.Session.{Session}
use Rattle.station_session.specs.AttemptsMade.{MakesAttempts}
use Rattle.station_session.specs.Holding.{Holding, holding}
use Rattle.station_session.specs.OneBatch.{AddsBatch, Chain, chain_joins}
use Rattle.station_session.specs.Round.{RoundHost, round_host, ServesRound, AnswersRound, LeavesRound}
use Rattle.station_session.specs.Session.{SessionStandsFor, session_settings, session_is_stale}
use Rattle.station_session.specs.Turning.{RoundDesk, RoundTakesTurn, EndsRound, AnswersTurn, LeavesTurn}
use Rattle.station_session.specs.UnderWay.{InStep, UnderWay, MakesRound}
use Rattle.station_session.proofs.WholeRound.{serves, not_stale, cause, waited, stale_is, most_is, begun_is}

-- the attempts of a round that is over, by its last turn
made_all : {L D : Type 0} {traffic : Traffic L} {medium : Medium D} {settings : StationSettings} {link link' : L} {k l : Holding D} {last : Option CivilMinute} {talk : List TalkItem} {given : Handed} {end : RoundEnd} {report : Report} → last_stamp_of k.book ≡ last
    → Adds traffic link talk link' → Chain (AddsBatch medium settings) k given l → EndsRound last talk given end report → MakesAttempts traffic medium settings end k link l link' report.attempts report.tally report.troubles.items
made_all {L} {D} {traffic} {medium} {settings} {link} {link'} {k} {l} {last} {talk} {given} {end} {report} stamp adds chain e =
    let x : EndsRound (last_stamp_of k.book) talk given end report = subst (λ (o : Option CivilMinute). EndsRound o talk given end report) (sym stamp) e in
    record {
      tries = x.tries;
      attempts = x.attempts;
      adds = subst (λ (y : List TalkItem). Adds traffic link y link') x.talk_is adds;
      chain = subst (λ (y : Handed). Chain (AddsBatch medium settings) k y l) x.given_are chain;
      count = x.made;
      counted = x.tally;
      noted = x.troubles;
    }

-- the chain of a round and of a turn
pub chain_on : {L D : Type 0} {traffic : Traffic L} {medium : Medium D} {result : Turn} {began : RoundHost L D} {talk : List TalkItem} {kept : List (List (List ℕ))} {last : Option CivilMinute} {old new : RoundDesk L D} → InStep medium began kept old
    → (t : RoundTakesTurn traffic medium result last talk kept old new)
    → Chain (AddsBatch medium (session_settings began.session)) (holding began.session.book began.disk []) (join (kept_all kept) t.given) (holding new.session.book new.disk new.report.marks.items)
chain_on {L} {D} {traffic} {medium} {result} {began} {talk} {kept} {last} {old} {new} u t =
    chain_joins (AddsBatch medium (session_settings began.session)) (holding began.session.book began.disk []) (holding old.session.book old.disk old.report.marks.items) (holding new.session.book new.disk new.report.marks.items) kept t.given u.chain
    (subst (λ (x : StationSettings). Chain (AddsBatch medium x) (holding old.session.book old.disk old.report.marks.items) t.given (holding new.session.book new.disk new.report.marks.items)) u.settings t.chain)

module _ {L D : Type 0} {traffic : Traffic L} {medium : Medium D} {before began : Session} {link : L} {disk : D} {talk : List TalkItem} {kept : List (List (List ℕ))} {end : RoundEnd} {old new : RoundDesk L D}
    (same : IsSameBook before.book began.book) (settings : session_settings began ≡ session_settings before) (u : UnderWay traffic medium (round_host began link disk) talk kept old)
    (t : RoundTakesTurn traffic medium (turn.Ended end) (last_stamp_of began.book) talk kept old new) (a : AnswersTurn traffic medium (turn.Ended end) old new) (l : LeavesTurn medium (turn.Ended end) old new) where
  fresh : session_is_stale before ≡ false
  fresh = sym same.stale ∙ u.in_step.fresh

  made : MakesAttempts traffic medium before.settings end (holding began.book disk []) link (holding new.session.book new.disk new.report.marks.items) new.link new.report.attempts new.report.tally new.report.troubles.items
  made =
      subst (λ (x : StationSettings). MakesAttempts traffic medium x end (holding began.book disk []) link (holding new.session.book new.disk new.report.marks.items) new.link new.report.attempts new.report.tally new.report.troubles.items) settings
      (made_all refl (adds_joins u.adds t.adds) (chain_on u.in_step t) t.stands.0)

  serves_all : (rows : List Row) → SessionStandsFor before rows → ServesRound traffic medium rows end (round_host before link disk) (round_host new.session new.link new.disk) new.report
  serves_all rows h = serves new.report same fresh refl t.stands.0.some made new.session.settings rows h (l.before ∙ u.in_step.before ∙ same.len)

  never_stale : end ≡ round_end.Stale → ⊥
  never_stale = not_stale new.report same fresh refl t.stands.0.some made

  answers_all : AnswersRound traffic medium end (round_host before link disk) (round_host new.session new.link new.disk) new.report.attempts
  answers_all = record {
    stale = (λ e. absurd (never_stale e), λ e. absurd (let x : true ≡ false = sym e ∙ fresh in cc));
    fault = record { never_falls = omega (arith, u.faults, a.fault.never_falls); rose = λ e. omega (arith, u.faults, a.fault.rose (ap (λ (x : RoundEnd). turn.Ended x) e)) };
    shortage = record { never_falls = omega (arith, u.shortages, a.shortage.never_falls); rose = λ e. omega (arith, u.shortages, a.shortage.rose (ap (λ (x : RoundEnd). turn.Ended x) e.0)) };
    disk_fault = cause new.report same fresh refl t.stands.0.some made;
    waited = waited new.report same fresh refl t.stands.0.some made;
  }

  leaves_all : LeavesRound medium end (round_host before link disk) (round_host new.session new.link new.disk) new.report.attempts
  leaves_all = record {
    at_once = λ e. absurd (never_stale e);
    untouched = λ e. absurd (omega (arith, e, t.stands.0.some));
    marked = stale_is new.report same fresh refl t.stands.0.some made;
    settings = l.settings ∙ u.in_step.settings ∙ settings;
    most = most_is new.report same fresh refl t.stands.0.some made;
    begun = begun_is new.report same fresh refl t.stands.0.some made t.stands.0.few;
  }

  -- all that a round does was done since the begin, and so by the session as it was before
  pub makes_round : MakesRound traffic medium end (round_host before link disk) (round_host new.session new.link new.disk) new.report
  makes_round = record { serves = serves_all; answers = answers_all; leaves = leaves_all }
