-- A round that is begun.
use Rattle.std.proofs.Common.{◌-◌, ◌≡◌, ◌+◌, ◌≤◌, false, List, [], length, vec_len, vec_capacity, refl, sym, ◌∙◌, ap, arith, Option}
use Rattle.station_base.specs.CivilMinute.{CivilMinute}
use Rattle.weather_book.specs.Book.{last_stamp_of, spare}
use Rattle.dmpaft_pump.specs.Pump.{Hearing, Over, Settling, begun}
use Rattle.dmpaft_pump.specs.Shown.{PumpShows, no_tally}
use Rattle.dmpaft_pump.specs.declared.pump_end.PumpEnd.TheVariants as pump_end
use Rattle.station_session.specs.declared.report.Mark.{Mark}
use Rattle.station_session.specs.declared.report.Report.{Report}
use Rattle.station_session.specs.declared.round.Round.{Round}
use Rattle.station_session.specs.declared.session.Session.{Session}
use Rattle.station_session.specs.Fits.{RoundFits}
use Rattle.station_session.specs.RoundAt.{RoundAt}
use Rattle.station_session.specs.Session.{session_is_stale}
use Rattle.station_session.proofs.SoFar.{last_is}
use Rattle.disk_model.specs.Medium.{Medium}
use Rattle.serial_link.specs.Traffic.{Traffic}
use Rattle.serial_link.proofs.GrownTalk.{adds_none}
use Rattle.station_session.specs.Beginning.{BeginsRound}
use Rattle.station_session.specs.Holding.{holding}
use Rattle.station_session.specs.Round.{round_host}
use Rattle.station_session.specs.Turning.{round_desk}
use Rattle.station_session.specs.UnderWay.{UnderWay}
use Rattle.station_session.specs.declared.round.Begun.TheVariants as begun_as
use Rattle.station_session.specs.Attempts.{most_attempts}
use Rattle.station_session.specs.declared.limits.TheConstants.{MOST_BATCHES, MOST_ROWS}

pub round_begun : (last : Option CivilMinute) (round : Round) → PumpShows no_tally last (begun last Settling) round.pump → round.more ≡ most_attempts - 1 → round.troubles.items ≡ [] → RoundAt last [] [] round
round_begun last round shows more none = record {
  tries = [];
  failed = tt;
  few = omega (arith, more);
  pages = omega arith;
  said = [];
  answers = [];
  state = begun last Settling;
  stands = refl;
  done = tt;
  shows = shows;
  goes_on = λ f. let z : Hearing Settling [] 0 ≡ Over f.0 f.1 (pump_end.Failed f.2) = f.3 in cc;
  talk_is = refl;
  kept_are = refl;
  troubles = none;
}

pub fits_begun : (session : Session) (round : Round) (report : Report) → RoundAt (last_stamp_of session.book) [] [] round → session_is_stale session ≡ false → report.attempts + round.more ≡ most_attempts → report.tally ≡ round.pump.tally
    → report.troubles.items ≡ round.troubles.items → report.marks.items ≡ [] → MOST_ROWS ≤ spare session.book → MOST_BATCHES ≤ vec_capacity report.marks → RoundFits session round report
fits_begun session round report at fresh attempts tally troubles none rows marks =
    let count : vec_len report.marks ≡ 0 = omega (arith, report.marks.ok.0, ap (λ (x : List Mark). length x) none) in
    record {
      fresh = fresh;
      last = last_is at;
      attempts = attempts;
      tally = tally;
      troubles = troubles;
      marked = record { last = last_stamp_of session.book; talk = []; kept = []; at = at; count_is = omega (arith, count) };
      rows = omega (arith, rows, count);
      marks = marks;
    }

-- it is under way, with any link and disk
pub under_way : {L D : Type 0} {traffic : Traffic L} {medium : Medium D} {old new : Session} {report : Report} (round : Round) (link : L) (disk : D) → BeginsRound (begun_as.Ready round) old new report
    → UnderWay traffic medium (round_host new link disk) [] [] (round_desk new link disk round report)
under_way {L} {D} {traffic} {medium} {old} {new} {report} round link disk b = record {
  at = b.is_begun.1;
  adds = adds_none traffic link;
  faults = omega arith;
  shortages = omega arith;
  in_step = record { fresh = b.is_begun.0.fresh; settings = refl; before = b.before ∙ sym b.same.len; chain = ap (λ (x : List Mark). holding new.book disk x) b.marks };
}
