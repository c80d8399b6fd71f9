-- The begin of a round.
use Rattle.std.specs.Prelude.{◌≡◌, ◌↔◌, ◌^◌, ◌<◌, true, []}
use Rattle.weather_book.specs.Book.{IsSameBook, last_stamp_of}
use Rattle.station_session.specs.declared.report.Report.{Report}
use Rattle.station_session.specs.declared.round.Begun.{Begun}
use Rattle.station_session.specs.declared.round.Begun.TheVariants as begun
use Rattle.station_session.specs.declared.session.Session.{Session}
use Rattle.station_session.specs.Fits.{RoundFits}
use Rattle.station_session.specs.Report.{IsNew}
use Rattle.station_session.specs.RoundAt.{RoundAt, round_turns_left}
use Rattle.station_session.specs.Session.{session_settings, held, session_is_stale}

-- what a round is that was begun, by the answer
abbrev pub IsBegunAs : Begun → Session → Report → Type 0
IsBegunAs (begun.Ready round) session report = RoundFits session round report
    × RoundAt (last_stamp_of session.book) [] [] round × (round_turns_left round < 2 ^ 32)
IsBegunAs begun.Stale session report = IsNew report
IsBegunAs begun.OutOfMemory session report = IsNew report

-- What the begin of a round leaves: the book stands for the same rows, and the report tells them.
pub record BeginsRound (result : Begun) (old new : Session) (report : Report) : Type 0 where
  pub is_begun : IsBegunAs result new report
  pub stale : (result ≡ begun.Stale) ↔ (session_is_stale old ≡ true)
  pub at_once : result ≡ begun.Stale → new ≡ old
  pub same : IsSameBook old.book new.book
  pub settings : session_settings new ≡ session_settings old
  pub before : report.rows_before ≡ held old
  pub after : report.rows_after ≡ held new
  pub marks : report.marks.items ≡ []
