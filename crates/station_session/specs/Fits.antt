-- When a session and a report are those of a round.
use Rattle.std.specs.Prelude.{◌≡◌, ℕ, ◌+◌, ◌-◌, ◌*◌, ◌≤◌, false, List, length, vec_len, vec_capacity}
use Rattle.std.specs.Prelude.{Option, Some, None}
use Rattle.station_base.specs.CivilMinute.{CivilMinute}
use Rattle.serial_link.specs.declared.talk.TalkItem.{TalkItem}
use Rattle.dmpaft_pump.specs.declared.batch.TheConstants.{MOST_RECORDS}
use Rattle.weather_book.specs.Book.{last_stamp_of, spare}
use Rattle.station_session.specs.declared.report.Report.{Report}
use Rattle.station_session.specs.declared.round.Round.{Round}
use Rattle.station_session.specs.declared.session.Session.{Session}
use Rattle.station_session.specs.declared.limits.TheConstants.{MOST_BATCHES, CHANGES}
use Rattle.station_session.specs.RoundAt.{RoundAt}
use Rattle.station_session.specs.Session.{session_is_stale}
use Rattle.station_session.specs.Attempts.{most_attempts}

-- the first of them that there is
abbrev pub first_some : Option CivilMinute → Option CivilMinute → Option CivilMinute
first_some (Some stamp) other = Some stamp
first_some None other = other

-- the stamp of the last record that a round kept, or else the one that it began after
abbrev pub last_so_far : Round → Option CivilMinute
last_so_far round = first_some round.pump.tally.last round.pump.after

-- so many batches may still be kept
abbrev pub batches_left : Report → ℕ
batches_left report = MOST_BATCHES - vec_len report.marks

-- so many changes of the disk may be begun for the batches that may still be kept
abbrev pub changes_left : Report → ℕ
changes_left report = CHANGES * batches_left report

-- The round stands where some round does that kept so many batches.
pub record HasKept (round : Round) (count : ℕ) : Type 0 where
  pub last : Option CivilMinute
  pub talk : List TalkItem
  pub kept : List (List (List ℕ))
  pub at : RoundAt last talk kept round
  pub count_is : length kept ≡ count

-- A session and a report are those of a round under way: the session is not stale, its last stamp is the last one that
-- the round kept or else the one that it began after, what is reported is what the round did so far, with a mark for
-- each batch that it kept, and there is room for the others.
pub record RoundFits (session : Session) (round : Round) (report : Report) : Type 0 where
  pub fresh : session_is_stale session ≡ false
  pub last : last_stamp_of session.book ≡ last_so_far round
  pub attempts : report.attempts + round.more ≡ most_attempts
  pub tally : report.tally ≡ round.pump.tally
  pub troubles : report.troubles.items ≡ round.troubles.items
  pub marked : HasKept round (vec_len report.marks)
  pub rows : MOST_RECORDS * batches_left report ≤ spare session.book
  pub marks : MOST_BATCHES ≤ vec_capacity report.marks
