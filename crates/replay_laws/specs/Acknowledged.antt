-- The pages that were acknowledged in the attempts of a round, and what was kept.
use Rattle.std.specs.Prelude.{◌≡◌, ◌≢◌, ℕ, ◌≤◌, List, [], ◌∷◌, ◌++◌, length}
use Rattle.std.specs.declared.option.Option.{Option}
use Rattle.causes.specs.Lists.{IsFrontOf}
use Rattle.station_base.specs.CivilMinute.{CivilMinute}
use Rattle.station_base.specs.declared.row.Row.{Row}
use Rattle.vantage_frames.specs.StampFrame.{stamp_frame_of}
use Rattle.serial_link.specs.declared.talk.TalkItem.{TalkItem}
use Rattle.settings_file.specs.StationSettings.{StationSettings}
use Rattle.packed_rows.specs.Rising.{last_row_stamp}
use Rattle.dmpaft_pump.specs.Batch.{batches, records_in}
use Rattle.dmpaft_pump.specs.Keeper.{kept_in}
use Rattle.dmpaft_driver.specs.OneAttempt.{Acknowledges}
use Rattle.station_session.specs.Attempts.{MadeAttempt, IsMadeAfter}
use Rattle.station_session.specs.Records.{stored_rows}
use Rattle.replay_laws.specs.Round.{LineAttempt, handed_in}
use Rattle.replay_laws.specs.Replay.{Rounded, Item}

-- the rows behind some attempts of which each kept all its batches
abbrev pub rows_after_attempts : StationSettings → List Row → List LineAttempt → List Row
rows_after_attempts settings rows [] = rows
rows_after_attempts settings rows (t ∷ ts) =
    rows_after_attempts settings (rows ++ stored_rows settings (records_in t.batches)) ts

-- each attempt of a round was made after the last of the rows that stood before it, and went to its end
abbrev pub WereMade : StationSettings → Rounded → Type 0
WereMade settings x =
    (earlier : List LineAttempt) (t : LineAttempt) (later : List LineAttempt) → x.tried ≡ earlier ++ t ∷ later
    → IsMadeAfter (last_row_stamp (rows_after_attempts settings x.before earlier)) t.made

-- these rows, and behind them those of the batches of these pages, the first of which is read from this place on
abbrev pub rows_with_pages : StationSettings → List Row → ℕ → List (List ℕ) → List Row
rows_with_pages settings rows place pages =
    rows ++ stored_rows settings (records_in (batches (last_row_stamp rows) place pages))

-- wherever 0x06 was said right after pages were taken in an attempt, the round kept the rows of their batches, behind
-- those that it had before that attempt
abbrev pub KeepsAcknowledged : StationSettings → Rounded → Type 0
KeepsAcknowledged settings x =
    (earlier : List LineAttempt) (t : LineAttempt) (later : List LineAttempt) (place : ℕ) (pages : List (List ℕ))
    → x.tried ≡ earlier ++ t ∷ later → let rows = rows_after_attempts settings x.before earlier in
    Acknowledges (stamp_frame_of (last_row_stamp rows)) t.made.said place pages
    → IsFrontOf (rows_with_pages settings rows place pages) x.kept

-- These are the pages that were acknowledged in a talk: 0x06 was said right after the last of them, if there is one,
-- and pages after which it was said are the first of them.
pub record AreAcknowledged (frame : List ℕ) (talk : List TalkItem) (place : ℕ) (pages : List (List ℕ)) : Type 0 where
  pub said : pages ≢ [] → Acknowledges frame talk place pages
  pub all : (at : ℕ) (first : List (List ℕ)) → Acknowledges frame talk at first
      → IsFrontOf first pages × (at ≡ place)

-- these batches are just those of the pages that were acknowledged in an attempt after this stamp
abbrev pub AreJustAcknowledged : Option CivilMinute → MadeAttempt → List (List (List ℕ)) → Type 0
AreJustAcknowledged after t kept =
    (pages : List (List ℕ)) × AreAcknowledged (stamp_frame_of after) t.said t.place pages
    × (kept ≡ batches after t.place pages)

-- each round of some items has this
abbrev pub AllRounds : (Rounded → Type 0) → List Item → Type 0
AllRounds p [] = Unit {0}
AllRounds p (Item.Opened rows n ∷ items) = AllRounds p items
AllRounds p (Item.OpenStopped change rows ∷ items) = AllRounds p items
AllRounds p (Item.Ran round ∷ items) = p round × AllRounds p items
AllRounds p (Item.Unsaid number which ∷ items) = AllRounds p items
AllRounds p (Item.Ended rows ∷ items) = AllRounds p items

-- in each attempt of a round just the batches of the acknowledged pages were kept
abbrev pub KeepsJustAcknowledged : StationSettings → Rounded → Type 0
KeepsJustAcknowledged settings x =
    (earlier : List LineAttempt) (t : LineAttempt) (later : List LineAttempt) → x.tried ≡ earlier ++ t ∷ later
    → AreJustAcknowledged (last_row_stamp (rows_after_attempts settings x.before earlier)) t.made
    (kept_in (handed_in t))

-- the pages taken in an attempt after this stamp are those that were acknowledged, and at most one more
abbrev pub TakesOneMore : Option CivilMinute → MadeAttempt → Type 0
TakesOneMore after t =
    (pages : List (List ℕ)) × (more : List (List ℕ)) × AreAcknowledged (stamp_frame_of after) t.said t.place pages
    × (t.taken ≡ pages ++ more) × (length more ≤ 1)
