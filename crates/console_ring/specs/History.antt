-- The history of a ring, the archive memory of a console: every record put since it was last emptied, each as its 52
-- bytes. The size of the ring is the Davis manual's. That a record is put only if its stamp exceeds the newest, and
-- that newer is told by the words of a stamp, is this project's profile.
use Rattle.std.specs.Prelude.{ℕ, ◌-◌, ◌<◌, ◌≤◌, Bool, List, length, take, drop}
use Rattle.std.specs.Prelude.{slice_index_or, filter, option_and_then, IsSomeAnd}
use Rattle.std.specs.declared.option.Option.{Option}
use Rattle.circular_buffer.specs.Buffer.{last_item}
use Rattle.station_base.specs.CivilMinute.{CivilMinute, minute_of}
use Rattle.station_base.specs.LastStamp.{CanFollow}
use Rattle.station_base.specs.Stamp.{words_exceed}
use Rattle.archive_record.specs.Kind.{word_at}
use Rattle.archive_record.specs.Reading.{stamp_in}

-- the pages of the ring (Davis serial manual, "DMPAFT")
abbrev pub ring_pages : ℕ
ring_pages = 512

-- the records that the ring has at most, five a page
abbrev pub ring_size : ℕ
ring_size = 2560

-- the records that the ring still has: the last ones that it has room for
abbrev pub retained : List (List ℕ) → List (List ℕ)
retained history = drop (length history - ring_size) history

-- the words of a record's stamp exceed these: the date word does, or it is equal and the time word does
abbrev pub record_is_newer : ℕ → ℕ → List ℕ → Bool
record_is_newer date time bytes = words_exceed date time (word_at bytes 0) (word_at bytes 2)

-- the records newer than these words, in order (this project's profile)
abbrev pub newer : ℕ → ℕ → List (List ℕ) → List (List ℕ)
newer date time records = filter (record_is_newer date time) records

-- the stamp of the last record
abbrev pub newest_stamp : List (List ℕ) → Option CivilMinute
newest_stamp history = option_and_then stamp_in (last_item history)

-- a record can extend a history: its stamp can follow the newest
abbrev pub CanExtend : List (List ℕ) → List ℕ → Type 0
CanExtend history bytes = CanFollow (newest_stamp history) (stamp_in bytes)

-- the stamp of the record does not exceed this one
abbrev pub IsNotAfter : CivilMinute → List ℕ → Type 0
IsNotAfter newest bytes = IsSomeAnd (stamp_in bytes) (λ stamp. minute_of stamp ≤ minute_of newest)

-- each record can extend the records before it
abbrev pub IsHistory : List (List ℕ) → Type 0
IsHistory history =
    (i : ℕ) (none : List ℕ) → i < length history → CanExtend (take i history) (slice_index_or history i none)
