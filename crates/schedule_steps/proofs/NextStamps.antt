-- The next record of a run has its stamp moved on.
use Rattle.std.proofs.Common.{◌≡◌, ℕ, ◌+◌, ◌≤◌, List, Some, ap, ◌∙◌}
use Rattle.std.specs.declared.option.Option.{Option}
use Rattle.std.specs.Option.{unwrap_or}
use Rattle.station_base.specs.CivilMinute.{CivilMinute, IsCivilMinute, minute_of, last_minute}
use Rattle.station_base.proofs.Civil.{stamp_civil}
use Rattle.archive_record.specs.Kind.{word_at}
use Rattle.archive_record.specs.MovedOn.{minute_numbered, with_stamp, moved_on}
use Rattle.archive_record.specs.Reading.{stamp_in}
use Rattle.archive_record.proofs.MovedStamps.{is_moved, numbered_after, stamp_given}
use Rattle.schedule_steps.specs.Runs.{next_record}

-- The stamp of a record moved on by so many minutes.
pub record IsMoved (minutes : ℕ) (rec : List ℕ) (stamp next : CivilMinute) : Type 0 where
  pub civil : IsCivilMinute next
  pub later : minute_of next ≡ minute_of stamp + minutes
  pub given : moved_on minutes rec ≡ Some (with_stamp next rec)
  pub is : next_record minutes rec ≡ with_stamp next rec
  pub stamp_is : stamp_in (next_record minutes rec) ≡ Some next

pub moved_to : (minutes : ℕ) (rec : List ℕ) (stamp : CivilMinute) → stamp_in rec ≡ Some stamp → minute_of stamp + minutes ≤ minute_of last_minute
    → IsMoved minutes rec stamp (minute_numbered (minute_of stamp + minutes))
moved_to minutes rec stamp is within =
    let next = minute_numbered (minute_of stamp + minutes) in
    let numbered = numbered_after stamp minutes (stamp_civil (word_at rec 0) (word_at rec 2) stamp is) within in
    let moved = is_moved minutes rec stamp next is numbered.civil numbered.number in
    let same : next_record minutes rec ≡ with_stamp next rec = ap (λ (o : Option (List ℕ)). unwrap_or o rec) moved in
    record {
      civil = numbered.civil;
      later = numbered.number;
      given = moved;
      is = same;
      stamp_is = ap stamp_in same ∙ stamp_given next rec numbered.civil;
    }
