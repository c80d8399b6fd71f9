-- What the batches of a round leave of an archive, in rows and slots.
use Rattle.std.proofs.Common.{◌≡◌, ◌≢◌, ℕ, ◌+◌, ◌*◌, ◌≤◌, Bool, true, false, List, [], ◌∷◌, ◌++◌, length, Option, sym, ◌∙◌, ap, subst, arith, append_assoc, append-nil}
use Rattle.station_base.specs.CivilMinute.{CivilMinute}
use Rattle.station_base.specs.declared.row.Row.{Row}
use Rattle.settings_file.specs.StationSettings.{StationSettings}
use Rattle.causes.specs.declared.stored.Stored.TheVariants as kept
use Rattle.dmpaft_pump.specs.Batch.{batches}
use Rattle.dmpaft_driver.specs.Gathered as outcome
use Rattle.dmpaft_pump.specs.Keeper.{Handed, join}
use Rattle.packed_rows.specs.Closing.{closings, begins_day}
use Rattle.packed_rows.specs.Rising.{last_row_stamp}
use Rattle.packed_rows.specs.Rows.{slot_total}
use Rattle.packed_rows.proofs.RowLaws.{total_push}
use Rattle.station_session.specs.Attempts.{MadeAttempt, all_batches, batches_in, stamp_after}
use Rattle.station_session.specs.Batches.{all_records, kept_records, last_answer}
use Rattle.station_session.specs.Holding.{rows_after_batches}
use Rattle.station_session.specs.Records.{AllRead}
use Rattle.replay_laws.specs.Keeping.{Archive}
use Rattle.schedule_file.specs.declared.schedule.step.Stop.{Stop}
use Rattle.replay_laws.specs.Room.{slots_in_a_record}
use Rattle.replay_laws.specs.Session.{archive_left_after}
use Rattle.replay_laws.proofs.Stamped.{read_front, read_back, batches_read}
use Rattle.replay_laws.proofs.Stops.{rows_kept, left_kept}
use Rattle.replay_laws.proofs.Wanted.{answered_all}
use Rattle.daily_summary.specs.Parts.{part_count}

-- the rows after batches none of which met a disk fault
pub rows_after : (settings : StationSettings) (stop : Option Stop) (n : ℕ) (a : Archive) (steps : Handed) → last_answer steps ≢ kept.DiskFault → (archive_left_after settings stop n a steps).rows ≡ rows_after_batches settings a.rows steps
rows_after settings stop n a steps none = ap (λ (x : Archive). x.rows) (left_kept settings stop n a steps none) ∙ sym (rows_kept settings a steps)

-- records that read as rows behind others
read_join : (xs ys : List (List ℕ)) → AllRead xs → AllRead ys → AllRead (xs ++ ys)
read_join [] ys a b = b
read_join (x ∷ xs) ys a b = (a.0, read_join xs ys a.1 b)

-- and so do those of batches behind others
all_join : (first later : Handed) → AllRead (all_records first) → AllRead (all_records later) → AllRead (all_records (join first later))
all_join Handed.Nothing later a b = b
all_join (Handed.Kept rows more) later a b = read_join rows (all_records (join more later)) (read_front rows (all_records more) a) (all_join more later (read_back rows (all_records more) a) b)
all_join (Handed.Refused rows why) later a b = a

-- all batches of attempts are of records that read as rows
pub all_read : (last : Option CivilMinute) (ts : List MadeAttempt) → AllRead (all_records (all_batches last ts))
all_read last [] = tt
all_read last (t ∷ ts) =
    all_join (batches_in last t) (all_batches (stamp_after last t) ts)
    (subst AllRead (sym (answered_all (outcome.keeper_answer t.end) (batches last t.place t.taken))) (batches_read last t.place t.taken))
    (all_read (stamp_after last t) ts)

-- and so are those that were kept
pub kept_read : (steps : Handed) → AllRead (all_records steps) → AllRead (kept_records steps)
kept_read Handed.Nothing h = tt
kept_read (Handed.Kept rows more) h = read_join rows (kept_records more) (read_front rows (all_records more) h) (kept_read more (read_back rows (all_records more) h))
kept_read (Handed.Refused rows why) h = tt

few_closings : (b : Bool) → closings b ≤ part_count
few_closings true = omega arith
few_closings false = omega arith

-- rows take at most so many slots each
total_more : (rows more : List Row) → slot_total (rows ++ more) ≤ slot_total rows + slots_in_a_record * length more
total_more rows [] = let e = ap slot_total (append-nil rows) in omega (arith, e)
total_more rows (row ∷ more) =
    let e = ap slot_total (append_assoc rows (row ∷ []) more) in
    let rest = total_more (rows ++ row ∷ []) more in
    omega (arith, e, rest, total_push rows row, few_closings (begins_day (last_row_stamp rows) row.stamp))

pub total_few : (rows : List Row) → slot_total rows ≤ slots_in_a_record * length rows
total_few rows = let m = total_more [] rows in omega (arith, m)
