-- Records that read as rows, and the last stamp of the rows that they give.
use Rattle.std.proofs.Common.{◌≡◌, ℕ, zero, suc, Bool, true, false, List, [], ◌∷◌, ◌++◌, take, drop, cond, Option, Some, None, refl, sym, ◌∙◌, subst}
use Rattle.std.specs.Prelude.{filter, ◌&&◌}
use Rattle.station_base.specs.CivilMinute.{CivilMinute}
use Rattle.station_base.specs.declared.row.Row.{Row}
use Rattle.settings_file.specs.StationSettings.{StationSettings}
use Rattle.archive_record.specs.Kind.{word_at}
use Rattle.archive_record.specs.Reading.{stamp_in}
use Rattle.archive_record.specs.Record.{reads_as_row}
use Rattle.archive_record.proofs.Rows.{row_reads}
use Rattle.station_base.proofs.Civil.{stamp_civil}
use Rattle.console_ring.specs.History.{retained}
use Rattle.dmpaft_pump.specs.Batch.{batches, records_in, rising, one_if, last_if, all_slots}
use Rattle.station_base.specs.LastStamp as stamps
use Rattle.station_base.specs.LastStamp.{exceeds}
use Rattle.dmpaft_pump.proofs.RisingBatches.{batches_rise}
use Rattle.packed_rows.specs.Rising.{last_row_stamp}
use Rattle.station_session.specs.Records.{stored_rows, AllRead}
use Rattle.station_session.proofs.Stamps.{last_is, last_append}
use Rattle.station_sim.specs.Sound.{AreRecords}
use Rattle.line_laws.specs.Gathers.{IsStamp}
use Rattle.replay_laws.specs.DumpCounts.{offered}

pub read_front : (xs ys : List (List ℕ)) → AllRead (xs ++ ys) → AllRead xs
read_front [] ys h = tt
read_front (x ∷ xs) ys h = (h.0, read_front xs ys h.1)

pub read_back : (xs ys : List (List ℕ)) → AllRead (xs ++ ys) → AllRead ys
read_back [] ys h = h
read_back (x ∷ xs) ys h = read_back xs ys h.1

pub read_take : (n : ℕ) (xs : List (List ℕ)) → AllRead xs → AllRead (take n xs)
read_take zero xs h = tt
read_take (suc n) [] h = tt
read_take (suc n) (x ∷ xs) h = (h.0, read_take n xs h.1)

pub read_drop : (n : ℕ) (xs : List (List ℕ)) → AllRead xs → AllRead (drop n xs)
read_drop zero xs h = h
read_drop (suc n) [] h = tt
read_drop (suc n) (x ∷ xs) h = read_drop n xs h.1

pub read_filter : (p : List ℕ → Bool) (xs : List (List ℕ)) → AllRead xs → AllRead (filter p xs)
read_filter p [] h = tt
read_filter p (x ∷ xs) h = go (p x) (read_filter p xs h.1)
  where
    go : (t : Bool) → AllRead (filter p xs) → AllRead (cond t (x ∷ filter p xs) (filter p xs))
    go true more = (h.0, more)
    go false more = more

pub read_of : (rs : List (List ℕ)) → AreRecords rs → AllRead rs
read_of [] h = tt
read_of (r ∷ rs) h = (h.1, read_of rs h.2)

-- what a dump could give are records
pub offered_read : (r : List (List ℕ)) → AreRecords r → (rows : List Row) (due : ℕ) → AllRead (offered r rows due)
offered_read r are rows due = read_filter _ (retained (take due r)) (read_drop _ (take due r) (read_take due r (read_of r are)))

rising_read : (a : Option CivilMinute) (ss : List (List ℕ)) → AllRead (rising a ss)
rising_read a [] = tt
rising_read a (s ∷ ss) = go (reads_as_row s) (exceeds a (stamp_in s)) refl (λ b. rising_read b ss)
  where
    go : (t u : Bool) → reads_as_row s ≡ t → ((b : Option CivilMinute) → AllRead (rising b ss)) → AllRead (one_if (t && u) s ++ rising (last_if (t && u) a s) ss)
    go true true e more = (row_reads s e, more (stamp_in s))
    go true false e more = more a
    go false u e more = more a

-- the batches of pages hold records
pub batches_read : (a : Option CivilMinute) (place : ℕ) (taken : List (List ℕ)) → AllRead (records_in (batches a place taken))
batches_read a place taken = subst AllRead (sym (batches_rise a place taken)) (rising_read a (all_slots place taken))

-- the stamp of a record is one of the calendar
stamp_ok : (r : List ℕ) → IsStamp (stamp_in r)
stamp_ok r = go (stamp_in r) refl
  where
    go : (o : Option CivilMinute) → stamp_in r ≡ o → IsStamp o
    go None e = tt
    go (Some s) e = stamp_civil (word_at r 0) (word_at r 2) s e

last_ok : (rs : List (List ℕ)) (before : Option CivilMinute) → IsStamp before → IsStamp (stamps.last_stamp stamp_in rs before)
last_ok [] before h = h
last_ok (r ∷ rs) before h = last_ok rs (stamp_in r) (stamp_ok r)

-- the last stamp of rows with those of records
pub last_with : (settings : StationSettings) (rows : List Row) (xs : List (List ℕ)) → AllRead xs → last_row_stamp (rows ++ stored_rows settings xs) ≡ stamps.last_stamp stamp_in xs (last_row_stamp rows)
last_with settings rows xs h = last_append None rows (stored_rows settings xs) ∙ last_is settings xs (last_row_stamp rows) h

pub rows_stamp : (settings : StationSettings) (rows : List Row) (xs : List (List ℕ)) → AllRead xs → IsStamp (last_row_stamp rows) → IsStamp (last_row_stamp (rows ++ stored_rows settings xs))
rows_stamp settings rows xs h s = subst IsStamp (sym (last_with settings rows xs h)) (last_ok xs (last_row_stamp rows) s)
