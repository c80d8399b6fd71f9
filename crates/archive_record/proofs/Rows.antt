-- Which bytes read as a row, and as which.
use Rattle.std.proofs.Common.{◌≡◌, ℕ, ℤ, ◌==◌, Bool, true, false, cond, List, length, slice_index, Option, Some, None, IsSome, refl, sym, ap, ◌∙◌, arith}
use Rattle.std.proofs.lemmas.List.Folds.{list_all_at}
use Rattle.station_base.specs.CivilMinute.{CivilMinute}
use Rattle.station_base.specs.declared.row.Row.{Row}
use Rattle.archive_record.specs.declared.record_read.RecordRead.{RecordRead}
use Rattle.archive_record.specs.declared.record_read.RecordRead.TheVariants.{Row as ReadRow, Empty, OtherRevision, BadStamp}
use Rattle.archive_record.specs.Reading.{is_unwritten, stamp_in, record_values, dated, reading}
use Rattle.archive_record.specs.Record.{IsRow, ReadsAsRow, is_row, reads_as_row}
use Rattle.archive_record.specs.Place.{record_size}

-- bytes read as a row just if they pass the test
row_passes : (x : RecordRead) → IsRow x → is_row x ≡ true
row_passes (ReadRow row) h = refl
row_passes Empty h = absurd h
row_passes (OtherRevision revision) h = absurd h
row_passes (BadStamp date time) h = absurd h

passed : (x : RecordRead) → is_row x ≡ true → IsRow x
passed (ReadRow row) h = tt
passed Empty h = cc
passed (OtherRevision revision) h = cc
passed (BadStamp date time) h = cc

pub reads_row : (bytes : List ℕ) → ReadsAsRow bytes → reads_as_row bytes ≡ true
reads_row bytes h = row_passes (reading bytes 1) h

pub row_reads : (bytes : List ℕ) → reads_as_row bytes ≡ true → ReadsAsRow bytes
row_reads bytes h = passed (reading bytes 1) h

-- a reading by its tests
chosen : Bool → Bool → Option CivilMinute → List ℕ → ℕ → RecordRead
chosen unwritten known stamp bytes interval = cond unwritten Empty (cond known (dated bytes interval stamp) (OtherRevision (slice_index bytes 42)))

-- what makes the bytes read as that row
pub record HasParts (bytes : List ℕ) (row : Row) : Type 0 where
  pub known : (slice_index bytes 42 == 0) ≡ true
  pub stamp : stamp_in bytes ≡ Some row.stamp
  pub values : record_values bytes ≡ row.values
  pub unlimited : row.limited ≡ 0

parts_by : (unwritten known : Bool) (stamp : Option CivilMinute) (bytes : List ℕ) (row : Row) → chosen unwritten known stamp bytes row.interval ≡ ReadRow row →
    (known ≡ true) × (stamp ≡ Some row.stamp) × (record_values bytes ≡ row.values) × (row.limited ≡ 0)
unfolding chosen
parts_by true known stamp bytes row is = cc
parts_by false false stamp bytes row is = cc
parts_by false true None bytes row is = cc
parts_by false true (Some stamp) bytes row is =
    let made : Row = record { stamp = stamp; interval = row.interval; values = record_values bytes; limited = 0 } in
    let same : made ≡ row = cc in
    (refl, ap (λ r. Some r.stamp) same, ap (λ r. r.values) same, sym (ap (λ r. r.limited) same))

pub row_parts : (bytes : List ℕ) (row : Row) → reading bytes row.interval ≡ ReadRow row → HasParts bytes row
unfolding chosen reading
row_parts bytes row is =
    let parts = parts_by (is_unwritten bytes) (slice_index bytes 42 == 0) (stamp_in bytes) bytes row is in
    record { known = parts.0; stamp = parts.1; values = parts.2; unlimited = parts.3 }

-- a slot that was never written has no record of revision B
written : (bytes : List ℕ) → length bytes ≡ record_size → slice_index bytes 42 ≡ 0 → is_unwritten bytes ≡ false
written bytes long revision =
    list_all_at (λ byte. byte == 255) bytes 42 0 (omega arith) (ap (λ byte. byte == 255) revision)

made : CivilMinute → ℕ → List (Option ℤ) → Row
made stamp interval values = record { stamp = stamp; interval = interval; values = values; limited = 0 }

same_row : (stamp : CivilMinute) (interval : ℕ) (values : List (Option ℤ)) (row : Row) → stamp ≡ row.stamp → interval ≡ row.interval → values ≡ row.values → row.limited ≡ 0 →
    made stamp interval values ≡ row
unfolding made
same_row stamp interval values row s i v l =
    let same : made stamp interval values ≡ made row.stamp row.interval row.values = rw (s, i, v) refl in
    same ∙ ap (λ (n : ℕ). record { stamp = row.stamp; interval = row.interval; values = row.values; limited = n }) (sym l)

chosen_row : (unwritten known : Bool) (stamp : Option CivilMinute) (bytes : List ℕ) (row : Row) → unwritten ≡ false → known ≡ true →
    stamp ≡ Some row.stamp → record_values bytes ≡ row.values → row.limited ≡ 0 → chosen unwritten known stamp bytes row.interval ≡ ReadRow row
unfolding chosen made
chosen_row unwritten known stamp bytes row u k s v l =
    rw (u, k, s) (ap (λ r. ReadRow r) (same_row row.stamp row.interval (record_values bytes) row refl refl v l))

-- bytes with the parts of a row read as that row
pub parts_row : (bytes : List ℕ) (row : Row) → length bytes ≡ record_size → slice_index bytes 42 ≡ 0 → stamp_in bytes ≡ Some row.stamp → record_values bytes ≡ row.values → row.limited ≡ 0 →
    reading bytes row.interval ≡ ReadRow row
unfolding chosen reading made
parts_row bytes row long revision stamp values unlimited =
    chosen_row (is_unwritten bytes) (slice_index bytes 42 == 0) (stamp_in bytes) bytes row (written bytes long revision) (ap (λ byte. byte == 0) revision) stamp values unlimited

-- what reads as a row has a stamp
some_by : (unwritten known : Bool) (stamp : Option CivilMinute) (bytes : List ℕ) → IsRow (chosen unwritten known stamp bytes 1) → IsSome stamp
unfolding chosen
some_by true known stamp bytes row = absurd row
some_by false false stamp bytes row = absurd row
some_by false true None bytes row = absurd row
some_by false true (Some stamp) bytes row = refl

pub stamp_some : (bytes : List ℕ) → ReadsAsRow bytes → IsSome (stamp_in bytes)
unfolding chosen reading
stamp_some bytes row = some_by (is_unwritten bytes) (slice_index bytes 42 == 0) (stamp_in bytes) bytes row

-- and is of revision B
known_by : (unwritten known : Bool) (stamp : Option CivilMinute) (bytes : List ℕ) → IsRow (chosen unwritten known stamp bytes 1) → known ≡ true
unfolding chosen
known_by true known stamp bytes row = absurd row
known_by false false stamp bytes row = absurd row
known_by false true stamp bytes row = refl

pub row_known : (bytes : List ℕ) → ReadsAsRow bytes → (slice_index bytes 42 == 0) ≡ true
unfolding chosen reading
row_known bytes row = known_by (is_unwritten bytes) (slice_index bytes 42 == 0) (stamp_in bytes) bytes row

-- a reading as a row is one at whatever interval
row_by : (unwritten known : Bool) (stamp : Option CivilMinute) (bytes : List ℕ) (row : Row) → chosen unwritten known stamp bytes row.interval ≡ ReadRow row →
    IsRow (chosen unwritten known stamp bytes 1)
unfolding chosen
row_by true known stamp bytes row is = cc
row_by false false stamp bytes row is = cc
row_by false true None bytes row is = cc
row_by false true (Some stamp) bytes row is = tt

pub reads_this_row : (bytes : List ℕ) (row : Row) → reading bytes row.interval ≡ ReadRow row → ReadsAsRow bytes
unfolding chosen reading
reads_this_row bytes row is = row_by (is_unwritten bytes) (slice_index bytes 42 == 0) (stamp_in bytes) bytes row is

-- what reads as a row at one interval does at any
row_at_by : (unwritten known : Bool) (stamp : Option CivilMinute) (bytes : List ℕ) (interval : ℕ) → IsRow (chosen unwritten known stamp bytes 1) → IsRow (chosen unwritten known stamp bytes interval)
unfolding chosen
row_at_by true known stamp bytes interval row = row
row_at_by false false stamp bytes interval row = row
row_at_by false true None bytes interval row = row
row_at_by false true (Some stamp) bytes interval row = tt

pub row_at : (bytes : List ℕ) (interval : ℕ) → ReadsAsRow bytes → IsRow (reading bytes interval)
unfolding chosen reading
row_at bytes interval row = row_at_by (is_unwritten bytes) (slice_index bytes 42 == 0) (stamp_in bytes) bytes interval row

-- bytes of revision B with a stamp read as a row
pub row_with : (bytes : List ℕ) (stamp : CivilMinute) → length bytes ≡ record_size → slice_index bytes 42 ≡ 0 → stamp_in bytes ≡ Some stamp → ReadsAsRow bytes
unfolding made
row_with bytes stamp long revision is =
    reads_this_row bytes (made stamp 1 (record_values bytes)) (parts_row bytes (made stamp 1 (record_values bytes)) long revision is refl refl)
