-- What was written: it tells the row, and no other record does.
use Rattle.std.proofs.Common.{◌≡◌, ◌⊎◌, ℕ, ◌<◌, ◌≤◌, ◌==◌, true, List, length, slice_index, Some, refl, sym, ◌∙◌, arith, inl, inr}
use Rattle.std.proofs.lemmas.Bool.Decides.{nat_tests}
use Rattle.station_base.specs.CivilMinute.{IsCivilMinute}
use Rattle.station_base.specs.declared.row.Row.{Row}
use Rattle.station_base.specs.Stamp.{date_word_of, time_word_of}
use Rattle.station_base.proofs.Words.{stamp_of_words-of, words_of-stamp}
use Rattle.archive_record.specs.declared.record_read.RecordRead.TheVariants.{Row as ReadRow}
use Rattle.archive_record.specs.Kind.{word_at}
use Rattle.archive_record.specs.Reading.{reading, record_values, stamp_in}
use Rattle.archive_record.specs.Record.{IsRecord}
use Rattle.archive_record.specs.Writing.{TellsRow}
use Rattle.archive_record.proofs.Cover.{same_record}
use Rattle.archive_record.proofs.Rows.{row_parts, parts_row}
use Rattle.archive_record.specs.Place.{record_size}

-- words stay where the bytes of the stamp stay
pub words_stay : (old new : List ℕ) → ((i : ℕ) → (i < 4) ⊎ (i ≡ 42) → slice_index new i ≡ slice_index old i) →
    (word_at new 0 ≡ word_at old 0) × (word_at new 2 ≡ word_at old 2) × (slice_index new 42 ≡ slice_index old 42)
words_stay old new same = (
  omega (arith, same 0 (inl (omega arith)), same 1 (inl (omega arith))),
  omega (arith, same 2 (inl (omega arith)), same 3 (inl (omega arith))),
  same 42 (inr refl),
)

-- what tells a row reads as the row
pub tells_read : (bytes : List ℕ) (row : Row) → length bytes ≡ record_size → IsCivilMinute row.stamp → row.limited ≡ 0 → TellsRow bytes row → reading bytes row.interval ≡ ReadRow row
tells_read bytes row long civil unlimited tells =
    let stamp : stamp_in bytes ≡ Some row.stamp = rw (tells.date, tells.time) (stamp_of_words-of row.stamp civil) in
    parts_row bytes row long tells.revision stamp tells.values unlimited

byte_zero : (n : ℕ) → (n == 0) ≡ true → n ≡ 0
byte_zero n is = grind (arith, nat_tests)

-- what reads as a row tells it
pub read_tells : (bytes : List ℕ) (row : Row) → reading bytes row.interval ≡ ReadRow row → TellsRow bytes row
read_tells bytes row is =
    let parts = row_parts bytes row is in
    let words = words_of-stamp (word_at bytes 0) (word_at bytes 2) row.stamp parts.stamp in
    record { date = sym words.0; time = sym words.1; revision = byte_zero _ parts.known; values = parts.values }

-- and no two records tell one row
pub tells_once : (a b : List ℕ) (row : Row) → IsRecord a → IsRecord b → TellsRow a row → TellsRow b row → a ≡ b
tells_once a b row a_is b_is a_tells b_tells =
    same_record a b a_is b_is (a_tells.date ∙ sym b_tells.date) (a_tells.time ∙ sym b_tells.time) (a_tells.revision ∙ sym b_tells.revision) (a_tells.values ∙ sym b_tells.values)

-- the bytes that the code makes tell the row: the words first, and then the values
pub tells_made : (first second bytes : List ℕ) (row : Row) (date time : ℕ) → date ≡ date_word_of row.stamp → time ≡ time_word_of row.stamp →
    slice_index first 42 ≡ 0 → word_at first 0 ≡ date → word_at second 2 ≡ time → ((i : ℕ) → (i < 2) ⊎ (4 ≤ i) → slice_index second i ≡ slice_index first i) →
    ((i : ℕ) → (i < 4) ⊎ (i ≡ 42) → slice_index bytes i ≡ slice_index second i) → record_values bytes ≡ row.values → TellsRow bytes row
tells_made first second bytes row date time date_is time_is revision date_at time_at others stay values =
    let words = words_stay second bytes stay in
    let kept : word_at second 0 ≡ word_at first 0 = omega (arith, others 0 (inl (omega arith)), others 1 (inl (omega arith))) in
    let revision_kept : slice_index second 42 ≡ slice_index first 42 = others 42 (inr (omega arith)) in
    record { date = words.0 ∙ kept ∙ date_at ∙ date_is; time = words.1 ∙ time_at ∙ time_is; revision = words.2 ∙ revision_kept ∙ revision; values = values }
