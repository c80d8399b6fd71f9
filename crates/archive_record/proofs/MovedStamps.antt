-- A record whose stamp is moved on.
use Rattle.std.proofs.Common.{◌≡◌, ℕ, zero, suc, ◌+◌, ◌*◌, ◌/◌, ◌%◌, ◌≤◌, ◌<◌, ◌==◌, ◌||◌, Bool, true, false, cond, List, get_or, Option, Some, None, refl, sym, ap, ◌∙◌, arith, unsigned_abs, ℤ, pos, negsuc, length-drop}
use Rattle.std.specs.Prelude.{nat_le, nat_lt, ◌&&◌, ◌≤ℤ◌, if◌then◌else◌}
use Rattle.std.proofs.lemmas.Bool.Decides.{nat_tests}
use Rattle.std.proofs.lemmas.List.{get_or-drop}
use Rattle.jiff_core.proofs.CalendarLemmas.{days_in_month_bounds}
use Rattle.jiff_core.proofs.SignedLemmas.{signed_arith}
use Rattle.jiff_core.specs.Calendar.{days_from_civil}
use Rattle.causes.specs.Lists.{AreBytes}
use Rattle.causes.proofs.Bytes.{bytes_behind}
use Rattle.station_base.specs.CivilDate.{date_of}
use Rattle.station_base.specs.CivilMinute.{CivilMinute, IsCivilMinute, day_of, minute_of, last_minute}
use Rattle.station_base.specs.Stamp.{date_word_of, time_word_of, stamp_of_words}
use Rattle.station_base.specs.declared.row.Row.{Row}
use Rattle.station_base.proofs.Civil.{minute_within, stamp_civil}
use Rattle.station_base.proofs.Days.{epoch_day_from}
use Rattle.station_base.proofs.Minutes.{last_minute_number, minute_made, minute_of-made}
use Rattle.station_base.proofs.Order.{date_of as jiff_date}
use Rattle.station_base.proofs.Words.{stamp_of_words-of}
use Rattle.station_base.proofs.WordOrder.{words_exceed_when_later}
use Rattle.archive_record.specs.declared.record_read.RecordRead.TheVariants.{Row as ReadRow, Empty, OtherRevision}
use Rattle.archive_record.specs.Kind.{word_at}
use Rattle.archive_record.specs.Reading.{reading, dated, is_unwritten, stamp_in, record_values}
use Rattle.archive_record.specs.Record.{IsRecord, IsRow, ReadsAsRow}
use Rattle.archive_record.proofs.Rows.{parts_row, reads_this_row}
use Rattle.archive_record.specs.MovedOn.{minute_numbered, with_stamp, moved_by, moved_on}

same_by_words : (d e t u : ℕ) → (nat_lt d e || (d == e) && nat_lt t u) ≡ false → (nat_lt e d || (e == d) && nat_lt u t) ≡ false → (d ≡ e) × (t ≡ u)
same_by_words d e t u up down =
    let date : d ≡ e = grind (arith, nat_tests, up, down) in
    (date, grind (arith, nat_tests, up, down, date))

none_before : (m n : ℕ) → m ≡ n → nat_lt m n ≡ false
none_before m n same = grind (arith, nat_tests, same)

same_some : (a b : CivilMinute) → ◌≡◌ {A = Option CivilMinute} (Some a) (Some b) → a ≡ b
same_some a b same = cc

-- there is one civil minute of a number
pub same_minute : (a b : CivilMinute) → IsCivilMinute a → IsCivilMinute b → minute_of a ≡ minute_of b → a ≡ b
same_minute a b a_civil b_civil same =
    let up = words_exceed_when_later a b a_civil b_civil ∙ none_before (minute_of a) (minute_of b) same in
    let down = words_exceed_when_later b a b_civil a_civil ∙ none_before (minute_of b) (minute_of a) (sym same) in
    let words = same_by_words (date_word_of a) (date_word_of b) (time_word_of a) (time_word_of b) up down in
    same_some a b (sym (stamp_of_words-of a a_civil)
    ∙ (ap (λ (d : ℕ). stamp_of_words d (time_word_of a)) words.0 ∙ ap (λ (t : ℕ). stamp_of_words (date_word_of b) t) words.1)
    ∙ stamp_of_words-of b b_civil)

not_negative : (z : ℤ) (n : ℕ) → pos n ≤ℤ z → n ≤ unsigned_abs z
not_negative (pos m) n from = omega (arith, signed_arith)
not_negative (negsuc m) n from = absurd (omega (arith, signed_arith))

minute_from : (c : CivilMinute) → IsCivilMinute c → 15778080 ≤ minute_of c
unfolding jiff_date
minute_from c civil =
    let day : 10957 ≤ day_of c = not_negative (days_from_civil (pos c.year) c.month c.day) 10957 (epoch_day_from (jiff_date c civil) (omega (arith, signed_arith, civil.year_from))) in
    omega (arith, day)

-- The minute of a number.
pub record IsNumbered (n : ℕ) (c : CivilMinute) : Type 0 where
  pub civil : IsCivilMinute c
  pub number : minute_of c ≡ n

-- a stamp up to the last one comes so many minutes after a stamp
pub numbered_after : (c : CivilMinute) (minutes : ℕ) → IsCivilMinute c → minute_of c + minutes ≤ minute_of last_minute → IsNumbered (minute_of c + minutes) (minute_numbered (minute_of c + minutes))
numbered_after c minutes civil within =
    let number = minute_of c + minutes in
    record {
      civil = minute_made number (date_of (number / 1440)) refl (omega (arith, minute_from c civil)) (omega (arith, last_minute_number, within));
      number = minute_of-made number (date_of (number / 1440)) refl;
    }

two_bytes : (n : ℕ) → n < 65536 → n % 256 + 256 * (n / 256 % 256) ≡ n
two_bytes n small = omega (arith, small)

-- the stamp of a record is the one that it was given
pub stamp_given : (s : CivilMinute) (rec : List ℕ) → IsCivilMinute s → stamp_in (with_stamp s rec) ≡ Some s
stamp_given s rec civil =
    let longest = days_in_month_bounds (pos s.year) s.month in
    let date : word_at (with_stamp s rec) 0 ≡ date_word_of s =
    two_bytes (date_word_of s) (omega (arith, longest, civil.year_to, civil.month_to, civil.day_to)) in
    let time : word_at (with_stamp s rec) 2 ≡ time_word_of s =
    two_bytes (time_word_of s) (omega (arith, civil.hour_to, civil.minute_to)) in
    ap (λ (d : ℕ). stamp_of_words d (word_at (with_stamp s rec) 2)) date
    ∙ ap (λ (t : ℕ). stamp_of_words (date_word_of s) t) time ∙ stamp_of_words-of s civil

below_256 : (n : ℕ) → n % 256 < 256
below_256 n = omega arith

-- it is fifty-two bytes as before
pub record_given : (s : CivilMinute) (rec : List ℕ) → IsRecord rec → IsRecord (with_stamp s rec)
record_given s rec size =
    record { long = omega (arith, length-drop 4 rec, size.long); small = small }
  where
    small : AreBytes (with_stamp s rec)
    small zero = below_256 (date_word_of s)
    small (suc zero) = below_256 (date_word_of s / 256)
    small (suc (suc zero)) = below_256 (time_word_of s)
    small (suc (suc (suc zero))) = below_256 (time_word_of s / 256)
    small (suc (suc (suc (suc i)))) = bytes_behind 4 rec size.small i

row_by : (unwritten known : Bool) (stamp : Option CivilMinute) (rec : List ℕ) (period : ℕ) (row : Row)
    → cond unwritten Empty (cond known (dated rec period stamp) (OtherRevision (get_or rec 42 0))) ≡ ReadRow row
    → (stamp ≡ Some row.stamp) × IsRow (cond unwritten Empty (cond known (dated rec 1 stamp) (OtherRevision (get_or rec 42 0)))) × (row.interval ≡ period)
row_by true known stamp rec period row is = cc
row_by false false stamp rec period row is = cc
row_by false true None rec period row is = cc
row_by false true (Some stamp) rec period row is =
    let made : Row = record { stamp = stamp; interval = period; values = record_values rec; limited = 0 } in
    let same : made ≡ row = cc in
    (ap (λ (r : Row). Some r.stamp) same, tt, ap (λ (r : Row). r.interval) (sym same))

-- bytes that read as a row have its stamp, and were read at its interval
pub row_of : (rec : List ℕ) (period : ℕ) (row : Row) → reading rec period ≡ ReadRow row → (stamp_in rec ≡ Some row.stamp) × ReadsAsRow rec × (row.interval ≡ period)
unfolding reading
row_of rec period row is = row_by (is_unwritten rec) (get_or rec 42 0 == 0) (stamp_in rec) rec period row is

revision_by : (unwritten known : Bool) (stamp : Option CivilMinute) (rec : List ℕ) → IsRow (cond unwritten Empty (cond known (dated rec 1 stamp) (OtherRevision (get_or rec 42 0)))) → known ≡ true
revision_by true known stamp rec row = absurd row
revision_by false false stamp rec row = absurd row
revision_by false true stamp rec row = refl

revision_known : (rec : List ℕ) → ReadsAsRow rec → get_or rec 42 0 ≡ 0
unfolding reading
revision_known rec row =
    let test : (get_or rec 42 0 == 0) ≡ true = revision_by (is_unwritten rec) (get_or rec 42 0 == 0) (stamp_in rec) rec row in
    grind (arith, nat_tests, test)

-- its revision is as before
pub revision_given : (s : CivilMinute) (rec : List ℕ) → ReadsAsRow rec → get_or (with_stamp s rec) 42 0 ≡ 0
revision_given s rec row = get_or-drop 4 rec 38 0 ∙ revision_known rec row

-- and it reads as a row
pub row_given : (s : CivilMinute) (rec : List ℕ) → IsCivilMinute s → IsRecord rec → ReadsAsRow rec → ReadsAsRow (with_stamp s rec)
row_given s rec civil size row =
    let given = with_stamp s rec in
    let made : Row = record { stamp = s; interval = 1; values = record_values given; limited = 0 } in
    reads_this_row given made (parts_row given made (record_given s rec size).long (revision_given s rec row) (stamp_given s rec civil) refl refl)

-- where a stamp comes so many minutes later, a record moved on by them has that stamp
pub is_moved : (minutes : ℕ) (rec : List ℕ) (stamp next : CivilMinute) → stamp_in rec ≡ Some stamp → IsCivilMinute next → minute_of next ≡ minute_of stamp + minutes
    → moved_on minutes rec ≡ Some (with_stamp next rec)
unfolding moved_on
is_moved minutes rec stamp next is civil later =
    let known = stamp_civil (word_at rec 0) (word_at rec 2) stamp is in
    let within : minute_of stamp + minutes ≤ minute_of last_minute = omega (arith, later, minute_within next civil, last_minute_number) in
    let test : nat_le (minute_of stamp + minutes) (minute_of last_minute) ≡ true = grind (arith, nat_tests, within) in
    let numbered = numbered_after stamp minutes known within in
    ap (λ (s : Option CivilMinute). moved_by minutes s rec) is
    ∙ ap (λ (b : Bool). if b then Some (with_stamp (minute_numbered (minute_of stamp + minutes)) rec) else None) test
    ∙ ap (λ (s : CivilMinute). Some (with_stamp s rec)) (same_minute (minute_numbered (minute_of stamp + minutes)) next numbered.civil civil (numbered.number ∙ sym later))

-- where none comes so late, it is not moved on
pub is_last : (minutes : ℕ) (rec : List ℕ) (stamp : CivilMinute) → stamp_in rec ≡ Some stamp → ¬ (minute_of stamp + minutes ≤ minute_of last_minute)
    → moved_on minutes rec ≡ None
unfolding moved_on
is_last minutes rec stamp is beyond =
    let test : nat_le (minute_of stamp + minutes) (minute_of last_minute) ≡ false = not_within (minute_of stamp + minutes) (minute_of last_minute) beyond in
    ap (λ (s : Option CivilMinute). moved_by minutes s rec) is
    ∙ ap (λ (b : Bool). if b then Some (with_stamp (minute_numbered (minute_of stamp + minutes)) rec) else None) test
  where
    not_within : (m n : ℕ) → ¬ (m ≤ n) → nat_le m n ≡ false
    not_within m n beyond = grind (arith, nat_tests, beyond)
