-- The words of a minute name it.
use Rattle.std.proofs.Common.{◌≡◌, ℕ, ◌+◌, ◌*◌, ◌/◌, ◌%◌, ◌≤◌, ◌<◌, ◌&&◌, Bool, true, false, Some, None, cond, refl, ap, sym, ◌∙◌, ◌-◌, arith, pos, nat_le, nat_lt}
use Rattle.std.proofs.lemmas.Bool.Decides.{nat_tests}
use Rattle.jiff_core.proofs.CalendarLemmas.{days_in_month_bounds}
use Rattle.jiff_core.specs.Calendar.{days_in_month}
use Rattle.station_base.specs.CivilMinute.{CivilMinute, IsCivilMinute, is_civil_minute}
use Rattle.station_base.specs.Stamp.{date_word_of, time_word_of, stamp_of_words, spelled_stamp}

made_of : ℕ → ℕ → ℕ → ℕ → ℕ → CivilMinute
made_of year month day hour minute = record { year = year; month = month; day = day; hour = hour; minute = minute }

spelled_back : (c : CivilMinute) → IsCivilMinute c → spelled_stamp (date_word_of c) (time_word_of c) ≡ c
unfolding made_of
spelled_back c civil =
    let longest = days_in_month_bounds (pos c.year) c.month in
    let date = date_word_of c in
    let time = time_word_of c in
    let year : 2000 + date / 512 ≡ c.year = omega (arith, civil.year_from, civil.year_to, civil.month_to, civil.day_to) in
    let month : date / 32 % 16 ≡ c.month = omega (arith, civil.year_from, civil.year_to, civil.month_to, civil.day_to) in
    let day : date % 32 ≡ c.day = omega (arith, civil.day_to) in
    let hour : time / 100 ≡ c.hour = omega (arith, civil.minute_to) in
    let minute : time % 100 ≡ c.minute = omega (arith, civil.minute_to) in
    let same : made_of (2000 + date / 512) (date / 32 % 16) (date % 32) (time / 100) (time % 100) ≡ made_of c.year c.month c.day c.hour c.minute =
    rw (year, month, day, hour, minute) refl in
    same

all_of : (a b c d e f g h : Bool) → a ≡ true → b ≡ true → c ≡ true → d ≡ true → e ≡ true → f ≡ true → g ≡ true → h ≡ true → (a && b && c && d && e && f && g && h) ≡ true
all_of a b c d e f g h at bt ct dt et ft gt ht = rw (at, bt, ct, dt, et, ft, gt, ht) refl

le_test : (m n : ℕ) → m ≤ n → nat_le m n ≡ true
le_test m n h = grind (arith, nat_tests)

lt_test : (m n : ℕ) → m < n → nat_lt m n ≡ true
lt_test m n h = grind (arith, nat_tests)

-- a civil minute passes the test
pub test_holds : (c : CivilMinute) → IsCivilMinute c → is_civil_minute c ≡ true
test_holds c civil =
    all_of (nat_le 2000 c.year) (nat_le c.year 2127) (nat_le 1 c.month) (nat_le c.month 12) (nat_le 1 c.day) (nat_le c.day (days_in_month (pos c.year) c.month)) (nat_lt c.hour 24) (nat_lt c.minute 60)
    (le_test _ _ civil.year_from) (le_test _ _ civil.year_to) (le_test _ _ civil.month_from) (le_test _ _ civil.month_to) (le_test _ _ civil.day_from) (le_test _ _ civil.day_to) (lt_test _ _ civil.hour_to) (lt_test _ _ civil.minute_to)

chosen : (s c : CivilMinute) (test : Bool) → s ≡ c → test ≡ true → cond test (Some s) None ≡ Some c
chosen s c test same holds = rw (holds, same) refl

-- the words of a civil minute name it
pub stamp_of_words-of : (c : CivilMinute) → IsCivilMinute c → stamp_of_words (date_word_of c) (time_word_of c) ≡ Some c
unfolding stamp_of_words
stamp_of_words-of c civil =
    let back = spelled_back c civil in
    chosen (spelled_stamp (date_word_of c) (time_word_of c)) c (is_civil_minute (spelled_stamp (date_word_of c) (time_word_of c))) back (ap is_civil_minute back ∙ test_holds c civil)

word_back : (date : ℕ) → date % 32 + 32 * (date / 32 % 16) + 512 * (2000 + date / 512 - 2000) ≡ date
word_back date = omega arith

time_back : (time : ℕ) → 100 * (time / 100) + time % 100 ≡ time
time_back time = omega arith

words_by : (date time : ℕ) (c : CivilMinute) (test : Bool) → cond test (Some (spelled_stamp date time)) None ≡ Some c → (date_word_of c ≡ date) × (time_word_of c ≡ time)
words_by date time c true is =
    let same : spelled_stamp date time ≡ c = cc in
    (ap date_word_of (sym same) ∙ word_back date, ap time_word_of (sym same) ∙ time_back time)
words_by date time c false is = cc

-- and a minute that words name has these words
pub words_of-stamp : (date time : ℕ) (c : CivilMinute) → stamp_of_words date time ≡ Some c → (date_word_of c ≡ date) × (time_word_of c ≡ time)
unfolding stamp_of_words
words_of-stamp date time c is = words_by date time c (is_civil_minute (spelled_stamp date time)) is
