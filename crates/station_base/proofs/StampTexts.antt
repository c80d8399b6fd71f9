-- The minute of a text.
use Rattle.std.proofs.Common.{◌≡◌, ℕ, ◌+◌, ◌-◌, ◌*◌, ◌/◌, ◌%◌, ◌≤◌, ◌<◌, ◌≢◌, ◌&&◌, Bool, true, false, cond, Some, None, List, length, bytes_eq, if◌then◌else◌, refl, ap, sym, ◌∙◌, arith, pos}
use Rattle.jiff_core.proofs.CalendarLemmas.{days_in_month_bounds}
use Rattle.std.proofs.lemmas.Slice.Eq.{bytes_eq-Decides}
use Rattle.station_base.specs.CivilMinute.{CivilMinute, IsCivilMinute, is_civil_minute}
use Rattle.station_base.specs.Stamp.{spelled_stamp, spelled_in, stamp_of_words, stamp_of_text, stamp_text}
use Rattle.station_base.proofs.Words.{test_holds}

-- words made of a minute's parts spell it
spelled_back : (year month day hour minute : ℕ) → 2000 ≤ year → month ≤ 12 → day ≤ 31 → minute ≤ 59
    → spelled_stamp (day + 32 * month + 512 * (year - 2000)) (100 * hour + minute)
    ≡ record { year = year; month = month; day = day; hour = hour; minute = minute }
spelled_back year month day hour minute from m d n =
    let y : 2000 + (day + 32 * month + 512 * (year - 2000)) / 512 ≡ year = omega arith in
    let mo : (day + 32 * month + 512 * (year - 2000)) / 32 % 16 ≡ month = omega arith in
    let da : (day + 32 * month + 512 * (year - 2000)) % 32 ≡ day = omega arith in
    let ho : (100 * hour + minute) / 100 ≡ hour = omega arith in
    let mi : (100 * hour + minute) % 100 ≡ minute = omega arith in
    rw (y, mo, da, ho, mi) refl

-- so they name the minute, where the calendar has it
pub words_name : (c : CivilMinute) → 2000 ≤ c.year → c.month ≤ 12 → c.day ≤ 31 → c.minute ≤ 59
    → stamp_of_words (c.day + 32 * c.month + 512 * (c.year - 2000)) (100 * c.hour + c.minute) ≡ (if is_civil_minute c then Some c else None)
unfolding stamp_of_words
words_name c from m d n =
    ap (λ (x : CivilMinute). if is_civil_minute x then Some x else None) (spelled_back c.year c.month c.day c.hour c.minute from m d n)

text_size : (c : CivilMinute) → length (stamp_text c) ≡ 16
unfolding stamp_text
text_size c = refl

spells : (s : CivilMinute) (text : List ℕ) (civil same : Bool) → bytes_eq (stamp_text s) text ≡ same → length text ≢ 16
    → cond (civil && same) (Some s) None ≡ None
spells s text civil true e other =
    absurd (other (ap length (sym ((bytes_eq-Decides (stamp_text s) text).0 e)) ∙ text_size s))
spells s text true false e other = refl
spells s text false false e other = refl

-- a text of another length is none of a stamp
pub stamp_of_text-other : (text : List ℕ) → length text ≢ 16 → stamp_of_text text ≡ None
unfolding stamp_of_text
stamp_of_text-other text other =
    spells (spelled_in text) text (is_civil_minute (spelled_in text)) (bytes_eq (stamp_text (spelled_in text)) text) refl other

-- a stamp's text spells it
spelled_of : (c : CivilMinute) → IsCivilMinute c → spelled_in (stamp_text c) ≡ c
unfolding stamp_text
spelled_of c civil =
    let year : 100 * (10 * (48 + c.year / 1000 % 10 - 48) + (48 + c.year / 100 % 10 - 48)) + (10 * (48 + c.year / 10 % 10 - 48) + (48 + c.year / 1 % 10 - 48)) ≡ c.year = omega (arith, civil.year_from, civil.year_to) in
    let two : (n : ℕ) → n < 100 → 10 * (48 + n / 10 % 10 - 48) + (48 + n / 1 % 10 - 48) ≡ n = (λ n low. omega arith) in
    let month : c.month < 100 = omega (arith, civil.month_to) in
    let day : c.day < 100 = omega (arith, civil.day_to, days_in_month_bounds (pos c.year) c.month) in
    let hour : c.hour < 100 = omega (arith, civil.hour_to) in
    let minute : c.minute < 100 = omega (arith, civil.minute_to) in
    rw (year, two c.month month, two c.day day, two c.hour hour, two c.minute minute) refl

chosen : (s c : CivilMinute) (civil same : Bool) → s ≡ c → civil ≡ true → same ≡ true → cond (civil && same) (Some s) None ≡ Some c
chosen s c civil same is civil_is same_is = rw (civil_is, same_is, is) refl

-- a text of a civil minute is read as that
pub stamp_read_back : (c : CivilMinute) → IsCivilMinute c → stamp_of_text (stamp_text c) ≡ Some c
unfolding stamp_of_text
stamp_read_back c civil =
    let back = spelled_of c civil in
    let same = ap (λ (x : CivilMinute). bytes_eq (stamp_text x) (stamp_text c)) back ∙ (bytes_eq-Decides (stamp_text c) (stamp_text c)).1 refl in
    chosen (spelled_in (stamp_text c)) c (is_civil_minute (spelled_in (stamp_text c))) (bytes_eq (stamp_text (spelled_in (stamp_text c))) (stamp_text c))
    back (ap is_civil_minute back ∙ test_holds c civil) same
