-- The minute that two words spell.
use Rattle.std.proofs.Common.{◌≡◌, ℕ, ◌+◌, ◌-◌, ◌*◌, ◌≤◌, arith, refl, ◌/◌, ◌%◌, if◌then◌else◌, Option, Some, None, ap}
use Rattle.station_base.specs.CivilMinute.{CivilMinute, is_civil_minute}
use Rattle.station_base.specs.Stamp.{spelled_stamp, stamp_of_words}
use Rattle.schedule_file.specs.declared.schedule.stamps.Date.{Date}
use Rattle.schedule_file.specs.declared.schedule.stamps.Clock.{Clock}
use Rattle.schedule_file.specs.Words.{minute_at}

-- words made of a minute's parts spell it
spelled_back : (year month day hour minute : ℕ) → 2000 ≤ year → month ≤ 12 → day ≤ 31 → minute ≤ 59
    → spelled_stamp (day + 32 * month + 512 * (year - 2000)) (100 * hour + minute)
    ≡ record { year = year; month = month; day = day; hour = hour; minute = minute }
spelled_back year month day hour minute from m d n =
    let y : 2000 + (day + 32 * month + 512 * (year - 2000)) / 512 ≡ year = omega arith in
    let mo : (day + 32 * month + 512 * (year - 2000)) / 32 % 16 ≡ month = omega arith in
    let da : (day + 32 * month + 512 * (year - 2000)) % 32 ≡ day = omega arith in
    let ho : (100 * hour + minute) / 100 ≡ hour = omega arith in
    let mi : (100 * hour + minute) % 100 ≡ minute = omega arith in
    rw (y, mo, da, ho, mi) refl

-- a minute that the calendar has
abbrev civil : CivilMinute → Option CivilMinute
civil minute = if is_civil_minute minute then Some minute else None

-- so they name the minute, where the calendar has it
pub words_name : (date : Date) (clock : Clock) → 2000 ≤ date.year → date.month ≤ 12 → date.day ≤ 31 → clock.minute ≤ 59
    → stamp_of_words (date.day + 32 * date.month + 512 * (date.year - 2000)) (100 * clock.hour + clock.minute) ≡ minute_at date clock
unfolding stamp_of_words minute_at
words_name date clock from m d n = ap civil (spelled_back date.year date.month date.day clock.hour clock.minute from m d n)
