-- What single words of a schedule say: numbers, values, stamps, masks and fates.
use Rattle.std.specs.Prelude.{ℕ, ℤ, pos, neg_ℤ, ◌+◌, ◌==◌, Bool, ◌&&◌, if◌then◌else◌, List, []}
use Rattle.std.specs.Prelude.{◌∷◌, length, take, drop, slice_index, Some, None, option_map, position, codes}
use Rattle.std.specs.declared.option.Option.{Option}
use Rattle.std.specs.Str.{bytes_eq}
use Rattle.station_base.specs.CivilMinute.{CivilMinute, is_civil_minute}
use Rattle.numerals.specs.Numeral.{decimal_within, number_in}
use Rattle.numerals.specs.Pairs.{bytes_within}
use Rattle.numerals.specs.Then.{◌>>=◌, only_if}
use Rattle.schedule_file.specs.declared.fate.Fate.{Fate}
use Rattle.schedule_file.specs.declared.schedule.stamps.Date.{Date}
use Rattle.schedule_file.specs.declared.schedule.stamps.Clock.{Clock}
use Rattle.schedule_file.specs.declared.fate.Fate.TheVariants.{Lost, Cut, Dropped, Flipped}

-- one to seven decimal digits
abbrev pub number_in_word : List ℕ → Option ℕ
number_in_word word = number_in 10 7 word

-- a number of a schedule that is in this range
abbrev pub schedule_number_within : ℕ → ℕ → List ℕ → Option ℕ
schedule_number_within least greatest word = decimal_within 7 least greatest word

-- a number that is at least 1
abbrev pub count_in_word : List ℕ → Option ℕ
count_in_word word = schedule_number_within 1 9999999 word

-- the word begins with `-`
abbrev pub is_negative : List ℕ → Bool
is_negative word = slice_index word 0 == 45

-- a field's value, with `-` before it where it is negative; `-0` is none
unfoldable pub value_in_word : List ℕ → Option ℤ
value_in_word word =
    if is_negative word then option_map (λ n. neg_ℤ (pos n)) (count_in_word (drop 1 word))
    else option_map pos (number_in_word word)

-- A field's name and its value.
pub record Named : Type 0 where
  pub name : List ℕ
  pub value : ℤ

-- NAME=VALUE, cut at the first `=`
unfoldable pub named_in : List ℕ → Option Named
named_in word = do
  equals ← position (λ byte. byte == 61) word
  value ← value_in_word (drop (equals + 1) word)
  Some (record { name = take equals word; value = value })

-- YYYY-MM-DD, whether the calendar has it or not: digits, but for `-` at the fifth and the eighth place
unfoldable pub date_in_word : List ℕ → Option Date
date_in_word word = do
  text ← only_if (length word == 10 && slice_index word 4 == 45 && slice_index word 7 == 45) word
  year ← number_in_word (take 4 text)
  month ← number_in_word (take 2 (drop 5 text))
  day ← number_in_word (drop 8 text)
  Some (record { year = year; month = month; day = day })

-- HH:MM, whether a day has it or not: the byte at the third place is `:`, and the others are digits
unfoldable pub clock_of : List ℕ → Option Clock
clock_of word = do
  text ← only_if (length word == 5 && slice_index word 2 == 58) word
  hour ← number_in_word (take 2 text)
  minute ← number_in_word (drop 3 text)
  Some (record { hour = hour; minute = minute })

-- the minute at that time of that date, where it is one that a stamp can name
unfoldable pub minute_at : Date → Clock → Option CivilMinute
minute_at date clock =
    let minute : CivilMinute = record {
      year = date.year;
      month = date.month;
      day = date.day;
      hour = clock.hour;
      minute = clock.minute;
    } in
    only_if (is_civil_minute minute) minute

-- one to sixteen masks, each in two hexadecimal digits
abbrev pub masks_of : List ℕ → Option (List ℕ)
masks_of word = bytes_within 16 word

-- `lost`
abbrev pub lost_in : List (List ℕ) → Option Fate
lost_in [] = Some Lost
lost_in (word ∷ words) = None

-- `cut N`
abbrev pub cut_in : List (List ℕ) → Option Fate
cut_in (count ∷ []) = do
  n ← number_in_word count
  Some (Cut n)
cut_in words = None

-- `drop P N`
abbrev pub drop_in : List (List ℕ) → Option Fate
drop_in (place ∷ count ∷ []) = do
  p ← number_in_word place
  n ← number_in_word count
  Some (Dropped p n)
drop_in words = None

-- `flip P HEX`
abbrev pub flip_in : List (List ℕ) → Option Fate
flip_in (place ∷ hex ∷ []) = do
  p ← number_in_word place
  masks ← masks_of hex
  Some (Flipped p (record { items = masks }))
flip_in words = None

-- FATE
unfoldable pub fate_of : List (List ℕ) → Option Fate
fate_of [] = None
fate_of (word ∷ words) =
    if bytes_eq word (codes "lost") then lost_in words
    else if bytes_eq word (codes "cut") then cut_in words
    else if bytes_eq word (codes "drop") then drop_in words
    else if bytes_eq word (codes "flip") then flip_in words
    else None
