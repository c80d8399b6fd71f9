-- The day that a word names is the one that the calendar reads there.
use Rattle.std.proofs.Common.{◌≡◌, ℕ, zero, suc, ◌+◌, ◌<◌, ◌≤◌, ℤ, pos, negsuc, Bool, true, false, List, Some, None, refl, sym, ap, ◌∙◌, arith}
use Rattle.std.proofs.lemmas.Bool.{false≢true}
use Rattle.std.proofs.lemmas.Int.{ints}
use Rattle.std.proofs.lemmas.Slice.Eq.{bytes_eq-Decides}
use Rattle.std.specs.Prelude.{IfSome, bytes_eq, if◌then◌else◌}
use Rattle.std.specs.declared.option.Option.{Option}
use Rattle.station_base.specs.DayText.{IsDayNumber, day_text}
use Rattle.station_base.specs.declared.day.DayNumber.{DayNumber}
use Rattle.command_words.specs.ReportWords.{day_in, first_written}

abbrev number : ℕ → DayNumber
number k = record { 0 = pos k }

-- it is one of so many days, from one on, that is written so
record IsAhead (from more : ℕ) (word : List ℕ) (day : DayNumber) : Type 0 where
  k : ℕ
  low : from ≤ k
  high : k < from + more
  day_is : day ≡ number k
  written : word ≡ day_text (pos k)

-- the first of them is not it
later : (from more : ℕ) (word : List ℕ) (day : DayNumber) → bytes_eq word (day_text (pos from)) ≡ false → IsAhead from (suc more) word day
    → IsAhead (suc from) more word day
later from more word day differs is =
    let other : from ≡ is.k → ⊥ = λ e. false≢true (sym differs ∙ (bytes_eq-Decides word (day_text (pos from))).1 (is.written ∙ ap (λ (n : ℕ). day_text (pos n)) (sym e))) in
    record { k = is.k; low = omega (arith, is.low, other); high = omega (arith, is.high); day_is = is.day_is; written = is.written }

ahead_later : (from more : ℕ) (word : List ℕ) (r : Option DayNumber) → bytes_eq word (day_text (pos from)) ≡ false
    → IfSome r (IsAhead from (suc more) word) → IfSome r (IsAhead (suc from) more word)
ahead_later from more word None differs is = tt
ahead_later from more word (Some day) differs is = later from more word day differs is

by_test : (from : ℕ) (word : List ℕ) (r rest : Option DayNumber) (test : Bool) → (test ≡ true → r ≡ Some (number from)) → (test ≡ false → r ≡ rest)
    → r ≡ (if test then Some (number from) else rest)
by_test from word r rest true same other = same refl
by_test from word r rest false same other = other refl

-- the days from one on, one after another
scan : (word : List ℕ) (r : Option DayNumber) (more from : ℕ) → 10956 ≤ from → from + more ≤ 57708
    → ((k : ℕ) → 10956 ≤ k → k < 57708 → word ≡ day_text (pos k) → r ≡ Some (number k)) → IfSome r (IsAhead from more word)
    → r ≡ first_written from more word
scan word None zero from low high only ahead = refl
scan word (Some day) zero from low high only ahead = absurd (omega (arith, ahead.low, ahead.high))
scan word r (suc more) from low high only ahead =
    by_test from word r (first_written (suc from) more word) (bytes_eq word (day_text (pos from)))
    (λ is. only from low (omega arith) ((bytes_eq-Decides word (day_text (pos from))).0 is))
    (λ differs. scan word r more (suc from) (omega arith) (omega arith) only (ahead_later from more word r differs ahead))

ahead_of : (word : List ℕ) (z : ℤ) → IsDayNumber z → word ≡ day_text z → IsAhead 10956 46752 word (record { 0 = z })
ahead_of word (pos n) within written = record { k = n; low = omega (arith, ints, within.0); high = omega (arith, ints, within.1); day_is = refl; written = written }
ahead_of word (negsuc n) within written = absurd (omega (arith, ints, within.0))

all_ahead : (word : List ℕ) (r : Option DayNumber) → IfSome r (λ day. IsDayNumber day.0 × (word ≡ day_text day.0)) → IfSome r (IsAhead 10956 46752 word)
all_ahead word None found = tt
all_ahead word (Some day) found = ahead_of word day.0 found.0 found.1

-- what is read of a word is the day that it names
pub day_read : (word : List ℕ) (r : Option DayNumber) → IfSome r (λ day. IsDayNumber day.0 × (word ≡ day_text day.0))
    → ((day : DayNumber) → IsDayNumber day.0 → word ≡ day_text day.0 → r ≡ Some day) → r ≡ day_in word
unfolding day_in
day_read word r found only =
    scan word r 46752 10956 (omega arith) (omega arith) (λ k low high written. only (number k) (omega (arith, ints), omega (arith, ints)) written)
    (all_ahead word r found)
