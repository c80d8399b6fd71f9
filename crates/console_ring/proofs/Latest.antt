-- The records newer than two words are the last of a history.
use Rattle.std.proofs.Common.{◌≡◌, ℕ, zero, suc, ◌+◌, ◌-◌, ◌<◌, ◌≤◌, Bool, true, false, List, [], ◌∷◌, length, take, drop, get_or, refl, sym, ap, subst, ◌∙◌, arith, length-take, length-drop, Option, Some, None}
use Rattle.std.specs.Prelude.{if◌then◌else◌, nat_lt, filter, slice_get, option_and_then, IsSomeAnd}
use Rattle.std.specs.List.{position_or_len}
use Rattle.std.proofs.lemmas.Bool.Decides.{nat_tests}
use Rattle.std.proofs.lemmas.List.{drop-drop, get_or-drop}
use Rattle.station_base.specs.CivilMinute.{CivilMinute, minute_of}
use Rattle.station_base.specs.LastStamp.{CanFollow}
use Rattle.station_base.specs.Stamp.{date_word_of, time_word_of, words_exceed}
use Rattle.station_base.proofs.Civil.{stamp_civil}
use Rattle.station_base.proofs.WordOrder.{words_exceed_when_later}
use Rattle.archive_record.specs.Kind.{word_at}
use Rattle.archive_record.specs.Reading.{stamp_in}
use Rattle.console_ring.specs.History.{retained, newest_stamp, IsHistory, record_is_newer, newer, ring_size}
use Rattle.console_ring.specs.Picture.{last_number_in, plan_by, plan_from, plan_of, plan_of_last, IsLastIn}
use Rattle.console_ring.proofs.Words.{stamp_words}

-- behind one that passes stands one that passes
abbrev After : (List ℕ → Bool) → List ℕ → List (List ℕ) → Type 0
After test x [] = Unit {0}
After test x (y ∷ ys) = test x ≡ true → test y ≡ true

abbrev Upward : (List ℕ → Bool) → List (List ℕ) → Type 0
Upward test [] = Unit {0}
Upward test (x ∷ xs) = After test x xs × Upward test xs

all_pass : (test : List ℕ → Bool) (x : List ℕ) (xs : List (List ℕ)) → test x ≡ true → Upward test (x ∷ xs) → filter test (x ∷ xs) ≡ x ∷ xs
all_pass test x [] passes up = ap (λ (t : Bool). if t then x ∷ [] else []) passes
all_pass test x (y ∷ ys) passes up =
    ap (λ (t : Bool). if t then x ∷ filter test (y ∷ ys) else filter test (y ∷ ys)) passes
    ∙ ap (λ (rest : List (List ℕ)). x ∷ rest) (all_pass test y ys (up.0 passes) up.1)

from_first : (test : List ℕ → Bool) (xs : List (List ℕ)) → Upward test xs → filter test xs ≡ drop (position_or_len test xs) xs
from_first test [] up = refl
from_first test (x ∷ xs) up = go (test x) refl (from_first test xs up.1)
  where
    go : (t : Bool) → test x ≡ t → filter test xs ≡ drop (position_or_len test xs) xs → filter test (x ∷ xs) ≡ drop (position_or_len test (x ∷ xs)) (x ∷ xs)
    go true e more =
        let at : position_or_len test (x ∷ xs) ≡ 0 = rw e refl in
        all_pass test x xs e up ∙ sym (ap (λ (n : ℕ). drop n (x ∷ xs)) at)
    go false e more =
        let at : position_or_len test (x ∷ xs) ≡ suc (position_or_len test xs) = rw e (omega arith) in
        ap (λ (t : Bool). if t then x ∷ filter test xs else filter test xs) e ∙ more ∙ sym (ap (λ (n : ℕ). drop n (x ∷ xs)) at)

position_within : (test : List ℕ → Bool) (xs : List (List ℕ)) → position_or_len test xs ≤ length xs
position_within test [] = omega arith
position_within test (x ∷ xs) = go (test x) refl (position_within test xs)
  where
    go : (t : Bool) → test x ≡ t → position_or_len test xs ≤ length xs → position_or_len test (x ∷ xs) ≤ length (x ∷ xs)
    go true e more = rw e (omega arith)
    go false e more = rw e (omega (arith, more))

upward : (test : List ℕ → Bool) (xs : List (List ℕ)) → ((i : ℕ) (none : List ℕ) → suc i < length xs → test (get_or xs i none) ≡ true → test (get_or xs (suc i) none) ≡ true) →
    Upward test xs
upward test [] step = tt
upward test (x ∷ []) step = (tt, tt)
upward test (x ∷ y ∷ ys) step = (step zero x (omega arith), upward test (y ∷ ys) (λ i none within. step (suc i) none (omega arith)))

got : (h : List (List ℕ)) (i : ℕ) (none : List ℕ) → i < length h → slice_get (take (suc i) h) i ≡ Some (get_or h i none)
got [] i none within = absurd (omega arith)
got (r ∷ rs) zero none within = refl
got (r ∷ rs) (suc i) none within = got rs i none (omega arith)

-- the newest of the first records is the stamp of the last of them
pub newest_taken : (h : List (List ℕ)) (i : ℕ) (none : List ℕ) → i < length h → newest_stamp (take (suc i) h) ≡ stamp_in (get_or h i none)
newest_taken h i none within =
    let at : length (take (suc i) h) - 1 ≡ i = omega (arith, length-take (suc i) h) in
    ap (λ (k : ℕ). option_and_then stamp_in (slice_get (take (suc i) h) k)) at ∙ ap (λ (o : Option (List ℕ)). option_and_then stamp_in o) (got h i none within)

exceed_on : (d t e u f v : ℕ) → words_exceed d t e u ≡ true → words_exceed e u f v ≡ true → words_exceed d t f v ≡ true
exceed_on d t e u f v first next = grind (arith, nat_tests, first, next)

newer_on : (date time : ℕ) (a b : List ℕ) (m s : CivilMinute) → stamp_in a ≡ Some m → stamp_in b ≡ Some s → minute_of m < minute_of s → record_is_newer date time a ≡ true → record_is_newer date time b ≡ true
newer_on date time a b m s a_is b_is later is =
    let aw = stamp_words a m a_is in
    let bw = stamp_words b s b_is in
    let less : nat_lt (minute_of m) (minute_of s) ≡ true = grind (arith, nat_tests, later) in
    let next : words_exceed (date_word_of m) (time_word_of m) (date_word_of s) (time_word_of s) ≡ true =
    words_exceed_when_later m s (stamp_civil (word_at a 0) (word_at a 2) m a_is) (stamp_civil (word_at b 0) (word_at b 2) s b_is) ∙ less in
    let there : words_exceed (word_at a 0) (word_at a 2) (word_at b 0) (word_at b 2) ≡ true = rw (sym aw.0, sym aw.1, sym bw.0, sym bw.1) next in
    exceed_on date time (word_at a 0) (word_at a 2) (word_at b 0) (word_at b 2) is there

newer_next : (date time : ℕ) (a b : List ℕ) (last next : Option CivilMinute) → stamp_in a ≡ last → stamp_in b ≡ next → IsSomeAnd last (λ s. Unit {0}) →
    CanFollow last next → record_is_newer date time a ≡ true → record_is_newer date time b ≡ true
newer_next date time a b None next a_is b_is some later is = absurd some
newer_next date time a b (Some m) None a_is b_is some later is = absurd later
newer_next date time a b (Some m) (Some s) a_is b_is some later is = newer_on date time a b m s a_is b_is later is

has_stamp : (stamp newest : Option CivilMinute) → CanFollow newest stamp → IsSomeAnd stamp (λ s. Unit {0})
has_stamp None newest is = absurd is
has_stamp (Some s) newest is = tt

newer_goes_on : (h : List (List ℕ)) (date time : ℕ) → IsHistory h → (i : ℕ) (none : List ℕ) → suc i < length h →
    record_is_newer date time (get_or h i none) ≡ true → record_is_newer date time (get_or h (suc i) none) ≡ true
newer_goes_on h date time rises i none within is =
    let before : i < length h = omega arith in
    let a = get_or h i none in
    let b = get_or h (suc i) none in
    newer_next date time a b (stamp_in a) (stamp_in b) refl refl
    (has_stamp (stamp_in a) (newest_stamp (take i h)) (rises i none before))
    (subst (λ (o : Option CivilMinute). CanFollow o (stamp_in b)) (newest_taken h i none before) (rises (suc i) none within))
    is

upward_retained : (h : List (List ℕ)) (date time : ℕ) → IsHistory h → Upward (record_is_newer date time) (retained h)
upward_retained h date time rises =
    let k = length h - ring_size in
    let test = record_is_newer date time in
    upward test (retained h) (λ i none within is.
    subst (λ (r : List ℕ). test r ≡ true) (sym (get_or-drop k h (suc i) none))
    (subst (λ (n : ℕ). test (get_or h n none) ≡ true) (omega arith)
    (newer_goes_on h date time rises (k + i) none (omega (arith, length-drop k h)) (subst (λ (r : List ℕ). test r ≡ true) (get_or-drop k h i none) is))))

-- how many are newer
count_newer : (h : List (List ℕ)) (date time : ℕ) → IsHistory h → length (newer date time (retained h)) ≡ length (retained h) - position_or_len (record_is_newer date time) (retained h)
count_newer h date time rises =
    let p = position_or_len (record_is_newer date time) (retained h) in
    ap (λ (l : List (List ℕ)). length l) (from_first (record_is_newer date time) (retained h) (upward_retained h date time rises)) ∙ length-drop p (retained h)

pub newer_last : (h : List (List ℕ)) (date time : ℕ) → IsHistory h → newer date time (retained h) ≡ drop (length h - length (newer date time (retained h))) h
newer_last h date time rises =
    let k = length h - ring_size in
    let p = position_or_len (record_is_newer date time) (retained h) in
    let at : k + p ≡ length h - length (newer date time (retained h)) =
    omega (arith, count_newer h date time rises, length-drop k h, position_within (record_is_newer date time) (retained h)) in
    from_first (record_is_newer date time) (retained h) (upward_retained h date time rises) ∙ drop-drop p k h ∙ ap (λ (n : ℕ). drop n h) at

by_place : (b : Bool) (p len count n : ℕ) → nat_lt p len ≡ b → p ≤ len → n ≡ len - p → len ≡ count - (count - ring_size) → plan_by (if b then Some p else None) (count - ring_size) count ≡ plan_of_last n count
by_place true p len count zero less within is long = absurd (grind (arith, nat_tests, less, is, within))
by_place true p len count (suc more) less within is long =
    let at : count - ring_size + p ≡ count - suc more = omega (arith, is, long, within) in
    ap (λ (first : ℕ). plan_from first count) at
by_place false p len count zero less within is long = refl
by_place false p len count (suc more) less within is long = absurd (grind (arith, nat_tests, less, is, within))

pub plan_newer : (h : List (List ℕ)) (date time : ℕ) → IsHistory h → plan_of h date time ≡ plan_of_last (length (newer date time (retained h))) (length h)
unfolding plan_of
plan_newer h date time rises =
    let p = position_or_len (record_is_newer date time) (retained h) in
    by_place (nat_lt p (length (retained h))) p (length (retained h)) (length h) (length (newer date time (retained h))) refl
    (position_within (record_is_newer date time) (retained h)) (count_newer h date time rises) (length-drop (length h - ring_size) h)

-- the last number in a slot
pub last_number : (count slot : ℕ) → slot < ring_size → slot < count → IsLastIn count slot (last_number_in count slot)
last_number count slot small within = record {
  below = omega arith;
  slot_is = omega arith;
  greatest = λ other below is. omega arith;
}
