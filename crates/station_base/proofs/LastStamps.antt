-- The order of stamps with none as the least is that of numbers.
use Rattle.std.proofs.Common.{◌≡◌, ℕ, ◌+◌, ◌<◌, true, false, List, [], ◌∷◌, ◌++◌, Option, Some, None, refl, sym, arith}
use Rattle.std.specs.Prelude.{nat_lt}
use Rattle.std.proofs.lemmas.Bool.{lt-ltb, ltb-true}
use Rattle.std.proofs.lemmas.Bool.Decides.{nat_tests}
use Rattle.station_base.specs.CivilMinute.{CivilMinute, minute_of}
use Rattle.station_base.specs.LastStamp.{exceeds, CanFollow, Rises, last_stamp, level}

same_above : (m n : ℕ) → nat_lt m n ≡ nat_lt (m + 1) (n + 1)
same_above m n = grind (arith, nat_tests)

none_above : (n : ℕ) → nat_lt 0 (n + 1) ≡ true
none_above n = grind (arith, nat_tests)

above_none : (n : ℕ) → nat_lt (n + 1) 0 ≡ false
above_none n = grind (arith, nat_tests)

pub exceeds-level : (last stamp : Option CivilMinute) → exceeds last stamp ≡ nat_lt (level last) (level stamp)
exceeds-level None None = refl
exceeds-level (Some last) None = sym (above_none (minute_of last))
exceeds-level None (Some stamp) = sym (none_above (minute_of stamp))
exceeds-level (Some last) (Some stamp) = same_above (minute_of last) (minute_of stamp)

pub follows-level : (last stamp : Option CivilMinute) → CanFollow last stamp → level last < level stamp
follows-level last None follows = absurd follows
follows-level None (Some stamp) follows = omega arith
follows-level (Some last) (Some stamp) follows = omega (arith, follows)

pub exceeds_when : (last stamp : Option CivilMinute) → CanFollow last stamp → exceeds last stamp ≡ true
exceeds_when last None follows = absurd follows
exceeds_when None (Some stamp) follows = refl
exceeds_when (Some last) (Some stamp) follows = lt-ltb (minute_of last) (minute_of stamp) follows

pub follows_when : (last stamp : Option CivilMinute) → exceeds last stamp ≡ true → CanFollow last stamp
follows_when None None above = cc
follows_when (Some last) None above = cc
follows_when None (Some stamp) above = tt
follows_when (Some last) (Some stamp) above = ltb-true (minute_of last) (minute_of stamp) above

pub last_stamp-append : {A : Type 0} (stamp : A → Option CivilMinute) (xs ys : List A) (before : Option CivilMinute)
    → last_stamp stamp (xs ++ ys) before ≡ last_stamp stamp ys (last_stamp stamp xs before)
last_stamp-append stamp [] ys before = refl
last_stamp-append stamp (x ∷ xs) ys before = last_stamp-append stamp xs ys (stamp x)

pub Rises-append : {A : Type 0} (stamp : A → Option CivilMinute) (last : Option CivilMinute) (xs ys : List A)
    → Rises stamp last xs → Rises stamp (last_stamp stamp xs last) ys → Rises stamp last (xs ++ ys)
Rises-append stamp last [] ys front behind = behind
Rises-append stamp last (x ∷ xs) ys front behind = (front.0, Rises-append stamp (stamp x) xs ys front.1 behind)
