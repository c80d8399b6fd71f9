-- Stamps as numbers, in which none is the least.
use Rattle.std.proofs.Common.{◌≡◌, ℕ, ◌+◌, ◌-◌, ◌*◌, ◌<◌, ◌==◌, ◌||◌, ◌&&◌, true, false, List, [], ◌∷◌, ◌++◌, length, Option, Some, None, refl, sym, ◌∙◌, ap, subst, arith, length-append, IsSome}
use Rattle.std.proofs.lemmas.Bool.Decides.{nat_tests}
use Rattle.std.specs.Prelude.{nat_lt, slice_get, option_and_then, IfSome, IsSomeAnd}
use Rattle.std.specs.Ordering.{nat_cmp}
use Rattle.station_base.specs.CivilMinute.{CivilMinute, IsCivilMinute, minute_of}
use Rattle.station_base.specs.Stamp.{date_word_of, time_word_of, order_key}
use Rattle.station_base.proofs.Order.{order_key-minute_of}
use Rattle.archive_record.specs.Kind.{word_at}
use Rattle.archive_record.specs.Reading.{stamp_in}
use Rattle.archive_record.specs.Record.{ReadsAsRow}
use Rattle.archive_record.proofs.Rows.{stamp_some}
use Rattle.vantage_frames.specs.StampFrame.{date_asked, time_asked}
use Rattle.console_ring.specs.History.{record_is_newer, newest_stamp}
use Rattle.console_ring.proofs.Words.{stamp_words}
use Rattle.console_model.specs.Valid.{EachFollows}
use Rattle.station_base.proofs.Civil.{stamp_civil}
use Rattle.station_base.specs.LastStamp.{exceeds}
use Rattle.line_laws.specs.Gathers.{IsStamp}

abbrev pub level : Option CivilMinute → ℕ
level None = 0
level (Some minute) = minute_of minute + 1

pub level_of : List ℕ → ℕ
level_of r = level (stamp_in r)

pub level_is : (r : List ℕ) → level_of r ≡ level (stamp_in r)
unfolding level_of
level_is r = refl

same_above : (m n : ℕ) → nat_lt m n ≡ nat_lt (m + 1) (n + 1)
same_above m n = grind (arith, nat_tests)

none_above : (n : ℕ) → nat_lt 0 (n + 1) ≡ true
none_above n = grind (arith, nat_tests)

above_none : (n : ℕ) → nat_lt (n + 1) 0 ≡ false
above_none n = grind (arith, nat_tests)

pub exceeds_level : (a stamp : Option CivilMinute) → exceeds a stamp ≡ nat_lt (level a) (level stamp)
exceeds_level None None = refl
exceeds_level (Some a) None = sym (above_none (minute_of a))
exceeds_level None (Some s) = sym (none_above (minute_of s))
exceeds_level (Some a) (Some s) = same_above (minute_of a) (minute_of s)

-- each stamp is above the one before it
abbrev pub Ascend : ℕ → List (List ℕ) → Type 0
Ascend a [] = Unit {0}
Ascend a (r ∷ rs) = (a < level_of r) × Ascend (level_of r) rs

follows_level : (newest stamp : Option CivilMinute) → IsSomeAnd stamp (λ s. IfSome newest (λ n. minute_of n < minute_of s)) → level newest < level stamp
follows_level newest None h = absurd h
follows_level None (Some s) h = omega arith
follows_level (Some n) (Some s) h = omega (arith, h)

got_last : (h : List (List ℕ)) (r : List ℕ) → slice_get (h ++ r ∷ []) (length h) ≡ Some r
got_last [] r = refl
got_last (x ∷ h) r = got_last h r

pub newest_more : (h : List (List ℕ)) (r : List ℕ) → newest_stamp (h ++ r ∷ []) ≡ stamp_in r
newest_more h r =
    let at : length (h ++ r ∷ []) - 1 ≡ length h = omega (arith, length-append h (r ∷ [])) in
    ap (λ i. option_and_then stamp_in (slice_get (h ++ r ∷ []) i)) at ∙ ap (λ o. option_and_then stamp_in o) (got_last h r)

ascends : (h rs : List (List ℕ)) → EachFollows h rs → Ascend (level (newest_stamp h)) rs
ascends h [] each = tt
ascends h (r ∷ rs) each =
    let up : level (newest_stamp h) < level_of r = omega (arith, follows_level (newest_stamp h) (stamp_in r) each.0, level_is r) in
    let same : level (newest_stamp (h ++ r ∷ [])) ≡ level_of r = ap level (newest_more h r) ∙ sym (level_is r) in
    (up, subst (λ n. Ascend n rs) same (ascends (h ++ r ∷ []) rs each.1))

pub all_ascend : (rs : List (List ℕ)) → EachFollows [] rs → Ascend 0 rs
all_ascend rs each = ascends [] rs each

-- the order of the words is that of the stamps
words_newer : (a b : CivilMinute) → IsCivilMinute a → IsCivilMinute b → (nat_lt (date_word_of a) (date_word_of b) || (date_word_of a == date_word_of b && nat_lt (time_word_of a) (time_word_of b))) ≡ nat_lt (minute_of a) (minute_of b)
words_newer a b ac bc =
    let o = order_key-minute_of a b ac bc in
    let x : time_word_of a < 10000 = omega (arith, ac.hour_to, ac.minute_to) in
    let y : time_word_of b < 10000 = omega (arith, bc.hour_to, bc.minute_to) in
    key (date_word_of a) (time_word_of a) (date_word_of b) (time_word_of b) x y ∙ by_cmp (order_key a) (order_key b) (minute_of a) (minute_of b) o.0
  where
    key : (d t e u : ℕ) → t < 10000 → u < 10000 → (nat_lt d e || (d == e && nat_lt t u)) ≡ nat_lt (10000 * d + t) (10000 * e + u)
    key d t e u x y = grind (arith, nat_tests, x, y)

    by_cmp : (m n p q : ℕ) → nat_cmp m n ≡ nat_cmp p q → nat_lt m n ≡ nat_lt p q
    by_cmp m n p q e = grind (arith, nat_tests, e)

newer_by : (after : Option CivilMinute) → IsStamp after → (s : CivilMinute) → IsCivilMinute s → (nat_lt (date_asked after) (date_word_of s) || (date_asked after == date_word_of s && nat_lt (time_asked after) (time_word_of s))) ≡ nat_lt (level after) (minute_of s + 1)
newer_by None ok s civil =
    let some : 0 < date_word_of s = omega (arith, civil.month_from) in
    grind (arith, nat_tests, some)
newer_by (Some a) ok s civil = words_newer a s ok civil ∙ same_above (minute_of a) (minute_of s)

pub newer_level : (after : Option CivilMinute) → IsStamp after → (r : List ℕ) → ReadsAsRow r → record_is_newer (date_asked after) (time_asked after) r ≡ nat_lt (level after) (level_of r)
newer_level after ok r row = go (stamp_in r) refl (stamp_some r row)
  where
    go : (o : Option CivilMinute) → stamp_in r ≡ o → IsSome o → record_is_newer (date_asked after) (time_asked after) r ≡ nat_lt (level after) (level_of r)
    go None e some = cc
    go (Some s) e some =
        let w = stamp_words r s e in
        let civil = stamp_civil (word_at r 0) (word_at r 2) s e in
        ap (λ d. nat_lt (date_asked after) d || (date_asked after == d && nat_lt (time_asked after) (word_at r 2))) (sym w.0)
        ∙ ap (λ t. nat_lt (date_asked after) (date_word_of s) || (date_asked after == date_word_of s && nat_lt (time_asked after) t)) (sym w.1)
        ∙ newer_by after ok s civil ∙ ap (λ n. nat_lt (level after) n) (sym (level_is r ∙ ap level e))
