-- What the slots of a page hold, and what rises in them.
use Rattle.std.proofs.Common.{◌≡◌, ℕ, zero, suc, ◌+◌, ◌*◌, ◌<◌, ◌≤◌, ◌%◌, inl, inr, ◌⊎◌, Bool, true, false, ◌&&◌, if◌then◌else◌, List, [], ◌∷◌, ◌++◌, length, drop, take, replicate, Option, Some, None, refl, sym, ◌∙◌, ap, arith, append_assoc, length-append}
use Rattle.std.proofs.lemmas.Bool.{cases_lt}
use Rattle.std.proofs.Math.Seq.{drop-append_seam, take-append_seam}
use Rattle.std.specs.Prelude.{nat_lt, slice_get}
use Rattle.crc_ccitt.specs.Check.{check_bytes}
use Rattle.station_base.specs.CivilMinute.{CivilMinute}
use Rattle.vantage_frames.specs.Slots.{slot_at}
use Rattle.archive_record.specs.Reading.{stamp_in, reading}
use Rattle.archive_record.specs.Record.{ReadsAsRow, reads_as_row}
use Rattle.archive_record.proofs.Rows.{reads_row}
use Rattle.archive_record.specs.Place.{record_size}
use Rattle.console_ring.specs.declared.plan.Plan.{Plan}
use Rattle.console_ring.specs.Picture.{ring_slot, slot_on, slots_before, shown, last_number_in, page_of}
use Rattle.station_base.specs.LastStamp.{exceeds}
use Rattle.console_ring.specs.History.{ring_pages}
use Rattle.dmpaft_pump.specs.Batch.{slots_from, slots_in_page, slot_is_newer, one_if, last_if, rising, all_slots}
use Rattle.station_sim.specs.Sound.{AreRecords}
use Rattle.line_laws.specs.Host.{ArePages}
use Rattle.line_laws.proofs.Delivery.{slot_long}
use Rattle.line_laws.proofs.Levels.{level, level_of, level_is, exceeds_level}
use Rattle.line_laws.proofs.GatheredRecords.{seen_at, seen_from, pages_from, climbing}

-- slot j of so many, one behind the other
slot_among : (slot : ℕ → List ℕ) → ((n : ℕ) → length (slot n) ≡ record_size) → (long : (n : ℕ) → length (slots_before slot n) ≡ record_size * n) → (n j : ℕ) → j < n → (rest : List ℕ) →
    take record_size (drop (record_size * j) (slots_before slot n ++ rest)) ≡ slot j
unfolding slots_before
slot_among slot size long zero j below rest = absurd (omega arith)
slot_among slot size long (suc n) j below rest = go (λ less. slot_among slot size long n j less (slot n ++ rest)) (cases_lt j n)
  where
    split : (slots_before slot n ++ slot n) ++ rest ≡ slots_before slot n ++ (slot n ++ rest)
    split = append_assoc (slots_before slot n) (slot n) rest

    go : ((j < n) → take record_size (drop (record_size * j) (slots_before slot n ++ (slot n ++ rest))) ≡ slot j) → ((j < n) ⊎ (n ≤ j)) → take record_size (drop (record_size * j) ((slots_before slot n ++ slot n) ++ rest)) ≡ slot j
    go before (inl less) = ap (λ xs. take record_size (drop (record_size * j) xs)) split ∙ before less
    go before (inr more) =
        let same : j ≡ n = omega arith in
        let front : record_size * j ≡ length (slots_before slot n) = omega (arith, long n) in
        let one : record_size ≡ length (slot n) = sym (size n) in
        ap (λ xs. take record_size (drop (record_size * j) xs)) split ∙ ap (λ m. take record_size (drop m (slots_before slot n ++ (slot n ++ rest)))) front
        ∙ ap (λ xs. take record_size xs) (drop-append_seam (slots_before slot n) (slot n ++ rest))
        ∙ ap (λ m. take m (slot n ++ rest)) one ∙ take-append_seam (slot n) rest ∙ ap slot (sym same)

slots_long : (slot : ℕ → List ℕ) → ((n : ℕ) → length (slot n) ≡ record_size) → (n : ℕ) → length (slots_before slot n) ≡ record_size * n
unfolding slots_before
slots_long slot long zero = refl
slots_long slot long (suc n) = omega (arith, length-append (slots_before slot n) (slot n), long n, slots_long slot long n)

-- what stands at a place of a page
pub slot_seen : (h : List (List ℕ)) (p : Plan) (k j : ℕ) → AreRecords h → j < 5 → slot_at (page_of h p k) j ≡ shown (seen_at h p k j)
unfolding page_of
slot_seen h p k j ok below =
    let slot = slot_on h p k in
    let size : (n : ℕ) → length (slot n) ≡ record_size = λ n. slot_long h ok (5 * ((p.first_page + k) % ring_pages) + n) in
    let body = slots_before slot 5 in
    let fill = replicate 4 255 in
    let seal = check_bytes ((k % 256) ∷ body ++ fill) in
    let all : List ℕ = (k % 256) ∷ (body ++ fill) ++ seal in
    let past : drop (1 + record_size * j) all ≡ drop (record_size * j) ((body ++ fill) ++ seal) = after (record_size * j) (k % 256) ((body ++ fill) ++ seal) in
    ap (λ xs. take record_size xs) past ∙ ap (λ xs. take record_size (drop (record_size * j) xs)) (append_assoc body fill seal) ∙ slot_among slot size (slots_long slot size) 5 j below (fill ++ seal)
  where
    after : (n x : ℕ) (xs : List ℕ) → drop (1 + n) (x ∷ xs) ≡ drop n xs
    after n x xs = let e : 1 + n ≡ suc n = omega arith in ap (λ m. drop m (x ∷ xs)) e

-- slots as they show
abbrev pub all_shown : List (Option (List ℕ)) → List (List ℕ)
all_shown [] = []
all_shown (o ∷ os) = shown o ∷ all_shown os

shown_join : (xs ys : List (Option (List ℕ))) → all_shown (xs ++ ys) ≡ all_shown xs ++ all_shown ys
shown_join [] ys = refl
shown_join (x ∷ xs) ys = ap (λ zs. shown x ∷ zs) (shown_join xs ys)

pub shown_drop : (n : ℕ) (xs : List (Option (List ℕ))) → all_shown (drop n xs) ≡ drop n (all_shown xs)
shown_drop zero xs = refl
shown_drop (suc n) [] = refl
shown_drop (suc n) (x ∷ xs) = shown_drop n xs

slots_seen : (h : List (List ℕ)) (p : Plan) (k j left : ℕ) → AreRecords h → j + left ≤ 5 → slots_from left j (page_of h p k) ≡ all_shown (seen_from h p k j left)
slots_seen h p k j zero ok few = refl
slots_seen h p k j (suc left) ok few =
    ap (λ s. s ∷ slots_from left (j + 1) (page_of h p k)) (slot_seen h p k j ok (omega arith))
    ∙ ap (λ ss. shown (seen_at h p k j) ∷ ss) (slots_seen h p k (j + 1) left ok (omega arith))

-- all slots of pages
pub pages_seen : (h : List (List ℕ)) (p : Plan) (k : ℕ) (taken : List (List ℕ)) → AreRecords h → ArePages h p k taken → all_slots 0 taken ≡ all_shown (pages_from h p k (length taken))
pages_seen h p k [] ok are = refl
pages_seen h p k (bytes ∷ more) ok are =
    ap (λ b. slots_in_page 0 b ++ all_slots 0 more) are.0
    ∙ ap (λ ss. ss ++ all_slots 0 more) (slots_seen h p k 0 5 ok (omega arith))
    ∙ ap (λ ss. all_shown (seen_from h p k 0 5) ++ ss) (pages_seen h p (k + 1) more ok are.1)
    ∙ sym (shown_join (seen_from h p k 0 5) (pages_from h p (k + 1) (length more)))

-- those of a page from a place on
from_place : (place : ℕ) (page : List ℕ) → place ≤ 4 → slots_in_page place page ≡ drop place (slots_in_page 0 page)
from_place zero page few = refl
from_place (suc zero) page few = refl
from_place (suc (suc zero)) page few = refl
from_place (suc (suc (suc zero))) page few = refl
from_place (suc (suc (suc (suc zero)))) page few = refl
from_place (suc (suc (suc (suc (suc n))))) page few = absurd (omega arith)

five : (page : List ℕ) → length (slots_in_page 0 page) ≡ 5
five page = refl

drop_front : (n : ℕ) (xs ys : List (List ℕ)) → n ≤ length xs → drop n (xs ++ ys) ≡ drop n xs ++ ys
drop_front zero xs ys few = refl
drop_front (suc n) [] ys few = absurd (omega arith)
drop_front (suc n) (x ∷ xs) ys few = drop_front n xs ys (omega arith)

pub placed : (place : ℕ) (taken : List (List ℕ)) → place ≤ 4 → all_slots place taken ≡ drop place (all_slots 0 taken)
placed zero taken few = refl
placed (suc n) [] few = refl
placed (suc n) (page ∷ more) few =
    ap (λ ss. ss ++ all_slots 0 more) (from_place (suc n) page few)
    ∙ sym (drop_front (suc n) (slots_in_page 0 page) (all_slots 0 more) (omega (arith, few, five page)))

-- what a slot shows is nothing, or a record
abbrev pub IsGood : Option (List ℕ) → Type 0
IsGood None = Unit {0}
IsGood (Some r) = ReadsAsRow r

abbrev pub AreGood : List (Option (List ℕ)) → Type 0
AreGood [] = Unit {0}
AreGood (o ∷ os) = IsGood o × AreGood os

good_at : (h : List (List ℕ)) (i : ℕ) → AreRecords h → IsGood (slice_get h i)
good_at [] i ok = tt
good_at (r ∷ h) zero ok = ok.1
good_at (r ∷ h) (suc i) ok = good_at h i ok.2

good_slot : (h : List (List ℕ)) (s : ℕ) → AreRecords h → IsGood (ring_slot h s)
good_slot h s ok = go (nat_lt s (length h))
  where
    go : (t : Bool) → IsGood (if t then slice_get h (last_number_in (length h) s) else None)
    go true = good_at h (last_number_in (length h) s) ok
    go false = tt

good_from : (h : List (List ℕ)) (p : Plan) (k j left : ℕ) → AreRecords h → AreGood (seen_from h p k j left)
good_from h p k j zero ok = tt
good_from h p k j (suc left) ok = (good_slot h (5 * ((p.first_page + k) % ring_pages) + j) ok, good_from h p k (j + 1) left ok)

good_join : (xs ys : List (Option (List ℕ))) → AreGood xs → AreGood ys → AreGood (xs ++ ys)
good_join [] ys a b = b
good_join (x ∷ xs) ys a b = (a.0, good_join xs ys a.1 b)

pub good_pages : (h : List (List ℕ)) (p : Plan) (k left : ℕ) → AreRecords h → AreGood (pages_from h p k left)
good_pages h p k zero ok = tt
good_pages h p k (suc left) ok = good_join (seen_from h p k 0 5) (pages_from h p (k + 1) left) (good_from h p k 0 5 ok) (good_pages h p (k + 1) left ok)

pub good_drop : (n : ℕ) (xs : List (Option (List ℕ))) → AreGood xs → AreGood (drop n xs)
good_drop zero xs a = a
good_drop (suc n) [] a = a
good_drop (suc n) (x ∷ xs) a = good_drop n xs a.1

unwritten_is : reads_as_row (replicate record_size 255) ≡ false
unfolding reading
unwritten_is = refl

newer_none : (a : Option CivilMinute) → slot_is_newer a (replicate record_size 255) ≡ false
newer_none a = ap (λ t. t && exceeds a (stamp_in (replicate record_size 255))) unwritten_is

newer_some : (a : Option CivilMinute) (r : List ℕ) → ReadsAsRow r → slot_is_newer a r ≡ nat_lt (level a) (level_of r)
newer_some a r row = ap (λ t. t && exceeds a (stamp_in r)) (reads_row r row) ∙ exceeds_level a (stamp_in r) ∙ ap (λ n. nat_lt (level a) n) (sym (level_is r))

-- the rows that a host gathers of slots are those that climb
pub rising_is : (a : Option CivilMinute) (os : List (Option (List ℕ))) → AreGood os → rising a (all_shown os) ≡ climbing (level a) os
rising_is a [] good = refl
rising_is a (None ∷ os) good =
    ap (λ t. one_if t (replicate record_size 255) ++ rising (last_if t a (replicate record_size 255)) (all_shown os)) (newer_none a) ∙ rising_is a os good.1
rising_is a (Some r ∷ os) good =
    ap (λ t. one_if t r ++ rising (last_if t a r) (all_shown os)) (newer_some a r good.0)
    ∙ go (nat_lt (level a) (level_of r)) (rising_is (stamp_in r) os good.1 ∙ ap (λ n. climbing n os) (sym (level_is r))) (rising_is a os good.1)
  where
    go : (t : Bool) → rising (stamp_in r) (all_shown os) ≡ climbing (level_of r) os → rising a (all_shown os) ≡ climbing (level a) os →
        one_if t r ++ rising (last_if t a r) (all_shown os) ≡ (if t then r ∷ climbing (level_of r) os else climbing (level a) os)
    go true one other = ap (λ rs. r ∷ rs) one
    go false one other = other
