-- The records of a page, slot after slot.
use Rattle.std.proofs.Common.{◌≡◌, ℕ, suc, ◌+◌, ◌-◌, ◌<◌, ◌≤◌, Bool, true, false, List, [], ◌∷◌, ◌++◌, refl, sym, ◌∙◌, ap, subst, arith, append_assoc, append-nil, Option, Some, None}
use Rattle.std.specs.Prelude.{nat_lt, ◌&&◌}
use Rattle.std.proofs.lemmas.Bool.{ltb-true, lt-ltb, and_parts}
use Rattle.station_base.specs.CivilMinute.{CivilMinute, minute_of}
use Rattle.vantage_frames.specs.Slots.{slot_at}
use Rattle.archive_record.specs.Reading.{stamp_in}
use Rattle.archive_record.specs.Record.{reads_as_row}
use Rattle.dmpaft_pump.specs.Slot.{is_skipped, StampIsWithin}
use Rattle.station_base.specs.LastStamp.{exceeds, Rises, last_stamp}
use Rattle.dmpaft_pump.specs.Batch.{slots_from, slots_in_page, slot_is_newer, one_if, last_if, count_if, rising, newest, skipped}

-- What all slots give is what was gathered, and what those that are left give.
pub record Going (a : Option CivilMinute) (all rows : List (List ℕ)) (b : Option CivilMinute) (n : ℕ) (left : List (List ℕ)) : Type 0 where
  pub rows_are : rising a all ≡ rows ++ rising b left
  pub newest_is : newest a all ≡ newest b left
  pub skipped_are : skipped all ≡ n + skipped left

next_slot : (page : List ℕ) (place : ℕ) → place < 5 → slots_in_page place page ≡ slot_at page place ∷ slots_in_page (place + 1) page
next_slot page place below = let e : 5 - place ≡ suc (5 - (place + 1)) = omega arith in ap (λ n. slots_from n place page) e

-- one slot more, by whether it is newer, and by whether it is skipped
one_more : (a : Option CivilMinute) (all rows : List (List ℕ)) (b : Option CivilMinute) (n : ℕ) (slot : List ℕ) (left : List (List ℕ)) (t u : Bool) → slot_is_newer b slot ≡ t → is_skipped slot ≡ u
    → Going a all rows b n (slot ∷ left) → Going a all (rows ++ one_if t slot) (last_if t b slot) (n + count_if u) left
one_more a all rows b n slot left t u e f h = record {
  rows_are = h.rows_are ∙ ap (λ (x : Bool). rows ++ (one_if x slot ++ rising (last_if x b slot) left)) e ∙ sym (append_assoc rows (one_if t slot) (rising (last_if t b slot) left));
  newest_is = h.newest_is ∙ ap (λ (x : Bool). newest (last_if x b slot) left) e;
  skipped_are = omega (arith, h.skipped_are, ap count_if f);
}

module _ (a : Option CivilMinute) (all rows : List (List ℕ)) (b : Option CivilMinute) (n place : ℕ) (page : List ℕ) (below : place < 5) (h : Going a all rows b n (slots_in_page place page)) where
  going : Going a all rows b n (slot_at page place ∷ slots_in_page (place + 1) page)
  going = subst (λ (x : List (List ℕ)). Going a all rows b n x) (next_slot page place below) h

  newer_by : (t u : Bool) → reads_as_row (slot_at page place) ≡ t → exceeds b (stamp_in (slot_at page place)) ≡ u → slot_is_newer b (slot_at page place) ≡ (t && u)
  newer_by t u e f = ap (λ (x : Bool). x && exceeds b (stamp_in (slot_at page place))) e ∙ ap (λ (x : Bool). t && x) f

  -- a record that is newer
  pub going_newer : reads_as_row (slot_at page place) ≡ true → is_skipped (slot_at page place) ≡ false → exceeds b (stamp_in (slot_at page place)) ≡ true
      → Going a all (rows ++ slot_at page place ∷ []) (stamp_in (slot_at page place)) n (slots_in_page (place + 1) page)
  going_newer e s f =
      let z : n + 0 ≡ n = omega arith in
      subst (λ m. Going a all (rows ++ slot_at page place ∷ []) (stamp_in (slot_at page place)) m (slots_in_page (place + 1) page)) z
      (one_more a all rows b n (slot_at page place) (slots_in_page (place + 1) page) true false (newer_by true true e f) s going)

  passed : (u : Bool) → slot_is_newer b (slot_at page place) ≡ false → is_skipped (slot_at page place) ≡ u → Going a all rows b (n + count_if u) (slots_in_page (place + 1) page)
  passed u e s =
      subst (λ (x : List (List ℕ)). Going a all x b (n + count_if u) (slots_in_page (place + 1) page)) (append-nil rows)
      (one_more a all rows b n (slot_at page place) (slots_in_page (place + 1) page) false u e s going)

  -- a slot that gives nothing, and is not skipped
  pub going_past : slot_is_newer b (slot_at page place) ≡ false → is_skipped (slot_at page place) ≡ false → Going a all rows b n (slots_in_page (place + 1) page)
  going_past e s = let z : n + 0 ≡ n = omega arith in subst (λ m. Going a all rows b m (slots_in_page (place + 1) page)) z (passed false e s)

  -- a slot that is skipped
  pub going_skipped : reads_as_row (slot_at page place) ≡ false → is_skipped (slot_at page place) ≡ true → Going a all rows b (n + 1) (slots_in_page (place + 1) page)
  going_skipped e s = passed true (newer_by false (exceeds b (stamp_in (slot_at page place))) e refl) s

  -- a record that is not newer
  pub older : reads_as_row (slot_at page place) ≡ true → exceeds b (stamp_in (slot_at page place)) ≡ false → slot_is_newer b (slot_at page place) ≡ false
  older e f = newer_by true false e f

  -- no record
  pub no_record : reads_as_row (slot_at page place) ≡ false → slot_is_newer b (slot_at page place) ≡ false
  no_record e = newer_by false (exceeds b (stamp_in (slot_at page place))) e refl

-- the same, by other names
pub going_as : (a : Option CivilMinute) (all rows more : List (List ℕ)) (b d : Option CivilMinute) (n m : ℕ) (left : List (List ℕ)) → rows ≡ more → b ≡ d → n ≡ m → Going a all rows b n left → Going a all more d m left
going_as a all rows more b d n m left p q r h =
    subst (λ (x : List (List ℕ)). Going a all x d m left) p (subst (λ (x : Option CivilMinute). Going a all rows x m left) q (subst (λ x. Going a all rows b x left) r h))

lower : (x y z : ℕ) → x ≤ y → nat_lt y z ≡ true → nat_lt x z ≡ true
lower x y z le e = lt-ltb x z (omega (arith, le, ltb-true y z e))

-- what exceeds a stamp exceeds each one that is not above it
exceeds_within : (b a stamp : Option CivilMinute) → StampIsWithin b a → exceeds a stamp ≡ true → exceeds b stamp ≡ true
exceeds_within b None None le e = cc
exceeds_within b (Some a) None le e = cc
exceeds_within None None (Some stamp) le e = refl
exceeds_within None (Some a) (Some stamp) le e = refl
exceeds_within (Some b) None (Some stamp) le e = absurd le
exceeds_within (Some b) (Some a) (Some stamp) le e = lower (minute_of b) (minute_of a) (minute_of stamp) le e

no_less : (n : ℕ) → n ≤ n
no_less n = omega arith

-- no stamp is above itself
pub within_self : (a : Option CivilMinute) → StampIsWithin a a
within_self None = tt
within_self (Some a) = no_less (minute_of a)

rises_by : (b a : Option CivilMinute) (s : List ℕ) (ss : List (List ℕ)) → StampIsWithin b a → (t : Bool) → slot_is_newer a s ≡ t → Rises stamp_in (stamp_in s) (rising (stamp_in s) ss) → Rises stamp_in b (rising a ss)
    → Rises stamp_in b (one_if t s ++ rising (last_if t a s) ss)
rises_by b a s ss le true e one two = (exceeds_within b a (stamp_in s) le (and_parts (reads_as_row s) (exceeds a (stamp_in s)) e).1, one)
rises_by b a s ss le false e one two = two

-- the records rise over each stamp that is not above the one that they exceed
pub rows_rise : (b a : Option CivilMinute) (ss : List (List ℕ)) → StampIsWithin b a → Rises stamp_in b (rising a ss)
rows_rise b a [] le = tt
rows_rise b a (s ∷ ss) le = rises_by b a s ss le (slot_is_newer a s) refl (rows_rise (stamp_in s) (stamp_in s) ss (within_self (stamp_in s))) (rows_rise b a ss le)

-- one record more is the last
pub last_snoc : (rows : List (List ℕ)) (r : List ℕ) (before : Option CivilMinute) → last_stamp stamp_in (rows ++ r ∷ []) before ≡ stamp_in r
last_snoc [] r before = refl
last_snoc (x ∷ rows) r before = last_snoc rows r (stamp_in x)

-- where there are records, it does not matter which was the last before them
pub last_any : (rows : List (List ℕ)) (a b : Option CivilMinute) → (rows ≡ [] → ⊥) → last_stamp stamp_in rows a ≡ last_stamp stamp_in rows b
last_any [] a b some = absurd (some refl)
last_any (r ∷ rows) a b some = refl
