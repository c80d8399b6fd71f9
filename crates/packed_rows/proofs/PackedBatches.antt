-- Rows that are written one behind another, as a batch of a log.
use Rattle.std.proofs.Common.{◌≡◌, ℕ, zero, suc, ◌+◌, ◌*◌, ◌<◌, ◌≤◌, Bool, true, false, List, [], ◌∷◌, ◌++◌, length, map, take, drop, get_or, Option, Some, None, refl, sym, ◌∙◌, ap, subst, arith, length-append, append_assoc, append-nil}
use Rattle.std.specs.List.{range_with_len}
use Rattle.std.proofs.lemmas.List.FromFn.{map-range_with_len_more, length-map-range_with_len}
use Rattle.std.proofs.Math.Seq.{drop-cons, take-suc}
use Rattle.std.proofs.lemmas.Bool.{and_parts}
use Rattle.station_base.specs.declared.row.Row.{Row}
use Rattle.station_base.specs.CivilMinute.{CivilMinute}
use Rattle.row_slot.specs.Slot.{slot_of}
use Rattle.packed_rows.specs.Closing.{closing_before, closing_slot, closings, begins_day}
use Rattle.packed_rows.specs.Packed.{joined_slots, IsReadBack, AreReadBack}
use Rattle.packed_rows.specs.Rising.{stamp_exceeds, rows_rise, last_row_stamp, last_stamp_after}
use Rattle.packed_rows.specs.Rows.{slots_after}
use Rattle.packed_rows.proofs.RowLaws.{read_back-push}
use Rattle.daily_summary.specs.Parts.{part_count}

pub joined_append : (xs ys : List (List ℕ)) → joined_slots (xs ++ ys) ≡ joined_slots xs ++ joined_slots ys
joined_append [] ys = refl
joined_append (x ∷ xs) ys = ap (λ (b : List ℕ). x ++ b) (joined_append xs ys) ∙ sym (append_assoc x (joined_slots xs) (joined_slots ys))

pub small_closings : (b : Bool) → closings b ≤ part_count
small_closings true = omega arith
small_closings false = omega arith

-- where there is one there are thirteen
pub is_thirteen : (rows : List Row) (o : Option CivilMinute) (stamp : CivilMinute) (k : ℕ) → o ≡ last_row_stamp rows → k < closings (begins_day o stamp) → 0 < length rows
is_thirteen [] None stamp k is lt = absurd (omega arith)
is_thirteen [] (Some s) stamp k is lt = absurd cc
is_thirteen (x ∷ rows) o stamp k is lt = omega arith

-- one closing slot more
pub one_closing : (before : List Row) (k : ℕ) (old now new slot : List ℕ) → now ≡ old ++ joined_slots (map (λ j. closing_slot before j) (range_with_len 0 k)) → new ≡ now ++ slot → slot ≡ closing_slot before k →
    new ≡ old ++ joined_slots (map (λ j. closing_slot before j) (range_with_len 0 (k + 1)))
one_closing before k old now new slot so_far pushed is =
    let f : ℕ → List ℕ = λ j. closing_slot before j in
    let more : joined_slots (map f (range_with_len 0 (k + 1))) ≡ joined_slots (map f (range_with_len 0 k)) ++ slot =
    ap joined_slots (map-range_with_len_more f 0 k k (omega arith)) ∙ joined_append (map f (range_with_len 0 k)) (f k ∷ []) ∙ ap (λ (b : List ℕ). joined_slots (map f (range_with_len 0 k)) ++ b) (append-nil (f k) ∙ sym is) in
    pushed ∙ ap (λ (b : List ℕ). b ++ slot) so_far ∙ append_assoc old (joined_slots (map f (range_with_len 0 k))) slot ∙ ap (λ (b : List ℕ). old ++ b) (sym more)

-- the closing slots, and then the row's
pub slots_and_row : (before : List Row) (row : Row) (k : ℕ) (old now new slot : List ℕ) → k ≡ closings (begins_day (last_row_stamp before) row.stamp) →
    now ≡ old ++ joined_slots (map (λ j. closing_slot before j) (range_with_len 0 k)) → new ≡ now ++ slot → slot ≡ slot_of row → new ≡ old ++ joined_slots (closing_before before row ++ slot_of row ∷ [])
slots_and_row before row k old now new slot count so_far pushed is =
    let f : ℕ → List ℕ = λ j. closing_slot before j in
    let more : joined_slots (closing_before before row ++ slot_of row ∷ []) ≡ joined_slots (closing_before before row) ++ slot =
    joined_append (closing_before before row) (slot_of row ∷ []) ∙ ap (λ (b : List ℕ). joined_slots (closing_before before row) ++ b) (append-nil (slot_of row) ∙ sym is) in
    pushed ∙ ap (λ (b : List ℕ). b ++ slot) (so_far ∙ ap (λ (n : ℕ). old ++ joined_slots (map f (range_with_len 0 n))) count) ∙ append_assoc old (joined_slots (closing_before before row)) slot
    ∙ ap (λ (b : List ℕ). old ++ b) (sym more)

-- one row more
module _ (rows : List Row) (i : ℕ) (row : Row) (lt : i < length rows) (is : row ≡ get_or rows i row) where
  next : suc i ≡ i + 1
  next = omega arith

  whole : drop i rows ≡ row ∷ drop (i + 1) rows
  whole = drop-cons rows i row lt ∙ ap (λ (r : Row). r ∷ drop (suc i) rows) (sym is) ∙ ap (λ (k : ℕ). row ∷ drop k rows) next

  pub front_at : take i rows ++ row ∷ [] ≡ take (i + 1) rows
  front_at = ap (λ (r : Row). take i rows ++ r ∷ []) is ∙ sym (take-suc rows i row lt) ∙ ap (λ (k : ℕ). take k rows) next

  pub packed_at : (before : List Row) → joined_slots (slots_after before (drop i rows)) ≡ joined_slots (closing_before before row ++ slot_of row ∷ []) ++ joined_slots (slots_after (before ++ row ∷ []) (drop (i + 1) rows))
  packed_at before = ap (λ (r : List Row). joined_slots (slots_after before r)) whole
      ∙ ap joined_slots (sym (append_assoc (closing_before before row) (slot_of row ∷ []) (slots_after (before ++ row ∷ []) (drop (i + 1) rows))))
      ∙ joined_append (closing_before before row ++ slot_of row ∷ []) (slots_after (before ++ row ∷ []) (drop (i + 1) rows))

  pub read_back_at : AreReadBack (take i rows) → IsReadBack row → AreReadBack (take (i + 1) rows)
  read_back_at all one = subst (λ (r : List Row). AreReadBack r) front_at (read_back-push (take i rows) row all one)

  pub rises_at : (o : Option CivilMinute) → rows_rise o (drop i rows) ≡ true → stamp_exceeds o row.stamp ≡ true
  rises_at o up = (and_parts (stamp_exceeds o row.stamp) (rows_rise (Some row.stamp) (drop (i + 1) rows)) (sym (ap (rows_rise o) whole) ∙ up)).0

  pub rises_on : (o : Option CivilMinute) → rows_rise o (drop i rows) ≡ true → rows_rise (Some row.stamp) (drop (i + 1) rows) ≡ true
  rises_on o up = (and_parts (stamp_exceeds o row.stamp) (rows_rise (Some row.stamp) (drop (i + 1) rows)) (sym (ap (rows_rise o) whole) ∙ up)).1

  pub last_on : (o : Option CivilMinute) → last_stamp_after (Some row.stamp) (drop (i + 1) rows) ≡ last_stamp_after o (drop i rows)
  last_on o = sym (ap (last_stamp_after o) whole)

pub back_at : (rows : List Row) (i : ℕ) (row : Row) → i < length rows → row ≡ get_or rows i row → AreReadBack rows → IsReadBack row
back_at [] i row lt is all = absurd (omega arith)
back_at (x ∷ rows) zero row lt is all = subst (λ (r : Row). IsReadBack r) (sym is) all.0
back_at (x ∷ rows) (suc i) row lt is all = back_at rows i row (omega arith) is all.1

closing_few : (before : List Row) (row : Row) (more : List (List ℕ)) → length (closing_before before row ++ slot_of row ∷ more) ≤ 14 + length more
closing_few before row more =
    let b = begins_day (last_row_stamp before) row.stamp in
    let e : length (closing_before before row) ≡ closings b = length-map-range_with_len (λ k. closing_slot before k) 0 (closings b) in
    let f = small_closings b in
    omega (arith, length-append (closing_before before row) (slot_of row ∷ more), e, f)

-- a row takes at most fourteen slots
pub few_slots : (before rows : List Row) → length (slots_after before rows) ≤ 14 * length rows
few_slots before [] = omega arith
few_slots before (row ∷ rows) = let rest = few_slots (before ++ row ∷ []) rows in let one = closing_few before row (slots_after (before ++ row ∷ []) rows) in omega (arith, rest, one)

pub some_slots : (before rows : List Row) → 1 ≤ length rows → 1 ≤ length (slots_after before rows)
some_slots before [] some = absurd (omega arith)
some_slots before (row ∷ rows) some = let e = length-append (closing_before before row) (slot_of row ∷ slots_after (before ++ row ∷ []) rows) in omega (arith, e)
