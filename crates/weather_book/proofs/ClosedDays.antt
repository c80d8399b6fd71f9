-- Where the slots that close a day stand.
use Rattle.std.proofs.Common.{◌≡◌, ◌⊎◌, inl, inr, ℕ, zero, suc, ◌+◌, ◌<◌, ◌≤◌, true, false, List, [], ◌∷◌, ◌++◌, length, take, get_or, Option, Some, None, refl, sym, ◌∙◌, ap, subst, arith, append_assoc, length-append}
use Rattle.std.specs.Prelude.{◌&&◌, nat_lt, slice_get}
use Rattle.std.specs.Str.{bytes_eq}
use Rattle.std.proofs.lemmas.Slice.Eq.{bytes_eq-Decides}
use Rattle.std.proofs.Math.ListN.{get_or-append}
use Rattle.std.proofs.lemmas.List.{get_or-append-add, length-take}
use Rattle.std.proofs.Math.Seq.{take-suc, take-append_seam}
use Rattle.std.proofs.lemmas.Bool.{and_parts}
use Rattle.station_base.specs.declared.row.Row.{Row}
use Rattle.row_slot.specs.Slot.{row_in_slot}
use Rattle.gated_log.specs.Log.{as_handed}
use Rattle.packed_rows.specs.Closing.{closing_slot, closings, begins_day}
use Rattle.packed_rows.specs.Rising.{last_row_stamp}
use Rattle.packed_rows.specs.Rows.{may_follow, is_closing, is_right, rows_with_row, shown_with, slot_total, rows_from, holds}
use Rattle.weather_book.proofs.Places.{found, with_found, splits, rows_found, right_front, found_join, last_get}
use Rattle.packed_rows.proofs.RowLaws.{AreRight, rows_to, shown_to, from_holds, count_right, follow_shown}
use Rattle.daily_summary.specs.Parts.{part_count}

-- right slots without a row are the next that close the day of the rows before
record NoRow (rows : List Row) (shown : ℕ) (xs : List (List ℕ)) (after : List Row) (t : ℕ) : Type 0 where
  pub same : after ≡ rows
  pub count : t ≡ shown + length xs
  pub each : (j : ℕ) → j < length xs → is_closing rows (shown + j) (get_or xs j []) ≡ true

-- others end with slots that close the day of their last row
record Closes (xs : List (List ℕ)) (after : List Row) (t : ℕ) : Type 0 where
  pub front : List (List ℕ)
  pub closing : List (List ℕ)
  pub parts : xs ≡ front ++ closing
  pub long : length closing ≡ t
  pub each : (j : ℕ) → j < t → is_closing after j (get_or closing j []) ≡ true

in_front : (slot : List ℕ) (xs : List (List ℕ)) (after : List Row) (t : ℕ) → Closes xs after t → Closes (slot ∷ xs) after t
in_front slot xs after t c = record { front = slot ∷ c.front; closing = c.closing; parts = ap (λ (ys : List (List ℕ)). slot ∷ ys) c.parts; long = c.long; each = c.each }

one_more : (slot : List ℕ) (xs : List (List ℕ)) (rows : List Row) (shown : ℕ) (o : Option Row) (after : List Row) (t : ℕ) → is_right rows shown slot o ≡ true →
    NoRow (rows_with_row rows o) (shown_with shown o) xs after t ⊎ Closes xs after t → NoRow rows shown (slot ∷ xs) after t ⊎ Closes (slot ∷ xs) after t
one_more slot xs rows shown o after t right (inr c) = inr (in_front slot xs after t c)
one_more slot xs rows shown None after t right (inl n) = inl (record { same = n.same; count = (let e = n.count in omega (arith, e)); each = each })
  where
    each : (j : ℕ) → j < suc (length xs) → is_closing rows (shown + j) (get_or (slot ∷ xs) j []) ≡ true
    each zero lt = ap (λ (k : ℕ). is_closing rows k slot) (let e : shown + 0 ≡ shown = omega arith in e) ∙ right
    each (suc j) lt = ap (λ (k : ℕ). is_closing rows k (get_or xs j [])) (let e : shown + suc j ≡ shown + 1 + j = omega arith in e) ∙ n.each j (omega arith)
one_more slot xs rows shown (Some row) after t right (inl n) = inr (record {
  front = slot ∷ [];
  closing = xs;
  parts = refl;
  long = (let e = n.count in omega (arith, e));
  each = λ j lt.
      let within : j < length xs = (let e = n.count in omega (arith, e, lt)) in
      ap (λ (rs : List Row). is_closing rs j (get_or xs j [])) n.same ∙ ap (λ (k : ℕ). is_closing (rows ++ row ∷ []) k (get_or xs j [])) (let e : j ≡ 0 + j = omega arith in e) ∙ n.each j within;
})

closes : (rows : List Row) (shown : ℕ) (xs : List (List ℕ)) → AreRight rows shown xs → NoRow rows shown xs (rows_to rows xs) (shown_to shown xs) ⊎ Closes xs (rows_to rows xs) (shown_to shown xs)
closes rows shown [] right = inl (record { same = refl; count = omega arith; each = λ j lt. absurd (omega (arith, lt)) })
closes rows shown (slot ∷ xs) right =
    one_more slot xs rows shown (row_in_slot slot) (rows_to rows (slot ∷ xs)) (shown_to shown (slot ∷ xs)) right.0
    (closes (rows_with_row rows (row_in_slot slot)) (shown_with shown (row_in_slot slot)) xs right.1)

right_last : (rows : List Row) (shown : ℕ) (xs : List (List ℕ)) (slot : List ℕ) → AreRight rows shown (xs ++ slot ∷ []) → is_right (rows_to rows xs) (shown_to shown xs) slot (row_in_slot slot) ≡ true
right_last rows shown [] slot right = right.0
right_last rows shown (x ∷ xs) slot right = right_last (rows_with_row rows (row_in_slot x)) (shown_with shown (row_in_slot x)) xs slot right.1

-- the front of the first rows
front_take : (front : List Row) (n : ℕ) (row : Row) (rows : List Row) → n < length rows → front ++ row ∷ [] ≡ take (suc n) rows → front ≡ take n rows
front_take front n row rows lt is =
    let e : front ++ row ∷ [] ≡ take n rows ++ get_or rows n row ∷ [] = is ∙ take-suc rows n row lt in
    let l : length front ≡ n = (let a = ap length is in let b = length-append front (row ∷ []) in let c = length-take (suc n) rows in omega (arith, a, b, c, lt)) in
    let m : length (take n rows) ≡ n = (let c = length-take n rows in omega (arith, c, lt)) in
    sym (take-append_seam front (row ∷ [])) ∙ ap (λ (k : ℕ). take k (front ++ row ∷ [])) (l ∙ sym m) ∙ ap (take (length (take n rows))) e ∙ take-append_seam (take n rows) (get_or rows n row ∷ [])

closing_is : (rows : List Row) (j : ℕ) (slot : List ℕ) → is_closing rows j slot ≡ true → as_handed slot ≡ closing_slot rows j
closing_is rows j slot is = (bytes_eq-Decides (as_handed slot) (closing_slot rows j)).0 (and_parts (nat_lt 0 (length rows) && nat_lt j part_count) (bytes_eq (as_handed slot) (closing_slot rows j)) is).1

no_rows : (rows : List Row) (j : ℕ) (slot : List ℕ) → rows ≡ [] → is_closing rows j slot ≡ true → ⊥
no_rows rows j slot none is =
    let some : nat_lt 0 (length rows) ≡ true = (and_parts (nat_lt 0 (length rows)) (nat_lt j part_count) (and_parts (nat_lt 0 (length rows) && nat_lt j part_count) (bytes_eq (as_handed slot) (closing_slot rows j)) is).0).0 in
    let zero_is : nat_lt 0 (length rows) ≡ false = ap (λ (rs : List Row). nat_lt 0 (length rs)) none in cc

-- the thirteen slots before a row that begins a later day close the day of the rows before it
pub record AreClosing (slots : List (List ℕ)) (place : ℕ) (rows : List Row) : Type 0 where
  pub each : (j : ℕ) → j < part_count → as_handed (get_or slots (place + j) []) ≡ closing_slot rows j
  pub within : place + part_count ≤ length slots

pub closing_at : (slots : List (List ℕ)) (rows : List Row) (n place : ℕ) → rows_from [] 0 0 slots ≡ holds rows → n < length rows →
    ((row : Row) → slice_get rows n ≡ Some row → begins_day (last_row_stamp (take n rows)) row.stamp ≡ true) → place ≡ slot_total (take n rows) → AreClosing slots place (take n rows)
closing_at slots rows n place are lt begins at =
    let h = from_holds [] 0 0 slots rows are in
    let all : found slots ≡ rows = sym (rows_found [] slots) ∙ h.rows_are in
    let s = splits slots n (omega (arith, ap length all)) in
    let whole : slots ≡ (s.front ++ s.slot ∷ []) ++ s.behind = s.parts ∙ sym (append_assoc s.front (s.slot ∷ []) s.behind) in
    let right_to = right_front [] 0 (s.front ++ s.slot ∷ []) s.behind (subst (λ (xs : List (List ℕ)). AreRight [] 0 xs) whole h.right) in
    let right = right_front [] 0 s.front (s.slot ∷ []) right_to in
    let taken : found s.front ++ s.row ∷ [] ≡ take (suc n) rows = sym (found_join s.front (s.slot ∷ []) ∙ ap (λ (o : Option Row). found s.front ++ with_found o []) s.is) ∙ s.rows_are ∙ ap (take (suc n)) all in
    let before : rows_to [] s.front ≡ take n rows = rows_found [] s.front ∙ front_take (found s.front) n s.row rows lt taken in
    let row_is : slice_get rows n ≡ Some s.row = last_get (found s.front) n s.row rows lt taken in
    let may : may_follow (rows_to [] s.front) (shown_to 0 s.front) s.row ≡ true =
    ap (is_right (rows_to [] s.front) (shown_to 0 s.front) s.slot) (sym s.is) ∙ right_last [] 0 s.front s.slot right_to in
    let thirteen : shown_to 0 s.front ≡ part_count =
    follow_shown (rows_to [] s.front) (shown_to 0 s.front) s.row may ∙ ap (λ (rs : List Row). closings (begins_day (last_row_stamp rs) s.row.stamp)) before ∙ ap closings (begins s.row row_is) in
    let count = count_right [] 0 s.front right in
    by s.front s.slot s.behind s.parts before thirteen (let e = ap slot_total before in omega (arith, count, e, at, thirteen)) (closes [] 0 s.front right)
  where
    by : (front : List (List ℕ)) (slot : List ℕ) (behind : List (List ℕ)) → slots ≡ front ++ slot ∷ behind → rows_to [] front ≡ take n rows → shown_to 0 front ≡ part_count → length front ≡ place + part_count →
        NoRow [] 0 front (rows_to [] front) (shown_to 0 front) ⊎ Closes front (rows_to [] front) (shown_to 0 front) → AreClosing slots place (take n rows)
    by front slot behind parts before thirteen long (inl none) =
        absurd (no_rows [] 0 (get_or front 0 []) refl (none.each 0 (let e = none.count in omega (arith, e, thirteen))))
    by front slot behind parts before thirteen long (inr c) =
        let l : length c.front ≡ place = (let a = ap length c.parts in let b = length-append c.front c.closing in let e = c.long in omega (arith, a, b, e, thirteen, long)) in
        record {
          each = λ j small.
              let inside : j < length c.closing = (let e = c.long in omega (arith, e, thirteen, small)) in
              let there : get_or slots (place + j) [] ≡ get_or c.closing j [] =
              ap (λ (xs : List (List ℕ)). get_or xs (place + j) []) (parts ∙ ap (λ (xs : List (List ℕ)). xs ++ slot ∷ behind) c.parts ∙ append_assoc c.front c.closing (slot ∷ behind))
              ∙ ap (λ (k : ℕ). get_or (c.front ++ (c.closing ++ slot ∷ behind)) (k + j) []) (sym l)
              ∙ get_or-append-add c.front (c.closing ++ slot ∷ behind) j [] ∙ get_or-append c.closing (slot ∷ behind) [] j inside in
              ap as_handed there ∙ closing_is (rows_to [] front) j (get_or c.closing j []) (c.each j (omega (arith, thirteen, small))) ∙ ap (λ (rs : List Row). closing_slot rs j) before;
          within = (let a = ap length parts in let b = length-append front (slot ∷ behind) in omega (arith, a, b, long));
        }
