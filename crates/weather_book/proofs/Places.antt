-- Where the rows of a log stand among its slots.
use Rattle.std.proofs.Common.{◌≡◌, inl, inr, ℕ, zero, suc, ◌+◌, ◌*◌, ◌<◌, Bool, true, false, List, [], ◌∷◌, ◌++◌, length, take, drop, Option, Some, None, refl, sym, ◌∙◌, ap, subst, arith, append_assoc, append-nil, length-append, length-drop}
use Rattle.std.specs.Prelude.{◌&&◌, slice_get, get_or, ℤ}
use Rattle.std.proofs.lemmas.Bool.{eqb-true}
use Rattle.std.proofs.lemmas.Option.{slice_get-get_or, slice_get_within, get_or_from_slice_get}
use Rattle.std.proofs.Math.Seq.{get_or-append_seam, take-suc}
use Rattle.std.proofs.lemmas.List.{length-take, get_or-drop}
use Rattle.station_base.specs.declared.row.Row.{Row}
use Rattle.row_slot.specs.Slot.{row_in_slot, is_row_slot, row_of}
use Rattle.byteorder.specs.Endian.{little_number}
use Rattle.gated_log.specs.Log.{as_handed}
use Rattle.gated_log.specs.Stands.{IsSlot}
use Rattle.gated_log.specs.declared.version.Version.{Version}
use Rattle.station_base.specs.CivilMinute.{CivilMinute}
use Rattle.station_base.specs.RowLine.{blank_row}
use Rattle.std.specs.Option.{unwrap_or}
use Rattle.gated_log.specs.Layout.{slot_size}
use Rattle.weather_book.specs.ReadBack.{row_back, rows_back, slot_in}
use Rattle.packed_rows.specs.Rows.{rows_with_row, shown_with, slot_total, rows_from, holds, as_read}
use Rattle.weather_book.proofs.Pieces.{slot_of_piece}
use Rattle.packed_rows.proofs.Versions.{row_read}
use Rattle.packed_rows.proofs.RowLaws.{AreRight, rows_to, shown_to, from_holds, count_right, shown_to_join}

abbrev pub with_found : Option Row → List Row → List Row
with_found None rows = rows
with_found (Some row) rows = row ∷ rows

-- the rows of slots
abbrev pub found : List (List ℕ) → List Row
found [] = []
found (slot ∷ slots) = with_found (row_in_slot slot) (found slots)

found_step : (o : Option Row) (rows more : List Row) → rows_with_row rows o ++ more ≡ rows ++ with_found o more
found_step None rows more = refl
found_step (Some row) rows more = append_assoc rows (row ∷ []) more

pub rows_found : (rows : List Row) (slots : List (List ℕ)) → rows_to rows slots ≡ rows ++ found slots
rows_found rows [] = sym (append-nil rows)
rows_found rows (slot ∷ slots) = rows_found (rows_with_row rows (row_in_slot slot)) slots ∙ found_step (row_in_slot slot) rows (found slots)

-- the slots up to the one of row k, and this
pub record Splits (slots : List (List ℕ)) (k : ℕ) : Type 0 where
  pub front : List (List ℕ)
  pub slot : List ℕ
  pub behind : List (List ℕ)
  pub row : Row
  pub parts : slots ≡ front ++ slot ∷ behind
  pub is : row_in_slot slot ≡ Some row
  pub rows_are : found (front ++ slot ∷ []) ≡ take (suc k) (found slots)

splits_by : (slot : List ℕ) (slots : List (List ℕ)) (k : ℕ) (o : Option Row) → row_in_slot slot ≡ o → k < length (with_found o (found slots)) →
    ((j : ℕ) → j < length (found slots) → Splits slots j) → Splits (slot ∷ slots) k
splits_by slot slots k None none lt rest =
    let r = rest k lt in
    record {
      front = slot ∷ r.front;
      slot = r.slot;
      behind = r.behind;
      row = r.row;
      parts = ap (λ (xs : List (List ℕ)). slot ∷ xs) r.parts;
      is = r.is;
      rows_are = ap (λ (o : Option Row). with_found o (found (r.front ++ r.slot ∷ []))) none ∙ r.rows_are ∙ ap (λ (o : Option Row). take (suc k) (with_found o (found slots))) (sym none);
    }
splits_by slot slots zero (Some row) some lt rest =
    record {
      front = [];
      slot = slot;
      behind = slots;
      row = row;
      parts = refl;
      is = some;
      rows_are = ap (λ (o : Option Row). with_found o []) some ∙ ap (λ (o : Option Row). take 1 (with_found o (found slots))) (sym some);
    }
splits_by slot slots (suc k) (Some row) some lt rest =
    let r = rest k (omega arith) in
    record {
      front = slot ∷ r.front;
      slot = r.slot;
      behind = r.behind;
      row = r.row;
      parts = ap (λ (xs : List (List ℕ)). slot ∷ xs) r.parts;
      is = r.is;
      rows_are = ap (λ (o : Option Row). with_found o (found (r.front ++ r.slot ∷ []))) some ∙ ap (λ (xs : List Row). row ∷ xs) r.rows_are ∙ ap (λ (o : Option Row). take (suc (suc k)) (with_found o (found slots))) (sym some);
    }

pub splits : (slots : List (List ℕ)) (k : ℕ) → k < length (found slots) → Splits slots k
splits [] k lt = absurd (omega arith)
splits (slot ∷ slots) k lt = splits_by slot slots k (row_in_slot slot) refl lt (λ j le. splits slots j le)

pub right_front : (rows : List Row) (shown : ℕ) (xs ys : List (List ℕ)) → AreRight rows shown (xs ++ ys) → AreRight rows shown xs
right_front rows shown [] ys are = tt
right_front rows shown (slot ∷ xs) ys are = (are.0, right_front (rows_with_row rows (row_in_slot slot)) (shown_with shown (row_in_slot slot)) xs ys are.1)

zero_plus : (n : ℕ) → 0 + 0 + n ≡ n
zero_plus n = omega arith

pub found_join : (xs ys : List (List ℕ)) → found (xs ++ ys) ≡ found xs ++ found ys
found_join [] ys = refl
found_join (slot ∷ xs) ys = ap (with_found (row_in_slot slot)) (found_join xs ys) ∙ join (row_in_slot slot) (found xs) (found ys)
  where
    join : (o : Option Row) (a b : List Row) → with_found o (a ++ b) ≡ with_found o a ++ b
    join None a b = refl
    join (Some row) a b = refl

-- the last of the first rows
pub last_get : (front : List Row) (n : ℕ) (row : Row) (rows : List Row) → n < length rows → front ++ row ∷ [] ≡ take (suc n) rows → slice_get rows n ≡ Some row
last_get front n row rows lt is =
    let taken = take-suc rows n row lt in
    let e : front ++ row ∷ [] ≡ take n rows ++ get_or rows n row ∷ [] = is ∙ taken in
    let l : length front ≡ n = (let a = ap length is in let b = length-append front (row ∷ []) in let c = length-take (suc n) rows in omega (arith, a, b, c, lt)) in
    let m : length (take n rows) ≡ n = (let c = length-take n rows in omega (arith, c, lt)) in
    let x : get_or (front ++ row ∷ []) n row ≡ row = ap (λ (k : ℕ). get_or (front ++ row ∷ []) k row) (sym l) ∙ get_or-append_seam front row [] row in
    let y : get_or (take n rows ++ get_or rows n row ∷ []) n row ≡ get_or rows n row = ap (λ (k : ℕ). get_or (take n rows ++ get_or rows n row ∷ []) k row) (sym m) ∙ get_or-append_seam (take n rows) (get_or rows n row) [] row in
    slice_get-get_or rows n row lt ∙ ap Some (sym y ∙ ap (λ (xs : List Row). get_or xs n row) (sym e) ∙ x)

-- row n stands in the slot whose number is one below the slots that the rows up to it take
pub place_is : (slots : List (List ℕ)) (rows : List Row) (n place : ℕ) → rows_from [] 0 0 slots ≡ holds rows → n < length rows → place + 1 ≡ slot_total (take (n + 1) rows) →
    (row : Row) × (slice_get rows n ≡ Some row) × (row_in_slot (get_or slots place []) ≡ Some row) × (place < length slots)
place_is slots rows n place are lt at =
    let h = from_holds [] 0 0 slots rows are in
    let all : found slots ≡ rows = sym (rows_found [] slots) ∙ h.rows_are in
    let s = splits slots n (omega (arith, ap length all)) in
    let front : List (List ℕ) = s.front ++ s.slot ∷ [] in
    let next : suc n ≡ n + 1 = omega arith in
    let whole : slots ≡ front ++ s.behind = s.parts ∙ sym (append_assoc s.front (s.slot ∷ []) s.behind) in
    let right = right_front [] 0 front s.behind (subst (λ (xs : List (List ℕ)). AreRight [] 0 xs) whole h.right) in
    let count = count_right [] 0 front right in
    let rows_are : rows_to [] front ≡ take (n + 1) rows = rows_found [] front ∙ s.rows_are ∙ ap (take (suc n)) all ∙ ap (λ (k : ℕ). take k rows) next in
    let closed : shown_to 0 front ≡ 0 = shown_to_join 0 s.front (s.slot ∷ []) ∙ ap (λ (o : Option Row). shown_with (shown_to 0 s.front) o) s.is in
    let total : slot_total (take (n + 1) rows) ≡ length front = sym (ap slot_total rows_are) ∙ plus_none (slot_total (rows_to [] front)) ∙ ap (λ (k : ℕ). slot_total (rows_to [] front) + k) (sym closed) ∙ count ∙ zero_plus (length front) in
    let long = length-append s.front (s.slot ∷ []) in
    let here : length s.front ≡ place = omega (arith, total, at, long) in
    let slot_is : get_or slots place [] ≡ s.slot = ap (λ (xs : List (List ℕ)). get_or xs place []) s.parts ∙ ap (λ (k : ℕ). get_or (s.front ++ s.slot ∷ s.behind) k []) (sym here) ∙ get_or-append_seam s.front s.slot s.behind [] in (
      s.row,
      last_get (found s.front) n s.row rows lt (sym (found_join s.front (s.slot ∷ []) ∙ ap (λ (o : Option Row). found s.front ++ with_found o []) s.is) ∙ s.rows_are ∙ ap (take (suc n)) all),
      ap row_in_slot slot_is ∙ s.is,
      (let w = ap length s.parts in let l = length-append s.front (s.slot ∷ s.behind) in omega (arith, w, l, here)),
    )
  where
    plus_none : (k : ℕ) → k ≡ k + 0
    plus_none k = omega arith

-- a slot with a row is as it was handed in
pub row_as_handed : (slot : List ℕ) (row : Row) → row_in_slot slot ≡ Some row → as_handed slot ≡ slot
unfolding row_in_slot
row_as_handed slot row is = by slot (marked (is_row_slot slot) _ _ _ _ _ is)
  where
    marked : (b : Bool) (stamp : Option CivilMinute) (periodic : Bool) (interval : ℕ) (values : Option (List (Option ℤ))) (limited : ℕ) → row_of b stamp periodic interval values limited ≡ Some row → b ≡ true
    marked true stamp periodic interval values limited e = refl
    marked false stamp periodic interval values limited e = absurd cc

    parts : (A B C D : Bool) → (A && B && C && D) ≡ true → (B ≡ true) × (C ≡ true)
    parts true true true D e = (refl, refl)
    parts true true false D e = absurd cc
    parts true false C D e = absurd cc
    parts false B C D e = absurd cc

    by : (s : List ℕ) → is_row_slot s ≡ true → as_handed s ≡ s
    by [] e = refl
    by (a ∷ []) e = refl
    by (a ∷ b ∷ []) e = refl
    by (a ∷ b ∷ c ∷ []) e = refl
    by (a ∷ b ∷ c ∷ d ∷ rest) e =
        let p = parts _ _ _ _ e in
        let a0 : a ≡ 0 = eqb-true a 0 p.0 in
        let n : little_number 2 (c ∷ d ∷ rest) ≡ 0 = eqb-true (little_number 2 (c ∷ d ∷ rest)) 0 p.1 in
        let m : little_number 2 (c ∷ d ∷ rest) ≡ c + 256 * (d + 256 * 0) = refl in
        let c0 : c ≡ 0 = omega (arith, n, m) in
        let d0 : d ≡ 0 = omega (arith, n, m) in
        ap (λ (x : ℕ). x ∷ b ∷ 0 ∷ 0 ∷ rest) (sym a0) ∙ ap (λ (x : ℕ). a ∷ b ∷ x ∷ 0 ∷ rest) (sym c0) ∙ ap (λ (x : ℕ). a ∷ b ∷ c ∷ x ∷ rest) (sym d0)

-- so the bytes that a log gives are the slot's, with gate and number aside
slot_unmarked : (slot bytes : List ℕ) (row : Row) → IsSlot slot bytes → row_in_slot slot ≡ Some row → as_handed bytes ≡ slot
slot_unmarked slot bytes row (inl same) is = ap as_handed (sym same) ∙ row_as_handed slot row is
slot_unmarked slot bytes row (inr same) is = sym same

-- and its row is read back of them
pub slot_row : (v : Version) (slot bytes : List ℕ) (row : Row) → IsSlot slot bytes → row_in_slot (as_read v slot) ≡ Some row → row_back v bytes ≡ row
slot_row v slot bytes row here is =
    ap (row_back_of v) (slot_unmarked slot bytes row here (row_read v slot row is)) ∙ ap (λ (o : Option Row). unwrap_or o blank_row) is
  where
    row_back_of : Version → List ℕ → Row
    row_back_of v slot = unwrap_or (row_in_slot (as_read v slot)) blank_row

back_behind : (v : Version) (file : List ℕ) (n count : ℕ) → rows_back v file n (suc count) ≡ rows_back v file n count ++ row_back v (slot_in file (n + count)) ∷ []
back_behind v file n zero = ap (λ (k : ℕ). row_back v (slot_in file k) ∷ []) (let e : n ≡ n + 0 = omega arith in e)
back_behind v file n (suc count) =
    ap (λ (xs : List Row). row_back v (slot_in file n) ∷ xs) (back_behind v file (n + 1) count
    ∙ ap (λ (k : ℕ). rows_back v file (n + 1) count ++ row_back v (slot_in file k) ∷ []) (let e : n + 1 + count ≡ n + suc count = omega arith in e))

-- one row more of those that are read back from slot n on
pub back_more : (v : Version) (file : List ℕ) (n count : ℕ) (row : Row) (items more : List Row) → row ≡ row_back v (slot_in file (n + count)) → items ≡ rows_back v file n count
    → more ≡ items ++ row ∷ [] → more ≡ rows_back v file n (count + 1)
back_more v file n count row items more is were push =
    push ∙ ap (λ (xs : List Row). xs ++ row ∷ []) were ∙ ap (λ (r : Row). rows_back v file n count ++ r ∷ []) is ∙ sym (back_behind v file n count)
    ∙ ap (rows_back v file n) (let s : suc count ≡ count + 1 = omega arith in s)

-- slot k of those that one read from slot n on gives
pub slot_read : (file bytes : List ℕ) (n k count : ℕ) → bytes ≡ take (length bytes) (drop (slot_size * (n + 1)) file) → length bytes ≡ slot_size * count → k < count
    → take slot_size (drop (slot_size * k) bytes) ≡ slot_in file (n + k)
slot_read file bytes n k count is long lt =
    ap (λ (xs : List ℕ). take slot_size (drop (slot_size * k) xs)) (sym (append-nil bytes)) ∙ slot_of_piece bytes [] file (slot_size * (n + 1)) k count is long lt
    ∙ ap (λ (j : ℕ). take slot_size (drop j file)) (let e : slot_size * (n + 1) + slot_size * k ≡ slot_size * (n + k + 1) = omega arith in e)

-- one row more of those from number n on
pub pushed : (rows : List Row) (n k : ℕ) (row one : Row) (items more : List Row) → slice_get rows (n + k) ≡ Some row → one ≡ row → items ≡ take k (drop n rows) → more ≡ items ++ one ∷ [] → more ≡ take (k + 1) (drop n rows)
pushed rows n k row one items more at is were push =
    let lt = slice_get_within rows (n + k) row at in
    let within : k < length (drop n rows) = (let l = length-drop n rows in omega (arith, l, lt)) in
    let e : one ≡ get_or (drop n rows) k row = is ∙ sym (get_or-drop n rows k row ∙ get_or_from_slice_get rows (n + k) row row at) in
    push ∙ ap (λ (x : List Row). x ++ one ∷ []) were ∙ ap (λ (x : Row). take k (drop n rows) ++ x ∷ []) e ∙ sym (take-suc (drop n rows) k row within)
    ∙ ap (λ (j : ℕ). take j (drop n rows)) (let s : suc k ≡ k + 1 = omega arith in s)
