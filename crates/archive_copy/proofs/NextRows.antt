-- The next rows of an archive, and whether they rise.
use Rattle.std.proofs.Common.{◌≡◌, ℕ, ◌+◌, ◌-◌, ◌<◌, ◌≤◌, Bool, true, false, List, [], ◌∷◌, ◌++◌, Option, Some, None, length, min, take, drop, sym, ◌∙◌, ap, arith, append_assoc, add-one}
use Rattle.std.specs.Prelude.{slice_get, ◌&&◌}
use Rattle.std.proofs.Math.Seq.{take-suc, take-add, take-append-add}
use Rattle.std.proofs.lemmas.List.{take-append-drop, drop-append-le, drop_all, drop-drop, take-take, take_all, length-take, length-drop, get_or-drop}
use Rattle.std.proofs.lemmas.Bool.{and_left, and_right}
use Rattle.std.proofs.lemmas.Option.{slice_get_within, get_or_from_slice_get}
use Rattle.station_base.specs.CivilMinute.{CivilMinute}
use Rattle.station_base.specs.declared.row.Row.{Row}
use Rattle.causes.specs.Lists.{IsFrontOf}
use Rattle.packed_rows.specs.Rising.{stamp_exceeds, rows_rise, last_stamp_after, last_row_stamp}
use Rattle.packed_rows.proofs.RowLaws.{rise_front, rise_behind}

-- one more of the next rows
pub next_row : (rows : List Row) (at k : ℕ) (row : Row) → slice_get rows (at + k) ≡ Some row → take (k + 1) (drop at rows) ≡ take k (drop at rows) ++ row ∷ []
next_row rows at k row is =
    let lt = slice_get_within rows (at + k) row is in
    rw (add-one) (take-suc (drop at rows) k row (omega (arith, lt, length-drop at rows))
    ∙ ap (λ (r : Row). take k (drop at rows) ++ r ∷ []) (get_or-drop at rows k row ∙ get_or_from_slice_get rows (at + k) row row is))

-- five of them, or all that there are
pub up_to_five : (rows : List Row) (k : ℕ) → k ≡ min 5 (length rows) → take k rows ≡ take 5 rows
up_to_five rows k is =
    sym (take-take k 5 rows (omega (arith, is))) ∙ take_all k (take 5 rows) (omega (arith, is, length-take 5 rows))

-- where a row does not rise above the one before, the rows do not
pub breaks : (last : Option CivilMinute) (xs : List Row) (row : Row) (ys : List Row) → stamp_exceeds (last_stamp_after last xs) row.stamp ≡ false → rows_rise last (xs ++ row ∷ ys) ≡ false
breaks last [] row ys is = and_left (stamp_exceeds last row.stamp) (rows_rise (Some row.stamp) ys) is
breaks last (x ∷ xs) row ys is = and_right (stamp_exceeds last x.stamp) (rows_rise (Some x.stamp) (xs ++ row ∷ ys)) (breaks (Some x.stamp) xs row ys is)

-- so five of the next rows do not rise, one of which does not
pub breaks_batch : (last : Option CivilMinute) (rows : List Row) (at k : ℕ) (row : Row) → k < 5 → slice_get rows (at + k) ≡ Some row
    → stamp_exceeds (last_stamp_after last (take k (drop at rows))) row.stamp ≡ false → rows_rise last (take 5 (drop at rows)) ≡ false
breaks_batch last rows at k row few is wrong =
    let xs = take k (drop at rows) in let ys = take (4 - k) (drop (k + 1) (drop at rows)) in
    let five : 5 ≡ k + 1 + (4 - k) = omega (arith, few) in
    let parts : take 5 (drop at rows) ≡ take k (drop at rows) ++ row ∷ take (4 - k) (drop (k + 1) (drop at rows)) =
    ap (λ (n : ℕ). take n (drop at rows)) five ∙ take-add (k + 1) (4 - k) (drop at rows)
    ∙ ap (λ (zs : List Row). zs ++ take (4 - k) (drop (k + 1) (drop at rows))) (next_row rows at k row is)
    ∙ append_assoc (take k (drop at rows)) (row ∷ []) (take (4 - k) (drop (k + 1) (drop at rows))) in
    ap (rows_rise last) parts ∙ breaks last xs row ys wrong

-- a row that exceeds the last stamp rises
pub one_rises : (last also : Option CivilMinute) (row : Row) → last ≡ also → stamp_exceeds last row.stamp ≡ true → rows_rise also (row ∷ []) ≡ true
one_rises last also row is rises =
    ap (λ (b : Bool). b && true) (ap (λ (o : Option CivilMinute). stamp_exceeds o row.stamp) (sym is) ∙ rises)

-- of rows that rise the next ones rise behind those before
pub next_rise : (rows : List Row) (at k : ℕ) → rows_rise None rows ≡ true → rows_rise (last_row_stamp (take at rows)) (take k (drop at rows)) ≡ true
next_rise rows at k up =
    let parts : rows ≡ take at rows ++ drop at rows = sym (take-append-drop at rows) in
    let behind = rise_behind None (take at rows) (drop at rows) (ap (rows_rise None) (sym parts) ∙ up) in
    rise_front (last_row_stamp (take at rows)) (take k (drop at rows)) (drop k (drop at rows))
    (ap (rows_rise (last_row_stamp (take at rows))) (take-append-drop k (drop at rows)) ∙ behind)

-- rows with the next ones behind them, and then more of the next ones
pub more_next : (mine theirs : List Row) (at k : ℕ) → length mine ≤ at
    → (mine ++ take (at - length mine) (drop (length mine) theirs)) ++ take k (drop at theirs) ≡ mine ++ take (at + k - length mine) (drop (length mine) theirs)
more_next mine theirs at k le =
    let n = at - length mine in let rest = drop (length mine) theirs in
    let place : length mine + (at - length mine) ≡ at = omega (arith, le) in
    let whole : at - length mine + k ≡ at + k - length mine = omega (arith, le) in
    append_assoc mine (take n rest) (take k (drop at theirs))
    ∙ ap (λ (zs : List Row). mine ++ (take (at - length mine) (drop (length mine) theirs) ++ take k zs))
    (sym (drop-drop (at - length mine) (length mine) theirs ∙ ap (λ (m : ℕ). drop m theirs) place))
    ∙ ap (λ (zs : List Row). mine ++ zs) (sym (take-add (at - length mine) k (drop (length mine) theirs)))
    ∙ ap (λ (m : ℕ). mine ++ take m (drop (length mine) theirs)) whole

-- what stands behind the first rows
pub front_rest : (mine theirs : List Row) → IsFrontOf mine theirs → mine ++ drop (length mine) theirs ≡ theirs
front_rest mine theirs front =
    ap (λ (zs : List Row). mine ++ drop (length mine) zs) (sym front.1) ∙ ap (λ (zs : List Row). mine ++ zs) (drop-append-le (length mine) mine front.0 (omega arith) ∙ ap (λ (xs : List Row). xs ++ front.0) (drop_all (length mine) mine (omega arith))) ∙ front.1

-- with the next ones behind them they are the first rows
pub front_next : (mine theirs : List Row) (at : ℕ) → IsFrontOf mine theirs → length mine ≤ at → mine ++ take (at - length mine) (drop (length mine) theirs) ≡ take at theirs
front_next mine theirs at front le =
    let n = at - length mine in
    let place : length mine + (at - length mine) ≡ at = omega (arith, le) in
    sym (take-append-add mine (drop (length mine) theirs) n) ∙ ap (λ (m : ℕ). take m (mine ++ drop (length mine) theirs)) place
    ∙ ap (take at) (front_rest mine theirs front)

-- some of the next rows, and then more of them
pub next_joins : (mine theirs so_far new : List Row) (at k : ℕ) → length mine ≤ at → so_far ≡ take (at - length mine) (drop (length mine) theirs) → new ≡ take k (drop at theirs)
    → so_far ++ new ≡ take (at + k - length mine) (drop (length mine) theirs)
next_joins mine theirs so_far new at k le is more =
    let place : length mine + (at - length mine) ≡ at = omega (arith, le) in
    let whole : at - length mine + k ≡ at + k - length mine = omega (arith, le) in
    ap (λ (zs : List Row). zs ++ new) is ∙ ap (λ (zs : List Row). take (at - length mine) (drop (length mine) theirs) ++ zs) more
    ∙ ap (λ (zs : List Row). take (at - length mine) (drop (length mine) theirs) ++ take k zs)
    (sym (drop-drop (at - length mine) (length mine) theirs ∙ ap (λ (m : ℕ). drop m theirs) place))
    ∙ sym (take-add (at - length mine) k (drop (length mine) theirs))
    ∙ ap (λ (m : ℕ). take m (drop (length mine) theirs)) whole
