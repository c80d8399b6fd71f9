-- The fronts of two lists of rows, piece by piece.
use Rattle.std.proofs.Common.{◌≡◌, ◌≢◌, ℕ, ◌+◌, ◌<◌, ◌≤◌, List, ◌++◌, Some, None, get_or, length, take, drop, sym, ◌∙◌, ap, arith}
use Rattle.std.specs.Prelude.{slice_get}
use Rattle.std.proofs.Math.Seq.{take-add}
use Rattle.std.proofs.lemmas.List.{take-take, take-append-drop, length-append, length-take, length-drop, get_or-take, get_or-drop, get_or_append_left, take_all}
use Rattle.std.proofs.lemmas.Option.{slice_get-get_or, slice_get_past}
use Rattle.causes.specs.Lists.{IsFrontOf}
use Rattle.station_base.specs.declared.row.Row.{Row}
use Rattle.station_base.specs.RowLine.{blank_row}
use Rattle.archive_copy.specs.Comparing.{IsFirstUnlike}

-- a row of a piece
pub in_piece : (rows : List Row) (at many n : ℕ) → n < length (take many (drop at rows)) → slice_get (take many (drop at rows)) n ≡ slice_get rows (at + n)
in_piece rows at many n lt =
    let front = length-take many (drop at rows) in let behind = length-drop at rows in
    slice_get-get_or (take many (drop at rows)) n blank_row lt
    ∙ ap Some (get_or-take many (drop at rows) n blank_row (omega (arith, lt, front)) ∙ get_or-drop at rows n blank_row)
    ∙ sym (slice_get-get_or rows (at + n) blank_row (omega (arith, lt, front, behind)))

-- the same rows, and then the same rows of two pieces, are the same rows
pub front_grows : (mine theirs : List Row) (at a b n : ℕ) → take at mine ≡ take at theirs → n ≤ a → n ≤ b → take n (take a (drop at mine)) ≡ take n (take b (drop at theirs))
    → take (at + n) mine ≡ take (at + n) theirs
front_grows mine theirs at a b n so_far one two same =
    take-add at n mine ∙ ap (λ (xs : List Row). xs ++ take n (drop at mine)) so_far
    ∙ ap (λ (xs : List Row). take at theirs ++ xs) (sym (take-take n a (drop at mine) one) ∙ same ∙ take-take n b (drop at theirs) two)
    ∙ sym (take-add at n theirs)

-- and where the next two rows are not, that one is the first
pub first_unlike : (mine theirs : List Row) (at a b n : ℕ) → take at mine ≡ take at theirs
    → take n (take a (drop at mine)) ≡ take n (take b (drop at theirs)) → n < length (take a (drop at mine)) → n < length (take b (drop at theirs))
    → slice_get (take a (drop at mine)) n ≢ slice_get (take b (drop at theirs)) n → IsFirstUnlike mine theirs (at + n)
first_unlike mine theirs at a b n so_far same one two unlike =
    let front = length-take a (drop at mine) in let behind = length-drop at mine in
    let front2 = length-take b (drop at theirs) in
    record {
      front = front_grows mine theirs at a b n so_far (omega (arith, one, front)) (omega (arith, two, front2)) same;
      has_it = omega (arith, one, front, behind);
      unlike = λ e. unlike (in_piece mine at a n one ∙ e ∙ sym (in_piece theirs at b n two));
    }

is_none : (row : Row) → Some row ≡ None → ⊥
is_none row e = absurd cc

-- a row behind the last of the other rows is unlike any
pub none_there : (mine theirs : List Row) (n : ℕ) → take n mine ≡ take n theirs → n ≡ length theirs → n < length mine → IsFirstUnlike mine theirs n
none_there mine theirs n same all has = record {
  front = same;
  has_it = has;
  unlike = λ e. is_none _ (sym (slice_get-get_or mine n blank_row has) ∙ e ∙ slice_get_past theirs n (omega (arith, all)));
}

-- rows that are all the first of others
pub all_in_front : (mine theirs : List Row) (n : ℕ) → take n mine ≡ take n theirs → length mine ≤ n → n ≤ length mine → IsFrontOf mine theirs
all_in_front mine theirs n same all few = (
  drop n theirs,
  ap (λ (xs : List Row). xs ++ drop n theirs) (sym (take_all n mine all) ∙ same) ∙ take-append-drop n theirs,
)

-- a row of the front of a list is that of the list
pub front_has : (mine theirs : List Row) (n : ℕ) → IsFrontOf mine theirs → n < length mine → slice_get mine n ≡ slice_get theirs n
front_has mine theirs n front has =
    slice_get-get_or mine n blank_row has
    ∙ ap Some (sym (get_or_append_left mine front.0 blank_row n has) ∙ ap (λ (rows : List Row). get_or rows n blank_row) front.1)
    ∙ sym (slice_get-get_or theirs n blank_row (omega (arith, has, length-append mine front.0, ap (λ (rows : List Row). length rows) front.1)))
