-- Rows that are listed piece by piece.
use Rattle.std.proofs.Common.{◌≡◌, ℕ, ◌+◌, ◌-◌, ◌≤◌, Bool, List, ◌++◌, drop, take, map, length, ap, ◌∙◌, sym, arith}
use Rattle.std.proofs.Math.Seq.{take-add}
use Rattle.std.proofs.lemmas.List.{drop-drop, map-append, length-take, length-drop}
use Rattle.std.proofs.lemmas.List.Sums.{length-filter}
use Rattle.std.specs.Prelude.{count_by, filter}
use Rattle.station_base.specs.RowLine.{row_line}
use Rattle.station_base.specs.declared.row.Row.{Row}
use Rattle.std.specs.declared.option.Option.{Option}
use Rattle.causes.specs.Written.{Leaves, WritesPart}
use Rattle.weather_reports.specs.Reported.{text_of_lines}
use Rattle.weather_reports.proofs.Progress.{Comes, comes_on, comes_fails}

-- the lines of the next rows, and of those behind them
pub piece_lines : (rows : List Row) (at k n : ℕ) → k ≤ n
    → map row_line (take n (drop at rows)) ≡ map row_line (take k (drop at rows)) ++ map row_line (take (n - k) (drop (at + k) rows))
piece_lines rows at k n le =
    let whole : n ≡ k + (n - k) = omega arith in
    ap (λ (m : ℕ). map row_line (take m (drop at rows))) whole
    ∙ ap (map row_line) (take-add k (n - k) (drop at rows) ∙ ap (λ (rs : List Row). take k (drop at rows) ++ take (n - k) rs) (drop-drop k at rows))
    ∙ map-append row_line (take k (drop at rows)) (take (n - k) (drop (at + k) rows))

-- so many rows from one on are all there
pub counted_fit : (p q : Row → Bool) (rows : List Row) → take (count_by q rows) (drop (count_by p rows) rows) ≡ filter q rows
    → count_by p rows ≤ length rows → count_by p rows + count_by q rows ≤ length rows
counted_fit p q rows these le =
    let a = ap length these in let b = length-take (count_by q rows) (drop (count_by p rows) rows) in
    let d = length-drop (count_by p rows) rows in let f = length-filter q rows in omega (arith, a, b, d, f, le)

module _ (rows : List Row) (at k n : ℕ) (piece : List Row) (is : piece ≡ take k (drop at rows)) (within : k ≤ n)
    (lines : List (List ℕ)) (old now new : Option (List ℕ)) (pending : List ℕ)
    (before : Comes old now lines (map row_line (take n (drop at rows))) pending) where
  -- the next rows were printed
  pub piece_comes : (end : ℕ) (left : List ℕ) → n - k ≡ end - (at + k) → Leaves now new (pending ++ text_of_lines (map row_line piece)) left
      → Comes old new lines (map row_line (take (end - (at + k)) (drop (at + k) rows))) left
  piece_comes end left rest printed =
      rw (sym rest) (comes_on old now new lines (map row_line (take k (drop at rows))) (map row_line (take (n - k) (drop (at + k) rows))) pending left
      (rw (piece_lines rows at k n within) at before) (rw is at printed))

  -- the printing of the next rows failed
  pub piece_fails : WritesPart now new (pending ++ text_of_lines (map row_line piece)) → WritesPart old new (text_of_lines lines)
  piece_fails printed =
      comes_fails old now new lines (map row_line (take k (drop at rows))) (map row_line (take (n - k) (drop (at + k) rows))) pending
      (rw (piece_lines rows at k n within) at before) (rw is at printed)
