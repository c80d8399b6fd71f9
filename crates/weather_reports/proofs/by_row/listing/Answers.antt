use Rattle.std.proofs.Common.{◌≡◌, ◌+◌, ◌-◌, ◌∙◌, ℕ, drop, take, map, sym, ap, arith}
use Rattle.std.proofs.Math.Logic.{∥∥₁_elim}
use Rattle.std.proofs.Props.{props}
use Rattle.std.proofs.lemmas.List.Sums.{count_by-le-length}
use Rattle.station_base.specs.RowLine.{row_line}
use Rattle.packed_rows.specs.Days.{is_before, is_within}
use Rattle.weather_book.proofs.RowsOfBook.{some_rows}
use Rattle.weather_reports.proofs.MadeReports.{made_as}
use Rattle.weather_reports.proofs.Pieces.{counted_fit}
use Rattle.weather_reports.proofs.by_row.listing.Goals as goal

pub rows_between-requires : goal.rows_between-requires
rows_between-requires g c =
    ∥∥₁_elim (some_rows c.args.book.now) (hlevel props) (λ p.
    let before = c.rows_of-from.ensures.from p.0 p.1 in let within = c.rows_of-from.ensures.count p.0 p.1 in
    let these = c.rows_of-from.ensures.these p.0 p.1 in
    omega (
      arith,
      before,
      within,
      p.1.held_is,
      counted_fit (is_before c.args.first) (is_within c.args.first c.args.last) p.0
          (rw (sym before, sym within) these) (count_by-le-length (is_before c.args.first) p.0),
    ))

pub returns : goal.returns
returns g c =
    made_as g.K.Sink.outlet g.D.Disk.medium c.args.book.now _ _ _ c.args.disk.now _ c.args.out.now _ (λ rows stands_for.
    let from = c.rows_of-from.result.0 in let count = c.rows_of-from.result.1 in
    let left : from + count - from ≡ count = omega arith in
    ap (λ (n : ℕ). map row_line (take n (drop from rows))) left ∙ ap (map row_line) (c.rows_of-from.ensures.these rows stands_for)) c.rows_between.ensures
