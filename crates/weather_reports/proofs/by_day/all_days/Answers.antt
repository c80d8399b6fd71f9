use Rattle.std.proofs.Common.{◌≡◌, ℤ, List, length, Some, refl, sym, ap, subst, inl, arith, ℕ, [], ◌-◌, ◌≤◌, ◌+◌, ◌*◌}
use Rattle.std.specs.Prelude.{flat_map, slice_get}
use Rattle.std.proofs.lemmas.List.{take_all}
use Rattle.std.specs.Io.KnownBytes.{Appends}
use Rattle.causes.proofs.WritesInTurn.{Appends-nil}
use Rattle.disk_model.specs.Disk.{stays_none}
use Rattle.gated_log.specs.Layout.{slot_size}
use Rattle.packed_rows.specs.Days.{days_of}
use Rattle.packed_rows.specs.Rows.{slot_total}
use Rattle.station_base.specs.declared.row.Row.{Row}
use Rattle.weather_book.specs.Book.{BookStandsFor}
use Rattle.weather_book.proofs.Looks.{no_look}
use Rattle.weather_reports.specs.Report.{all_day_lines, day_lines}
use Rattle.weather_reports.specs.Reported.{text_of_lines}
use Rattle.weather_reports.specs.declared.end.ReportEnd.TheVariants.{Done}
use Rattle.weather_reports.proofs.AscendingDays.{all_among}
use Rattle.weather_reports.proofs.Behind.{wrote_nothing}
use Rattle.weather_reports.proofs.MadeReports.{made_as, made_whole}
use Rattle.weather_reports.proofs.by_day.all_days.Goals as goal

pub returns-then-days-eq0 : goal.returns-then-days-eq0
returns-then-days-eq0 g c =
    let outlet = g.K.Sink.outlet in let medium = g.D.Disk.medium in let disk = c.args.disk.now in let out = c.args.out.now in
    let none : (rows : List Row) → BookStandsFor c.args.book.now rows → text_of_lines (all_day_lines rows) ≡ [] = λ rows stands_for.
    let few : length (days_of rows) ≤ 0 = omega (arith, c.days-days.ensures.rows rows stands_for) in
    ap (λ (days : List ℤ). text_of_lines (flat_map (day_lines rows) days)) (sym (take_all 0 (days_of rows) few)) in
    record {
      lines = λ rows stands x told. subst (λ (text : List ℕ). Appends (outlet.taken out) (outlet.taken out) text) (sym (none rows stands.stands_for)) (Appends-nil (outlet.taken out));
      by_reads = made_whole outlet medium c.args.book.now _ disk disk out out out refl (stays_none medium disk)
          (wrote_nothing outlet medium c.args.book.now disk _ out (λ rows stands x told. sym (none rows stands.stands_for)))
          Done (omega arith) (λ rows stands. no_look medium (slot_size * (slot_total rows + 1)) disk) (inl refl)
          (record { never_falls = omega arith; rose = λ no. absurd (no refl) }) (λ _. refl);
    }

pub returns : goal.returns
returns g c =
    made_as g.K.Sink.outlet g.D.Disk.medium c.args.book.now _ _ _ c.args.disk.now _ c.args.out.now _ (λ rows stands_for.
    let count = c.days-days.ensures.rows rows stands_for in
    let last : slice_get (days_of rows) (length (days_of rows) - 1) ≡ Some c.day_at-2.result.0 =
    rw count at (c.day_at-2.ensures.day rows stands_for) in
    ap (flat_map (day_lines rows)) (all_among (days_of rows) (c.days-days.ensures.in_order rows stands_for) c.day_at.result c.day_at-2.result
    (c.day_at.ensures.day rows stands_for) last)) c.day_table.ensures
