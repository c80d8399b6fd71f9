use Rattle.std.proofs.Common.{◌≡◌, ◌+◌, ◌∙◌, All, List, Some, get_or, refl, sym, ap, subst, arith}
use Rattle.std.specs.Prelude.{slice_get}
use Rattle.std.proofs.lemmas.Option.{slice_get-get_or}
use Rattle.station_base.specs.RowLine.{IsPrintable}
use Rattle.station_base.specs.declared.row.Row.{Row}
use Rattle.weather_book.proofs.BookOnDisk.{to_read_stays}
use Rattle.archive_copy.proofs.ReadAhead.{ahead_used}
use Rattle.archive_copy.proofs.reader.RowReader.next.Goals as goal

pub returns-clause-row : goal.returns-clause-row
returns-clause-row g c rows stands x told =
    let m = g.D.Disk.medium in let fill = c.in_default.ensures in let reader = c.fill.new.self in let row = c.index-deref-self.result in
    let now = to_read_stays m c.args.theirs.now c.args.from.now c.fill.new.from rows stands fill.stays in
    let next = fill.ahead.are_next rows now x (fill.stays.reads ∙ told) 0 (omega (arith, fill.some)) in
    let place : c.args.self.now.at ≡ c.fill.new.self.at + 0 = omega (arith, fill.at) in
    let first : c.fill.new.self.used + 0 ≡ c.fill.new.self.used = omega arith in
    ap (slice_get rows) place ∙ sym next ∙ ap (slice_get reader.piece.items) first ∙ slice_get-get_or reader.piece.items reader.used row fill.some
    ∙ ap Some (sym (c.index-deref-self.is ∙ ap (λ (xs : List Row). get_or xs c.fill.new.self.used c.index-deref-self.result) c.deref.ensures.0))

pub returns-clause-printable : goal.returns-clause-printable
returns-clause-printable g c =
    let fill = c.in_default.ensures in let reader = c.fill.new.self in let row = c.index-deref-self.result in
    let is = c.index-deref-self.is ∙ ap (λ (xs : List Row). get_or xs c.fill.new.self.used c.index-deref-self.result) c.deref.ensures.0 in
    subst (λ (r : Row). All IsPrintable r.values) (sym is) (fill.ahead.printable reader.used row fill.some)

pub returns-clause-ahead : goal.returns-clause-ahead
returns-clause-ahead g c =
    let fill = c.in_default.ensures in
    ahead_used g.D.Disk.medium c.args.theirs.now c.fill.new.from c.fill.new.self
    (record { piece = c.fill.new.self.piece; used = c.fill.new.self.used + 1; at = c.fill.new.self.at + 1 }) fill.ahead fill.some refl refl refl
