use Rattle.std.proofs.Common.{◌≡◌, [], ℕ, Some, sym, ◌∙◌, ap, subst, arith, map}
use Rattle.std.specs.Prelude.{get_or}
use Rattle.gated_log.specs.GatedLog.{slot_count, log_version}
use Rattle.gated_log.specs.Stands.{StandsToRead}
use Rattle.row_slot.specs.Slot.{row_in_slot}
use Rattle.packed_rows.specs.Rows.{slot_total, as_read}
use Rattle.gated_log.specs.declared.version.Version.{Version}
use Rattle.weather_book.specs.ReadBack.{row_back, slot_in, slot_number}
use Rattle.packed_rows.proofs.Versions.{read_at}
use Rattle.weather_book.proofs.Places.{place_is, slot_row}
use Rattle.weather_book.proofs.KeptLaws.{total_kept}
use Rattle.weather_book.proofs.Looks.{one_look}
use Rattle.weather_book.proofs.book.Book.row.Goals as goal

pub returns-in-Done-clause-row : goal.returns-in-Done-clause-row
returns-in-Done-clause-row g c rows stands x told =
    let self = c.args.self.now in let kept = self.kept in let keeps = stands.stands_for.keeps in let m = g.D.Disk.medium in
    let same : slot_total rows ≡ slot_count self.log = omega (arith, self.counted, total_kept kept.days.items kept.count kept.tail rows keeps, kept.days.ok.0) in
    let log = subst (λ (n : ℕ). StandsToRead m n c.args.disk.now stands.slots) same stands.log in
    let at = place_is (map (as_read stands.version) stands.slots) rows c.args.n c.place-place.result stands.rows_are (omega (arith, c.requires, keeps.count_is)) (c.place-place.ensures.rows rows keeps) in
    let version : c.version.result ≡ stands.version = c.version.ensures ∙ stands.version_is x told in
    let back = slot_row stands.version (get_or stands.slots c.place-place.result []) c.slot.new.buf at.0 (c.in-Done.ensures.bytes stands.slots log x told)
    (ap row_in_slot (sym (read_at stands.version stands.slots c.place-place.result)) ∙ at.2) in
    at.1 ∙ ap Some (sym (c.row_of.ensures.row ∙ ap (λ (v : Version). row_back v c.slot.new.buf) version ∙ back))

pub returns-in-Done-clause-file : goal.returns-in-Done-clause-file
returns-in-Done-clause-file g c rows stands x told =
    let place : c.place-place.result ≡ slot_number rows c.args.n = omega (arith, c.place-place.ensures.rows rows stands.keeps) in
    c.row_of.ensures.row ∙ ap (λ (v : Version). row_back v c.slot.new.buf) c.version.ensures
    ∙ ap (row_back (log_version c.args.self.now.log)) (c.in-Done.ensures.file x told ∙ ap (slot_in x) place)

pub returns-in-Done-clause-went : goal.returns-in-Done-clause-went
returns-in-Done-clause-went g c rows stands =
    let self = c.args.self.now in let kept = self.kept in
    one_look g.D.Disk.medium _ _ _ _ _ _ (omega (arith, c.requires, c.place-place.ensures.within, kept.days.ok.0, total_kept kept.days.items kept.count kept.tail rows stands.keeps)) c.in-Done.ensures.went

pub returns-in-Failed-clause-went : goal.returns-in-Failed-clause-went
returns-in-Failed-clause-went g c rows stands =
    let self = c.args.self.now in let kept = self.kept in
    one_look g.D.Disk.medium _ _ _ _ _ _ (omega (arith, c.requires, c.place-place.ensures.within, kept.days.ok.0, total_kept kept.days.items kept.count kept.tail rows stands.keeps)) c.in-Failed.ensures.went
