use Rattle.std.proofs.Common.{◌≡◌, ◌+◌, ◌*◌, ℕ, take, drop, ◌∙◌, ap, subst, arith, sym, map, []}
use Rattle.gated_log.specs.GatedLog.{slot_count, log_version}
use Rattle.gated_log.specs.Stands.{StandsToRead}
use Rattle.weather_book.specs.declared.answers.RowsAnswer.{RowsAnswer}
use Rattle.weather_book.specs.declared.answers.RowsAnswer.TheVariants as rows
use Rattle.std.specs.Prelude.{get_or}
use Rattle.row_slot.specs.Slot.{row_in_slot}
use Rattle.packed_rows.specs.Rows.{slot_total, as_read}
use Rattle.gated_log.specs.declared.version.Version.{Version}
use Rattle.gated_log.specs.Layout.{slot_size}
use Rattle.weather_book.specs.ReadBack.{rows_back, slot_number}
use Rattle.packed_rows.proofs.Versions.{read_at}
use Rattle.weather_book.specs.Start.{OnRows}
use Rattle.weather_book.proofs.Places.{place_is}
use Rattle.weather_book.proofs.KeptLaws.{total_kept}
use Rattle.weather_book.proofs.book.Book.rows_at.Goals as goal

on_rows : (a : RowsAnswer) (P Q : Type 0) → (P → Q) → OnRows a P → OnRows a Q
on_rows rows.Done P Q f p = f p
on_rows rows.DiskFault P Q f p = tt

pub returns-clause-rows : goal.returns-clause-rows
returns-clause-rows g c =
    let self = c.args.self.now in let kept = self.kept in let m = g.D.Disk.medium in
    on_rows c.read_slots.result _ _ (λ h rows stands x told.
    let keeps = stands.stands_for.keeps in
    let same : slot_total rows ≡ slot_count self.log = omega (arith, self.counted, total_kept kept.days.items kept.count kept.tail rows keeps, kept.days.ok.0) in
    let log = subst (λ (n : ℕ). StandsToRead m n c.args.disk.now stands.slots) same stands.log in
    h rows c.args.n stands.slots log
    (λ k lt.
    let at = place_is (map (as_read stands.version) stands.slots) rows (c.args.n + k) (c.place-place.result + k) stands.rows_are (omega (arith, lt, c.rest-count.ensures.within, keeps.count_is))
    (let p = c.place-place.ensures.rows rows keeps in let q = c.rest-count.ensures.place rows keeps k lt in omega (arith, p, q)) in (
      at.0,
      at.1,
      ap (λ (v : Version). row_in_slot (as_read v (get_or stands.slots (c.place-place.result + k) []))) (stands.version_is x told)
          ∙ ap row_in_slot (sym (read_at stands.version stands.slots (c.place-place.result + k))) ∙ at.2,
    )) x told
    ∙ ap (λ (n : ℕ). take n (drop c.args.n rows)) (c.rest-count.ensures.rows rows keeps)) c.read_slots.ensures.rows

pub returns-clause-file : goal.returns-clause-file
returns-clause-file g c =
    let v = log_version c.args.self.now.log in
    on_rows c.read_slots.result _ _ (λ h rows stands x told.
    let place : c.place-place.result ≡ slot_number rows c.args.n = omega (arith, c.place-place.ensures.rows rows stands.keeps) in
    h x told ∙ ap (λ (p : ℕ). rows_back v x p c.rest-count.result) place ∙ ap (rows_back v x (slot_number rows c.args.n)) (c.rest-count.ensures.rows rows stands.keeps)) c.read_slots.ensures.file

pub returns-clause-went : goal.returns-clause-went
returns-clause-went g c rows stands =
    let self = c.args.self.now in let kept = self.kept in
    c.read_slots.ensures.went (slot_size * (slot_total rows + 1))
    (omega (arith, c.rest-count.ensures.within, c.place-place.ensures.within, kept.days.ok.0, total_kept kept.days.items kept.count kept.tail rows stands.keeps))

pub returns-clause-some : goal.returns-clause-some
returns-clause-some g c =
    on_rows c.read_slots.result _ _
    (λ e. (omega (arith, e, c.rest-count.ensures.some), omega (arith, e, c.rest-count.ensures.within))) c.read_slots.ensures.count
