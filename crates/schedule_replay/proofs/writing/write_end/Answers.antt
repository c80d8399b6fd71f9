use Rattle.std.proofs.Common.{◌≡◌, ℕ, List, Err, length, sym, ap, subst, ◌∙◌, rules}
use Rattle.weather_book.specs.Book.{BookStandsFor}
use Rattle.packed_rows.specs.Days.{days_of}
use Rattle.weather_book.specs.declared.book.Book.{Book}
use Rattle.replay_laws.specs.Texts.{day_lines_text, end_line, item_text}
use Rattle.schedule_replay.specs.Writing.{WritesText}
use Rattle.schedule_replay.proofs.Parts.{writes_first, writes_second}
use Rattle.schedule_replay.proofs.writing.write_end.Goals as goal

pub returns-in_err-write_days-clause-text : goal.returns-in_err-write_days-clause-text
unfolding item_text
returns-in_err-write_days-clause-text g c settings rows goes =
    let given : c.from_residual.result ≡ Err c.in_err-write_days.field-0.0 = search rules in
    rw given (writes_first g.K.Sink.outlet c.args.out.now c.write_days.new.out (day_lines_text rows) (end_line (length rows) (length (days_of rows))) c.in_err-write_days.field-0.0
    (c.in_err-write_days.ensures.text settings rows goes))

pub returns-clause-text : goal.returns-clause-text
unfolding item_text
returns-clause-text g c settings rows goes =
    let now = c.write_days.new.out in let new = c.write.new.out in
    let stands : BookStandsFor c.book-book.result.now rows = subst (λ (b : Book). BookStandsFor b rows) (sym c.book-book.ensures) goes.stands.stands_for in
    let line : c.deref.result.now ≡ end_line (length rows) (length (days_of rows)) =
    c.deref.ensures.0 ∙ c.end_line.ensures ∙ ap (λ (n : ℕ). end_line n c.days.result) (c.len.ensures.rows rows stands)
    ∙ ap (end_line (length rows)) (c.days.ensures.rows rows stands) in
    writes_second g.K.Sink.outlet c.args.out.now now new (day_lines_text rows) (end_line (length rows) (length (days_of rows))) c.write.result
    (c.in_ok-write_days.ensures.text settings rows goes) (subst (λ (text : List ℕ). WritesText g.K.Sink.outlet now new text c.write.result) line c.write.ensures.text)
