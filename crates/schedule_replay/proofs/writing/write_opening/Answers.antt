use Rattle.std.proofs.Common.{◌≡◌, ℕ, List, Err, length, sym, ap, subst, ◌∙◌, rules}
use Rattle.weather_book.specs.Book.{BookStandsFor}
use Rattle.weather_book.specs.declared.book.Book.{Book}
use Rattle.replay_laws.specs.Texts.{open_line, rows_text, item_text}
use Rattle.schedule_replay.specs.Writing.{IsWritten, WritesText}
use Rattle.schedule_replay.proofs.Parts.{writes_first, writes_second}
use Rattle.schedule_replay.proofs.writing.write_opening.Goals as goal

pub returns-in_err-write-clause-text : goal.returns-in_err-write-clause-text
unfolding item_text
returns-in_err-write-clause-text g c settings rows goes =
    let old = c.args.out.now in let new = c.write.new.out in
    let given : c.from_residual.result ≡ Err c.in_err-write.field-0.0 = search rules in
    let stands : BookStandsFor c.book.result.now rows = subst (λ (b : Book). BookStandsFor b rows) (sym c.book.ensures) goes.stands.stands_for in
    let line : c.deref.result.now ≡ open_line (length rows) = c.deref.ensures.0 ∙ c.open_line.ensures ∙ ap open_line (c.len.ensures.rows rows stands) in
    rw given (writes_first g.K.Sink.outlet old new (open_line (length rows)) (rows_text c.args.written rows) c.in_err-write.field-0.0
    (subst (λ (text : List ℕ). WritesText g.K.Sink.outlet old new text (Err c.in_err-write.field-0.0)) line c.in_err-write.ensures.text))

pub returns-clause-text : goal.returns-clause-text
unfolding item_text
returns-clause-text g c settings rows goes =
    let old = c.args.out.now in let now = c.write.new.out in
    let stands : BookStandsFor c.book.result.now rows = subst (λ (b : Book). BookStandsFor b rows) (sym c.book.ensures) goes.stands.stands_for in
    let line : c.deref.result.now ≡ open_line (length rows) = c.deref.ensures.0 ∙ c.open_line.ensures ∙ ap open_line (c.len.ensures.rows rows stands) in
    writes_second g.K.Sink.outlet old now c.write_rows.new.out (open_line (length rows)) (rows_text c.args.written rows) c.write_rows.result
    (subst (λ (text : List ℕ). IsWritten g.K.Sink.outlet old now text) line c.in_ok-write.ensures.text) (c.write_rows.ensures.text settings rows goes)
