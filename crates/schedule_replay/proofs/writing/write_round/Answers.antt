use Rattle.std.proofs.Common.{◌≡◌, ℕ, List, Err, false, sym, ap, subst, ◌∙◌, rules}
use Rattle.replay_laws.specs.Texts.{round_line, rows_text_behind, rows_text, item_text}
use Rattle.replay_laws.specs.Replay.{is_stop}
use Rattle.schedule_replay.specs.Writing.{IsWritten, WritesText}
use Rattle.schedule_replay.proofs.Parts.{writes_first, writes_second}
use Rattle.schedule_replay.proofs.Told.{told_line, not_stopped, rows_are_behind}
use Rattle.schedule_replay.proofs.writing.write_round.Goals as goal

pub returns-in_err-write-clause-text : goal.returns-in_err-write-clause-text
unfolding item_text
returns-in_err-write-clause-text g c x tells goes =
    let old = c.args.out.now in let new = c.write.new.out in
    let given : c.from_residual.result ≡ Err c.in_err-write.field-0.0 = search rules in
    let line : c.deref.result.now ≡ round_line x = c.deref.ensures.0 ∙ c.text.ensures ∙ told_line c.args.line.now c.args.written x tells in
    rw given (writes_first g.K.Sink.outlet old new (round_line x) (rows_text_behind x.end x) c.in_err-write.field-0.0
    (subst (λ (text : List ℕ). WritesText g.K.Sink.outlet old new text (Err c.in_err-write.field-0.0)) line c.in_err-write.ensures.text))

pub write_rows-requires : goal.write_rows-requires
write_rows-requires g c = c.requires (not_stopped c.args.line.now.end c.in_default.not-Stopped)

pub returns-in_default-clause-text : goal.returns-in_default-clause-text
unfolding item_text
returns-in_default-clause-text g c x tells goes =
    let old = c.args.out.now in let now = c.write.new.out in let new = c.write_rows.new.out in
    let goes_on : is_stop x.end ≡ false = ap is_stop tells.end ∙ not_stopped c.args.line.now.end c.in_default.not-Stopped in
    let line : c.deref.result.now ≡ round_line x = c.deref.ensures.0 ∙ c.text.ensures ∙ told_line c.args.line.now c.args.written x tells in
    let rows : rows_text c.args.written x.rows ≡ rows_text_behind x.end x =
    ap (λ (n : ℕ). rows_text n x.rows) (sym tells.written_is) ∙ sym (rows_are_behind x.end x goes_on) in
    writes_second g.K.Sink.outlet old now new (round_line x) (rows_text_behind x.end x) c.write_rows.result (subst (λ (text : List ℕ). IsWritten g.K.Sink.outlet old now text) line c.in_ok-write.ensures.text)
    (subst (λ (text : List ℕ). WritesText g.K.Sink.outlet now new text c.write_rows.result) rows (c.write_rows.ensures.text (goes goes_on).0 x.rows (goes goes_on).1))
