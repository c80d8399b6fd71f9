use Rattle.std.proofs.Common.{◌≡◌, ℕ, Bool, [], List, length, take, sym, ◌∙◌, ap, subst}
use Rattle.dmpaft_pump.specs.Pump.{state_at, headed}
use Rattle.dmpaft_pump.specs.Reply.{Reply}
use Rattle.dmpaft_pump.specs.Header.{IsHeader, IsNoHeader}
use Rattle.dmpaft_pump.specs.Shown.{PumpShows, IsSized}
use Rattle.dmpaft_pump.proofs.Replies.{header_is, no_header_is}
use Rattle.dmpaft_pump.proofs.pump.Pump.after_header.Goals as goal

pub returns-in-Ok-clause-shows : goal.returns-in-Ok-clause-shows
returns-in-Ok-clause-shows c = λ start after bytes h.
    let seven : length bytes ≡ 7 = subst (λ (f : Bool). IsSized f (length bytes) 7) c.if-not-full.false h.sized in
    let split = rw c.unwrap.ensures at c.split_first_chunk.ensures.cases in
    let whole : c.unwrap.result.0.now ≡ bytes = split.0 ∙ ap (λ n. take n c.args.self.now.answer) (sym seven) ∙ h.heard in
    let is : IsHeader bytes c.in-Ok.field-0.pages c.in-Ok.field-0.place = subst (λ (y : List ℕ). IsHeader y c.in-Ok.field-0.pages c.in-Ok.field-0.place) whole c.in-Ok.ensures in
    subst (λ (y : Reply). PumpShows start after (state_at after (headed y)) c.start.new.self) (sym (header_is bytes c.in-Ok.field-0.pages c.in-Ok.field-0.place is))
    (c.start.ensures.shows start after h.counts is.possible)

pub returns-in-Err-clause-shows : goal.returns-in-Err-clause-shows
returns-in-Err-clause-shows c = λ start after bytes h.
    let seven : length bytes ≡ 7 = subst (λ (f : Bool). IsSized f (length bytes) 7) c.if-not-full.false h.sized in
    let split = rw c.unwrap.ensures at c.split_first_chunk.ensures.cases in
    let whole : c.unwrap.result.0.now ≡ bytes = split.0 ∙ ap (λ n. take n c.args.self.now.answer) (sym seven) ∙ h.heard in
    let is : IsNoHeader bytes c.in-Err.trouble = subst (λ (y : List ℕ). IsNoHeader y c.in-Err.trouble) whole c.in-Err.ensures in
    subst (λ (y : Reply). PumpShows start after (state_at after (headed y)) c.begin-in-Err.new.self) (sym (no_header_is bytes c.in-Err.trouble is))
    (c.begin-in-Err.ensures.shows start after 0 [] h.counts tt)
