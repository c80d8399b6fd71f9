use Rattle.std.proofs.Common.{◌≡◌, Bool, [], ◌∷◌, length, sym, subst, arith}
use Rattle.std.proofs.lemmas.Slice.Eq.{bytes_eq-Decides}
use Rattle.dmpaft_pump.specs.Pump.{state_at, called}
use Rattle.dmpaft_pump.specs.Shown.{PumpShows, IsSized}
use Rattle.dmpaft_pump.proofs.PagesSoFar.{heard_one}
use Rattle.dmpaft_pump.proofs.pump.Pump.after_call.Goals as goal

pub returns-then-byte-eq-ACK-clause-shows : goal.returns-then-byte-eq-ACK-clause-shows
returns-then-byte-eq-ACK-clause-shows c = λ start after bytes h.
    let one : length bytes ≡ 1 = subst (λ (f : Bool). IsSized f (length bytes) 1) c.if-not-full.false h.sized in
    let e : bytes ≡ 6 ∷ [] = heard_one bytes c.args.self.now.answer 6 one h.heard (omega arith) c.if-byte-eq-ACK.true in
    subst (λ (y : Bool). PumpShows start after (state_at after (called bytes y)) c.begin-then-byte-eq-ACK.new.self) (sym ((bytes_eq-Decides bytes (6 ∷ [])).1 e))
    (c.begin-then-byte-eq-ACK.ensures.shows start after 0 [] h.counts h.fits)
