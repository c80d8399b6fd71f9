use Rattle.std.proofs.Common.{◌≡◌, ℕ, suc, ◌-◌, true, false, Bool, [], ◌∷◌, List, sym, ◌∙◌, ap, subst, arith}
use Rattle.std.specs.Prelude.{bytes_eq}
use Rattle.wake_retry.specs.Parts.{ends_awake}
use Rattle.wake_retry.proofs.Onward.{awake_tail}
use Rattle.dmpaft_pump.specs.Pump.{state_at, woken}
use Rattle.dmpaft_pump.specs.Shown.{PumpShows}
use Rattle.dmpaft_pump.proofs.pump.Pump.after_wake.Goals as goal

pub returns-then-eq-clause-shows : goal.returns-then-eq-clause-shows
returns-then-eq-clause-shows c = λ start after bytes h.
    let e : ends_awake bytes ≡ true = awake_tail bytes ∙ ap (λ (z : List ℕ). bytes_eq z (10 ∷ 13 ∷ [])) (sym h.heard) ∙ sym c.eq.ensures ∙ c.if-eq.true in
    subst (λ (y : Bool). PumpShows start after (state_at after (woken c.args.left y)) c.begin.new.self) (sym e) (c.begin.ensures.shows start after 0 [] h.counts h.fits)

pub returns-then-left-eq0-clause-shows : goal.returns-then-left-eq0-clause-shows
returns-then-left-eq0-clause-shows c = λ start after bytes h.
    let e : ends_awake bytes ≡ false = awake_tail bytes ∙ ap (λ (z : List ℕ). bytes_eq z (10 ∷ 13 ∷ [])) (sym h.heard) ∙ sym c.eq.ensures ∙ c.if-eq.false in
    subst (λ (y : Bool). PumpShows start after (state_at after (woken c.args.left y)) c.begin-then-left-eq0.new.self) (sym e)
    (subst (λ n. PumpShows start after (state_at after (woken n false)) c.begin-then-left-eq0.new.self) (sym c.if-left-eq0.true) (c.begin-then-left-eq0.ensures.shows start after 0 [] h.counts tt))

pub returns-else-left-eq0-clause-shows : goal.returns-else-left-eq0-clause-shows
returns-else-left-eq0-clause-shows c = λ start after bytes h.
    let e : ends_awake bytes ≡ false = awake_tail bytes ∙ ap (λ (z : List ℕ). bytes_eq z (10 ∷ 13 ∷ [])) (sym h.heard) ∙ sym c.eq.ensures ∙ c.if-eq.false in
    let n : suc (c.args.left - 1) ≡ c.args.left = grind (arith, c.if-left-eq0.false) in
    subst (λ (y : Bool). PumpShows start after (state_at after (woken c.args.left y)) c.begin-else-left-eq0.new.self) (sym e)
    (subst (λ n. PumpShows start after (state_at after (woken n false)) c.begin-else-left-eq0.new.self) n (c.begin-else-left-eq0.ensures.shows start after 0 [] h.counts h.fits))
