-- What the bytes of a dump do, and that a frame is left at the third tick.
use Rattle.std.proofs.Common.{◌≡◌, ℕ, ◌+◌, ◌-◌, ◌<◌, ◌≤◌, ◌⊎◌, inl, inr, List, [], ◌∷◌, refl, arith, lit≤, Bool, true, false}
use Rattle.std.specs.Prelude.{◌==◌}
use Rattle.std.proofs.lemmas.Bool.{lt-ltb}
use Rattle.console_ring.specs.declared.plan.Plan.{Plan}
use Rattle.console_model.specs.declared.frame.FrameKind.{FrameKind}
use Rattle.console_model.specs.declared.signal.Signal.TheVariants.{Other}
use Rattle.console_model.specs.Console.{Console}
use Rattle.console_model.specs.Console.ConsoleState.{Command, Frame, Dump}
use Rattle.console_model.specs.Hear.{hear, sends_page}
use Rattle.console_model.specs.Laws.{SendsPage, EndsDump}
use Rattle.console_model.specs.Reading.{signal}
use Rattle.console_model.specs.Tick.{tick}

pub frame_left : (k : Console) (kind : FrameKind) (got : List ℕ) → k.state ≡ Frame kind got → k.idle ≡ 2
    → (tick k).next.state ≡ Command []
frame_left k kind got at two = rw (at, two) refl

pub sends_next : (k : Console) (p : Plan) (sent : ℕ) → k.state ≡ Dump p sent → sent < p.pages → SendsPage k p sent (hear k 6)
sends_next k p sent at below = rw (at, lt-ltb sent p.pages below) (record { kind = refl; bytes = refl; state = refl })

present : (p : Plan) (m n : ℕ) (k : Console) → m ≡ n → SendsPage k p n (sends_page p m k)
present p m n k same = rw same (record { kind = refl; bytes = refl; state = refl })

pub sends_again : (k : Console) (p : Plan) (n b : ℕ) → k.state ≡ Dump p (n + 1) → (b ≡ 21) ⊎ (b ≡ 33) → SendsPage k p n (hear k b)
sends_again k p n b at (inl is) = rw (is, at) (present p (n + 1 - 1) n _ (omega arith))
sends_again k p n b at (inr is) = rw (is, at) (present p (n + 1 - 1) n _ (omega arith))

pub stopped : (k : Console) (p : Plan) (sent : ℕ) → k.state ≡ Dump p sent → EndsDump k [] (hear k 27)
stopped k p sent at = rw at (record { kind = refl; records = refl; state = refl })

differs : (b n : ℕ) → n < 65 → 65 ≤ b → (b == n) ≡ false
differs b n small letter = go (b == n) refl
  where
    go : (t : Bool) → (b == n) ≡ t → t ≡ false
    go false is = refl
    go true is = absurd (let same : b ≡ n = grind (arith, is) in omega (arith, same, small, letter))

letter_is : (b : ℕ) → 65 ≤ b → signal b ≡ Other
letter_is b letter =
    rw (differs b 10 (lit≤ tt) letter, differs b 6 (lit≤ tt) letter, differs b 21 (lit≤ tt) letter, differs b 33 (lit≤ tt) letter, differs b 27 (lit≤ tt) letter) refl

pub begins_line : (k : Console) (p : Plan) (sent b : ℕ) → k.state ≡ Dump p sent → 65 ≤ b → EndsDump k (b ∷ []) (hear k b)
begins_line k p sent b at letter = rw (letter_is b letter, at) (record { kind = refl; records = refl; state = refl })
