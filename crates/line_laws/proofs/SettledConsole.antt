-- After three quiet waits in a row a console near a dump rests, and nothing is in flight.
use Rattle.std.proofs.Common.{◌≡◌, ℕ, ◌+◌, ◌≤◌, ◌==◌, if◌then◌else◌, Bool, true, false, inl, inr, List, [], ◌∷◌, Some, None, refl, sym, ◌∙◌, subst, arith}
use Rattle.std.proofs.lemmas.Option.{same_Some}
use Rattle.console_model.specs.Console.{Store, ConsoleState}
use Rattle.console_ring.specs.declared.plan.Plan.{Plan}
use Rattle.console_model.specs.Console.ConsoleState.{Asleep, Command, Overlong, Frame, Dump, Looping}
use Rattle.console_model.specs.Tick.{tick, ticked_in, idle_after}
use Rattle.station_sim.specs.declared.part.Part.{Part}
use Rattle.schedule_file.specs.Fates.{FatesByNumber}
use Rattle.station_sim.specs.declared.part.Part.TheVariants.{Byte, Wait}
use Rattle.station_sim.specs.Line.{Line, flies}
use Rattle.serial_link.specs.declared.talk.TalkItem.{TalkItem}
use Rattle.station_sim.specs.Talk.{line_step, console_talk, hearing, waiting}
use Rattle.station_sim.specs.Calm.{FewWaits, ConsoleRests}
use Rattle.wake_retry.specs.Parts.{StillFrom, Still}
use Rattle.serial_link.specs.declared.talk.TalkItem.TheVariants.{Said, Heard, Quiet}
use Rattle.line_laws.specs.Host.{Near, NearAt, OnlyListens}
use Rattle.station_sim.specs.Joining.{and_then_some}
use Rattle.line_laws.proofs.Flight.{Budget, budget_wait, budget_byte}
use Rattle.line_laws.proofs.HushedConsole.{hushed, happens-nothing}

-- what is unfinished has been idle for r waits at least
abbrev pub Tight : ConsoleState → ℕ → ℕ → Type 0
Tight Asleep i r = Unit {0}
Tight (Command []) i r = Unit {0}
Tight (Command (b ∷ line)) i r = r ≤ i
Tight Overlong i r = r ≤ i
Tight (Frame kind got) i r = ⊥
Tight (Dump p sent) i r = Unit {0}
Tight (Looping n) i r = ⊥

tight_tick : (s : ConsoleState) (three much fifth : Bool) (g : List (List ℕ)) (m : Store) (hs : List (List ℕ)) (i r : ℕ) → Tight s i r →
    (let c = (ticked_in s three much fifth (record { history = g; store = m; held = hs; state = s; idle = idle_after s i })).next in Tight c.state c.idle (r + 1))
tight_tick Asleep three much fifth g m hs i r t = tt
tight_tick (Command []) three true fifth g m hs i r t = tt
tight_tick (Command []) three false fifth g m hs i r t = tt
tight_tick (Command (b ∷ line)) true much fifth g m hs i r t = tt
tight_tick (Command (b ∷ line)) false much fifth g m hs i r t = omega arith
tight_tick Overlong true much fifth g m hs i r t = tt
tight_tick Overlong false much fifth g m hs i r t = omega arith
tight_tick (Frame kind got) three much fifth g m hs i r t = absurd t
tight_tick (Dump p sent) three true fifth g m hs i r t = tt
tight_tick (Dump p sent) three false fifth g m hs i r t = tt
tight_tick (Looping n) three much fifth g m hs i r t = absurd t

pub tight_zero : (h : List (List ℕ)) (p : Plan) (low high : ℕ) (s : ConsoleState) (i : ℕ) (g : List (List ℕ)) → NearAt h p low high s i g → Tight s i 0
tight_zero h p low high Asleep i g n = tt
tight_zero h p low high (Command []) i g n = tt
tight_zero h p low high (Command (b ∷ line)) i g n = omega arith
tight_zero h p low high Overlong i g n = omega arith
tight_zero h p low high (Frame kind got) i g n = n
tight_zero h p low high (Dump q sent) i g n = tt
tight_zero h p low high (Looping k) i g n = n

tight_rests : (h : List (List ℕ)) (p : Plan) (low high : ℕ) (s : ConsoleState) (i r : ℕ) (g : List (List ℕ)) → 3 ≤ r → NearAt h p low high s i g → Tight s i r → ConsoleRests s
tight_rests h p low high Asleep i r g q n t = tt
tight_rests h p low high (Command []) i r g q n t = refl
tight_rests h p low high (Command (b ∷ line)) i r g q n t = absurd (omega arith)
tight_rests h p low high Overlong i r g q n t = absurd (omega arith)
tight_rests h p low high (Frame kind got) i r g q n t = n
tight_rests h p low high (Dump p' sent) i r g q n t = tt
tight_rests h p low high (Looping k) i r g q n t = n

pub record Tightly (h : List (List ℕ)) (p : Plan) (low high : ℕ) (r : ℕ) (w : Line) : Type 0 where
  pub near : Near h p low high w.console
  pub tight : Tight w.console.state w.console.idle r
  pub budget : Budget 2 r w.flight

pub tightly_byte : (h : List (List ℕ)) (p : Plan) (low high r : ℕ) (l : List Part) (b : ℕ) (w u : Line) → w.flight ≡ l → Tightly h p low high r w → hearing l b w ≡ Some u → Tightly h p low high 0 u
tightly_byte h p low high r [] b w u e q g = absurd cc
tightly_byte h p low high r (Wait ∷ l) b w u e q g = absurd cc
tightly_byte h p low high r (Byte x ∷ l) b w u e q g = go (x == b) g
  where
    go : (t : Bool) → (if t then Some (flies w l) else None) ≡ Some u → Tightly h p low high 0 u
    go true g = subst (λ v. Tightly h p low high 0 v) (same_Some (flies w l) u g)
        (record { near = q.near; tight = tight_zero h p low high w.console.state w.console.idle w.console.history q.near; budget = budget_byte 2 r x l (subst (Budget 2 r) e q.budget) })
    go false g = absurd cc

pub tightly_quiet : (h : List (List ℕ)) (p : Plan) (low high r : ℕ) (l : List Part) (f : FatesByNumber) (w u : Line) → w.flight ≡ l → Tightly h p low high r w → waiting l f w ≡ Some u → Tightly h p low high (r + 1) u
tightly_quiet h p low high r [] f w u e q g =
    let k = hushed h p low high w.console q.near in
    subst (λ v. Tightly h p low high (r + 1) v) (sym (happens-nothing f (tick w.console) w k.kind) ∙ same_Some _ u g)
    (record { near = k.near; tight = tight_tick w.console.state _ _ _ w.console.history w.console.store w.console.held w.console.idle r q.tight; budget = inl e })
tightly_quiet h p low high r (Wait ∷ l) f w u e q g =
    let k = hushed h p low high w.console q.near in
    subst (λ v. Tightly h p low high (r + 1) v) (sym (happens-nothing f (tick w.console) (flies w l) k.kind) ∙ same_Some _ u g)
    (record { near = k.near; tight = tight_tick w.console.state _ _ _ w.console.history w.console.store w.console.held w.console.idle r q.tight; budget = budget_wait 2 r l (subst (Budget 2 r) e q.budget) })
tightly_quiet h p low high r (Byte x ∷ l) f w u e q g = absurd cc

settles_from : (h : List (List ℕ)) (p : Plan) (low high q : ℕ) (f : FatesByNumber) (t : List TalkItem) (r n : ℕ) (w v : Line) → 3 ≤ q → StillFrom q r n t → Tightly h p low high r w → console_talk f t w ≡ Some v → (v.flight ≡ []) × ConsoleRests v.console.state
settles_from h p low high q f [] r n w v a s k e =
    subst (λ u. (u.flight ≡ []) × ConsoleRests u.console.state) (same_Some w v e)
    (spent w.flight k.budget, tight_rests h p low high w.console.state w.console.idle r w.console.history (omega (arith, s.0)) k.near k.tight)
  where
    spent : (l : List Part) → Budget 2 r l → l ≡ []
    spent l (inl e) = e
    spent l (inr (k, h, few)) = absurd (omega (arith, s.0))
settles_from h p low high q f (Said b ends ∷ t) r n w v a s k e = absurd s
settles_from h p low high q f (Heard b ∷ t) r n w v a s k e =
    let g = and_then_some (line_step f (Heard b) w) (console_talk f t) v e in
    settles_from h p low high q f t 0 (n + 1) g.0 v a s.1 (tightly_byte h p low high r w.flight b w g.0 refl k g.1) g.2
settles_from h p low high q f (Quiet ∷ t) r n w v a s k e =
    let g = and_then_some (line_step f Quiet w) (console_talk f t) v e in
    settles_from h p low high q f t (r + 1) n g.0 v a s.1 (tightly_quiet h p low high r w.flight f w g.0 refl k g.1) g.2

-- a settling of three waits or more
pub near_settles : (h : List (List ℕ)) (p : Plan) (low high q : ℕ) (f : FatesByNumber) (t : List TalkItem) (w v : Line) → 3 ≤ q → Still q t → Near h p low high w.console → FewWaits 2 2 w.flight → console_talk f t w ≡ Some v → (v.flight ≡ []) × ConsoleRests v.console.state
near_settles h p low high q f t w v a s n few e = settles_from h p low high q f t 0 0 w v a s
    (record { near = n; tight = tight_zero h p low high w.console.state w.console.idle w.console.history n; budget = inr (2, omega arith, few) }) e

still_listens : (q r n : ℕ) (t : List TalkItem) → StillFrom q r n t → OnlyListens t
still_listens q r n [] s = tt
still_listens q r n (Said b ends ∷ t) s = s
still_listens q r n (Heard b ∷ t) s = still_listens q 0 (n + 1) t s.1
still_listens q r n (Quiet ∷ t) s = still_listens q (r + 1) n t s.1

pub Still-listens : (q : ℕ) (t : List TalkItem) → Still q t → OnlyListens t
Still-listens q t s = still_listens q 0 0 t s
