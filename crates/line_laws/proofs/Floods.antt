-- No settling of a calm line floods.
use Rattle.std.proofs.Common.{◌≡◌, ℕ, ◌+◌, ◌≤◌, Bool, true, false, inl, inr, List, [], ◌∷◌, length, Some, refl, sym, ◌∙◌, ap, subst, arith, length-append}
use Rattle.console_model.specs.Console.{Store, ConsoleState, Outcome}
use Rattle.console_model.specs.declared.reply.ReplyKind.{ReplyKind}
use Rattle.console_model.specs.Console.ConsoleState.{Asleep, Command, Overlong, Frame, Dump, Looping}
use Rattle.console_model.specs.declared.reply.ReplyKind.TheVariants.{Nothing, Code, Test, Wake, Ack, AckFrame, Page, Packet}
use Rattle.console_model.specs.Tick.{tick, ticked_in, idle_after}
use Rattle.schedule_file.specs.Fates.{FatesByNumber}
use Rattle.station_sim.specs.Delivery.{delivered, late}
use Rattle.station_sim.specs.Line.{Line, flies, joins, reply_joins}
use Rattle.serial_link.specs.declared.talk.TalkItem.{TalkItem}
use Rattle.station_sim.specs.Talk.{line_step, console_talk}
use Rattle.wake_retry.specs.Parts.{IsFull, heard, Flooding}
use Rattle.station_sim.specs.Calm.{IsCalm, IsBrief, pending}
use Rattle.serial_link.specs.declared.talk.TalkItem.TheVariants.{Said, Heard, Quiet}
use Rattle.line_laws.specs.Host.{OnlyListens}
use Rattle.station_sim.specs.Joining.{and_then_some}
use Rattle.station_sim.proofs.SoundLines.{console_joins}
use Rattle.line_laws.proofs.HushedConsole.{bytes_of}
use Rattle.line_laws.proofs.Asked.{at_state}
use Rattle.line_laws.proofs.Places.{count_is}
use Rattle.line_laws.proofs.Delivery.{delivered_length, bytes_of_late}
use Rattle.line_laws.proofs.Plainly.{bytes_join}
use Rattle.line_laws.proofs.FrameStage.{hearing_is, waiting_is}

abbrev pub IsNoLoop : ConsoleState → Type 0
IsNoLoop Asleep = Unit {0}
IsNoLoop (Command line) = Unit {0}
IsNoLoop Overlong = Unit {0}
IsNoLoop (Frame kind got) = Unit {0}
IsNoLoop (Dump p sent) = Unit {0}
IsNoLoop (Looping n) = ⊥

abbrev pub TicksLittle : ConsoleState → Outcome → Type 0
TicksLittle s o = (length o.bytes + pending o.next.state ≤ pending s) × IsNoLoop o.next.state

pub tick_little : (s : ConsoleState) (three much fifth : Bool) (g : List (List ℕ)) (d : Store) (hs : List (List ℕ)) (i : ℕ) → IsNoLoop s → TicksLittle s (ticked_in s three much fifth (at_state g d hs s i))
tick_little Asleep three much fifth g d hs i n = (omega arith, tt)
tick_little (Command []) three true fifth g d hs i n = (omega arith, tt)
tick_little (Command []) three false fifth g d hs i n = (omega arith, tt)
tick_little (Command (b ∷ line)) true much fifth g d hs i n = (omega arith, tt)
tick_little (Command (b ∷ line)) false much fifth g d hs i n = (omega arith, tt)
tick_little Overlong true much fifth g d hs i n = (omega arith, tt)
tick_little Overlong false much fifth g d hs i n = (omega arith, tt)
tick_little (Frame kind got) true much fifth g d hs i n = (omega arith, tt)
tick_little (Frame kind got) false much fifth g d hs i n = (omega arith, tt)
tick_little (Dump p sent) three true fifth g d hs i n = (omega arith, tt)
tick_little (Dump p sent) three false fifth g d hs i n = (omega arith, tt)
tick_little (Looping k) three much fifth g d hs i n = absurd n

reply_bytes : (f : FatesByNumber) (o : Outcome) (w : Line) → length (bytes_of (reply_joins f o w).flight) ≤ length (bytes_of w.flight) + length o.bytes
reply_bytes f o w =
    let n = w.replies + 1 in
    let got = delivered (f.reply (w.replies + 1)) o.bytes in
    omega (arith, ap length (bytes_join w.flight (late (f.late n).waits (f.late n).place got)), length-append (bytes_of w.flight) (bytes_of (late (f.late n).waits (f.late n).place got)), ap length (bytes_of_late (f.late n).waits (f.late n).place got), delivered_length (f.reply (w.replies + 1)) o.bytes)

pub joins_bytes : (k : ReplyKind) (f : FatesByNumber) (o : Outcome) (w : Line) → length (bytes_of (joins k f o w).flight) ≤ length (bytes_of w.flight) + length o.bytes
joins_bytes Nothing f o w = omega arith
joins_bytes Code f o w = reply_bytes f o w
joins_bytes Wake f o w = reply_bytes f o w
joins_bytes Test f o w = reply_bytes f o w
joins_bytes Ack f o w = reply_bytes f o w
joins_bytes AckFrame f o w = reply_bytes f o w
joins_bytes Page f o w = reply_bytes f o w
joins_bytes Packet f o w = reply_bytes f o w

-- as many bytes are heard as are in flight, and one more
pub few_heard : (f : FatesByNumber) (t : List TalkItem) (w v : Line) → OnlyListens t → IsNoLoop w.console.state → console_talk f t w ≡ Some v → length (heard t) ≤ length (bytes_of w.flight) + pending w.console.state
few_heard f [] w v s n e = omega arith
few_heard f (Said b ends ∷ t) w v s n e = absurd s
few_heard f (Heard b ∷ t) w v s n e =
    let g = and_then_some (line_step f (Heard b) w) (console_talk f t) v e in
    let q = hearing_is w.flight b w g.0 refl g.1 in
    let k = few_heard f t (flies w q.0) v s n (ap (console_talk f t) (sym q.2) ∙ g.2) in
    omega (arith, k, ap (λ l. length (bytes_of l)) q.1)
few_heard f (Quiet ∷ t) w v s n e =
    let g = and_then_some (line_step f Quiet w) (console_talk f t) v e in
    let q = waiting_is w.flight f w g.0 refl g.1 in
    let c = w.console in
    let o = tick w.console in
    let b = flies w q.0 in
    let m : length (bytes_of w.flight) ≡ length (bytes_of q.0) = elim q.1 [ inl z ↦ ap (λ l. length (bytes_of l)) z | inr z ↦ ap (λ l. length (bytes_of l)) z ] in
    let y : g.0.console ≡ o.next = ap (λ x. x.console) q.2 ∙ console_joins o.kind f o b in
    let z = tick_little c.state _ _ _ c.history c.store c.held (idle_after c.state c.idle) n in
    let k = few_heard f t g.0 v s (subst (λ x. IsNoLoop x.state) (sym y) z.1) g.2 in
    omega (arith, k, m, ap (λ x. length (bytes_of x.flight)) q.2, joins_bytes o.kind f o b, z.0, ap (λ x. pending x.state) y)

flood_listens : (q r : ℕ) (t : List TalkItem) → IsFull q r t → OnlyListens t
flood_listens q r [] s = absurd s
flood_listens q r (Said b ends ∷ t) s = s
flood_listens q r (Heard b ∷ []) s = tt
flood_listens q r (Heard b ∷ i ∷ t) s = flood_listens q 0 (i ∷ t) s
flood_listens q r (Quiet ∷ t) s = flood_listens q (r + 1) t s.1

pub brief_loops : (s : ConsoleState) (i : ℕ) → IsBrief s i → IsNoLoop s × (pending s ≤ 1)
brief_loops Asleep i b = (tt, omega arith)
brief_loops (Command []) i b = (tt, omega arith)
brief_loops (Command (c ∷ line)) i b = (tt, omega arith)
brief_loops Overlong i b = (tt, omega arith)
brief_loops (Frame kind got) i b = (tt, omega arith)
brief_loops (Dump p sent) i b = (tt, omega arith)
brief_loops (Looping n) i b = absurd b

-- a settling of a calm line does not flood
pub no_flood : (f : FatesByNumber) (q : ℕ) (t : List TalkItem) (w v : Line) → IsCalm w → Flooding q t → console_talk f t w ≡ Some v → ⊥
no_flood f q t w v calm flood e =
    let b = brief_loops w.console.state w.console.idle calm.brief in
    omega (arith, few_heard f t w v (flood_listens q 0 t flood.0) b.0 e, flood.1, calm.bytes, count_is w.flight, b.1)
