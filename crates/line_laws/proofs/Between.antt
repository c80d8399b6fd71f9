-- Between attempts a calm line stays calm: at a tick, and at a record that falls due.
use Rattle.std.proofs.Common.{Option, Some, None, ◌≡◌, ℕ, ◌+◌, ◌≤◌, ◌==◌, ◌%◌, if◌then◌else◌, Bool, true, false, List, [], ◌∷◌, length, refl, sym, ◌∙◌, ap, subst, arith}
use Rattle.std.specs.Prelude.{nat_lt}
use Rattle.console_model.specs.Console.{Store, ConsoleState, Console, Outcome, most_held}
use Rattle.console_model.specs.declared.reply.ReplyKind.{ReplyKind}
use Rattle.console_model.specs.Console.ConsoleState.{Asleep, Command, Overlong, Frame, Dump, Looping}
use Rattle.console_model.specs.declared.reply.ReplyKind.TheVariants.{Nothing, Code, Test, Wake, Ack, AckFrame, Page, Packet}
use Rattle.console_model.specs.Tick.{tick, ticked_in, idle_after}
use Rattle.console_model.specs.Due.{due, due_in_state, due_by, in_the_way, hold, put}
use Rattle.station_base.specs.CivilMinute.{CivilMinute}
use Rattle.console_model.specs.Hear.{dump_ended}
use Rattle.schedule_file.specs.Fates.{FatesByNumber}
use Rattle.station_sim.specs.Delivery.{delivered, late}
use Rattle.station_sim.specs.Line.{Line, happens, joins, reply_joins, waited}
use Rattle.station_sim.specs.Calm.{IsCalm, IsBrief, FewWaits, EndsInByte, AreMild, pending}
use Rattle.station_sim.proofs.CalmLines.{closed_late, few_late}
use Rattle.station_sim.proofs.SoundLines.{console_joins}
use Rattle.line_laws.proofs.HushedConsole.{below_three}
use Rattle.line_laws.proofs.Asked.{at_state}
use Rattle.line_laws.proofs.Places.{count_is}
use Rattle.line_laws.proofs.Plainly.{few_joined, closed_join, begun_joins}
use Rattle.line_laws.proofs.Floods.{tick_little, joins_bytes, brief_loops}

brief_tick : (s : ConsoleState) (three much fifth : Bool) (g : List (List ℕ)) (d : Store) (hs : List (List ℕ)) (i : ℕ) → (i + 1 == 3) ≡ three → IsBrief s i → (let c = (ticked_in s three much fifth (at_state g d hs s (idle_after s i))).next in IsBrief c.state c.idle)
brief_tick Asleep three much fifth g d hs i e b = tt
brief_tick (Command []) three true fifth g d hs i e b = tt
brief_tick (Command []) three false fifth g d hs i e b = tt
brief_tick (Command (c ∷ line)) true much fifth g d hs i e b = tt
brief_tick (Command (c ∷ line)) false much fifth g d hs i e b = below_three i e b
brief_tick Overlong true much fifth g d hs i e b = tt
brief_tick Overlong false much fifth g d hs i e b = below_three i e b
brief_tick (Frame kind got) true much fifth g d hs i e b = tt
brief_tick (Frame kind got) false much fifth g d hs i e b = below_three i e b
brief_tick (Dump p sent) three true fifth g d hs i e b = tt
brief_tick (Dump p sent) three false fifth g d hs i e b = tt
brief_tick (Looping n) three much fifth g d hs i e b = absurd b

few_replied : (f : FatesByNumber) → AreMild f → (o : Outcome) (w : Line) → EndsInByte w.flight → FewWaits 2 2 w.flight → FewWaits 2 2 (reply_joins f o w).flight × EndsInByte (reply_joins f o w).flight
few_replied f mild o w c a =
    let n = w.replies + 1 in
    let got = delivered (f.reply (w.replies + 1)) o.bytes in (
      few_joined w.flight (late (f.late n).waits (f.late n).place got) c a (few_late (f.late n).waits (f.late n).place got (mild n)),
      closed_join w.flight (late (f.late n).waits (f.late n).place got) c (closed_late (f.late n).waits (f.late n).place got),
    )

few_joins : (k : ReplyKind) (f : FatesByNumber) → AreMild f → (o : Outcome) (w : Line) → EndsInByte w.flight → FewWaits 2 2 w.flight → FewWaits 2 2 (joins k f o w).flight × EndsInByte (joins k f o w).flight
few_joins Nothing f mild o w c a = (a, c)
few_joins Code f mild o w c a = few_replied f mild o w c a
few_joins Wake f mild o w c a = few_replied f mild o w c a
few_joins Test f mild o w c a = few_replied f mild o w c a
few_joins Ack f mild o w c a = few_replied f mild o w c a
few_joins AckFrame f mild o w c a = few_replied f mild o w c a
few_joins Page f mild o w c a = few_replied f mild o w c a
few_joins Packet f mild o w c a = few_replied f mild o w c a

pub calm_tick : (f : FatesByNumber) → AreMild f → (w : Line) → IsCalm w → IsCalm (happens f (tick w.console) w)
calm_tick f mild w k =
    let c = w.console in
    let o = tick w.console in
    let e : (happens f o w).console ≡ o.next = console_joins o.kind f o w in
    let z = tick_little c.state (c.idle + 1 == 3) (c.idle + 1 == 32) ((c.idle + 1) % 5 == 0) c.history c.store c.held (idle_after c.state c.idle) (brief_loops c.state c.idle k.brief).0 in
    let q = few_joins o.kind f mild o w k.closed k.waits in
    record {
      begun = begun_joins o.kind f o w ∙ k.begun;
      brief = subst (λ x. IsBrief x.state x.idle) (sym e) (brief_tick c.state _ _ _ c.history c.store c.held c.idle refl k.brief);
      bytes = omega (arith, count_is w.flight, count_is (happens f o w).flight, joins_bytes o.kind f o w, z.0, ap (λ x. pending x.state) e, k.bytes);
      closed = q.1;
      waits = q.0;
    }

record_if : (P : Console → Type 0) (t : Bool) (a b : Console) → P a → P b → P (if t then a else b)
record_if P true a b x y = x
record_if P false a b x y = y

Stays : ConsoleState → ℕ → Console → Type 0
Stays s i c = IsBrief c.state c.idle × (pending c.state ≤ pending s)

due_stays : (s : ConsoleState) (r : List ℕ) (g : List (List ℕ)) (d : Store) (hs : List (List ℕ)) (i : ℕ) → IsBrief s i → Stays s i (due_in_state s r (at_state g d hs s i))
unfolding Stays
due_stays Asleep r g d hs i b = (b, omega arith)
due_stays (Command []) r g d hs i b = (b, omega arith)
due_stays (Command (c ∷ line)) r g d hs i b = (b, omega arith)
due_stays Overlong r g d hs i b = (b, omega arith)
due_stays (Frame kind got) r g d hs i b = (b, omega arith)
due_stays (Dump p sent) r g d hs i b = record_if (Stays (Dump p sent) i) (nat_lt (length hs) most_held) (hold r (at_state g d hs (Dump p sent) i)) (put r (dump_ended (at_state g d hs (Dump p sent) i))) (tt, omega arith) (tt, omega arith)
due_stays (Looping n) r g d hs i b = absurd b

way_stays : (s : ConsoleState) (i : ℕ) (way : Option CivilMinute) (r : List ℕ) (c : Console) → Stays s i (due_in_state c.state r c) → Stays s i c → Stays s i (due_by way r c)
way_stays s i None r c put not = put
way_stays s i (Some newest) r c put not = not

pub calm_due : (r : List ℕ) (w : Line) → IsCalm w → IsCalm (record w { console = due r w.console })
unfolding Stays
calm_due r w k =
    let c = w.console in
    let z = way_stays c.state c.idle (in_the_way r c) r c (due_stays c.state r c.history c.store c.held c.idle k.brief) (k.brief, omega arith) in
    record { begun = k.begun; brief = z.0; bytes = omega (arith, z.1, k.bytes); closed = k.closed; waits = k.waits }

pub calm_waited : (rs : List (List ℕ)) (w : Line) → IsCalm w → IsCalm (waited rs w)
calm_waited [] w k = k
calm_waited (r ∷ rs) w k = calm_waited rs (record w { console = due r w.console }) (calm_due r w k)
