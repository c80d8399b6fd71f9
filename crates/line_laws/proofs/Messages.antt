-- Whole messages of the host.
use Rattle.std.proofs.Common.{◌≡◌, ℕ, ◌+◌, if◌then◌else◌, Bool, true, false, ◌&&◌, ◌||◌, not, ◌⊎◌, inl, inr, List, [], ◌∷◌, ◌++◌, length, Option, Some, None, refl, sym, ◌∙◌, ap, arith, append_assoc}
use Rattle.std.specs.Prelude.{nat_lt, bytes_eq}
use Rattle.std.proofs.lemmas.Slice.Eq.{bytes_eq-Decides}
use Rattle.vantage_frames.specs.Slots.{page_size}
use Rattle.console_model.specs.Console.{Store, ConsoleState}
use Rattle.console_ring.specs.declared.plan.Plan.{Plan}
use Rattle.console_model.proofs.Orders.{read_dump_after, read_without_first}
use Rattle.dmpaft_pump.specs.Command.{dmpaft}
use Rattle.console_model.specs.declared.frame.FrameKind.TheVariants.{ForDump}
use Rattle.console_model.specs.Console.ConsoleState.{Asleep, Command, Overlong, Frame, Dump, Looping}
use Rattle.console_model.specs.declared.reply.ReplyKind.TheVariants.{Ack}
use Rattle.console_model.specs.Line.{does, at_line}
use Rattle.schedule_file.specs.Fates.{FatesByNumber}
use Rattle.station_sim.specs.Delivery.{delivered}
use Rattle.station_sim.specs.declared.unseen.Unseen.{Unseen}
use Rattle.station_sim.specs.Line.{happens, is_page, Line, reply_joins, hears, completes, pages, is_harmed, earlier, message_counted, sends_message, says_byte, waited, from_host}
use Rattle.serial_link.specs.declared.talk.TalkItem.{TalkItem}
use Rattle.station_sim.specs.Talk.{console_talk}
use Rattle.station_sim.specs.Calm.{ConsoleRests, AreMild}
use Rattle.line_laws.specs.Host.{NearAt}
use Rattle.serial_link.specs.Talk.{message}
use Rattle.line_laws.proofs.Asked.{at_state, near_due_all}
use Rattle.line_laws.proofs.Delivery.{delivered_length}
use Rattle.line_laws.proofs.Plainly.{Tame, hears_unseen, hears_any}

-- a message that is said is sent
pub message_goes : (f : FatesByNumber) (b : ℕ) (bs : List ℕ) (t : List TalkItem) (w : Line) → console_talk f (message (b ∷ bs) ++ t) w ≡ console_talk f t (sends_message f (w.begun ++ b ∷ bs) w)
message_goes f b [] t w = refl
message_goes f b (c ∷ bs) t w = message_goes f c bs t (says_byte f b false w) ∙ ap (λ m. console_talk f t (sends_message f m w)) (append_assoc w.begun (b ∷ []) (c ∷ bs))

-- what a message without unseen delivery says of its bytes
pub seen_host : (f : FatesByNumber) (m : List ℕ) (w : Line) → (sends_message f m w).unseen ≡ None → is_harmed m (delivered (f.host (w.messages + 1)) m) ≡ true →
    (completes (delivered (f.host (w.messages + 1)) m) w.console ≡ false) × (nat_lt 1 (length m) ≡ true → pages (delivered (f.host (w.messages + 1)) m) w.console ≡ false)
seen_host f m w u harm = go w.unseen (is_harmed m (delivered (f.host (w.messages + 1)) m)) (completes (delivered (f.host (w.messages + 1)) m) w.console) (nat_lt 1 (length m)) (pages (delivered (f.host (w.messages + 1)) m) w.console)
    harm (hears_unseen f (delivered (f.host (w.messages + 1)) m) (message_counted f m w) u)
  where
    go : (v : Option Unseen) (a b c d : Bool) → a ≡ true → earlier v (if a && (b || (c && d)) then Some (from_host (w.messages + 1)) else None) ≡ None → (b ≡ false) × (c ≡ true → d ≡ false)
    go (Some x) a b c d e g = absurd cc
    go None false b c d e g = absurd cc
    go None true true c d e g = absurd cc
    go None true false false d e g = (refl, λ z. absurd cc)
    go None true false true true e g = absurd cc
    go None true false true false e g = (refl, λ z. refl)

pub unharmed : (m got : List ℕ) → is_harmed m got ≡ false → got ≡ m
unharmed m got e = sym ((bytes_eq-Decides m got).0 (go (bytes_eq m got) refl e))
  where
    go : (t : Bool) → bytes_eq m got ≡ t → not t ≡ false → bytes_eq m got ≡ true
    go true q r = q
    go false q r = absurd cc

pub harm_cases : (m got : List ℕ) → (is_harmed m got ≡ true) ⊎ (got ≡ m)
harm_cases m got = go (is_harmed m got) refl
  where
    go : (t : Bool) → is_harmed m got ≡ t → (is_harmed m got ≡ true) ⊎ (got ≡ m)
    go true e = inl e
    go false e = inr (unharmed m got e)

esc_by : (h : List (List ℕ)) (p : Plan) (low high : ℕ) (s : ConsoleState) (g : List (List ℕ)) (d : Store) (hs : List (List ℕ)) (i : ℕ) → NearAt h p low high s i g → completes (27 ∷ []) (at_state g d hs s i) ≡ false
esc_by h p low high Asleep g d hs i n = refl
esc_by h p low high (Command line) g d hs i n = refl
esc_by h p low high Overlong g d hs i n = refl
esc_by h p low high (Frame kind got) g d hs i n = absurd n
esc_by h p low high (Dump q sent) g d hs i n = refl
esc_by h p low high (Looping k) g d hs i n = absurd n

pub tame_waited : (h : List (List ℕ)) (p : Plan) (low high n : ℕ) (rs : List (List ℕ)) (w : Line) → Tame h p low high n w → Tame h p low high n (waited rs w)
tame_waited h p low high n rs w t = record { near = near_due_all h p low high rs w.console t.near; few = t.few; closed = t.closed; size = t.size }

-- the host gives up, near a dump
pub gives_up : (h : List (List ℕ)) (p : Plan) (low high n : ℕ) (f : FatesByNumber) → AreMild f → (w : Line) → w.begun ≡ [] → Tame h p low high n w → (says_byte f 27 true w).unseen ≡ None →
    Tame h p low (high + 1) (n + page_size) (says_byte f 27 true w) × ((says_byte f 27 true w).dumps ≡ w.dumps) × ((says_byte f 27 true w).begun ≡ [])
gives_up h p low high n f mild w b t u =
    let m = w.begun ++ 27 ∷ [] in
    let got = delivered (f.host (w.messages + 1)) (w.begun ++ 27 ∷ []) in
    let e : m ≡ 27 ∷ [] = ap (λ x. x ++ 27 ∷ []) b in
    let z : completes got w.console ≡ false = elim (harm_cases m got) [
      | inl a ↦ (seen_host f m w u a).0
      | inr a ↦ ap (λ x. completes x w.console) (a ∙ e) ∙ esc_by h p low high w.console.state w.console.history w.console.store w.console.held w.console.idle t.near
    ] in
    let q = hears_any h p low high f mild got n (message_counted f m w) (omega (arith, delivered_length (f.host (w.messages + 1)) m, ap length e)) (record { near = t.near; few = t.few; closed = t.closed; size = t.size }) z in
    (tame_waited h p low (high + 1) (n + page_size) (f.mids (w.messages + 1)) (hears f got (message_counted f m w)) q.0, q.1, q.2)

-- DMPAFT, to a console that rests: asleep it completes nothing, and else it awaits a frame
pub calls_dump : (f : FatesByNumber) (w : Line) → ConsoleRests w.console.state →
    ((completes dmpaft w.console ≡ false) × (pages dmpaft w.console ≡ false))
    ⊎ ((g : List (List ℕ)) × (d : Store) × (hs : List (List ℕ)) × (hears f dmpaft w ≡ reply_joins f (does Ack (6 ∷ []) (at_state g d hs (Frame ForDump []) 0)) w))
unfolding dmpaft
calls_dump f w r = go w.console.state w.console.history w.console.store w.console.held w.console.idle r
  where
    go : (s : ConsoleState) (g : List (List ℕ)) (d : Store) (hs : List (List ℕ)) (i : ℕ) → ConsoleRests s →
        ((completes dmpaft (at_state g d hs s i) ≡ false) × (pages dmpaft (at_state g d hs s i) ≡ false))
        ⊎ ((g' : List (List ℕ)) × (d' : Store) × (hs' : List (List ℕ)) × (hears f dmpaft (record w { console = at_state g d hs s i }) ≡ reply_joins f (does Ack (6 ∷ []) (at_state g' d' hs' (Frame ForDump []) 0)) w))
    go Asleep g d hs i r =
        let c = at_state g d hs (Command (77 ∷ 80 ∷ 65 ∷ 70 ∷ 84 ∷ [])) 0 in
        inl (ap (λ o. (at_line o c).completes || false) read_without_first, ap (λ o. is_page (at_line o c).kind || false) read_without_first)
    go (Command []) g d hs i r =
        let c = at_state g d hs (Command (68 ∷ 77 ∷ 80 ∷ 65 ∷ 70 ∷ 84 ∷ [])) 0 in
        inr (g, d, hs, ap (λ o. happens f (at_line o c) (record w { console = c })) read_dump_after)
    go (Command (b ∷ line)) g d hs i r = absurd cc
    go Overlong g d hs i r = absurd r
    go (Frame kind got) g d hs i r = absurd r
    go (Dump q sent) g d hs i r =
        let c = at_state (g ++ hs) d [] (Command (68 ∷ 77 ∷ 80 ∷ 65 ∷ 70 ∷ 84 ∷ [])) 0 in
        inr (g ++ hs, d, [], ap (λ o. happens f (at_line o c) (record w { console = c })) read_dump_after)
    go (Looping k) g d hs i r = absurd r
