-- One attempt in which nothing is harmed.
use Rattle.std.proofs.Common.{◌≡◌, ℕ, suc, ◌+◌, ◌<◌, ◌≤◌, if◌then◌else◌, Bool, true, false, ◌⊎◌, inl, inr, List, [], ◌∷◌, ◌++◌, length, Option, Some, None, refl, sym, ◌∙◌, ap, subst, arith, append-nil, length-append}
use Rattle.std.specs.Prelude.{nat_lt}
use Rattle.std.proofs.lemmas.Option.{same_Some}
use Rattle.console_model.specs.Console.{Store, ConsoleState, Console, Outcome, most_held}
use Rattle.console_ring.specs.declared.plan.Plan.{Plan}
use Rattle.console_model.specs.declared.reply.ReplyKind.{ReplyKind}
use Rattle.dmpaft_pump.specs.Command.{dmpaft}
use Rattle.console_model.proofs.Orders.{read_empty, read_dump_after}
use Rattle.console_ring.specs.Picture.{no_plan}
use Rattle.station_base.specs.CivilMinute.{CivilMinute}
use Rattle.vantage_frames.specs.Slots.{page_size}
use Rattle.console_ring.specs.Picture.{page_of}
use Rattle.console_model.specs.declared.frame.FrameKind.TheVariants.{ForDump}
use Rattle.console_model.specs.Console.ConsoleState.{Asleep, Command, Overlong, Frame, Dump, Looping}
use Rattle.console_model.specs.declared.reply.ReplyKind.TheVariants.{Nothing, Code, Test, Wake, Ack, AckFrame, Page, Packet}
use Rattle.console_model.specs.Line.{at_line, to, says_reply, does, silent}
use Rattle.console_model.specs.Tick.{tick}
use Rattle.console_model.specs.Due.{due_in_state, due_by, in_the_way, hold, put}
use Rattle.console_model.specs.Hear.{dump_ended}
use Rattle.schedule_file.specs.Fates.{FatesByNumber}
use Rattle.station_sim.specs.Delivery.{delivered, late}
use Rattle.station_sim.specs.Line.{Line, flies, joins, happens, reply_joins, unanswered, hears, message_counted, sends_message, due_all}
use Rattle.serial_link.specs.declared.talk.TalkItem.{TalkItem}
use Rattle.station_sim.specs.Talk.{line_step, console_talk}
use Rattle.station_sim.specs.Calm.{FewWaits, ConsoleRests, AreMild}
use Rattle.wake_retry.specs.Parts.{Still, heard, Wakes, Awaits, ends_awake, answer_waits, wake_tries}
use Rattle.serial_link.specs.declared.talk.TalkItem.TheVariants.{Said, Heard, Quiet}
use Rattle.station_sim.proofs.CalmLines.{closed_late, few_late}
use Rattle.line_laws.specs.Host.{OnlyListens, Near}
use Rattle.line_laws.specs.Unharmed.{Awake, Waiting, InDump, feeds_for}
use Rattle.console_model.specs.Valid.{IsTidy}
use Rattle.serial_link.specs.Talk.{message}
use Rattle.station_sim.specs.Joining.{and_then_some, talks_part}
use Rattle.line_laws.proofs.HushedConsole.{listens, bytes_of, EndsInByte, closed_empty}
use Rattle.line_laws.proofs.Asked.{at_state}
use Rattle.line_laws.proofs.Places.{no_length}
use Rattle.line_laws.proofs.Pages.{awaits_listens}
use Rattle.line_laws.proofs.Delivery.{bytes_of_late, page_length}
use Rattle.line_laws.proofs.SettledConsole.{near_settles}
use Rattle.line_laws.proofs.FrameStage.{hearing_is, waiting_is, frame_listens, quiets, full_quiets}
use Rattle.line_laws.proofs.WakeLaws.{call_goes, due_framed}
use Rattle.line_laws.proofs.Clean.{sends_harmed, goes_harmed, sent_whole, reply_whole, steady_full, steady_still, waits_of, waits_late, awaits_full}

CommandAfter : Store → List (List ℕ) → ℕ → Console → Type 0
CommandAfter d hs i c = (g : List (List ℕ)) × (c ≡ at_state g d hs (Command []) i)

command_way : (rs : List (List ℕ)) (d : Store) (hs : List (List ℕ)) (i : ℕ) (way : Option CivilMinute) (r : List ℕ) (g : List (List ℕ)) → CommandAfter d hs i (due_all rs (at_state (g ++ r ∷ []) d hs (Command []) i)) →
    CommandAfter d hs i (due_all rs (at_state g d hs (Command []) i)) → CommandAfter d hs i (due_all rs (due_by way r (at_state g d hs (Command []) i)))
command_way rs d hs i None r g x y = x
command_way rs d hs i (Some newest) r g x y = y

due_command : (rs : List (List ℕ)) (g : List (List ℕ)) (d : Store) (hs : List (List ℕ)) (i : ℕ) → CommandAfter d hs i (due_all rs (at_state g d hs (Command []) i))
unfolding CommandAfter
due_command [] g d hs i = (g, refl)
due_command (r ∷ rs) g d hs i = command_way rs d hs i (in_the_way r (at_state g d hs (Command []) i)) r g
    (due_command rs (g ++ r ∷ []) d hs i) (due_command rs g d hs i)

-- after an LF
record Roused (w u : Line) : Type 0 where
  history : List (List ℕ)
  store : Store
  console : u.console ≡ at_state history store [] (Command []) 0
  few : FewWaits 2 2 u.flight
  waits : waits_of u.flight ≤ 2
  begun : u.begun ≡ []
  dumps : u.dumps ≡ w.dumps
  answer : (w.console.state ≡ Asleep) ⊎ (bytes_of u.flight ≡ 10 ∷ 13 ∷ [])

-- a reply to an empty flight that is not harmed
pub record Replied (o : Outcome) (w u : Line) : Type 0 where
  pub few : FewWaits 2 2 u.flight
  pub closed : EndsInByte u.flight
  pub waits : waits_of u.flight ≤ 2
  pub bytes : bytes_of u.flight ≡ o.bytes

pub replies_whole : (f : FatesByNumber) → AreMild f → (o : Outcome) (w : Line) → w.flight ≡ [] → (reply_joins f o w).harmed ≡ w.harmed → Replied o w (reply_joins f o w)
replies_whole f mild o w e h =
    let n = w.replies + 1 in
    let got = delivered (f.reply n) o.bytes in
    let l = late (f.late n).waits (f.late n).place (delivered (f.reply n) o.bytes) in
    let fl : w.flight ++ l ≡ l = ap (λ x. x ++ l) e in
    record {
      few = subst (FewWaits 2 2) (sym fl) (few_late (f.late n).waits (f.late n).place (delivered (f.reply n) o.bytes) (mild n));
      closed = subst EndsInByte (sym fl) (closed_late (f.late n).waits (f.late n).place (delivered (f.reply n) o.bytes));
      waits = omega (arith, ap waits_of fl, waits_late (f.late n).waits (f.late n).place (delivered (f.reply n) o.bytes), mild n);
      bytes = ap bytes_of fl ∙ bytes_of_late (f.late n).waits (f.late n).place (delivered (f.reply n) o.bytes) ∙ reply_whole f o w h;
    }

-- what an LF makes of a console that rests
LfHeard : FatesByNumber → Line → ConsoleState → List (List ℕ) → Line → Type 0
LfHeard f w s hs v = ((s ≡ Asleep) × ((g : List (List ℕ)) × (d : Store) × (v ≡ unanswered (silent (at_state g d [] (Command []) 0)) w)))
    ⊎ ((g : List (List ℕ)) × (d : Store) × (v ≡ reply_joins f (says_reply Wake (10 ∷ 13 ∷ []) (at_state g d [] (Command []) 0)) w))

lf_by : (f : FatesByNumber) (w : Line) (g : List (List ℕ)) (d : Store) (hs : List (List ℕ)) (s : ConsoleState) (i : ℕ) → ConsoleRests s → IsTidy s hs → LfHeard f w s hs (hears f (10 ∷ []) (record w { console = at_state g d hs s i }))
unfolding LfHeard
lf_by f w g d hs Asleep i r t = inl (refl, (g, d, ap (λ x. unanswered (silent (at_state g d x (Command []) 0)) w) t))
lf_by f w g d hs (Command []) i r t =
    let c = at_state g d hs (Command []) i in
    inr (g, d, ap (λ o. happens f (at_line o c) (record w { console = c })) (read_empty [] refl) ∙ ap (λ x. reply_joins f (says_reply Wake (10 ∷ 13 ∷ []) (at_state g d x (Command []) 0)) w) t)
lf_by f w g d hs (Command (b ∷ line)) i r t = absurd cc
lf_by f w g d hs Overlong i r t = absurd r
lf_by f w g d hs (Frame kind got) i r t = absurd r
lf_by f w g d hs (Dump p sent) i r t =
    let c = at_state g d hs (Dump p sent) i in
    inr (g ++ hs, d, ap (λ o. happens f (at_line o (dump_ended c)) (record w { console = c })) (read_empty [] refl))
lf_by f w g d hs (Looping n) i r t = absurd r

lf_heard : (f : FatesByNumber) (w : Line) → ConsoleRests w.console.state → IsTidy w.console.state w.console.held → LfHeard f w w.console.state w.console.held (hears f (10 ∷ []) w)
lf_heard f w r t = lf_by f w w.console.history w.console.store w.console.held w.console.state w.console.idle r t

rouses : (f : FatesByNumber) → AreMild f → (m : List ℕ) (w : Line) → m ≡ 10 ∷ [] → w.flight ≡ [] → ConsoleRests w.console.state → IsTidy w.console.state w.console.held → (sends_message f m w).harmed ≡ w.harmed → Roused w (sends_message f m w)
unfolding LfHeard CommandAfter
rouses f mild m w is e r t h =
    let z = sent_whole f m w h in
    let got = delivered (f.host (w.messages + 1)) m in
    let rs = f.mids (w.messages + 1) in
    elim (lf_heard f (message_counted f m w) r t) [
      | inl a ↦ (let g = a.1 in
          let y : hears f got (message_counted f m w) ≡ unanswered (silent (at_state g.0 g.1 [] (Command []) 0)) (message_counted f m w) = ap (λ x. hears f x (message_counted f m w)) (z.0 ∙ is) ∙ g.2 in
          let c = due_command rs g.0 g.1 [] 0 in
          let fl : (sends_message f m w).flight ≡ [] = ap (λ x. x.flight) y ∙ e in
          record {
            history = c.0;
            store = g.1;
            console = ap (λ x. due_all rs x.console) y ∙ c.1;
            few = subst (FewWaits 2 2) (sym fl) tt;
            waits = omega (arith, ap waits_of fl);
            begun = ap (λ x. x.begun) y;
            dumps = ap (λ x. x.dumps) y;
            answer = inl a.0;
          })
      | inr g ↦ (let o = says_reply Wake (10 ∷ 13 ∷ []) (at_state g.0 g.1 [] (Command []) 0) in
          let y : hears f got (message_counted f m w) ≡ reply_joins f o (message_counted f m w) = ap (λ x. hears f x (message_counted f m w)) (z.0 ∙ is) ∙ g.2 in
          let q = replies_whole f mild o (message_counted f m w) e (ap (λ x. x.harmed) (sym y) ∙ z.1) in
          let c = due_command rs g.0 g.1 [] 0 in
          let fl = ap (λ x. x.flight) (sym y) in
          record {
            history = c.0;
            store = g.1;
            console = ap (λ x. due_all rs x.console) y ∙ c.1;
            few = subst (FewWaits 2 2) fl q.few;
            waits = subst (λ l. waits_of l ≤ 2) fl q.waits;
            begun = ap (λ x. x.begun) y;
            dumps = ap (λ x. x.dumps) y ∙ append-nil w.dumps;
            answer = inr (ap bytes_of (sym fl) ∙ q.bytes);
          })
    ]

pub whole_of : (xs a b : List ℕ) → xs ≡ a ++ b → length a ≡ length xs → (a ≡ xs) × (b ≡ [])
whole_of xs a b e l =
    let z : b ≡ [] = no_length b (omega (arith, l, ap length e, length-append a b)) in
    (sym (e ∙ ap (λ x. a ++ x) z ∙ append-nil a), z)

-- one LF and its settling
woken : (f : FatesByNumber) → AreMild f → (s : List TalkItem) (w v : Line) → w.flight ≡ [] → w.begun ≡ [] → ConsoleRests w.console.state → IsTidy w.console.state w.console.held → Still answer_waits s → console_talk f (Said 10 true ∷ s) w ≡ Some v → v.harmed ≡ w.harmed →
    Awake 5 w v × ((w.console.state ≡ Asleep) ⊎ (ends_awake (heard s) ≡ true))
woken f mild s w v fl bg rests tidy still e h =
    let m = w.begun ++ 10 ∷ [] in
    let u = sends_message f m w in
    let r = rouses f mild m w (ap (λ x. x ++ 10 ∷ []) bg) fl rests tidy (omega (arith, h, sends_harmed f m w, goes_harmed f s u v e)) in
    let y = steady_still r.history r.store [] (Command []) refl f 3 s 0 0 0 u v still r.console (omega (arith, r.waits)) e in
    let z = near_settles [] no_plan 0 0 3 f s u v (omega arith) still (subst (Near [] no_plan 0 0) (sym r.console) tt) r.few e in (
      record { history = r.history; store = r.store; idle = 0 + quiets s; console = y.console; soon = omega (arith, y.quiet, r.waits); flight = z.0; begun = y.begun ∙ r.begun; dumps = y.dumps ∙ r.dumps },
      elim r.answer [
        | inl a ↦ inl a
        | inr a ↦ inr (let q : heard s ≡ 10 ∷ 13 ∷ [] = sym (append-nil (heard s)) ∙ ap (λ x. heard s ++ x) (ap bytes_of (sym z.0)) ∙ sym y.bytes ∙ a in ap ends_awake q)
      ],
    )

woken_again : (f : FatesByNumber) → AreMild f → (n : ℕ) (s : List TalkItem) (w u v : Line) → Awake n w u → Still answer_waits s → console_talk f (Said 10 true ∷ s) u ≡ Some v → v.harmed ≡ u.harmed → Awake 5 w v × (ends_awake (heard s) ≡ true)
woken_again f mild n s w u v a still e h =
    let r = woken f mild s u v a.flight a.begun (subst (λ c. ConsoleRests c.state) (sym a.console) refl) (subst (λ c. IsTidy c.state c.held) (sym a.console) refl) still e h in
    let k = r.0 in (
      record { history = k.history; store = k.store; idle = k.idle; console = k.console; soon = k.soon; flight = k.flight; begun = k.begun; dumps = k.dumps ∙ a.dumps },
      elim r.1 [
        | inl q ↦ absurd (let z : Command [] ≡ Asleep = ap (λ c. c.state) (sym a.console) ∙ q in cc)
        | inr q ↦ q
      ],
    )

-- one line feed is as many as any console takes at least
feeds_more : (s : ConsoleState) (t : List TalkItem) → Wakes 1 t true → Wakes (feeds_for s) t true
feeds_more Asleep t (h, rest, split, still, inl x) = (h, rest, split, still, inl x)
feeds_more Asleep t (h, rest, split, still, inr (x, (none, is))) = absurd cc
feeds_more (Command line) t x = x
feeds_more Overlong t x = x
feeds_more (Frame kind got) t x = x
feeds_more (Dump p sent) t x = x
feeds_more (Looping left) t x = x

-- the wake law: one line feed, or two where the console is asleep
pub wake_law : (f : FatesByNumber) → AreMild f → (t : List TalkItem) (awake : Bool) (w v : Line) → w.flight ≡ [] → w.begun ≡ [] → ConsoleRests w.console.state → IsTidy w.console.state w.console.held → Wakes wake_tries t awake → console_talk f t w ≡ Some v → v.harmed ≡ w.harmed →
    Wakes (feeds_for w.console.state) t true × Awake 5 w v × (awake ≡ true)
wake_law f mild t awake w v fl bg r y (s, rest, split, still, inl (x, none, is)) e h =
    let q : Said 10 true ∷ s ≡ t = rw (split, none) (sym (append-nil (Said 10 true ∷ s))) in
    (feeds_more w.console.state t (s, rest, split, still, inl (x, none, refl)), (woken f mild s w v fl bg r y still (ap (λ x. console_talk f x w) q ∙ e) h).0, is)
wake_law f mild t awake w v fl bg r y (s, rest, split, still, inr (x, (s2, rest2, split2, still2, inl (x2, none, is)))) e h =
    let m = talks_part f (Said 10 true ∷ s) rest w v (ap (λ x. console_talk f x w) (sym split) ∙ e) in
    let a = woken f mild s w m.0 fl bg r y still m.1 (omega (arith, h, goes_harmed f (Said 10 true ∷ s) w m.0 m.1, goes_harmed f rest m.0 v m.2)) in
    let q : Said 10 true ∷ s2 ≡ rest = rw (split2, none) (sym (append-nil (Said 10 true ∷ s2))) in
    let two : Wakes 2 t true = (s, rest, split, still, inr (x, (s2, rest2, split2, still2, inl (x2, none, refl)))) in
    let slept : w.console.state ≡ Asleep = elim a.1 [
      | inl z ↦ z
      | inr z ↦ absurd (let u : true ≡ false = sym z ∙ x in cc)
    ] in
    (subst (λ c. Wakes (feeds_for c) t true) (sym slept) two, (woken_again f mild 5 s2 w m.0 v a.0 still2 (ap (λ x. console_talk f x m.0) q ∙ m.2) (omega (arith, h, goes_harmed f (Said 10 true ∷ s) w m.0 m.1, goes_harmed f rest m.0 v m.2))).0, is)
wake_law f mild t awake w v fl bg r y (s, rest, split, still, inr (x, (s2, rest2, split2, still2, inr (x2, again)))) e h =
    let m = talks_part f (Said 10 true ∷ s) rest w v (ap (λ x. console_talk f x w) (sym split) ∙ e) in
    let h1 = goes_harmed f (Said 10 true ∷ s) w m.0 m.1 in
    let a = woken f mild s w m.0 fl bg r y still m.1 (omega (arith, h, h1, goes_harmed f rest m.0 v m.2)) in
    let m2 = talks_part f (Said 10 true ∷ s2) rest2 m.0 v (ap (λ x. console_talk f x m.0) (sym split2) ∙ m.2) in
    let h2 = goes_harmed f (Said 10 true ∷ s2) m.0 m2.0 m2.1 in
    let b = woken_again f mild 5 s2 w m.0 m2.0 a.0 still2 m2.1 (omega (arith, h, h1, h2, goes_harmed f rest2 m2.0 v m2.2)) in
    absurd (let z : true ≡ false = sym b.1 ∙ x2 in cc)

-- DMPAFT, to a console that is awake
call_by : (f : FatesByNumber) (w : Line) (g : List (List ℕ)) (d : Store) (i : ℕ) → hears f dmpaft (record w { console = at_state g d [] (Command []) i }) ≡ reply_joins f (does Ack (6 ∷ []) (at_state g d [] (Frame ForDump []) 0)) w
unfolding dmpaft
call_by f w g d i =
    let c = at_state g d [] (Command (68 ∷ 77 ∷ 80 ∷ 65 ∷ 70 ∷ 84 ∷ [])) 0 in
    ap (λ o. happens f (at_line o c) (record w { console = c })) read_dump_after

pub call_law : (f : FatesByNumber) → AreMild f → (n : ℕ) (t : List TalkItem) (w u v : Line) → Awake n w u → Awaits answer_waits 1 t → console_talk f (message dmpaft ++ t) u ≡ Some v → v.harmed ≡ u.harmed → Waiting w v × (heard t ≡ 6 ∷ [])
call_law f mild n t w u v a awaits e h =
    let m = u.begun ++ dmpaft in
    let is : m ≡ dmpaft = ap (λ x. x ++ dmpaft) a.begun in
    let x = sends_message f m u in
    let e' : console_talk f t x ≡ Some v = sym (call_goes f t u) ∙ e in
    let z = sent_whole f m u (omega (arith, h, sends_harmed f m u, goes_harmed f t x v e')) in
    let got = delivered (f.host (u.messages + 1)) m in
    let rs = f.mids (u.messages + 1) in
    let o = does Ack (6 ∷ []) (at_state a.history a.store [] (Frame ForDump []) 0) in
    let y : hears f got (message_counted f m u) ≡ reply_joins f o (message_counted f m u) = ap (λ y. hears f y (message_counted f m u)) (z.0 ∙ is) ∙ ap (λ c. hears f dmpaft (record (message_counted f m u) { console = c })) a.console
    ∙ call_by f (message_counted f m u) a.history a.store a.idle in
    let q = replies_whole f mild o (message_counted f m u) a.flight (ap (λ x. x.harmed) (sym y) ∙ z.1) in
    let fl : (reply_joins f o (message_counted f m u)).flight ≡ x.flight = ap (λ x. x.flight) (sym y) in
    let c = due_framed rs [] a.history a.store [] 0 in
    let few : FewWaits 2 2 x.flight = subst (FewWaits 2 2) fl q.few in
    let bytes : bytes_of x.flight ≡ 6 ∷ [] = ap bytes_of (sym fl) ∙ q.bytes in
    let one = awaits_full f t 1 x v awaits few (omega (arith, ap length bytes)) e' in
    elim (frame_listens [] no_plan 0 0 [] c.0 a.store [] f mild t 1 0 x v (awaits_listens 1 t awaits)
    (record { console = ap (λ x. due_all rs x.console) y ∙ c.1; soon = omega arith; few = few; closed = subst EndsInByte fl q.closed; size = omega (arith, ap length bytes) }) e') [
      | inl k ↦ (let p = whole_of (6 ∷ []) (heard t) (bytes_of v.flight) (sym bytes ∙ k.bytes) (omega (arith, one.1)) in (
        record {
          history = c.0;
          store = a.store;
          idle = 0 + quiets t;
          console = k.console;
          flight = closed_empty v.flight k.closed p.1;
          begun = k.begun ∙ ap (λ x. x.begun) y;
          dumps = k.dumps ∙ ap (λ x. x.dumps) y ∙ append-nil u.dumps ∙ a.dumps;
        },
        p.0,
      ))
      | inr k ↦ absurd (omega (arith, k.late, full_quiets t one.0 one.1))
    ]

-- records that fall due in a dump are held, while there is room
abbrev pub Held : Plan → ℕ → List (List ℕ) → Store → ℕ → ℕ → Console → Type 0
Held p k g d i n c = (hs : List (List ℕ)) × (length hs ≤ n) × (c ≡ at_state g d hs (Dump p k) i)

held_more : (p : Plan) (k : ℕ) (g : List (List ℕ)) (d : Store) (i n m : ℕ) (c : Console) → n ≤ m → Held p k g d i n c → Held p k g d i m c
held_more p k g d i n m c a q = (q.0, omega (arith, q.1), q.2)

held_way : (P : Console → Type 0) (way : Option CivilMinute) (r : List ℕ) (c : Console) → P (due_in_state c.state r c) → P c → P (due_by way r c)
held_way P None r c x y = x
held_way P (Some newest) r c x y = y

held_room : (P : Console → Type 0) (t : Bool) (a b : Console) → t ≡ true → P a → P (if t then a else b)
held_room P true a b e x = x
held_room P false a b e x = absurd cc

pub due_dump : (rs : List (List ℕ)) (p : Plan) (k : ℕ) (g : List (List ℕ)) (d : Store) (i : ℕ) (hs : List (List ℕ)) → length hs + length rs ≤ most_held → Held p k g d i (length hs + length rs) (due_all rs (at_state g d hs (Dump p k) i))
due_dump [] p k g d i hs n = (hs, omega arith, refl)
due_dump (r ∷ rs) p k g d i hs n =
    let c = at_state g d hs (Dump p k) i in
    let a : Held p k g d i (length hs + length (r ∷ rs)) (due_all rs (hold r c)) = held_more p k g d i (length (hs ++ r ∷ []) + length rs) (length hs + length (r ∷ rs)) (due_all rs (hold r c)) (omega (arith, length-append hs (r ∷ [])))
    (due_dump rs p k g d i (hs ++ r ∷ []) (omega (arith, length-append hs (r ∷ [])))) in
    let b : Held p k g d i (length hs + length (r ∷ rs)) (due_all rs c) = held_more p k g d i (length hs + length rs) (length hs + length (r ∷ rs)) (due_all rs c) (omega arith) (due_dump rs p k g d i hs (omega arith)) in
    held_way (λ x. Held p k g d i (length hs + length (r ∷ rs)) (due_all rs x)) (in_the_way r c) r c
    (held_room (λ x. Held p k g d i (length hs + length (r ∷ rs)) (due_all rs x)) (nat_lt (length hs) most_held) (hold r c) (put r (dump_ended c)) (grind arith) a) b

pub messages_joins : (k : ReplyKind) (f : FatesByNumber) (o : Outcome) (w : Line) → (joins k f o w).messages ≡ w.messages
messages_joins Nothing f o w = refl
messages_joins Code f o w = refl
messages_joins Wake f o w = refl
messages_joins Test f o w = refl
messages_joins Ack f o w = refl
messages_joins AckFrame f o w = refl
messages_joins Page f o w = refl
messages_joins Packet f o w = refl

pub listens_messages : (f : FatesByNumber) (t : List TalkItem) (w v : Line) → OnlyListens t → console_talk f t w ≡ Some v → v.messages ≡ w.messages
listens_messages f [] w v s e = ap (λ x. x.messages) (sym (same_Some w v e))
listens_messages f (Said b ends ∷ t) w v s e = absurd s
listens_messages f (Heard b ∷ t) w v s e =
    let g = and_then_some (line_step f (Heard b) w) (console_talk f t) v e in
    let q = hearing_is w.flight b w g.0 refl g.1 in
    listens_messages f t g.0 v s g.2 ∙ ap (λ x. x.messages) q.2
listens_messages f (Quiet ∷ t) w v s e =
    let g = and_then_some (line_step f Quiet w) (console_talk f t) v e in
    let q = waiting_is w.flight f w g.0 refl g.1 in
    let c = w.console in
    listens_messages f t g.0 v s g.2 ∙ ap (λ x. x.messages) q.2 ∙ messages_joins (tick c).kind f (tick c) (flies w q.0)

-- page k, asked for
pub next_page : (f : FatesByNumber) (w : Line) (g : List (List ℕ)) (d : Store) (i : ℕ) (hs : List (List ℕ)) (p : Plan) (k : ℕ) → nat_lt k p.pages ≡ true → hears f (6 ∷ []) (record w { console = at_state g d hs (Dump p k) i }) ≡ reply_joins f (says_reply Page (page_of g p k) (at_state g d hs (Dump p (k + 1)) 0)) w
next_page f w g d i hs p k e =
    let c = at_state g d hs (Dump p k) i in
    ap (λ t. happens f (if t then says_reply Page (page_of g p k) (at_state g d hs (Dump p (k + 1)) 0) else silent (to (dump_ended c) (Command []))) (record w { console = c })) e

pub page_law : (f : FatesByNumber) → AreMild f → (g : List (List ℕ)) (p : Plan) (k : ℕ) (t : List TalkItem) (w v : Line) → k < p.pages → InDump f g p k w → Awaits answer_waits page_size t → console_talk f (Said 6 true ∷ t) w ≡ Some v → v.harmed ≡ w.harmed →
    (heard t ≡ page_of g p k) × InDump f g p (k + 1) v
page_law f mild g p k t w v below a awaits e h =
    let m = w.begun ++ 6 ∷ [] in
    let is : m ≡ 6 ∷ [] = ap (λ x. x ++ 6 ∷ []) a.begun in
    let u = sends_message f m w in
    let z = sent_whole f m w (omega (arith, h, sends_harmed f m w, goes_harmed f t u v e)) in
    let got = delivered (f.host (w.messages + 1)) m in
    let rs = f.mids (w.messages + 1) in
    let o = says_reply Page (page_of g p k) (at_state g a.store a.held (Dump p (k + 1)) 0) in
    let y : hears f got (message_counted f m w) ≡ reply_joins f o (message_counted f m w) = ap (λ y. hears f y (message_counted f m w)) (z.0 ∙ is) ∙ ap (λ c. hears f (6 ∷ []) (record (message_counted f m w) { console = c })) a.console
    ∙ next_page f (message_counted f m w) g a.store a.idle a.held p k (grind (arith, below)) in
    let q = replies_whole f mild o (message_counted f m w) a.flight (ap (λ x. x.harmed) (sym y) ∙ z.1) in
    let fl : (reply_joins f o (message_counted f m w)).flight ≡ u.flight = ap (λ x. x.flight) (sym y) in
    let c = due_dump rs p (k + 1) g a.store 0 a.held (omega (arith, a.room 1)) in
    let few : FewWaits 2 2 u.flight = subst (FewWaits 2 2) fl q.few in
    let bytes : bytes_of u.flight ≡ page_of g p k = ap bytes_of (sym fl) ∙ q.bytes in
    let size : length (bytes_of u.flight) ≡ page_size = ap length bytes ∙ page_length g p k a.records in
    let full = awaits_full f t page_size u v awaits few (omega (arith, size)) e in
    let console : u.console ≡ at_state g a.store c.0 (Dump p (k + 1)) 0 = ap (λ x. due_all rs x.console) y ∙ c.2 in
    let s = steady_full g a.store c.0 (Dump p (k + 1)) tt f t 0 0 u v full.0 console (omega (arith, subst (λ l. waits_of l ≤ 2) fl q.waits)) (omega (arith, size, full.1)) e in
    let x = whole_of (page_of g p k) (heard t) (bytes_of v.flight) (sym bytes ∙ s.bytes) (omega (arith, full.1, page_length g p k a.records)) in
    let n : v.messages ≡ w.messages + 1 = listens_messages f t u v (awaits_listens page_size t awaits) e ∙ ap (λ x. x.messages) y in
    let l = listens g p (k + 1) (k + 1) f t u v (awaits_listens page_size t awaits) (subst (Near g p (k + 1) (k + 1)) (sym console) (refl, refl, omega arith, omega arith, a.records)) e in (
      x.0,
      record {
        store = a.store;
        held = c.0;
        idle = 0 + quiets t;
        console = s.console;
        room = λ m. rw n (omega (arith, c.1, a.room (suc m)));
        flight = closed_empty v.flight (l.closed (subst EndsInByte fl q.closed)) x.1;
        begun = s.begun ∙ ap (λ x. x.begun) y;
        records = a.records;
      },
    )
