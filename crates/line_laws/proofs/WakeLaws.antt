-- The wake, and what is said first to a console that is awake.
use Rattle.std.proofs.Common.{◌≡◌, ℕ, zero, suc, ◌+◌, ◌*◌, ◌<◌, ◌≤◌, Bool, true, false, ◌⊎◌, inl, inr, List, [], ◌∷◌, ◌++◌, length, Option, Some, None, refl, sym, ◌∙◌, ap, subst, arith, append-nil, length-append}
use Rattle.std.specs.Prelude.{nat_lt}
use Rattle.std.proofs.lemmas.Option.{same_Some}
use Rattle.console_model.specs.Console.{Store, ConsoleState, Console}
use Rattle.console_ring.specs.declared.plan.Plan.{Plan}
use Rattle.dmpaft_pump.specs.Command.{dmpaft}
use Rattle.console_model.specs.declared.frame.FrameKind.TheVariants.{ForDump}
use Rattle.console_model.specs.Console.ConsoleState.{Asleep, Command, Overlong, Frame, Dump, Looping}
use Rattle.console_model.specs.declared.reply.ReplyKind.TheVariants.{Ack}
use Rattle.console_model.specs.Line.{does}
use Rattle.schedule_file.specs.Fates.{FatesByNumber}
use Rattle.station_sim.specs.Delivery.{delivered, late}
use Rattle.station_sim.specs.Line.{Line, reply_joins, hears, completes, pages, message_counted, sends_message, says_byte, due_all, begins_with_ack}
use Rattle.serial_link.specs.declared.talk.TalkItem.{TalkItem}
use Rattle.station_sim.specs.Talk.{console_talk}
use Rattle.station_sim.specs.Calm.{FewWaits, ConsoleRests}
use Rattle.station_sim.specs.Sound.{AreRecords, IsSound, AreSound}
use Rattle.station_sim.proofs.SoundLines.{records_front, sound_talk}
use Rattle.console_model.specs.Due.{due_by, in_the_way}
use Rattle.console_model.specs.Laws.{records_of}
use Rattle.console_model.specs.Valid.{EachFollows}
use Rattle.console_ring.specs.Picture.{no_plan}
use Rattle.station_base.specs.CivilMinute.{CivilMinute}
use Rattle.vantage_frames.specs.Slots.{page_size}
use Rattle.wake_retry.specs.Parts.{Still, heard, WakeFloods, Wakes, Awaits, answer_waits}
use Rattle.serial_link.specs.declared.talk.TalkItem.TheVariants.{Said}
use Rattle.station_sim.proofs.CalmLines.{closed_late, few_late}
use Rattle.line_laws.specs.Host.{OnlyListens, Near, NearAt}
use Rattle.line_laws.specs.Unharmed.{Rested}
use Rattle.serial_link.specs.Talk.{message}
use Rattle.station_sim.specs.Joining.{talks_part}
use Rattle.line_laws.proofs.HushedConsole.{bytes_of, EndsInByte, closed_empty, listens}
use Rattle.line_laws.proofs.Asked.{at_state}
use Rattle.line_laws.proofs.Places.{said, no_length}
use Rattle.line_laws.proofs.Delivery.{delivered_length, bytes_of_late}
use Rattle.line_laws.proofs.Plainly.{Tame, hears_meekly}
use Rattle.line_laws.proofs.Floods.{no_flood}
use Rattle.line_laws.proofs.Messages.{message_goes, seen_host, harm_cases, calls_dump, tame_waited}
use Rattle.line_laws.proofs.FrameStage.{StillFramed, Unframed, frame_listens, quiets, full_quiets, short_quiets}
use Rattle.line_laws.proofs.Pages.{after_calm, goes_unseen, awaits_listens, settles}

-- the plan and the place of a console's own dump
abbrev pub own_plan : ConsoleState → Plan
own_plan Asleep = no_plan
own_plan (Command line) = no_plan
own_plan Overlong = no_plan
own_plan (Frame kind got) = no_plan
own_plan (Dump p sent) = p
own_plan (Looping n) = no_plan

abbrev pub own_sent : ConsoleState → ℕ
own_sent Asleep = 0
own_sent (Command line) = 0
own_sent Overlong = 0
own_sent (Frame kind got) = 0
own_sent (Dump p sent) = sent
own_sent (Looping n) = 0

near_own : (s : ConsoleState) (i : ℕ) (g : List (List ℕ)) → ConsoleRests s → AreRecords g → NearAt g (own_plan s) (own_sent s) (own_sent s) s i g
near_own Asleep i g r ok = tt
near_own (Command []) i g r ok = tt
near_own (Command (b ∷ line)) i g r ok = absurd cc
near_own Overlong i g r ok = absurd r
near_own (Frame kind got) i g r ok = r
near_own (Dump p sent) i g r ok = (refl, refl, omega arith, omega arith, ok)
near_own (Looping n) i g r ok = r

pub follows_front : (h rs ss : List (List ℕ)) → EachFollows h (rs ++ ss) → EachFollows h rs
follows_front h [] ss each = tt
follows_front h (r ∷ rs) ss each = (each.0, follows_front (h ++ r ∷ []) rs ss each.1)

-- the history of a sound line has records
pub sound_history : (w : Line) → IsSound w → AreRecords w.console.history
sound_history w sound = records_front w.console.history w.console.held sound.records

pub near_itself : (c : Console) → ConsoleRests c.state → AreRecords c.history → Near c.history (own_plan c.state) (own_sent c.state) (own_sent c.state) c
near_itself c r ok = near_own c.state c.idle c.history r ok

-- one LF and its settling
pub woken : (f : FatesByNumber) → AreSound f → (s : List TalkItem) (w v : Line) → Rested w → Still answer_waits s → console_talk f (Said 10 true ∷ s) w ≡ Some v → Rested v × (v.dumps ≡ w.dumps)
woken f ok s w v r still e =
    let h = w.console.history in
    let p = own_plan w.console.state in
    let k = own_sent w.console.state in
    let a = said h p k k f ok.mild 10 w r.flight r.begun (near_itself w.console r.rests (sound_history w r.sound)) r.rests in
    let z = settles h p k (k + 1) 3 f s (says_byte f 10 true w) v (omega arith) still a.near a.few e in
    (record { flight = z.flight; begun = z.begun ∙ a.begun; rests = z.rests; sound = sound_talk f ok (Said 10 true ∷ s) w v e r.sound }, z.dumps ∙ a.dumps)

-- the wake leaves a line at rest
pub wakes_law : (f : FatesByNumber) → AreSound f → (left : ℕ) (t : List TalkItem) (awake : Bool) (w v : Line) → Rested w → Wakes left t awake → console_talk f t w ≡ Some v → Rested v × (v.dumps ≡ w.dumps)
wakes_law f ok zero t awake w v r (none, is) e =
    let q : w ≡ v = same_Some w v (ap (λ x. console_talk f x w) (sym none) ∙ e) in (subst Rested q r, ap (λ x. x.dumps) (sym q))
wakes_law f ok (suc left) t awake w v r (s, rest, split, still, inl (x, none, y)) e =
    let is : Said 10 true ∷ s ≡ t = rw (split, none) (sym (append-nil (Said 10 true ∷ s))) in
    woken f ok s w v r still (ap (λ x. console_talk f x w) is ∙ e)
wakes_law f ok (suc left) t awake w v r (s, rest, split, still, inr (x, again)) e =
    let m = talks_part f (Said 10 true ∷ s) rest w v (ap (λ x. console_talk f x w) (sym split) ∙ e) in
    let a = woken f ok s w m.0 r still m.1 in
    let q = wakes_law f ok left rest awake m.0 v a.0 again m.2 in
    (q.0, q.1 ∙ a.1)

-- no settling of a wake floods
pub wake_no_flood : (f : FatesByNumber) → AreSound f → (left : ℕ) (t : List TalkItem) (w v : Line) → Rested w → WakeFloods left t → console_talk f t w ≡ Some v → ⊥
wake_no_flood f ok zero t w v r x e = x
wake_no_flood f ok (suc left) t w v r (s, rest, split, inl (flood, none)) e =
    let is : Said 10 true ∷ s ≡ t = rw (split, none) (sym (append-nil (Said 10 true ∷ s))) in
    let h = w.console.history in
    let p = own_plan w.console.state in
    let k = own_sent w.console.state in
    let a = said h p k k f ok.mild 10 w r.flight r.begun (near_itself w.console r.rests (sound_history w r.sound)) r.rests in
    no_flood f 3 s (says_byte f 10 true w) v (after_calm h p f ok.mild k k (message_counted f (w.begun ++ 10 ∷ []) w) (says_byte f 10 true w) refl a) flood (ap (λ x. console_talk f x w) is ∙ e)
wake_no_flood f ok (suc left) t w v r (s, rest, split, inr (still, x, again)) e =
    let m = talks_part f (Said 10 true ∷ s) rest w v (ap (λ x. console_talk f x w) (sym split) ∙ e) in
    let a = woken f ok s w m.0 r still m.1 in
    wake_no_flood f ok left rest m.0 v a.0 again m.2

-- the parts of a line in which the console awaits a frame
pub record Awaiting (got : List ℕ) (w v : Line) : Type 0 where
  pub history : List (List ℕ)
  pub store : Store
  pub held : List (List ℕ)
  pub idle : ℕ
  pub records : AreRecords history
  pub rises : EachFollows [] history
  pub console : v.console ≡ at_state history store held (Frame ForDump got) idle
  pub soon : idle < 3
  pub flight : v.flight ≡ []
  pub begun : v.begun ≡ []
  pub dumps : v.dumps ≡ w.dumps

-- records that fall due leave a frame as it is
abbrev pub IsFramed : List ℕ → Store → List (List ℕ) → ℕ → Console → Type 0
IsFramed got d hs i c = (g : List (List ℕ)) × (c ≡ at_state g d hs (Frame ForDump got) i)

framed_way : (rs : List (List ℕ)) (got : List ℕ) (d : Store) (hs : List (List ℕ)) (i : ℕ) (way : Option CivilMinute) (r : List ℕ) (g : List (List ℕ)) →
    IsFramed got d hs i (due_all rs (at_state (g ++ r ∷ []) d hs (Frame ForDump got) i)) → IsFramed got d hs i (due_all rs (at_state g d hs (Frame ForDump got) i)) →
    IsFramed got d hs i (due_all rs (due_by way r (at_state g d hs (Frame ForDump got) i)))
framed_way rs got d hs i None r g x y = x
framed_way rs got d hs i (Some newest) r g x y = y

pub due_framed : (rs : List (List ℕ)) (got : List ℕ) (g : List (List ℕ)) (d : Store) (hs : List (List ℕ)) (i : ℕ) → IsFramed got d hs i (due_all rs (at_state g d hs (Frame ForDump got) i))
due_framed [] got g d hs i = (g, refl)
due_framed (r ∷ rs) got g d hs i = framed_way rs got d hs i (in_the_way r (at_state g d hs (Frame ForDump got) i)) r g
    (due_framed rs got (g ++ r ∷ []) d hs i) (due_framed rs got g d hs i)

-- a line that is near a dump, after something was refused
pub record Strayed (w v : Line) : Type 0 where
  pub history : List (List ℕ)
  pub plan : Plan
  pub low : ℕ
  pub high : ℕ
  pub tame : Tame history plan low high 5000 v
  pub begun : v.begun ≡ []
  pub dumps : v.dumps ≡ w.dumps

pub tame_more : (h : List (List ℕ)) (p : Plan) (low high n m : ℕ) (w : Line) → n ≤ m → Tame h p low high n w → Tame h p low high m w
tame_more h p low high n m w a t = record { near = t.near; few = t.few; closed = t.closed; size = omega (arith, t.size) }

-- what DMPAFT leaves at first
record Called (w v : Line) : Type 0 where
  history : List (List ℕ)
  store : Store
  held : List (List ℕ)
  console : v.console ≡ at_state history store held (Frame ForDump []) 0
  few : FewWaits 2 2 v.flight
  closed : EndsInByte v.flight
  size : length (bytes_of v.flight) ≤ 1
  begun : v.begun ≡ []
  dumps : v.dumps ≡ w.dumps

pub call_goes : (f : FatesByNumber) (t : List TalkItem) (w : Line) → console_talk f (message dmpaft ++ t) w ≡ console_talk f t (sends_message f (w.begun ++ dmpaft) w)
unfolding dmpaft
call_goes f t w = message_goes f 68 (77 ∷ 80 ∷ 65 ∷ 70 ∷ 84 ∷ 10 ∷ []) t w

call_length : length dmpaft ≡ 7
unfolding dmpaft
call_length = refl

long_call : (m : List ℕ) → m ≡ dmpaft → nat_lt 1 (length m) ≡ true
long_call m e = let l : length m ≡ 7 = ap length e ∙ call_length in rw l refl

calls_plainly : (f : FatesByNumber) → AreSound f → (m : List ℕ) (w : Line) → m ≡ dmpaft → Rested w → (sends_message f m w).unseen ≡ None →
    completes (delivered (f.host (w.messages + 1)) m) w.console ≡ false → pages (delivered (f.host (w.messages + 1)) m) w.console ≡ false →
    Strayed w (sends_message f m w) × (begins_with_ack (bytes_of (sends_message f m w).flight) ≡ false)
calls_plainly f ok m w e r u c g =
    let got = delivered (f.host (w.messages + 1)) m in
    let h = w.console.history in
    let p = own_plan w.console.state in
    let k = own_sent w.console.state in
    let y = hears_meekly h p k k f ok.mild got 0 (message_counted f m w) (record { near = near_itself w.console r.rests (sound_history w r.sound); few = rw r.flight tt; closed = rw r.flight tt; size = rw r.flight (omega arith) }) c g u in (
      record {
        history = h;
        plan = p;
        low = k;
        high = k;
        tame = tame_more h p k k (0 + page_size * length got) 5000 (sends_message f m w) (omega (arith, delivered_length (f.host (w.messages + 1)) m, ap length e, call_length)) (tame_waited h p k k (0 + page_size * length got) (f.mids (w.messages + 1)) (hears f got (message_counted f m w)) y.tame);
        begun = y.begun;
        dumps = y.dumps;
      },
      y.no_ack (rw r.flight refl),
    )

calls_frame : (f : FatesByNumber) → AreSound f → (m : List ℕ) (w : Line) → Rested w → delivered (f.host (w.messages + 1)) m ≡ dmpaft → (g : List (List ℕ)) (d : Store) (hs : List (List ℕ)) →
    hears f dmpaft (message_counted f m w) ≡ reply_joins f (does Ack (6 ∷ []) (at_state g d hs (Frame ForDump []) 0)) (message_counted f m w) → Called w (sends_message f m w)
calls_frame f ok m w r e g d hs q =
    let o = does Ack (6 ∷ []) (at_state g d hs (Frame ForDump []) 0) in
    let z : hears f (delivered (f.host (w.messages + 1)) m) (message_counted f m w) ≡ reply_joins f o (message_counted f m w) = ap (λ x. hears f x (message_counted f m w)) e ∙ q in
    let k = due_framed (f.mids (w.messages + 1)) [] g d hs 0 in
    let n = w.replies + 1 in
    let l = late (f.late n).waits (f.late n).place (delivered (f.reply n) (6 ∷ [])) in
    let fl : (sends_message f m w).flight ≡ l = ap (λ x. x.flight) z ∙ ap (λ x. x ++ l) r.flight in
    record {
      history = k.0;
      store = d;
      held = hs;
      console = ap (λ x. due_all (f.mids (w.messages + 1)) x.console) z ∙ k.1;
      few = rw fl (few_late (f.late n).waits (f.late n).place (delivered (f.reply n) (6 ∷ [])) (ok.mild n));
      closed = rw fl (closed_late (f.late n).waits (f.late n).place (delivered (f.reply n) (6 ∷ [])));
      size = omega (arith, ap (λ x. length (bytes_of x)) fl, ap length (bytes_of_late (f.late n).waits (f.late n).place (delivered (f.reply n) (6 ∷ []))), delivered_length (f.reply n) (6 ∷ []));
      begun = ap (λ x. x.begun) z;
      dumps = ap (λ x. x.dumps) z ∙ append-nil w.dumps;
    }

called : (f : FatesByNumber) → AreSound f → (m : List ℕ) (w : Line) → m ≡ dmpaft → Rested w → (sends_message f m w).unseen ≡ None →
    Called w (sends_message f m w) ⊎ (Strayed w (sends_message f m w) × (begins_with_ack (bytes_of (sends_message f m w).flight) ≡ false))
called f ok m w e r u = elim (harm_cases m (delivered (f.host (w.messages + 1)) m)) [
  | inl a ↦ (let z = seen_host f m w u a in inr (calls_plainly f ok m w e r u z.0 (z.1 (long_call m e))))
  | inr a ↦ elim (calls_dump f (message_counted f m w) r.rests) [
    | inl z ↦ inr (calls_plainly f ok m w e r u (ap (λ x. completes x w.console) (a ∙ e) ∙ z.0) (ap (λ x. pages x w.console) (a ∙ e) ∙ z.1))
    | inr z ↦ inl (calls_frame f ok m w r (a ∙ e) z.0 z.1 z.2 z.3)
  ]
]

pub strayed_on : (f : FatesByNumber) (t : List TalkItem) (w u v : Line) → OnlyListens t → Strayed w u → console_talk f t u ≡ Some v → Strayed w v
strayed_on f t w u v s k e =
    let l = listens k.history k.plan k.low k.high f t u v s k.tame.near e in
    record {
      history = k.history;
      plan = k.plan;
      low = k.low;
      high = k.high;
      tame = record { near = l.near; few = l.few k.tame.few; closed = l.closed k.tame.closed; size = omega (arith, k.tame.size, ap length l.bytes, length-append (heard t) (bytes_of v.flight)) };
      begun = l.begun ∙ k.begun;
      dumps = l.dumps ∙ k.dumps;
    }

no_ack_heard : (f : FatesByNumber) (t : List TalkItem) (w u v : Line) → OnlyListens t → Strayed w u → console_talk f t u ≡ Some v → begins_with_ack (bytes_of u.flight) ≡ false → ¬ (heard t ≡ 6 ∷ [])
no_ack_heard f t w u v s k e b is =
    let l = listens k.history k.plan k.low k.high f t u v s k.tame.near e in
    let z : bytes_of u.flight ≡ 6 ∷ bytes_of v.flight = l.bytes ∙ ap (λ x. x ++ bytes_of v.flight) is in
    let y : true ≡ false = ap begins_with_ack (sym z) ∙ b in cc

pub unframed_strayed : (w u v : Line) (t : List TalkItem) (n i : ℕ) → n ≤ 4000 → u.begun ≡ [] → u.dumps ≡ w.dumps → Unframed [] no_plan 0 0 n i u t v → Strayed w v
unframed_strayed w u v t n i a b d k = record { history = []; plan = no_plan; low = 0; high = 0; tame = tame_more [] no_plan 0 0 (n + 1) 5000 v (omega arith) k.tame; begun = k.begun ∙ b; dumps = k.dumps ∙ d }

called_on : (t : List TalkItem) (w u v : Line) (k : Called w u) → IsSound v → Awaits answer_waits 1 t → StillFramed [] k.history k.store k.held 0 u t v ⊎ Unframed [] no_plan 0 0 1 0 u t v → Awaiting [] w v ⊎ (Strayed w v × ¬ (heard t ≡ 6 ∷ []))
called_on t w u v k sound (inl (full, one)) (inl q) = inl (record {
  history = k.history;
  store = k.store;
  held = k.held;
  idle = 0 + quiets t;
  records = records_front k.history k.held (subst (λ (c : Console). AreRecords (records_of c)) q.console sound.records);
  rises = follows_front [] k.history k.held (subst (λ (c : Console). EachFollows [] (records_of c)) q.console sound.rises);
  console = q.console;
  soon = q.soon;
  flight = closed_empty v.flight q.closed (no_length (bytes_of v.flight) (omega (arith, k.size, one, ap length q.bytes, length-append (heard t) (bytes_of v.flight))));
  begun = q.begun ∙ k.begun;
  dumps = q.dumps ∙ k.dumps;
})
called_on t w u v k sound (inl (full, one)) (inr q) = absurd (omega (arith, q.late, full_quiets t full one))
called_on t w u v k sound (inr (short, none)) (inl q) = absurd (omega (arith, q.soon, short_quiets t short))
called_on t w u v k sound (inr (short, none)) (inr q) = inr (unframed_strayed w u v t 1 0 (omega arith) k.begun k.dumps q, λ is. omega (arith, none, ap length is))

-- DMPAFT and the one byte after it: the console awaits a frame, or no 0x06 was heard
pub asks_law : (f : FatesByNumber) → AreSound f → (t : List TalkItem) (w v : Line) → Rested w → Awaits answer_waits 1 t → console_talk f (message dmpaft ++ t) w ≡ Some v → v.unseen ≡ None →
    Awaiting [] w v ⊎ (Strayed w v × ¬ (heard t ≡ 6 ∷ []))
asks_law f ok t w v r awaits e u =
    let m = w.begun ++ dmpaft in
    let is : m ≡ dmpaft = ap (λ x. x ++ dmpaft) r.begun in
    let e' : console_talk f t (sends_message f m w) ≡ Some v = sym (call_goes f t w) ∙ e in
    let s = awaits_listens 1 t awaits in
    elim (called f ok m w is r (goes_unseen f t (sends_message f m w) v e' u)) [
      | inl k ↦ called_on t w (sends_message f m w) v k (sound_talk f ok (message dmpaft ++ t) w v e r.sound) awaits (frame_listens [] no_plan 0 0 [] k.history k.store k.held f ok.mild t 1 0 (sends_message f m w) v s
          (record { console = k.console; soon = omega arith; few = k.few; closed = k.closed; size = k.size }) e')
      | inr k ↦ inr (strayed_on f t w (sends_message f m w) v s k.0 e', no_ack_heard f t w (sends_message f m w) v s k.0 e' k.1)
    ]
