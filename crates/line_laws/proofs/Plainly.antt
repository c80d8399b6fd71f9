-- Bytes that complete no command, heard by a console near a dump.
use Rattle.std.proofs.Common.{◌≡◌, ℕ, ◌+◌, ◌-◌, ◌*◌, ◌≤◌, if◌then◌else◌, Bool, true, false, ◌&&◌, ◌||◌, not, List, [], ◌∷◌, ◌++◌, length, Option, Some, None, refl, sym, ◌∙◌, ap, subst, arith, append-nil, length-append}
use Rattle.std.specs.Prelude.{nat_lt, bytes_eq}
use Rattle.std.proofs.lemmas.Slice.Eq.{bytes_eq-Decides}
use Rattle.console_model.specs.Console.{Store, ConsoleState, Console, Outcome}
use Rattle.console_ring.specs.declared.plan.Plan.{Plan}
use Rattle.console_model.specs.declared.reply.ReplyKind.{ReplyKind}
use Rattle.console_model.specs.declared.signal.Signal.{Signal}
use Rattle.console_model.specs.declared.order.Order.{Order}
use Rattle.console_model.specs.Reading.{signal, read_order}
use Rattle.console_model.specs.Console.ConsoleState.{Asleep, Command, Overlong, Frame, Dump, Looping}
use Rattle.console_model.specs.declared.reply.ReplyKind.TheVariants.{Nothing, Code, Test, Wake, Ack, AckFrame, Page, Packet}
use Rattle.console_model.specs.declared.signal.Signal.TheVariants.{Lf, Next, Again, Stop, Other}
use Rattle.console_model.specs.declared.order.Order.TheVariants.{Empty, Unknown, Known}
use Rattle.vantage_frames.specs.declared.command.Command.{Command as Ordered}
use Rattle.vantage_frames.specs.declared.command.Command.TheVariants as command
use Rattle.vantage_frames.specs.Slots.{page_size}
use Rattle.station_sim.specs.Sound.{AreRecords}
use Rattle.console_model.specs.Hear.{hear, heard_in, sends_page, dump_ended, lengthened}
use Rattle.console_model.specs.Line.{obeyed, silent, to, at_line}
use Rattle.station_sim.specs.declared.part.Part.{Part}
use Rattle.schedule_file.specs.Fates.{FatesByNumber}
use Rattle.station_sim.specs.Delivery.{delivered, late}
use Rattle.station_sim.specs.declared.part.Part.TheVariants.{Byte, Wait}
use Rattle.station_sim.specs.declared.unseen.Unseen.{Unseen}
use Rattle.station_sim.specs.Line.{Line, happens, joins, reply_joins, unanswered, hears, completes, pages, is_page, is_harmed, earlier, begins_with_ack, from_console}
use Rattle.station_sim.specs.Calm.{FewWaits, AreMild}
use Rattle.station_sim.proofs.CalmLines.{closed_late, few_late}
use Rattle.station_sim.proofs.SoundLines.{console_joins}
use Rattle.line_laws.specs.Host.{Near, NearAt}
use Rattle.line_laws.proofs.HushedConsole.{bytes_of, EndsInByte}
use Rattle.line_laws.proofs.Asked.{at_state, wider}
use Rattle.line_laws.proofs.Delivery.{delivered_length, bytes_of_late, page_length}

-- a reply by which no command is acknowledged
abbrev pub Meek : ReplyKind → List ℕ → Type 0
Meek Nothing bs = Unit {0}
Meek Code bs = begins_with_ack bs ≡ false
Meek Wake bs = begins_with_ack bs ≡ false
Meek Test bs = begins_with_ack bs ≡ false
Meek Ack bs = ⊥
Meek AckFrame bs = ⊥
Meek Page bs = Unit {0}
Meek Packet bs = ⊥

pub record Plain (h : List (List ℕ)) (p : Plan) (low high : ℕ) (o : Outcome) : Type 0 where
  pub near : Near h p low (high + 1) o.next
  pub same : is_page o.kind ≡ false → Near h p low high o.next
  pub begins : o.begins ≡ []
  pub size : length o.bytes ≤ page_size
  pub meek : Meek o.kind o.bytes

plain_silent : (h : List (List ℕ)) (p : Plan) (low high : ℕ) (c : Console) → Near h p low (high + 1) c → Near h p low high c → Plain h p low high (silent c)
plain_silent h p low high c m n = record { near = m; same = λ e. n; begins = refl; size = omega arith; meek = tt }

plain_page : (h : List (List ℕ)) (p q : Plan) (low high m : ℕ) (c : Console) → q ≡ p → c.history ≡ h → low ≤ m + 1 → m + 1 ≤ high + 1 → AreRecords h → Plain h p low high (sends_page q m c)
plain_page h p q low high m c e g a b ok = record { near = (e, g, a, b, ok); same = λ z. absurd cc; begins = refl; size = omega (arith, page_length c.history q m (subst AreRecords (sym g) ok)); meek = tt }

plain_next : (h : List (List ℕ)) (p q : Plan) (low high sent : ℕ) (c : Console) → q ≡ p → c.history ≡ h → low ≤ sent → sent ≤ high → AreRecords h → (more : Bool) →
    Plain h p low high (if more then sends_page q sent c else silent (to (dump_ended c) (Command [])))
plain_next h p q low high sent c e g a b ok true = plain_page h p q low high sent c e g (omega arith) (omega arith) ok
plain_next h p q low high sent c e g a b ok false = plain_silent h p low high _ tt tt

near_line : (h : List (List ℕ)) (p : Plan) (low high x : ℕ) (line : List ℕ) (g : List (List ℕ)) → (t : Bool) → NearAt h p low high (if t then Command (line ++ x ∷ []) else Overlong) 0 g
near_line h p low high x [] g true = omega arith
near_line h p low high x (b ∷ line) g true = omega arith
near_line h p low high x line g false = omega arith

plain_joined : (h : List (List ℕ)) (p : Plan) (low high x : ℕ) (line : List ℕ) (c : Console) → Plain h p low high (silent (lengthened line x c))
plain_joined h p low high x line c = plain_silent h p low high _ (near_line h p low (high + 1) x line c.history (nat_lt (length line) 32)) (near_line h p low high x line c.history (nat_lt (length line) 32))

plain_known : (h : List (List ℕ)) (p : Plan) (low high : ℕ) (command : Ordered) (c : Console) → (obeyed command c).completes ≡ false → Plain h p low high (obeyed command c)
plain_known h p low high command.Test c e = absurd cc
plain_known h p low high command.Kind c e = absurd cc
plain_known h p low high (command.LoopFor n) c e = absurd cc
plain_known h p low high command.DumpAfter c e = absurd cc
plain_known h p low high (command.EepromRead a n) c e = absurd cc
plain_known h p low high (command.EepromWrite a n) c e = absurd cc
plain_known h p low high command.EepromAll c e = absurd cc
plain_known h p low high command.TimeGet c e = absurd cc
plain_known h p low high command.TimeSet c e = absurd cc
plain_known h p low high (command.SetPeriod m) c e = absurd cc
plain_known h p low high command.ClearLog c e = absurd cc

plain_line : (h : List (List ℕ)) (p : Plan) (low high : ℕ) (o : Order) (c : Console) → (at_line o c).completes ≡ false → Plain h p low high (at_line o c)
plain_line h p low high Empty c e = record { near = tt; same = λ z. tt; begins = refl; size = omega arith; meek = refl }
plain_line h p low high Unknown c e = record { near = tt; same = λ z. tt; begins = refl; size = omega arith; meek = refl }
plain_line h p low high (Known command) c e = plain_known h p low high command c e

plain_by : (h : List (List ℕ)) (p : Plan) (low high : ℕ) (s : ConsoleState) (m : Signal) (x : ℕ) (g : List (List ℕ)) (d : Store) (hs : List (List ℕ)) (i : ℕ) → NearAt h p low high s i g →
    (heard_in s m x (at_state g d hs s i)).completes ≡ false → Plain h p low high (heard_in s m x (at_state g d hs s i))
plain_by h p low high Asleep m x g d hs i n e = plain_silent h p low high _ tt tt
plain_by h p low high (Command line) Lf x g d hs i n e = plain_line h p low high (read_order line) (at_state g d hs (Command line) i) e
plain_by h p low high (Command line) Next x g d hs i n e = plain_joined h p low high x line (at_state g d hs (Command line) i)
plain_by h p low high (Command line) Again x g d hs i n e = plain_joined h p low high x line (at_state g d hs (Command line) i)
plain_by h p low high (Command line) Stop x g d hs i n e = plain_joined h p low high x line (at_state g d hs (Command line) i)
plain_by h p low high (Command line) Other x g d hs i n e = plain_joined h p low high x line (at_state g d hs (Command line) i)
plain_by h p low high Overlong Lf x g d hs i n e = plain_line h p low high Unknown (at_state g d hs Overlong i) e
plain_by h p low high Overlong Next x g d hs i n e = plain_silent h p low high _ (omega arith) (omega arith)
plain_by h p low high Overlong Again x g d hs i n e = plain_silent h p low high _ (omega arith) (omega arith)
plain_by h p low high Overlong Stop x g d hs i n e = plain_silent h p low high _ (omega arith) (omega arith)
plain_by h p low high Overlong Other x g d hs i n e = plain_silent h p low high _ (omega arith) (omega arith)
plain_by h p low high (Frame kind got) m x g d hs i n e = absurd n
plain_by h p low high (Dump q sent) Lf x g d hs i n e = plain_line h p low high (read_order []) (dump_ended (at_state g d hs (Dump q sent) i)) e
plain_by h p low high (Dump q sent) Next x g d hs i n e = plain_next h p q low high sent (at_state g d hs (Dump q sent) i) n.0 n.1 n.2 n.3 n.4 (nat_lt sent q.pages)
plain_by h p low high (Dump q sent) Again x g d hs i n e = plain_page h p q low high (sent - 1) (at_state g d hs (Dump q sent) i) n.0 n.1 (omega (arith, n.2, n.3)) (omega (arith, n.2, n.3)) n.4
plain_by h p low high (Dump q sent) Stop x g d hs i n e = plain_silent h p low high _ tt tt
plain_by h p low high (Dump q sent) Other x g d hs i n e = plain_joined h p low high x [] (dump_ended (at_state g d hs (Dump q sent) i))
plain_by h p low high (Looping k) m x g d hs i n e = absurd n

pub hears_plainly : (h : List (List ℕ)) (p : Plan) (low high : ℕ) (c : Console) (x : ℕ) → Near h p low high c → (hear c x).completes ≡ false → Plain h p low high (hear c x)
hears_plainly h p low high c x n e = plain_by h p low high c.state (signal x) x c.history c.store c.held c.idle n e

-- parts after parts
pub few_join : (k : ℕ) (x : Part) (l c : List Part) → EndsInByte (x ∷ l) → FewWaits 2 k (x ∷ l) → FewWaits 2 2 c → FewWaits 2 k ((x ∷ l) ++ c)
few_join k (Byte b) [] c a f g = g
few_join k (Byte b) (y ∷ l) c a f g = few_join 2 y l c a f g
few_join k Wait [] c a f g = absurd a
few_join k Wait (y ∷ l) c a f g = (f.0, few_join (k - 1) y l c a f.1 g)

pub few_joined : (l c : List Part) → EndsInByte l → FewWaits 2 2 l → FewWaits 2 2 c → FewWaits 2 2 (l ++ c)
few_joined [] c a f g = g
few_joined (x ∷ l) c a f g = few_join 2 x l c a f g

pub closed_join : (l c : List Part) → EndsInByte l → EndsInByte c → EndsInByte (l ++ c)
closed_join [] c a b = b
closed_join (Byte x ∷ l) c a b = closed_join l c a b
closed_join (Wait ∷ []) c a b = absurd a
closed_join (Wait ∷ y ∷ l) c a b = closed_join (y ∷ l) c a b

pub bytes_join : (l c : List Part) → bytes_of (l ++ c) ≡ bytes_of l ++ bytes_of c
bytes_join [] c = refl
bytes_join (Byte b ∷ l) c = ap (λ x. b ∷ x) (bytes_join l c)
bytes_join (Wait ∷ l) c = bytes_join l c

pub no_ack_join : (a b : List ℕ) → begins_with_ack a ≡ false → begins_with_ack b ≡ false → begins_with_ack (a ++ b) ≡ false
no_ack_join [] b e f = f
no_ack_join (x ∷ a) b e f = e

-- unseen stays
pub earlier_none : (u v : Option Unseen) → earlier u v ≡ None → u ≡ None
earlier_none None v e = refl
earlier_none (Some x) v e = absurd cc

pub happens_unseen : (k : ReplyKind) (f : FatesByNumber) (o : Outcome) (w : Line) → (joins k f o w).unseen ≡ None → w.unseen ≡ None
happens_unseen Nothing f o w e = e
happens_unseen Code f o w e = earlier_none w.unseen _ e
happens_unseen Wake f o w e = earlier_none w.unseen _ e
happens_unseen Test f o w e = earlier_none w.unseen _ e
happens_unseen Ack f o w e = earlier_none w.unseen _ e
happens_unseen AckFrame f o w e = earlier_none w.unseen _ e
happens_unseen Page f o w e = earlier_none w.unseen _ e
happens_unseen Packet f o w e = earlier_none w.unseen _ e

pub hears_unseen : (f : FatesByNumber) (got : List ℕ) (w : Line) → (hears f got w).unseen ≡ None → w.unseen ≡ None
hears_unseen f [] w e = e
hears_unseen f (x ∷ got) w e = happens_unseen (hear w.console x).kind f (hear w.console x) w (hears_unseen f got (happens f (hear w.console x) w) e)

-- what is delivered of a reply that begins with no 0x06, and is not unseen, begins with none
pub no_ack_delivered : (u : Option Unseen) (x : Unseen) (sent got : List ℕ) → begins_with_ack sent ≡ false → earlier u (if is_harmed sent got && begins_with_ack got then Some x else None) ≡ None → begins_with_ack got ≡ false
no_ack_delivered (Some v) x sent got b e = absurd cc
no_ack_delivered None x sent got b e = go (bytes_eq sent got) (begins_with_ack got) refl refl e
  where
    go : (t s : Bool) → bytes_eq sent got ≡ t → begins_with_ack got ≡ s → (if not t && s then Some x else None) ≡ None → begins_with_ack got ≡ false
    go true s q r m = subst (λ y. begins_with_ack y ≡ false) ((bytes_eq-Decides sent got).0 q) b
    go false true q r m = absurd cc
    go false false q r m = r

-- a line near a dump, with n bytes in flight at most
pub record Tame (h : List (List ℕ)) (p : Plan) (low high n : ℕ) (w : Line) : Type 0 where
  pub near : Near h p low high w.console
  pub few : FewWaits 2 2 w.flight
  pub closed : EndsInByte w.flight
  pub size : length (bytes_of w.flight) ≤ n

module _ (h : List (List ℕ)) (p : Plan) (low high n : ℕ) (f : FatesByNumber) (mild : AreMild f) where
  flown : (o : Outcome) (w : Line) → bytes_of (reply_joins f o w).flight ≡ bytes_of w.flight ++ delivered (f.reply (w.replies + 1)) o.bytes
  flown o w = bytes_join w.flight _ ∙ ap (λ x. bytes_of w.flight ++ x) (bytes_of_late (f.late (w.replies + 1)).waits (f.late (w.replies + 1)).place (delivered (f.reply (w.replies + 1)) o.bytes))

  tame_replied : (o : Outcome) (w : Line) (top : ℕ) → Tame h p low high n w → Near h p low top o.next → length o.bytes ≤ page_size → Tame h p low top (n + page_size) (reply_joins f o w)
  tame_replied o w top t q z = record {
    near = q;
    few = few_joined w.flight (late (f.late (w.replies + 1)).waits (f.late (w.replies + 1)).place (delivered (f.reply (w.replies + 1)) o.bytes)) t.closed t.few
        (few_late (f.late (w.replies + 1)).waits (f.late (w.replies + 1)).place (delivered (f.reply (w.replies + 1)) o.bytes) (mild (w.replies + 1)));
    closed = closed_join w.flight (late (f.late (w.replies + 1)).waits (f.late (w.replies + 1)).place (delivered (f.reply (w.replies + 1)) o.bytes)) t.closed
        (closed_late (f.late (w.replies + 1)).waits (f.late (w.replies + 1)).place (delivered (f.reply (w.replies + 1)) o.bytes));
    size = omega (arith, ap length (flown o w), length-append (bytes_of w.flight) (delivered (f.reply (w.replies + 1)) o.bytes), delivered_length (f.reply (w.replies + 1)) o.bytes, t.size);
  }

  tame_same : (o : Outcome) (w : Line) (top : ℕ) → Tame h p low high n w → Near h p low top o.next → Tame h p low top (n + page_size) (unanswered o w)
  tame_same o w top t q = record { near = q; few = t.few; closed = t.closed; size = omega (arith, t.size) }

  tame_joins : (k : ReplyKind) (o : Outcome) (w : Line) (top : ℕ) → Tame h p low high n w → Near h p low top o.next → length o.bytes ≤ page_size → Tame h p low top (n + page_size) (joins k f o w)
  tame_joins Nothing o w top t q z = tame_same o w top t q
  tame_joins Code o w top t q z = tame_replied o w top t q z
  tame_joins Wake o w top t q z = tame_replied o w top t q z
  tame_joins Test o w top t q z = tame_replied o w top t q z
  tame_joins Ack o w top t q z = tame_replied o w top t q z
  tame_joins AckFrame o w top t q z = tame_replied o w top t q z
  tame_joins Page o w top t q z = tame_replied o w top t q z
  tame_joins Packet o w top t q z = tame_replied o w top t q z

  no_ack_joins : (k : ReplyKind) (o : Outcome) (w : Line) → k ≡ o.kind → Meek k o.bytes → is_page k ≡ false → (joins k f o w).unseen ≡ None → begins_with_ack (bytes_of w.flight) ≡ false → begins_with_ack (bytes_of (joins k f o w).flight) ≡ false
  no_ack_joins Nothing o w e m z u b = b
  no_ack_joins Code o w e m z u b = rw (flown o w) (no_ack_join (bytes_of w.flight) (delivered (f.reply (w.replies + 1)) o.bytes) b
      (no_ack_delivered w.unseen (from_console (w.replies + 1)) o.bytes _ m (rw (← e) at u)))
  no_ack_joins Wake o w e m z u b = rw (flown o w) (no_ack_join (bytes_of w.flight) (delivered (f.reply (w.replies + 1)) o.bytes) b
      (no_ack_delivered w.unseen (from_console (w.replies + 1)) o.bytes _ m (rw (← e) at u)))
  no_ack_joins Test o w e m z u b = rw (flown o w) (no_ack_join (bytes_of w.flight) (delivered (f.reply (w.replies + 1)) o.bytes) b
      (no_ack_delivered w.unseen (from_console (w.replies + 1)) o.bytes _ m (rw (← e) at u)))
  no_ack_joins Ack o w e m z u b = absurd m
  no_ack_joins AckFrame o w e m z u b = absurd m
  no_ack_joins Page o w e m z u b = absurd cc
  no_ack_joins Packet o w e m z u b = absurd m

pub dumps_joins : (k : ReplyKind) (f : FatesByNumber) (o : Outcome) (w : Line) → o.begins ≡ [] → (joins k f o w).dumps ≡ w.dumps
dumps_joins Nothing f o w e = refl
dumps_joins Code f o w e = rw (e, append-nil)
dumps_joins Wake f o w e = rw (e, append-nil)
dumps_joins Test f o w e = rw (e, append-nil)
dumps_joins Ack f o w e = rw (e, append-nil)
dumps_joins AckFrame f o w e = rw (e, append-nil)
dumps_joins Page f o w e = rw (e, append-nil)
dumps_joins Packet f o w e = rw (e, append-nil)

pub begun_joins : (k : ReplyKind) (f : FatesByNumber) (o : Outcome) (w : Line) → (joins k f o w).begun ≡ w.begun
begun_joins Nothing f o w = refl
begun_joins Code f o w = refl
begun_joins Wake f o w = refl
begun_joins Test f o w = refl
begun_joins Ack f o w = refl
begun_joins AckFrame f o w = refl
begun_joins Page f o w = refl
begun_joins Packet f o w = refl

-- what bytes leave that complete no command
pub record Meekly (h : List (List ℕ)) (p : Plan) (low high n : ℕ) (w v : Line) : Type 0 where
  pub tame : Tame h p low high n v
  pub dumps : v.dumps ≡ w.dumps
  pub begun : v.begun ≡ w.begun
  pub no_ack : begins_with_ack (bytes_of w.flight) ≡ false → begins_with_ack (bytes_of v.flight) ≡ false

or_false : (a b : Bool) → (a || b) ≡ false → (a ≡ false) × (b ≡ false)
or_false true b e = absurd cc
or_false false b e = (refl, e)

meek_one : (h : List (List ℕ)) (p : Plan) (low high n : ℕ) (f : FatesByNumber) → AreMild f → (o : Outcome) (w : Line) → Tame h p low high n w → Plain h p low high o → is_page o.kind ≡ false → (happens f o w).unseen ≡ None → Meekly h p low high (n + page_size) w (happens f o w)
meek_one h p low high n f mild o w t q z u = record {
  tame = tame_joins h p low high n f mild o.kind o w high t (q.same z) q.size;
  dumps = dumps_joins o.kind f o w q.begins;
  begun = begun_joins o.kind f o w;
  no_ack = no_ack_joins h p low high n f mild o.kind o w refl q.meek z u;
}

pub hears_meekly : (h : List (List ℕ)) (p : Plan) (low high : ℕ) (f : FatesByNumber) → AreMild f → (got : List ℕ) (n : ℕ) (w : Line) → Tame h p low high n w → completes got w.console ≡ false → pages got w.console ≡ false → (hears f got w).unseen ≡ None →
    Meekly h p low high (n + page_size * length got) w (hears f got w)
hears_meekly h p low high f mild [] n w t c g u = record { tame = record { near = t.near; few = t.few; closed = t.closed; size = omega (arith, t.size) }; dumps = refl; begun = refl; no_ack = λ e. e }
hears_meekly h p low high f mild (x ∷ got) n w t c g u =
    let o = hear w.console x in
    let c2 = or_false o.completes (completes got o.next) c in
    let g2 = or_false (is_page o.kind) (pages got o.next) g in
    let one = meek_one h p low high n f mild o w t (hears_plainly h p low high w.console x t.near c2.0) g2.0 (hears_unseen f got (happens f o w) u) in
    let e : (happens f o w).console ≡ o.next = console_joins o.kind f o w in
    let more = hears_meekly h p low high f mild got (n + page_size) (happens f o w) one.tame (ap (completes got) e ∙ c2.1) (ap (pages got) e ∙ g2.1) u in
    record {
      tame = record { near = more.tame.near; few = more.tame.few; closed = more.tame.closed; size = omega (arith, more.tame.size) };
      dumps = more.dumps ∙ one.dumps;
      begun = more.begun ∙ one.begun;
      no_ack = λ z. more.no_ack (one.no_ack z);
    }

-- a message of one byte at most, wherever the console stands near a dump
pub hears_any : (h : List (List ℕ)) (p : Plan) (low high : ℕ) (f : FatesByNumber) → AreMild f → (got : List ℕ) (n : ℕ) (w : Line) → length got ≤ 1 → Tame h p low high n w → completes got w.console ≡ false →
    Tame h p low (high + 1) (n + page_size) (hears f got w) × ((hears f got w).dumps ≡ w.dumps) × ((hears f got w).begun ≡ w.begun)
hears_any h p low high f mild [] n w z t c = (record { near = wider h p low high w.console t.near; few = t.few; closed = t.closed; size = omega (arith, t.size) }, refl, refl)
hears_any h p low high f mild (x ∷ []) n w z t c =
    let o = hear w.console x in
    let q = hears_plainly h p low high w.console x t.near (or_false o.completes false c).0 in
    (tame_joins h p low high n f mild o.kind o w (high + 1) t q.near q.size, dumps_joins o.kind f o w q.begins, begun_joins o.kind f o w)
hears_any h p low high f mild (x ∷ y ∷ got) n w z t c = absurd (omega arith)
