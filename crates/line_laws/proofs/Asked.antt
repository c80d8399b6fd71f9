-- One byte that is said to a console near a dump, and the answer.
use Rattle.std.proofs.Common.{Option, Some, None, ◌≡◌, ℕ, ◌+◌, ◌-◌, ◌≤◌, if◌then◌else◌, Bool, true, false, List, [], ◌∷◌, length, refl, sym, subst, ◌∙◌, ap, arith}
use Rattle.std.specs.Prelude.{nat_lt}
use Rattle.console_model.specs.Console.{Store, ConsoleState, Console, Outcome, most_held}
use Rattle.console_ring.specs.declared.plan.Plan.{Plan}
use Rattle.console_model.specs.declared.signal.Signal.{Signal}
use Rattle.console_model.specs.Reading.{signal, read_order}
use Rattle.console_ring.specs.Picture.{page_of}
use Rattle.console_model.specs.Console.ConsoleState.{Asleep, Command, Overlong, Frame, Dump, Looping}
use Rattle.console_model.specs.declared.reply.ReplyKind.TheVariants.{Nothing, Wake, Page}
use Rattle.console_model.specs.declared.signal.Signal.TheVariants.{Lf, Next, Again, Stop, Other}
use Rattle.console_model.specs.Hear.{hear, heard_in, sends_page, dump_ended}
use Rattle.console_model.specs.Line.{silent, to}
use Rattle.console_model.specs.Due.{due, due_in_state, due_by, put, hold, in_the_way}
use Rattle.console_model.specs.declared.order.Order.TheVariants.{Empty}
use Rattle.console_model.proofs.Orders.{read_empty}
use Rattle.station_base.specs.CivilMinute.{CivilMinute}
use Rattle.vantage_frames.specs.Slots.{page_size}
use Rattle.station_sim.specs.Line.{due_all}
use Rattle.station_sim.specs.Calm.{ConsoleRests}
use Rattle.line_laws.specs.Host.{Near, NearAt}
use Rattle.station_sim.specs.Sound.{AreRecords}
use Rattle.line_laws.proofs.Delivery.{page_length}

abbrev pub at_state : List (List ℕ) → Store → List (List ℕ) → ConsoleState → ℕ → Console
at_state g d hs s i = record { history = g; store = d; held = hs; state = s; idle = i }

-- what a console that rests near a dump answers to a byte
pub data Answer (h : List (List ℕ)) (p : Plan) (low high : ℕ) (o : Outcome) : Type 0 where
  a_page : (m : ℕ) → o.kind ≡ Page → o.bytes ≡ page_of h p m → length o.bytes ≡ page_size → low ≤ m + 1 → m + 1 ≤ high + 1 → Near h p (m + 1) (m + 1) o.next → ConsoleRests o.next.state
      → ((d : Store) × (hs : List (List ℕ)) × (o.next ≡ at_state h d hs (Dump p (m + 1)) 0)) → Answer h p low high o
  a_wake : o.kind ≡ Wake → length o.bytes ≤ 2 → Answer h p low high o
  nothing : o.kind ≡ Nothing → Answer h p low high o

pub record Hearing (h : List (List ℕ)) (p : Plan) (low high : ℕ) (o : Outcome) : Type 0 where
  pub near : Near h p low (high + 1) o.next
  pub begins : o.begins ≡ []
  pub answer : Answer h p low high o

hears_silent : (h : List (List ℕ)) (p : Plan) (low high : ℕ) (c : Console) → Near h p low (high + 1) c → Hearing h p low high (silent c)
hears_silent h p low high c n = record { near = n; begins = refl; answer = nothing refl }

hears_page : (h : List (List ℕ)) (p q : Plan) (low high m : ℕ) (c : Console) → q ≡ p → c.history ≡ h → low ≤ m + 1 → m + 1 ≤ high + 1 → AreRecords h → Hearing h p low high (sends_page q m c)
hears_page h p q low high m c e g a b ok = record {
  near = (e, g, a, b, ok);
  begins = refl;
  answer = a_page m refl (ap (λ x. page_of c.history x m) e ∙ ap (λ x. page_of x p m) g) (page_length c.history q m (subst AreRecords (sym g) ok)) a b (e, g, omega arith, omega arith, ok) tt
      (c.store, c.held, ap (λ x. at_state x c.store c.held (Dump q (m + 1)) 0) g ∙ ap (λ x. at_state h c.store c.held (Dump x (m + 1)) 0) e);
}

next_page : (h : List (List ℕ)) (p q : Plan) (low high sent : ℕ) (c : Console) → q ≡ p → c.history ≡ h → low ≤ sent → sent ≤ high → AreRecords h → (more : Bool) →
    Hearing h p low high (if more then sends_page q sent c else silent (to (dump_ended c) (Command [])))
next_page h p q low high sent c e g a b ok true = hears_page h p q low high sent c e g (omega arith) (omega arith) ok
next_page h p q low high sent c e g a b ok false = hears_silent h p low high _ tt

empty_line : (line : List ℕ) → line ≡ [] → read_order line ≡ Empty
empty_line line e = ap read_order e ∙ read_empty [] refl

hear_by : (h : List (List ℕ)) (p : Plan) (low high : ℕ) (s : ConsoleState) (m : Signal) (x : ℕ) (g : List (List ℕ)) (d : Store) (hs : List (List ℕ)) (i : ℕ) → NearAt h p low high s i g → ConsoleRests s →
    Hearing h p low high (heard_in s m x (record { history = g; store = d; held = hs; state = s; idle = i }))
hear_by h p low high Asleep m x g d hs i n r = hears_silent h p low high _ tt
hear_by h p low high (Command line) Lf x g d hs i n r = rw (empty_line line r) (record { near = tt; begins = refl; answer = a_wake refl (omega arith) })
hear_by h p low high (Command line) Next x g d hs i n r = rw r (hears_silent h p low high _ (omega arith))
hear_by h p low high (Command line) Again x g d hs i n r = rw r (hears_silent h p low high _ (omega arith))
hear_by h p low high (Command line) Stop x g d hs i n r = rw r (hears_silent h p low high _ (omega arith))
hear_by h p low high (Command line) Other x g d hs i n r = rw r (hears_silent h p low high _ (omega arith))
hear_by h p low high Overlong m x g d hs i n r = absurd r
hear_by h p low high (Frame kind got) m x g d hs i n r = absurd r
hear_by h p low high (Dump q sent) Lf x g d hs i n r = rw (empty_line [] refl) (record { near = tt; begins = refl; answer = a_wake refl (omega arith) })
hear_by h p low high (Dump q sent) Next x g d hs i n r = next_page h p q low high sent (at_state g d hs (Dump q sent) i) n.0 n.1 n.2 n.3 n.4 (nat_lt sent q.pages)
hear_by h p low high (Dump q sent) Again x g d hs i n r = hears_page h p q low high (sent - 1) (at_state g d hs (Dump q sent) i) n.0 n.1 (omega (arith, n.2, n.3)) (omega (arith, n.2, n.3)) n.4
hear_by h p low high (Dump q sent) Stop x g d hs i n r = hears_silent h p low high _ tt
hear_by h p low high (Dump q sent) Other x g d hs i n r = hears_silent h p low high _ (omega arith)
hear_by h p low high (Looping k) m x g d hs i n r = absurd r

pub hears_one : (h : List (List ℕ)) (p : Plan) (low high : ℕ) (c : Console) (x : ℕ) → Near h p low high c → ConsoleRests c.state → Hearing h p low high (hear c x)
hears_one h p low high c x n r = hear_by h p low high c.state (signal x) x c.history c.store c.held c.idle n r

near_if : (h : List (List ℕ)) (p : Plan) (low high : ℕ) (t : Bool) (a b : Console) → Near h p low high a → Near h p low high b → Near h p low high (if t then a else b)
near_if h p low high true a b x y = x
near_if h p low high false a b x y = y

rests_if : (t : Bool) (a b : Console) → ConsoleRests a.state → ConsoleRests b.state → ConsoleRests (if t then a else b).state
rests_if true a b x y = x
rests_if false a b x y = y

near_due_by : (h : List (List ℕ)) (p : Plan) (low high : ℕ) (s : ConsoleState) (r : List ℕ) (g : List (List ℕ)) (d : Store) (hs : List (List ℕ)) (i : ℕ) → NearAt h p low high s i g → Near h p low high (due_in_state s r (at_state g d hs s i))
near_due_by h p low high Asleep r g d hs i n = tt
near_due_by h p low high (Command []) r g d hs i n = tt
near_due_by h p low high (Command (b ∷ line)) r g d hs i n = n
near_due_by h p low high Overlong r g d hs i n = n
near_due_by h p low high (Frame kind got) r g d hs i n = n
near_due_by h p low high (Dump q sent) r g d hs i n = near_if h p low high (nat_lt (length hs) most_held) (hold r (at_state g d hs (Dump q sent) i)) (put r (dump_ended (at_state g d hs (Dump q sent) i))) n tt
near_due_by h p low high (Looping k) r g d hs i n = n

rests_due_by : (s : ConsoleState) (r : List ℕ) (g : List (List ℕ)) (d : Store) (hs : List (List ℕ)) (i : ℕ) → ConsoleRests s → ConsoleRests (due_in_state s r (at_state g d hs s i)).state
rests_due_by Asleep r g d hs i n = tt
rests_due_by (Command line) r g d hs i n = n
rests_due_by Overlong r g d hs i n = n
rests_due_by (Frame kind got) r g d hs i n = n
rests_due_by (Dump q sent) r g d hs i n = rests_if (nat_lt (length hs) most_held) (hold r (at_state g d hs (Dump q sent) i)) (put r (dump_ended (at_state g d hs (Dump q sent) i))) tt refl
rests_due_by (Looping k) r g d hs i n = n

near_way : (h : List (List ℕ)) (p : Plan) (low high : ℕ) (way : Option CivilMinute) (r : List ℕ) (c : Console) → Near h p low high (due_in_state c.state r c) → Near h p low high c → Near h p low high (due_by way r c)
near_way h p low high None r c put not = put
near_way h p low high (Some newest) r c put not = not

rests_way : (way : Option CivilMinute) (r : List ℕ) (c : Console) → ConsoleRests (due_in_state c.state r c).state → ConsoleRests c.state → ConsoleRests (due_by way r c).state
rests_way None r c put not = put
rests_way (Some newest) r c put not = not

pub near_due_all : (h : List (List ℕ)) (p : Plan) (low high : ℕ) (rs : List (List ℕ)) (c : Console) → Near h p low high c → Near h p low high (due_all rs c)
near_due_all h p low high [] c n = n
near_due_all h p low high (r ∷ rs) c n = near_due_all h p low high rs (due r c)
    (near_way h p low high (in_the_way r c) r c (near_due_by h p low high c.state r c.history c.store c.held c.idle n) n)

pub rests_due_all : (rs : List (List ℕ)) (c : Console) → ConsoleRests c.state → ConsoleRests (due_all rs c).state
rests_due_all [] c n = n
rests_due_all (r ∷ rs) c n = rests_due_all rs (due r c)
    (rests_way (in_the_way r c) r c (rests_due_by c.state r c.history c.store c.held c.idle n) n)

wider_by : (h : List (List ℕ)) (p : Plan) (low high : ℕ) (s : ConsoleState) (i : ℕ) (g : List (List ℕ)) → NearAt h p low high s i g → NearAt h p low (high + 1) s i g
wider_by h p low high Asleep i g n = n
wider_by h p low high (Command []) i g n = n
wider_by h p low high (Command (b ∷ l)) i g n = n
wider_by h p low high Overlong i g n = n
wider_by h p low high (Frame k l) i g n = n
wider_by h p low high (Dump q s) i g n = (n.0, n.1, n.2, omega (arith, n.3), n.4)
wider_by h p low high (Looping k) i g n = n

pub wider : (h : List (List ℕ)) (p : Plan) (low high : ℕ) (c : Console) → Near h p low high c → Near h p low (high + 1) c
wider h p low high c n = wider_by h p low high c.state c.idle c.history n
