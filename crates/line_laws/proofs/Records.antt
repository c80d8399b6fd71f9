-- No attempt clears the ring: what was put and what is held grow by what falls due.
use Rattle.std.proofs.Common.{Option, ◌≡◌, ℕ, ◌+◌, ◌-◌, ◌<◌, ◌==◌, if◌then◌else◌, Bool, true, false, ◌||◌, inl, inr, List, [], ◌∷◌, ◌++◌, length, Some, None, refl, sym, ◌∙◌, ap, subst, arith, append_assoc, append-nil}
use Rattle.std.specs.Prelude.{nat_lt, take, IfSome, IsSomeAnd}
use Rattle.std.proofs.lemmas.Option.{same_Some}
use Rattle.console_model.specs.Console.{Store, ConsoleState, Console, Outcome, Begun, most_held}
use Rattle.console_ring.specs.declared.plan.Plan.{Plan}
use Rattle.console_model.specs.declared.reply.ReplyKind.{ReplyKind}
use Rattle.console_model.specs.declared.signal.Signal.{Signal}
use Rattle.console_model.specs.declared.order.Order.{Order}
use Rattle.console_model.specs.declared.frame.FrameKind.{FrameKind}
use Rattle.console_model.specs.Reading.{signal, read_order}
use Rattle.crc_ccitt.specs.Check.{is_good}
use Rattle.console_model.specs.Spelling.{plan_after}
use Rattle.console_model.specs.Clock.{is_time}
use Rattle.console_model.specs.FrameSize.{frame_size}
use Rattle.console_model.specs.declared.order.Order.TheVariants.{Empty, Unknown, Known}
use Rattle.vantage_frames.specs.declared.command.Command.{Command as Ordered}
use Rattle.vantage_frames.specs.declared.command.Command.TheVariants as command
use Rattle.console_model.proofs.Orders.{read_empty}
use Rattle.console_model.specs.Laws.{records_of}
use Rattle.console_model.specs.Tick.{idle_after}
use Rattle.station_base.specs.CivilMinute.{CivilMinute, minute_of}
use Rattle.archive_record.specs.Reading.{stamp_in}
use Rattle.console_ring.specs.History.{newest_stamp, CanExtend}
use Rattle.std.proofs.lemmas.Bool.Decides.{nat_tests}
use Rattle.console_model.specs.declared.frame.FrameKind.TheVariants.{ForDump, ForBytes, ForTime}
use Rattle.console_model.specs.Console.ConsoleState.{Asleep, Command, Overlong, Frame, Dump, Looping}
use Rattle.console_model.specs.declared.reply.ReplyKind.TheVariants.{Nothing, Code, Test, Wake, Ack, AckFrame, Page, Packet}
use Rattle.console_model.specs.declared.signal.Signal.TheVariants.{Lf, Next, Again, Stop, Other}
use Rattle.console_model.specs.Hear.{hear, heard_in, dump_ended}
use Rattle.console_model.specs.Tick.{tick, ticked_in}
use Rattle.console_model.specs.Line.{obeyed, at_line, silent, to}
use Rattle.console_model.specs.Frame.{at_frame}
use Rattle.console_model.specs.Due.{due_by, in_the_way, unexceeded, due, due_in_state, put, hold}
use Rattle.schedule_file.specs.Fates.{FatesByNumber}
use Rattle.station_sim.specs.Delivery.{delivered}
use Rattle.station_sim.specs.Line.{sends_message, Line, flies, happens, joins, reply_joins, hears, completes, message_counted, waited, due_all}
use Rattle.serial_link.specs.declared.talk.TalkItem.{TalkItem}
use Rattle.station_sim.specs.Talk.{console_talk, line_step}
use Rattle.serial_link.specs.declared.talk.TalkItem.TheVariants.{Said, Heard, Quiet}
use Rattle.line_laws.specs.Host.{OnlyListens}
use Rattle.console_model.specs.Valid.{IsTidy, EachFollows}
use Rattle.causes.specs.Lists.{IsFrontOf}
use Rattle.line_laws.specs.Records.{BegunIn, Sums, Now}
use Rattle.line_laws.proofs.Asked.{at_state}
use Rattle.station_sim.specs.Joining.{and_then_some}
use Rattle.line_laws.proofs.FrameStage.{hearing_is, waiting_is}
use Rattle.line_laws.proofs.Plainly.{begun_joins}
use Rattle.line_laws.proofs.Messages.{harm_cases, seen_host}
use Rattle.station_sim.specs.Falling.{FallDue}
use Rattle.station_sim.proofs.SoundLines.{console_joins}

abbrev pub is_clearing : Ordered → Bool
is_clearing command.Test = false
is_clearing command.Kind = false
is_clearing (command.LoopFor n) = false
is_clearing command.DumpAfter = false
is_clearing (command.EepromRead p n) = false
is_clearing (command.EepromWrite p n) = false
is_clearing command.EepromAll = false
is_clearing command.TimeGet = false
is_clearing command.TimeSet = false
is_clearing (command.SetPeriod n) = true
is_clearing command.ClearLog = true

abbrev pub is_clear : Order → Bool
is_clear Empty = false
is_clear Unknown = false
is_clear (Known c) = is_clearing c

-- whether a byte completes a command that clears the ring
abbrev pub clears : ConsoleState → Signal → Bool
clears Asleep m = false
clears (Command line) Lf = is_clear (read_order line)
clears (Command line) Next = false
clears (Command line) Again = false
clears (Command line) Stop = false
clears (Command line) Other = false
clears Overlong m = false
clears (Frame kind got) m = false
clears (Dump p sent) m = false
clears (Looping n) m = false

-- an event that keeps the records
pub record Same (r : List (List ℕ)) (o : Outcome) : Type 0 where
  pub recs : records_of o.next ≡ r
  pub tidy : IsTidy o.next.state o.next.held
  pub begins : BegunIn r o.begins

same_if : (r : List (List ℕ)) (t : Bool) (a b : Outcome) → Same r a → Same r b → Same r (if t then a else b)
same_if r true a b x y = x
same_if r false a b x y = y

tidy_line : (t : Bool) (line : List ℕ) (hs : List (List ℕ)) → hs ≡ [] → IsTidy (if t then Command line else Overlong) hs
tidy_line true line hs e = e
tidy_line false line hs e = e

tidy_start : (p : Plan) (t : Bool) (hs : List (List ℕ)) → hs ≡ [] → IsTidy (if t then Command [] else Dump p 0) hs
tidy_start p true hs e = e
tidy_start p false hs e = tt

obeyed_same : (command : Ordered) (s : ConsoleState) (g : List (List ℕ)) (d : Store) (hs : List (List ℕ)) (i : ℕ) → hs ≡ [] → is_clearing command ≡ false → Same (g ++ hs) (obeyed command (at_state g d hs s i))
obeyed_same command.Test s g d hs i e z = record { recs = refl; tidy = e; begins = tt }
obeyed_same command.Kind s g d hs i e z = record { recs = refl; tidy = e; begins = tt }
obeyed_same (command.LoopFor n) s g d hs i e z = record { recs = refl; tidy = e; begins = tt }
obeyed_same command.DumpAfter s g d hs i e z = record { recs = refl; tidy = e; begins = tt }
obeyed_same (command.EepromRead p n) s g d hs i e z = record { recs = refl; tidy = e; begins = tt }
obeyed_same (command.EepromWrite p n) s g d hs i e z = record { recs = refl; tidy = e; begins = tt }
obeyed_same command.EepromAll s g d hs i e z = record { recs = refl; tidy = e; begins = tt }
obeyed_same command.TimeGet s g d hs i e z = record { recs = refl; tidy = e; begins = tt }
obeyed_same command.TimeSet s g d hs i e z = record { recs = refl; tidy = e; begins = tt }
obeyed_same (command.SetPeriod n) s g d hs i e z = absurd cc
obeyed_same command.ClearLog s g d hs i e z = absurd cc

line_same : (o : Order) (s : ConsoleState) (g : List (List ℕ)) (d : Store) (hs : List (List ℕ)) (i : ℕ) → hs ≡ [] → is_clear o ≡ false → Same (g ++ hs) (at_line o (at_state g d hs s i))
line_same Empty s g d hs i e z = record { recs = refl; tidy = e; begins = tt }
line_same Unknown s g d hs i e z = record { recs = refl; tidy = e; begins = tt }
line_same (Known command) s g d hs i e z = obeyed_same command s g d hs i e z

frame_same : (kind : FrameKind) (frame : List ℕ) (s : ConsoleState) (g : List (List ℕ)) (d : Store) (hs : List (List ℕ)) (i : ℕ) → hs ≡ [] → Same (g ++ hs) (at_frame kind frame (at_state g d hs s i))
frame_same ForDump frame s g d hs i e = same_if (g ++ hs) (is_good frame) _ _
    (record { recs = refl; tidy = tidy_start (plan_after g frame) ((plan_after g frame).pages == 0) hs e; begins = ((hs, refl), tt) })
    (record { recs = refl; tidy = e; begins = tt })
frame_same (ForBytes p n) frame s g d hs i e = same_if (g ++ hs) (is_good frame) _ _ (record { recs = refl; tidy = e; begins = tt }) (record { recs = refl; tidy = e; begins = tt })
frame_same ForTime frame s g d hs i e = same_if (g ++ hs) (is_good frame) _ _ (same_if (g ++ hs) (is_time (take 6 frame)) _ _ (record { recs = refl; tidy = e; begins = tt }) (record { recs = refl; tidy = e; begins = tt })) (record { recs = refl; tidy = e; begins = tt })

empty_is : read_order [] ≡ Empty
empty_is = read_empty [] refl

hear_same : (s : ConsoleState) (m : Signal) (x : ℕ) (g : List (List ℕ)) (d : Store) (hs : List (List ℕ)) (i : ℕ) → IsTidy s hs → clears s m ≡ false → Same (g ++ hs) (heard_in s m x (at_state g d hs s i))
hear_same Asleep m x g d hs i t z = record { recs = refl; tidy = t; begins = tt }
hear_same (Command line) Lf x g d hs i t z = line_same (read_order line) (Command line) g d hs i t z
hear_same (Command line) Next x g d hs i t z = record { recs = refl; tidy = tidy_line (nat_lt (length line) 32) (line ++ x ∷ []) hs t; begins = tt }
hear_same (Command line) Again x g d hs i t z = record { recs = refl; tidy = tidy_line (nat_lt (length line) 32) (line ++ x ∷ []) hs t; begins = tt }
hear_same (Command line) Stop x g d hs i t z = record { recs = refl; tidy = tidy_line (nat_lt (length line) 32) (line ++ x ∷ []) hs t; begins = tt }
hear_same (Command line) Other x g d hs i t z = record { recs = refl; tidy = tidy_line (nat_lt (length line) 32) (line ++ x ∷ []) hs t; begins = tt }
hear_same Overlong Lf x g d hs i t z = record { recs = refl; tidy = t; begins = tt }
hear_same Overlong Next x g d hs i t z = record { recs = refl; tidy = t; begins = tt }
hear_same Overlong Again x g d hs i t z = record { recs = refl; tidy = t; begins = tt }
hear_same Overlong Stop x g d hs i t z = record { recs = refl; tidy = t; begins = tt }
hear_same Overlong Other x g d hs i t z = record { recs = refl; tidy = t; begins = tt }
hear_same (Frame kind got) m x g d hs i t z = same_if (g ++ hs) (nat_lt (length got + 1) (frame_size kind)) (silent (to (at_state g d hs (Frame kind got) i) (Frame kind (got ++ x ∷ [])))) (at_frame kind (got ++ x ∷ []) (at_state g d hs (Frame kind got) i)) (record { recs = refl; tidy = t; begins = tt }) (frame_same kind (got ++ x ∷ []) (Frame kind got) g d hs i t)
hear_same (Dump p sent) Lf x g d hs i t z = rw empty_is (record { recs = append-nil (g ++ hs); tidy = refl; begins = tt })
hear_same (Dump p sent) Next x g d hs i t z = same_if (g ++ hs) (nat_lt sent p.pages) _ _ (record { recs = refl; tidy = tt; begins = tt }) (record { recs = append-nil (g ++ hs); tidy = refl; begins = tt })
hear_same (Dump p sent) Again x g d hs i t z = record { recs = refl; tidy = tt; begins = tt }
hear_same (Dump p sent) Stop x g d hs i t z = record { recs = append-nil (g ++ hs); tidy = refl; begins = tt }
hear_same (Dump p sent) Other x g d hs i t z = record { recs = append-nil (g ++ hs); tidy = refl; begins = tt }
hear_same (Looping n) m x g d hs i t z = record { recs = refl; tidy = t; begins = tt }

tidy_loop : (t : Bool) (n i : ℕ) (g : List (List ℕ)) (d : Store) (hs : List (List ℕ)) → hs ≡ [] → (let c = (if t then at_state g d hs (Looping n) i else at_state g d hs (Command []) 0) in (records_of c ≡ g ++ hs) × IsTidy c.state c.held)
tidy_loop true n i g d hs e = (refl, e)
tidy_loop false n i g d hs e = (refl, e)

tick_same : (s : ConsoleState) (three much fifth : Bool) (g : List (List ℕ)) (d : Store) (hs : List (List ℕ)) (i : ℕ) → IsTidy s hs → Same (g ++ hs) (ticked_in s three much fifth (at_state g d hs s i))
tick_same Asleep three much fifth g d hs i t = record { recs = refl; tidy = t; begins = tt }
tick_same (Command []) three true fifth g d hs i t = record { recs = refl; tidy = t; begins = tt }
tick_same (Command []) three false fifth g d hs i t = record { recs = refl; tidy = t; begins = tt }
tick_same (Command (b ∷ line)) true much fifth g d hs i t = record { recs = refl; tidy = t; begins = tt }
tick_same (Command (b ∷ line)) false much fifth g d hs i t = record { recs = refl; tidy = t; begins = tt }
tick_same Overlong true much fifth g d hs i t = record { recs = refl; tidy = t; begins = tt }
tick_same Overlong false much fifth g d hs i t = record { recs = refl; tidy = t; begins = tt }
tick_same (Frame kind got) true much fifth g d hs i t = record { recs = refl; tidy = t; begins = tt }
tick_same (Frame kind got) false much fifth g d hs i t = record { recs = refl; tidy = t; begins = tt }
tick_same (Dump p sent) three true fifth g d hs i t = record { recs = append-nil (g ++ hs); tidy = refl; begins = tt }
tick_same (Dump p sent) three false fifth g d hs i t = record { recs = refl; tidy = tt; begins = tt }
tick_same (Looping n) three much true g d hs i t = let q = tidy_loop (nat_lt 1 n) (n - 1) i g d hs t in record { recs = q.0; tidy = q.1; begins = tt }
tick_same (Looping n) three much false g d hs i t = record { recs = refl; tidy = t; begins = tt }

-- a byte that completes nothing clears nothing
obeyed_completes : (command : Ordered) (c : Console) → (obeyed command c).completes ≡ false → is_clearing command ≡ false
obeyed_completes command.Test c e = absurd cc
obeyed_completes command.Kind c e = absurd cc
obeyed_completes (command.LoopFor n) c e = absurd cc
obeyed_completes command.DumpAfter c e = absurd cc
obeyed_completes (command.EepromRead p n) c e = absurd cc
obeyed_completes (command.EepromWrite p n) c e = absurd cc
obeyed_completes command.EepromAll c e = absurd cc
obeyed_completes command.TimeGet c e = absurd cc
obeyed_completes command.TimeSet c e = absurd cc
obeyed_completes (command.SetPeriod n) c e = absurd cc
obeyed_completes command.ClearLog c e = absurd cc

line_completes : (o : Order) (c : Console) → (at_line o c).completes ≡ false → is_clear o ≡ false
line_completes Empty c e = refl
line_completes Unknown c e = refl
line_completes (Known command) c e = obeyed_completes command c e

unclear_by : (s : ConsoleState) (m : Signal) (x : ℕ) (c : Console) → (heard_in s m x c).completes ≡ false → clears s m ≡ false
unclear_by Asleep m x c e = refl
unclear_by (Command line) Lf x c e = line_completes (read_order line) c e
unclear_by (Command line) Next x c e = refl
unclear_by (Command line) Again x c e = refl
unclear_by (Command line) Stop x c e = refl
unclear_by (Command line) Other x c e = refl
unclear_by Overlong m x c e = refl
unclear_by (Frame kind got) m x c e = refl
unclear_by (Dump p sent) m x c e = refl
unclear_by (Looping n) m x c e = refl

-- bytes of which none completes a command that clears
abbrev pub Unclear : List ℕ → Console → Type 0
Unclear [] c = Unit {0}
Unclear (b ∷ bs) c = (clears c.state (signal b) ≡ false) × Unclear bs (hear c b).next

or_false : (a b : Bool) → (a || b) ≡ false → (a ≡ false) × (b ≡ false)
or_false true b e = absurd cc
or_false false b e = (refl, e)

pub completes_none : (got : List ℕ) (c : Console) → completes got c ≡ false → Unclear got c
completes_none [] c e = tt
completes_none (b ∷ got) c e = let q = or_false (hear c b).completes (completes got (hear c b).next) e in (unclear_by c.state (signal b) b c q.0, completes_none got (hear c b).next q.1)

begun_join : (r : List (List ℕ)) (a b : List Begun) → BegunIn r a → BegunIn r b → BegunIn r (a ++ b)
begun_join r [] b x y = y
begun_join r (h ∷ a) b x y = (x.0, begun_join r a b x.1 y)

pub prefix_more : (x r rest all : List (List ℕ)) → IsFrontOf x r → r ++ rest ≡ all → IsFrontOf x all
prefix_more x r rest all p e = (p.0 ++ rest, sym (append_assoc x p.0 rest) ∙ ap (λ y. y ++ rest) p.1 ∙ e)

pub begun_more : (r rest all : List (List ℕ)) (bs : List Begun) → BegunIn r bs → r ++ rest ≡ all → BegunIn all bs
begun_more r rest all [] b e = tt
begun_more r rest all (h ∷ bs) b e = (prefix_more h.history r rest all b.0 e, begun_more r rest all bs b.1 e)

sums_replied : (f : FatesByNumber) (o : Outcome) (w : Line) (r rest all : List (List ℕ)) → Same r o → r ++ rest ≡ all → BegunIn all w.dumps → Sums rest all (reply_joins f o w)
sums_replied f o w r rest all s e b = record { sum = ap (λ x. x ++ rest) s.recs ∙ e; tidy = s.tidy; begun = begun_join all w.dumps o.begins b (begun_more r rest all o.begins s.begins e) }

sums_joins : (k : ReplyKind) (f : FatesByNumber) (o : Outcome) (w : Line) (r rest all : List (List ℕ)) → Same r o → r ++ rest ≡ all → BegunIn all w.dumps → Sums rest all (joins k f o w)
sums_joins Nothing f o w r rest all s e b = record { sum = ap (λ x. x ++ rest) s.recs ∙ e; tidy = s.tidy; begun = b }
sums_joins Code f o w r rest all s e b = sums_replied f o w r rest all s e b
sums_joins Wake f o w r rest all s e b = sums_replied f o w r rest all s e b
sums_joins Test f o w r rest all s e b = sums_replied f o w r rest all s e b
sums_joins Ack f o w r rest all s e b = sums_replied f o w r rest all s e b
sums_joins AckFrame f o w r rest all s e b = sums_replied f o w r rest all s e b
sums_joins Page f o w r rest all s e b = sums_replied f o w r rest all s e b
sums_joins Packet f o w r rest all s e b = sums_replied f o w r rest all s e b

messages_joins : (k : ReplyKind) (f : FatesByNumber) (o : Outcome) (w : Line) → (joins k f o w).messages ≡ w.messages
messages_joins Nothing f o w = refl
messages_joins Code f o w = refl
messages_joins Wake f o w = refl
messages_joins Test f o w = refl
messages_joins Ack f o w = refl
messages_joins AckFrame f o w = refl
messages_joins Page f o w = refl
messages_joins Packet f o w = refl

pub sums_tick : (f : FatesByNumber) (w : Line) (rest all : List (List ℕ)) → Sums rest all w → Sums rest all (happens f (tick w.console) w)
sums_tick f w rest all s = let c = w.console in sums_joins (tick c).kind f (tick c) w (records_of c) rest all (tick_same c.state _ _ _ c.history c.store c.held (idle_after c.state c.idle) s.tidy) s.sum s.begun

sums_hears : (f : FatesByNumber) (got : List ℕ) (w : Line) (rest all : List (List ℕ)) → Sums rest all w → Unclear got w.console → Sums rest all (hears f got w)
sums_hears f [] w rest all s u = s
sums_hears f (b ∷ got) w rest all s u =
    let c = w.console in
    let o = hear c b in
    sums_hears f got (happens f o w) rest all (sums_joins o.kind f o w (records_of c) rest all (hear_same c.state (signal b) b c.history c.store c.held c.idle s.tidy u.0) s.sum s.begun)
    (subst (Unclear got) (sym (console_joins o.kind f o w)) u.1)

hears_messages : (f : FatesByNumber) (got : List ℕ) (w : Line) → (hears f got w).messages ≡ w.messages
hears_messages f [] w = refl
hears_messages f (b ∷ got) w = let o = hear w.console b in hears_messages f got (happens f o w) ∙ messages_joins o.kind f o w

pub hears_begun : (f : FatesByNumber) (got : List ℕ) (w : Line) → (hears f got w).begun ≡ w.begun
hears_begun f [] w = refl
hears_begun f (b ∷ got) w = let o = hear w.console b in hears_begun f got (happens f o w) ∙ begun_joins o.kind f o w

-- records that fall due
follows_at : (h xs : List (List ℕ)) (r : List ℕ) (ys : List (List ℕ)) → EachFollows h (xs ++ r ∷ ys) → CanExtend (h ++ xs) r
follows_at h [] r ys each = subst (λ (x : List (List ℕ)). CanExtend x r) (sym (append-nil h)) each.0
follows_at h (x ∷ xs) r ys each = subst (λ (z : List (List ℕ)). CanExtend z r) (append_assoc h (x ∷ []) xs) (follows_at (h ++ x ∷ []) xs r ys each.1)

nothing_by : (newest stamp : Option CivilMinute) → IsSomeAnd stamp (λ s. IfSome newest (λ n. minute_of n < minute_of s)) → unexceeded newest stamp ≡ None
nothing_by newest None follows = absurd follows
nothing_by None (Some s) follows = refl
nothing_by (Some n) (Some s) follows =
    let less : nat_lt (minute_of n) (minute_of s) ≡ true = grind (arith, nat_tests, follows) in
    ap (λ (t : Bool). if t then None else Some n) less

-- nothing is in the way of a record that comes behind these
unhindered : (r : List ℕ) (c : Console) (rest all : List (List ℕ)) → EachFollows [] all → records_of c ++ (r ∷ rest) ≡ all → in_the_way r c ≡ None
unhindered r c rest all rises e = nothing_by (newest_stamp (records_of c)) (stamp_in r) (follows_at [] (records_of c) r rest (subst (EachFollows []) (sym e) rises))

Fallen : List (List ℕ) → List (List ℕ) → Console → Type 0
Fallen rest all c = (records_of c ++ rest ≡ all) × IsTidy c.state c.held

fallen_if : (rest all : List (List ℕ)) (t : Bool) (a b : Console) → Fallen rest all a → Fallen rest all b → Fallen rest all (if t then a else b)
fallen_if rest all true a b x y = x
fallen_if rest all false a b x y = y

fallen_put : (r : List ℕ) (s : ConsoleState) (g : List (List ℕ)) (d : Store) (hs : List (List ℕ)) (i : ℕ) (rest all : List (List ℕ)) → hs ≡ [] → IsTidy s hs → (g ++ hs) ++ (r ∷ rest) ≡ all → Fallen rest all (put r (at_state g d hs s i))
unfolding Fallen
fallen_put r s g d hs i rest all none t e =
    (ap (λ x. ((g ++ r ∷ []) ++ x) ++ rest) none ∙ ap (λ x. x ++ rest) (append-nil (g ++ r ∷ [])) ∙ append_assoc g (r ∷ []) rest ∙ ap (λ x. x ++ (r ∷ rest)) (sym (append-nil g)) ∙ ap (λ x. (g ++ x) ++ (r ∷ rest)) (sym none) ∙ e, t)

fallen_in : (s : ConsoleState) (r : List ℕ) (g : List (List ℕ)) (d : Store) (hs : List (List ℕ)) (i : ℕ) (rest all : List (List ℕ)) → IsTidy s hs → (g ++ hs) ++ (r ∷ rest) ≡ all → Fallen rest all (due_in_state s r (at_state g d hs s i))
unfolding Fallen
fallen_in Asleep r g d hs i rest all t e = fallen_put r Asleep g d hs i rest all t t e
fallen_in (Command line) r g d hs i rest all t e = fallen_put r (Command line) g d hs i rest all t t e
fallen_in Overlong r g d hs i rest all t e = fallen_put r Overlong g d hs i rest all t t e
fallen_in (Frame kind got) r g d hs i rest all t e = fallen_put r (Frame kind got) g d hs i rest all t t e
fallen_in (Dump p sent) r g d hs i rest all t e = fallen_if rest all (nat_lt (length hs) most_held) (hold r (at_state g d hs (Dump p sent) i)) (put r (dump_ended (at_state g d hs (Dump p sent) i)))
    (ap (λ x. x ++ rest) (sym (append_assoc g hs (r ∷ []))) ∙ append_assoc (g ++ hs) (r ∷ []) rest ∙ e, tt)
    (ap (λ x. x ++ rest) (append-nil ((g ++ hs) ++ r ∷ [])) ∙ append_assoc (g ++ hs) (r ∷ []) rest ∙ e, refl)
fallen_in (Looping n) r g d hs i rest all t e = fallen_put r (Looping n) g d hs i rest all t t e

fallen_due : (r : List ℕ) (c : Console) (rest all : List (List ℕ)) → EachFollows [] all → IsTidy c.state c.held → records_of c ++ (r ∷ rest) ≡ all → Fallen rest all (due r c)
fallen_due r c rest all h t e =
    subst (λ z. Fallen rest all (due_by z r c)) (sym (unhindered r c rest all h e)) (fallen_in c.state r c.history c.store c.held c.idle rest all t e)

pub fallen_all : (rs : List (List ℕ)) (c : Console) (rest all : List (List ℕ)) → EachFollows [] all → IsTidy c.state c.held → records_of c ++ (rs ++ rest) ≡ all → (records_of (due_all rs c) ++ rest ≡ all) × IsTidy (due_all rs c).state (due_all rs c).held
unfolding Fallen
fallen_all [] c rest all h t e = (e, t)
fallen_all (r ∷ rs) c rest all h t e = let q = fallen_due r c (rs ++ rest) all h t e in fallen_all rs (due r c) rest all h q.1 q.0

module _ (f : FatesByNumber) (left : ℕ → List (List ℕ)) (falls : FallDue f left) (all : List (List ℕ)) (rises : EachFollows [] all) where
  -- a message of which nothing clears, where it comes as it was sent
  pub now_sends : (m : List ℕ) (w : Line) → Now left all w → (delivered (f.host (w.messages + 1)) m ≡ m → Unclear m w.console) → (sends_message f m w).unseen ≡ None → Now left all (sends_message f m w)
  now_sends m w s c u =
      let got = delivered (f.host (w.messages + 1)) m in
      let clear : Unclear got w.console = elim (harm_cases m got) [
        | inl a ↦ completes_none got w.console (seen_host f m w u a).0
        | inr a ↦ subst (λ x. Unclear x w.console) (sym a) (c a)
      ] in
      let h = sums_hears f got (message_counted f m w) (left w.messages) all (record { sum = s.sum; tidy = s.tidy; begun = s.begun }) clear in
      let v = hears f got (message_counted f m w) in
      let n : v.messages ≡ w.messages + 1 = hears_messages f got (message_counted f m w) in
      let q = fallen_all (f.mids (w.messages + 1)) v.console (left (w.messages + 1)) all rises h.tidy (ap (λ x. records_of v.console ++ x) (sym (falls w.messages)) ∙ h.sum) in
      subst (λ k. Sums (left k) all (waited (f.mids (w.messages + 1)) v)) (sym n) (record { sum = q.0; tidy = q.1; begun = h.begun })

  -- while nothing is said
  pub now_listens : (t : List TalkItem) (w v : Line) → OnlyListens t → Now left all w → console_talk f t w ≡ Some v → Now left all v
  now_listens [] w v s n e = subst (Now left all) (same_Some w v e) n
  now_listens (Said b ends ∷ t) w v s n e = absurd s
  now_listens (Heard b ∷ t) w v s n e =
      let g = and_then_some (line_step f (Heard b) w) (console_talk f t) v e in
      let q = hearing_is w.flight b w g.0 refl g.1 in
      now_listens t g.0 v s (subst (Now left all) (sym q.2) (record { sum = n.sum; tidy = n.tidy; begun = n.begun })) g.2
  now_listens (Quiet ∷ t) w v s n e =
      let g = and_then_some (line_step f Quiet w) (console_talk f t) v e in
      let q = waiting_is w.flight f w g.0 refl g.1 in
      let c = w.console in
      let z = sums_tick f (flies w q.0) (left w.messages) all (record { sum = n.sum; tidy = n.tidy; begun = n.begun }) in
      now_listens t g.0 v s (subst (Now left all) (sym q.2) (subst (λ k. Sums (left k) all (happens f (tick c) (flies w q.0))) (sym (messages_joins (tick c).kind f (tick c) (flies w q.0))) z)) g.2
