-- No more records are held than fell due since the dump began, whatever is said and heard.
use Rattle.std.proofs.Common.{◌≡◌, ℕ, suc, ◌+◌, ◌-◌, ◌≤◌, if◌then◌else◌, Bool, true, false, List, [], ◌∷◌, ◌++◌, length, Option, Some, None, refl, sym, ◌∙◌, ap, subst, arith, length-append}
use Rattle.std.specs.Prelude.{nat_lt}
use Rattle.std.proofs.lemmas.Option.{same_Some}
use Rattle.station_base.specs.CivilMinute.{CivilMinute}
use Rattle.crc_ccitt.specs.Check.{is_good}
use Rattle.console_model.specs.declared.frame.FrameKind.{FrameKind}
use Rattle.console_model.specs.declared.frame.FrameKind.TheVariants.{ForDump, ForBytes, ForTime}
use Rattle.console_model.specs.declared.order.Order.{Order}
use Rattle.console_model.specs.declared.order.Order.TheVariants.{Empty, Unknown, Known}
use Rattle.console_model.specs.declared.signal.Signal.{Signal}
use Rattle.console_model.specs.declared.signal.Signal.TheVariants.{Lf, Next, Again, Stop, Other}
use Rattle.vantage_frames.specs.declared.command.Command.{Command as HostCommand}
use Rattle.vantage_frames.specs.declared.command.Command.TheVariants.{Test, Kind, LoopFor, DumpAfter, EepromRead, EepromWrite, EepromAll, TimeGet, TimeSet, SetPeriod, ClearLog}
use Rattle.console_model.specs.Clock.{is_time}
use Rattle.console_model.specs.Console.{ConsoleState, Console, Outcome, most_held}
use Rattle.console_model.specs.Console.ConsoleState.{Asleep, Command, Overlong, Frame, Dump, Looping}
use Rattle.console_model.specs.Due.{due, due_by, due_in_state, in_the_way, hold, put}
use Rattle.console_model.specs.Frame.{at_frame}
use Rattle.console_model.specs.FrameSize.{frame_size}
use Rattle.console_model.specs.Hear.{hear, heard_in, dump_ended}
use Rattle.console_model.specs.Line.{at_line, obeyed, to}
use Rattle.console_model.specs.Reading.{signal, read_order}
use Rattle.console_model.specs.Tick.{tick, ticked_in, turned, idled}
use Rattle.console_model.specs.Valid.{IsTidy}
use Rattle.schedule_file.specs.Fates.{FatesByNumber}
use Rattle.serial_link.specs.declared.talk.TalkItem.{TalkItem}
use Rattle.serial_link.specs.declared.talk.TalkItem.TheVariants.{Said, Heard, Quiet}
use Rattle.station_sim.specs.Calm.{AreFewMids, mids_count}
use Rattle.station_sim.specs.Delivery.{delivered}
use Rattle.station_sim.specs.Joining.{and_then_some}
use Rattle.station_sim.specs.Line.{Line, due_all, flies, happens, hears, message_counted, says_byte}
use Rattle.station_sim.specs.Sound.{IsSound}
use Rattle.station_sim.specs.Talk.{line_step, console_talk}
use Rattle.station_sim.proofs.SoundLines.{console_joins}
use Rattle.line_laws.specs.Unharmed.{Room}
use Rattle.line_laws.proofs.FrameStage.{hearing_is, waiting_is}
use Rattle.line_laws.proofs.Unharmed.{messages_joins}
use Rattle.line_laws.proofs.WakeLaws.{Awaiting}

-- no more are held than so many
abbrev HoldsUpTo : ℕ → Console → Type 0
HoldsUpTo n c = length c.held ≤ n

either_holds : (n : ℕ) (t : Bool) (a b : Outcome) → HoldsUpTo n a.next → HoldsUpTo n b.next → HoldsUpTo n (if t then a else b).next
either_holds n true a b x y = x
either_holds n false a b x y = y

obeyed_held : (command : HostCommand) (c : Console) → (obeyed command c).next.held ≡ c.held
obeyed_held Test c = refl
obeyed_held Kind c = refl
obeyed_held (LoopFor n) c = refl
obeyed_held DumpAfter c = refl
obeyed_held (EepromRead p n) c = refl
obeyed_held (EepromWrite p n) c = refl
obeyed_held EepromAll c = refl
obeyed_held TimeGet c = refl
obeyed_held TimeSet c = refl
obeyed_held (SetPeriod m) c = refl
obeyed_held ClearLog c = refl

line_held : (order : Order) (c : Console) → (at_line order c).next.held ≡ c.held
line_held Empty c = refl
line_held Unknown c = refl
line_held (Known command) c = obeyed_held command c

line_holds : (order : Order) (c : Console) → HoldsUpTo (length c.held) (at_line order c).next
line_holds order c = omega (arith, ap (λ (x : List (List ℕ)). length x) (line_held order c))

frame_holds : (kind : FrameKind) (frame : List ℕ) (c : Console) → HoldsUpTo (length c.held) (at_frame kind frame c).next
frame_holds ForDump frame c = either_holds (length c.held) (is_good frame) _ _ (omega arith) (omega arith)
frame_holds (ForBytes p n) frame c = either_holds (length c.held) (is_good frame) _ _ (omega arith) (omega arith)
frame_holds ForTime frame c = either_holds (length c.held) (is_good frame) _ _ (either_holds (length c.held) (is_time _) _ _ (omega arith) (omega arith)) (omega arith)

hear_holds : (s : ConsoleState) (m : Signal) (b : ℕ) (c : Console) → HoldsUpTo (length c.held) (heard_in s m b c).next
hear_holds Asleep m b c = omega arith
hear_holds (Command line) Lf b c = line_holds (read_order line) c
hear_holds (Command line) Next b c = omega arith
hear_holds (Command line) Again b c = omega arith
hear_holds (Command line) Stop b c = omega arith
hear_holds (Command line) Other b c = omega arith
hear_holds Overlong Lf b c = omega arith
hear_holds Overlong Next b c = omega arith
hear_holds Overlong Again b c = omega arith
hear_holds Overlong Stop b c = omega arith
hear_holds Overlong Other b c = omega arith
hear_holds (Frame kind got) m b c = either_holds (length c.held) (nat_lt (length got + 1) (frame_size kind)) _ _ (omega arith) (frame_holds kind (got ++ b ∷ []) c)
hear_holds (Dump p sent) Lf b c = let z = line_holds (read_order []) (dump_ended c) in omega (arith, z)
hear_holds (Dump p sent) Next b c = either_holds (length c.held) (nat_lt sent p.pages) _ _ (omega arith) (omega arith)
hear_holds (Dump p sent) Again b c = omega arith
hear_holds (Dump p sent) Stop b c = omega arith
hear_holds (Dump p sent) Other b c = omega arith
hear_holds (Looping n) m b c = omega arith

-- a byte that is heard, and a tick, add none to those that are held
pub heard_holds : (c : Console) (b : ℕ) → length (hear c b).next.held ≤ length c.held
heard_holds c b = hear_holds c.state (signal b) b c

tick_holds : (s : ConsoleState) (three much fifth : Bool) (c : Console) → HoldsUpTo (length c.held) (ticked_in s three much fifth c).next
tick_holds Asleep three much fifth c = omega arith
tick_holds (Command []) three true fifth c = omega arith
tick_holds (Command []) three false fifth c = omega arith
tick_holds (Command (b ∷ line)) true much fifth c = omega arith
tick_holds (Command (b ∷ line)) false much fifth c = omega arith
tick_holds Overlong true much fifth c = omega arith
tick_holds Overlong false much fifth c = omega arith
tick_holds (Frame kind got) true much fifth c = omega arith
tick_holds (Frame kind got) false much fifth c = omega arith
tick_holds (Dump p sent) three true fifth c = omega arith
tick_holds (Dump p sent) three false fifth c = omega arith
tick_holds (Looping n) three much false c = omega arith
tick_holds (Looping n) three much true c = go (nat_lt 1 n)
  where
    go : (t : Bool) → length (if t then turned c (Looping (n - 1)) else to c (Command [])).held ≤ length c.held
    go true = omega arith
    go false = omega arith

ticked_holds : (c : Console) → length (tick c).next.held ≤ length c.held
ticked_holds c = tick_holds c.state _ _ _ (idled c)

-- a record that falls due adds one at most
due_state_holds : (s : ConsoleState) (r : List ℕ) (c : Console) → HoldsUpTo (length c.held + 1) (due_in_state s r c)
due_state_holds Asleep r c = omega arith
due_state_holds (Command line) r c = omega arith
due_state_holds Overlong r c = omega arith
due_state_holds (Frame kind got) r c = omega arith
due_state_holds (Looping n) r c = omega arith
due_state_holds (Dump p sent) r c = go (nat_lt (length c.held) most_held)
  where
    go : (t : Bool) → length (if t then hold r c else put r (dump_ended c)).held ≤ length c.held + 1
    go true = omega (arith, length-append c.held (r ∷ []))
    go false = omega arith

due_holds : (way : Option CivilMinute) (r : List ℕ) (c : Console) → HoldsUpTo (length c.held + 1) (due_by way r c)
due_holds None r c = due_state_holds c.state r c
due_holds (Some newest) r c = omega arith

due_all_holds : (rs : List (List ℕ)) (c : Console) → length (due_all rs c).held ≤ length c.held + length rs
due_all_holds [] c = omega arith
due_all_holds (r ∷ rs) c = omega (arith, due_holds (in_the_way r c) r c, due_all_holds rs (due r c))

hears_holds : (f : FatesByNumber) (got : List ℕ) (w : Line) → length (hears f got w).console.held ≤ length w.console.held
hears_holds f [] w = omega arith
hears_holds f (b ∷ got) w =
    let o = hear w.console b in
    omega (arith, hears_holds f got (happens f o w), heard_holds w.console b, ap (λ (c : Console). length c.held) (console_joins o.kind f o w))

hears_messages : (f : FatesByNumber) (got : List ℕ) (w : Line) → (hears f got w).messages ≡ w.messages
hears_messages f [] w = refl
hears_messages f (b ∷ got) w = let o = hear w.console b in hears_messages f got (happens f o w) ∙ messages_joins o.kind f o w

-- there is room for all that falls due after this
abbrev pub HasRoom : FatesByNumber → Line → Type 0
HasRoom f w = Room f w.messages w.console.held

-- a console that awaits a frame holds nothing
pub awaiting_room : (f : FatesByNumber) → AreFewMids f → (got : List ℕ) (w u : Line) → Awaiting got w u → IsSound u → HasRoom f u
awaiting_room f few got w u k sound m =
    let none : u.console.held ≡ [] = subst (λ (c : Console). IsTidy c.state c.held → c.held ≡ []) (sym k.console) (λ tidy. tidy) sound.valid.tidy in
    omega (arith, few u.messages m, ap (λ (x : List (List ℕ)). length x) none)

room_same : (f : FatesByNumber) (w v : Line) → v.messages ≡ w.messages → length v.console.held ≤ length w.console.held → HasRoom f w → HasRoom f v
room_same f w v same less room m = omega (arith, less, room m, ap (λ n. mids_count f n m) same)

-- the room of a message, with the records that fall due with it
room_said : (f : FatesByNumber) (b : ℕ) (w : Line) → HasRoom f w → HasRoom f (says_byte f b true w)
room_said f b w room m =
    let message = w.begun ++ b ∷ [] in
    let got = delivered (f.host (w.messages + 1)) message in
    let u = hears f got (message_counted f message w) in
    omega (
      arith,
      room (suc m),
      hears_holds f got (message_counted f message w),
      due_all_holds (f.mids (w.messages + 1)) u.console,
      ap (λ n. mids_count f n m) (hears_messages f got (message_counted f message w)),
    )

room_quiet : (f : FatesByNumber) (w u v : Line) → u.console ≡ w.console → u.messages ≡ w.messages → v ≡ happens f (tick w.console) u → HasRoom f w → HasRoom f v
room_quiet f w u v same counted is room =
    let o = tick w.console in
    room_same f w v (ap (λ (x : Line). x.messages) is ∙ messages_joins o.kind f o u ∙ counted)
    (omega (arith, ticked_holds w.console, ap (λ (x : Line). length x.console.held) is, ap (λ (c : Console). length c.held) (console_joins o.kind f o u))) room

-- and so there is room after a talk
pub room_talk : (f : FatesByNumber) (t : List TalkItem) (w v : Line) → console_talk f t w ≡ Some v → HasRoom f w → HasRoom f v
room_talk f [] w v e room = subst (HasRoom f) (same_Some w v e) room
room_talk f (Said b false ∷ t) w v e room = room_talk f t (says_byte f b false w) v e room
room_talk f (Said b true ∷ t) w v e room = room_talk f t (says_byte f b true w) v e (room_said f b w room)
room_talk f (Heard b ∷ t) w v e room =
    let g = and_then_some (line_step f (Heard b) w) (console_talk f t) v e in
    let q = hearing_is w.flight b w g.0 refl g.1 in
    room_talk f t g.0 v g.2 (subst (HasRoom f) (sym q.2) room)
room_talk f (Quiet ∷ t) w v e room =
    let g = and_then_some (line_step f Quiet w) (console_talk f t) v e in
    let q = waiting_is w.flight f w g.0 refl g.1 in
    room_talk f t g.0 v g.2 (room_quiet f w (flies w q.0) g.0 refl refl q.2 room)
