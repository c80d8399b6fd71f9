-- What can be reached stays so: no event makes a console that is not valid.
use Rattle.std.proofs.Common.{◌≡◌, ℕ, ◌+◌, ◌-◌, ◌<◌, ◌≤◌, List, [], ◌∷◌, ◌++◌, length, refl, sym, ap, subst, ◌∙◌, arith, Bool, true, false, Option, Some, None, append-nil, length-append}
use Rattle.std.specs.Prelude.{if◌then◌else◌, ◌==◌, nat_lt, IsSome}
use Rattle.std.proofs.lemmas.Bool.{ltb-true}
use Rattle.std.proofs.lemmas.Bool.Decides.{nat_tests}
use Rattle.vantage_frames.specs.declared.command.Command.{Command as Ordered}
use Rattle.vantage_frames.specs.declared.command.Command.TheVariants.{Test, Kind, LoopFor, DumpAfter, EepromRead, EepromWrite, EepromAll, TimeGet, TimeSet, SetPeriod, ClearLog}
use Rattle.station_base.specs.CivilMinute.{CivilMinute, minute_of}
use Rattle.station_base.specs.LastStamp.{CanFollow}
use Rattle.archive_record.specs.Reading.{stamp_in}
use Rattle.console_ring.specs.declared.plan.Plan.{Plan}
use Rattle.console_ring.specs.History.{newest_stamp, CanExtend, IsHistory}
use Rattle.console_ring.proofs.Histories.{rises_push}
use Rattle.console_model.specs.declared.frame.FrameKind.{FrameKind}
use Rattle.console_model.specs.declared.frame.FrameKind.TheVariants.{ForDump, ForBytes, ForTime}
use Rattle.console_model.specs.declared.signal.Signal.{Signal}
use Rattle.console_model.specs.declared.signal.Signal.TheVariants.{Lf, Next, Again, Stop, Other}
use Rattle.console_model.specs.declared.order.Order.{Order}
use Rattle.console_model.specs.declared.order.Order.TheVariants.{Empty, Unknown, Known}
use Rattle.console_model.specs.Clock.{is_time}
use Rattle.console_model.specs.Console.{ConsoleState, Console, Outcome, most_held}
use Rattle.console_model.specs.Console.ConsoleState.{Asleep, Command, Overlong, Frame, Dump, Looping}
use Rattle.console_model.specs.Due.{unexceeded, in_the_way, put, hold, due_in_state, due_by, due}
use Rattle.console_model.specs.Frame.{at_frame}
use Rattle.console_model.specs.FrameSize.{frame_size}
use Rattle.console_model.specs.Hear.{lengthened, in_command, in_overlong, in_dump, heard_in, hear, sends_page, dump_ended}
use Rattle.console_model.specs.Spelling.{plan_after}
use Rattle.console_model.specs.Line.{to, silent, obeyed, at_line}
use Rattle.console_model.specs.Reading.{signal, read_order}
use Rattle.crc_ccitt.specs.Check.{is_good}
use Rattle.console_model.specs.Tick.{ticked_in, tick, idled, turned}
use Rattle.console_model.specs.Valid.{IsTidy, EachFollows, DumpIsUnderWay, StateFits, IsValid}
use Rattle.console_model.proofs.RecordsBehind.{each_more, rises_all}

none_held : (s : ConsoleState) → IsTidy s []
none_held Asleep = refl
none_held (Command line) = refl
none_held Overlong = refl
none_held (Frame kind got) = refl
none_held (Dump p sent) = tt
none_held (Looping n) = refl

at_none : (g hs : List (List ℕ)) (s : ConsoleState) → hs ≡ [] → (length hs ≤ most_held) × IsTidy s hs × EachFollows g hs
at_none g [] s none = (omega arith, none_held s, tt)
at_none g (r ∷ rs) s none = absurd (cc)

-- a console that holds nothing is valid where its history rises and its state fits
pub holds_none : (c : Console) → c.held ≡ [] → IsHistory c.history → StateFits c.history c.state → IsValid c
holds_none c none rises fits =
    let v = at_none c.history c.held c.state none in record { rises = rises; fits = fits; few = v.0; tidy = v.1; follows = v.2 }

pub no_history : IsHistory []
no_history i none within = absurd (omega arith)

obeyed_valid : (command : Ordered) (c : Console) → c.held ≡ [] → IsHistory c.history → IsValid (obeyed command c).next
obeyed_valid Test c none rises = holds_none _ none rises (omega arith)
obeyed_valid Kind c none rises = holds_none _ none rises (omega arith)
obeyed_valid (LoopFor n) c none rises = holds_none _ none rises tt
obeyed_valid DumpAfter c none rises = holds_none _ none rises (omega arith)
obeyed_valid (EepromRead p n) c none rises = holds_none _ none rises (omega arith)
obeyed_valid (EepromWrite p n) c none rises = holds_none _ none rises (omega arith)
obeyed_valid EepromAll c none rises = holds_none _ none rises (omega arith)
obeyed_valid TimeGet c none rises = holds_none _ none rises (omega arith)
obeyed_valid TimeSet c none rises = holds_none _ none rises (omega arith)
obeyed_valid (SetPeriod m) c none rises = holds_none _ none no_history (omega arith)
obeyed_valid ClearLog c none rises = holds_none _ none no_history (omega arith)

line_valid : (order : Order) (c : Console) → c.held ≡ [] → IsHistory c.history → IsValid (at_line order c).next
line_valid Empty c none rises = holds_none _ none rises (omega arith)
line_valid Unknown c none rises = holds_none _ none rises (omega arith)
line_valid (Known command) c none rises = obeyed_valid command c none rises

either_valid : (b : Bool) (x y : Outcome) → IsValid x.next → IsValid y.next → IsValid (if b then x else y).next
either_valid true x y one other = one
either_valid false x y one other = other

starts : (history : List (List ℕ)) (frame : List ℕ) (p : Plan) → p ≡ plan_after history frame → (b : Bool) → (p.pages == 0) ≡ b → StateFits history (if b then Command [] else Dump p 0)
starts history frame p is true none = omega arith
starts history frame p is false none = record { frame = frame; asked = is; some = grind (arith, nat_tests, none); within = omega arith }

frame_valid : (kind : FrameKind) (frame : List ℕ) (c : Console) → c.held ≡ [] → IsHistory c.history → IsValid (at_frame kind frame c).next
frame_valid ForDump frame c none rises =
    let p = plan_after c.history frame in
    either_valid (is_good frame) _ _ (holds_none _ none rises (starts c.history frame p refl (p.pages == 0) refl)) (holds_none _ none rises (omega arith))
frame_valid (ForBytes p n) frame c none rises = either_valid (is_good frame) _ _ (holds_none _ none rises (omega arith)) (holds_none _ none rises (omega arith))
frame_valid ForTime frame c none rises =
    either_valid (is_good frame) _ _
    (either_valid (is_time _) _ _ (holds_none _ none rises (omega arith)) (holds_none _ none rises (omega arith)))
    (holds_none _ none rises (omega arith))

lengthens : (history : List (List ℕ)) (line : List ℕ) (b : ℕ) (t : Bool) → nat_lt (length line) 32 ≡ t → StateFits history (if t then Command (line ++ b ∷ []) else Overlong)
lengthens history line b true less = omega (arith, length-append line (b ∷ []), ltb-true (length line) 32 less)
lengthens history line b false less = tt

lengthened_valid : (line : List ℕ) (b : ℕ) (c : Console) → c.held ≡ [] → IsHistory c.history → IsValid (lengthened line b c)
lengthened_valid line b c none rises = holds_none _ none rises (lengthens c.history line b (nat_lt (length line) 32) refl)

command_valid : (line : List ℕ) (m : Signal) (b : ℕ) (c : Console) → c.held ≡ [] → IsHistory c.history → IsValid (in_command line m b c).next
command_valid line Lf b c none rises = line_valid (read_order line) c none rises
command_valid line Next b c none rises = lengthened_valid line b c none rises
command_valid line Again b c none rises = lengthened_valid line b c none rises
command_valid line Stop b c none rises = lengthened_valid line b c none rises
command_valid line Other b c none rises = lengthened_valid line b c none rises

overlong_valid : (m : Signal) (c : Console) → c.held ≡ [] → IsHistory c.history → IsValid (in_overlong m c).next
overlong_valid Lf c none rises = line_valid Unknown c none rises
overlong_valid Next c none rises = holds_none _ none rises tt
overlong_valid Again c none rises = holds_none _ none rises tt
overlong_valid Stop c none rises = holds_none _ none rises tt
overlong_valid Other c none rises = holds_none _ none rises tt

sends_valid : (p : Plan) (k : ℕ) (c : Console) → DumpIsUnderWay c.history p (k + 1) → IsValid c → IsValid (sends_page p k c).next
sends_valid p k c fits v = record { rises = v.rises; fits = fits; few = v.few; tidy = tt; follows = v.follows }

all_rise : (c : Console) → IsValid c → IsHistory (c.history ++ c.held)
all_rise c v = rises_all c.history c.held v.rises v.follows

page_fits : (history : List (List ℕ)) (p : Plan) (sent k : ℕ) → DumpIsUnderWay history p sent → k < p.pages → DumpIsUnderWay history p (k + 1)
page_fits history p sent k is less = record { frame = is.frame; asked = is.asked; some = is.some; within = omega arith }

next_valid : (t : Bool) (p : Plan) (sent : ℕ) (c : Console) → nat_lt sent p.pages ≡ t → DumpIsUnderWay c.history p sent → IsValid c →
    IsValid (if t then sends_page p sent c else silent (to (dump_ended c) (Command []))).next
next_valid true p sent c less is v = sends_valid p sent c (page_fits c.history p sent sent is (ltb-true sent p.pages less)) v
next_valid false p sent c less is v = holds_none _ refl (all_rise c v) (omega arith)

dump_valid : (p : Plan) (sent : ℕ) (m : Signal) (b : ℕ) (c : Console) → DumpIsUnderWay c.history p sent → IsValid c → IsValid (in_dump p sent m b c).next
dump_valid p sent Next b c is v = next_valid (nat_lt sent p.pages) p sent c refl is v
dump_valid p sent Again b c is v = sends_valid p (sent - 1) c (page_fits c.history p sent (sent - 1) is (omega (arith, is.some, is.within))) v
dump_valid p sent Stop b c is v = holds_none _ refl (all_rise c v) (omega arith)
dump_valid p sent Lf b c is v = command_valid [] Lf b (dump_ended c) refl (all_rise c v)
dump_valid p sent Other b c is v = command_valid [] Other b (dump_ended c) refl (all_rise c v)

frame_fits : (kind : FrameKind) (got : List ℕ) (b : ℕ) (c : Console) (t : Bool) → nat_lt (length got + 1) (frame_size kind) ≡ t → c.held ≡ [] → IsHistory c.history →
    IsValid (if t then silent (to c (Frame kind (got ++ b ∷ []))) else at_frame kind (got ++ b ∷ []) c).next
frame_fits kind got b c true less none rises = holds_none _ none rises (omega (arith, length-append got (b ∷ []), ltb-true (length got + 1) (frame_size kind) less))
frame_fits kind got b c false less none rises = frame_valid kind (got ++ b ∷ []) c none rises

by_state : (s : ConsoleState) (m : Signal) (b : ℕ) (c : Console) → IsTidy s c.held → StateFits c.history s → IsValid c → IsValid (heard_in s m b c).next
by_state Asleep m b c none fits v = holds_none _ none v.rises (omega arith)
by_state (Command line) m b c none fits v = command_valid line m b c none v.rises
by_state Overlong m b c none fits v = overlong_valid m c none v.rises
by_state (Frame kind got) m b c none fits v = frame_fits kind got b c (nat_lt (length got + 1) (frame_size kind)) refl none v.rises
by_state (Dump p sent) m b c none fits v = dump_valid p sent m b c fits v
by_state (Looping n) m b c none fits v = holds_none _ none v.rises (omega arith)

pub hear_valid : (c : Console) (b : ℕ) → IsValid c → IsValid (hear c b).next
hear_valid c b v = by_state c.state (signal b) b c v.tidy v.fits v

by_tick : (s : ConsoleState) (three much fifth : Bool) (c : Console) → c.state ≡ s → IsTidy s c.held → IsValid c → IsValid (ticked_in s three much fifth c).next
by_tick Asleep three much fifth c is none v = v
by_tick (Command []) three true fifth c is none v = holds_none _ none v.rises tt
by_tick (Command []) three false fifth c is none v = v
by_tick (Command (b ∷ line)) true much fifth c is none v = holds_none _ none v.rises (omega arith)
by_tick (Command (b ∷ line)) false much fifth c is none v = v
by_tick Overlong true much fifth c is none v = holds_none _ none v.rises (omega arith)
by_tick Overlong false much fifth c is none v = v
by_tick (Frame kind got) true much fifth c is none v = holds_none _ none v.rises (omega arith)
by_tick (Frame kind got) false much fifth c is none v = v
by_tick (Dump p sent) three true fifth c is none v = holds_none _ refl (all_rise c v) tt
by_tick (Dump p sent) three false fifth c is none v = v
by_tick (Looping n) three much true c is none v = looping (nat_lt 1 n)
  where
    looping : (b : Bool) → IsValid (if b then turned c (Looping (n - 1)) else to c (Command []))
    looping true = holds_none _ none v.rises tt
    looping false = holds_none _ none v.rises (omega arith)
by_tick (Looping n) three much false c is none v = v

pub tick_valid : (c : Console) → IsValid c → IsValid (tick c).next
tick_valid c v = by_tick c.state _ _ _ (idled c) refl v.tidy (record { rises = v.rises; fits = v.fits; few = v.few; tidy = v.tidy; follows = v.follows })

-- what nothing stands in the way of can follow
unblocked : (newest of_bytes : Option CivilMinute) → IsSome of_bytes → unexceeded newest of_bytes ≡ None →
    CanFollow newest of_bytes
unblocked None None stamped free = absurd (cc)
unblocked None (Some s) stamped free = tt
unblocked (Some n) None stamped free = absurd (cc)
unblocked (Some n) (Some s) stamped free = above (nat_lt (minute_of n) (minute_of s)) refl free
  where
    above : (b : Bool) → nat_lt (minute_of n) (minute_of s) ≡ b → (if b then None else Some n) ≡ None → minute_of n < minute_of s
    above true less free = grind (arith, nat_tests)
    above false less free = absurd (cc)

-- a record that can follow is put where nothing is held
put_valid : (r : List ℕ) (c : Console) → c.held ≡ [] → CanExtend (c.history ++ c.held) r → IsValid c → StateFits (c.history ++ r ∷ []) c.state → IsValid (put r c)
put_valid r c none follows v fits =
    let at : c.history ++ c.held ≡ c.history = ap (λ (hs : List (List ℕ)). c.history ++ hs) none ∙ append-nil c.history in
    holds_none _ none (rises_push c.history r v.rises (subst (λ (h : List (List ℕ)). CanExtend h r) at follows)) fits

by_due : (s : ConsoleState) (r : List ℕ) (c : Console) → c.state ≡ s → IsTidy s c.held → StateFits c.history s → CanExtend (c.history ++ c.held) r → IsValid c → IsValid (due_in_state s r c)
by_due Asleep r c is none fits follows v = put_valid r c none follows v (subst (StateFits (c.history ++ r ∷ [])) (sym is) tt)
by_due (Command line) r c is none fits follows v = put_valid r c none follows v (subst (StateFits (c.history ++ r ∷ [])) (sym is) fits)
by_due Overlong r c is none fits follows v = put_valid r c none follows v (subst (StateFits (c.history ++ r ∷ [])) (sym is) tt)
by_due (Frame kind got) r c is none fits follows v = put_valid r c none follows v (subst (StateFits (c.history ++ r ∷ [])) (sym is) fits)
by_due (Looping n) r c is none fits follows v = put_valid r c none follows v (subst (StateFits (c.history ++ r ∷ [])) (sym is) tt)
by_due (Dump p sent) r c is none fits follows v = room (nat_lt (length c.held) most_held) refl
  where
    room : (b : Bool) → nat_lt (length c.held) most_held ≡ b → IsValid (if b then hold r c else put r (dump_ended c))
    room true less = record {
      rises = v.rises;
      fits = v.fits;
      few = omega (arith, length-append c.held (r ∷ []), ltb-true (length c.held) most_held less);
      tidy = subst (λ (s : ConsoleState). IsTidy s (c.held ++ r ∷ [])) (sym is) tt;
      follows = each_more c.history c.held r v.follows follows;
    }
    room false less = holds_none _ refl (rises_push (c.history ++ c.held) r (all_rise c v) follows) (omega arith)

pub can_follow : (r : List ℕ) (c : Console) → IsSome (stamp_in r) → in_the_way r c ≡ None → CanExtend (c.history ++ c.held) r
can_follow r c stamped free = unblocked (newest_stamp (c.history ++ c.held)) (stamp_in r) stamped free

pub due_valid : (r : List ℕ) (c : Console) → IsSome (stamp_in r) → IsValid c → IsValid (due r c)
due_valid r c stamped v = by_way (in_the_way r c) refl
  where
    by_way : (way : Option CivilMinute) → in_the_way r c ≡ way → IsValid (due_by way r c)
    by_way None free = by_due c.state r c refl v.tidy v.fits (can_follow r c stamped free) v
    by_way (Some newest) free = v
