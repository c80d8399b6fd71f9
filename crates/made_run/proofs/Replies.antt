-- Replies that acknowledge nothing do not begin as one that does.
use Rattle.std.proofs.Common.{◌≡◌, ℕ, ◌+◌, ◌%◌, ◌==◌, Bool, true, false, if◌then◌else◌, List, [], ◌∷◌, ◌++◌, length, take, refl}
use Rattle.std.specs.Prelude.{nat_lt}
use Rattle.console_model.specs.Console.{Console, Outcome, ConsoleState}
use Rattle.console_model.specs.Console.ConsoleState.{Asleep, Command, Overlong, Frame, Dump, Looping}
use Rattle.console_model.specs.Clock.{is_time}
use Rattle.console_model.specs.Frame.{at_clock, at_frame}
use Rattle.console_model.specs.FrameSize.{frame_size}
use Rattle.console_model.specs.Hear.{dump_ended, hear, heard_in}
use Rattle.console_model.specs.Line.{at_line, obeyed}
use Rattle.console_model.specs.Reading.{read_order, signal}
use Rattle.console_model.specs.Tick.{idled, tick, ticked_in}
use Rattle.console_model.specs.declared.frame.FrameKind.{FrameKind}
use Rattle.console_model.specs.declared.frame.FrameKind.TheVariants.{ForDump, ForBytes, ForTime}
use Rattle.console_model.specs.declared.order.Order.{Order}
use Rattle.console_model.specs.declared.order.Order.TheVariants.{Empty, Unknown, Known}
use Rattle.console_model.specs.declared.reply.ReplyKind.{ReplyKind}
use Rattle.console_model.specs.declared.reply.ReplyKind.TheVariants.{Nothing, Code, Test, Wake, Ack, AckFrame, Page, Packet}
use Rattle.console_model.specs.declared.signal.Signal.{Signal}
use Rattle.console_model.specs.declared.signal.Signal.TheVariants.{Lf, Next, Again, Stop, Other}
use Rattle.crc_ccitt.specs.Check.{is_good}
use Rattle.vantage_frames.specs.declared.command.Command.{Command as Ordered}
use Rattle.vantage_frames.specs.declared.command.Command.TheVariants as command
use Rattle.station_sim.specs.Line.{begins_with_ack}

-- a reply of this kind that acknowledges nothing does not begin with 0x06
abbrev pub Fair : ReplyKind → List ℕ → Type 0
Fair Nothing bs = Unit {0}
Fair Code bs = begins_with_ack bs ≡ false
Fair Wake bs = begins_with_ack bs ≡ false
Fair Test bs = begins_with_ack bs ≡ false
Fair Ack bs = Unit {0}
Fair AckFrame bs = Unit {0}
Fair Page bs = Unit {0}
Fair Packet bs = Unit {0}

abbrev pub IsFair : Outcome → Type 0
IsFair o = Fair o.kind o.bytes

by_test : (t : Bool) (a b : Outcome) → IsFair a → IsFair b → IsFair (if t then a else b)
by_test true a b first second = first
by_test false a b first second = second

fair_known : (command : Ordered) (c : Console) → IsFair (obeyed command c)
fair_known command.Test c = refl
fair_known command.Kind c = tt
fair_known (command.LoopFor n) c = tt
fair_known command.DumpAfter c = tt
fair_known (command.EepromRead p n) c = tt
fair_known (command.EepromWrite p n) c = tt
fair_known command.EepromAll c = tt
fair_known command.TimeGet c = tt
fair_known command.TimeSet c = tt
fair_known (command.SetPeriod m) c = tt
fair_known command.ClearLog c = tt

fair_line : (o : Order) (c : Console) → IsFair (at_line o c)
fair_line Empty c = refl
fair_line Unknown c = refl
fair_line (Known command) c = fair_known command c

fair_clock : (frame : List ℕ) (c : Console) → IsFair (at_clock frame c)
fair_clock frame c = by_test (is_time (take 6 frame)) _ _ tt refl

fair_frame : (kind : FrameKind) (frame : List ℕ) (c : Console) → IsFair (at_frame kind frame c)
fair_frame ForDump frame c = by_test (is_good frame) _ _ tt refl
fair_frame (ForBytes p n) frame c = by_test (is_good frame) _ _ tt refl
fair_frame ForTime frame c = by_test (is_good frame) _ _ (fair_clock frame c) refl

fair_by : (s : ConsoleState) (m : Signal) (b : ℕ) (c : Console) → IsFair (heard_in s m b c)
fair_by Asleep m b c = tt
fair_by (Command line) Lf b c = fair_line (read_order line) c
fair_by (Command line) Next b c = tt
fair_by (Command line) Again b c = tt
fair_by (Command line) Stop b c = tt
fair_by (Command line) Other b c = tt
fair_by Overlong Lf b c = refl
fair_by Overlong Next b c = tt
fair_by Overlong Again b c = tt
fair_by Overlong Stop b c = tt
fair_by Overlong Other b c = tt
fair_by (Frame kind got) m b c = by_test (nat_lt (length got + 1) (frame_size kind)) _ _ tt (fair_frame kind (got ++ b ∷ []) c)
fair_by (Dump p sent) Next b c = by_test (nat_lt sent p.pages) _ _ tt tt
fair_by (Dump p sent) Again b c = tt
fair_by (Dump p sent) Stop b c = tt
fair_by (Dump p sent) Lf b c = fair_line (read_order []) (dump_ended c)
fair_by (Dump p sent) Other b c = tt
fair_by (Looping n) m b c = tt

pub fair_hear : (c : Console) (b : ℕ) → IsFair (hear c b)
fair_hear c b = fair_by c.state (signal b) b c

fair_turn : (s : ConsoleState) (three much fifth : Bool) (c : Console) → IsFair (ticked_in s three much fifth c)
fair_turn Asleep three much fifth c = tt
fair_turn (Command []) three true fifth c = tt
fair_turn (Command []) three false fifth c = tt
fair_turn (Command (b ∷ line)) true much fifth c = tt
fair_turn (Command (b ∷ line)) false much fifth c = tt
fair_turn Overlong true much fifth c = tt
fair_turn Overlong false much fifth c = tt
fair_turn (Frame kind got) true much fifth c = refl
fair_turn (Frame kind got) false much fifth c = tt
fair_turn (Dump p sent) three true fifth c = tt
fair_turn (Dump p sent) three false fifth c = tt
fair_turn (Looping n) three much true c = tt
fair_turn (Looping n) three much false c = tt

pub fair_tick : (c : Console) → IsFair (tick c)
fair_tick c = fair_turn c.state (c.idle + 1 == 3) (c.idle + 1 == 32) ((c.idle + 1) % 5 == 0) (idled c)
