-- A console that is served over a line.
use Rattle.std.specs.Prelude.{ℕ, ◌≡◌, ◌≤◌, ◌+◌, ◌*◌, List, [], ◌∷◌, length}
use Rattle.causes.specs.Lists.{IsFrontOf}
use Rattle.console_model.specs.Console as model
use Rattle.console_model.specs.Standing.{ConsoleStandsFor}
use Rattle.console_model.specs.declared.console.Console.{Console}
use Rattle.serial_link.specs.Link.{IsFront}
use Rattle.serial_link.specs.Talk.{message}
use Rattle.serial_link.specs.Turns.{AreTurns, TurnsBreakOff}
use Rattle.serial_link.specs.declared.talk.TalkItem.{TalkItem}
use Rattle.serial_link.specs.declared.talk.TalkItem.TheVariants.{Said, Heard, Quiet}
use Rattle.wake_retry.specs.Bounds.{said}
use Rattle.wake_retry.specs.Parts.{heard, count_met}
use Rattle.console_server.specs.Replies.{said_items, console_after, replies}
use Rattle.console_server.specs.ServedTurns.{IsServedTurn, ServedTurnBreaksOff, serving_room}
use Rattle.console_server.specs.declared.serving.Served.{Served}
use Rattle.console_server.specs.declared.serving.ServeEnd.{ServeEnd}
use Rattle.console_server.specs.declared.serving.ServeEnd.TheVariants as end

-- Both counts were raised by the bytes heard and said. In each of so many turns a wait or up to 256 bytes came.
pub record TalkIsCounted (turns : ℕ) (old new : Served) (t : List TalkItem) : Type 0 where
  pub heard : new.heard ≡ old.heard + length (heard t)
  pub said : new.said ≡ old.said + length (said t)
  pub least : turns ≤ count_met t
  pub most : count_met t ≤ serving_room * turns

-- What was said is just the replies of this console to what came, turn by turn, and the console in memory is the one
-- after that.
pub record ConsoleIsServed (turns : ℕ) (k : model.Console) (after : Console) (t : List TalkItem) : Type 0 where
  pub said : said_items t ≡ replies k t
  pub turn_by_turn : AreTurns IsServedTurn turns k t (console_after k t)
  pub stands : ConsoleStandsFor after (console_after k t)

-- The console met a prefix of what came, a prefix of its replies to that was said, and there the serving broke off.
pub record ServingBreaksOff (turns : ℕ) (k : model.Console) (after : Console) (t : List TalkItem) : Type 0 where
  pub met : List TalkItem
  pub came : IsFrontOf met t
  pub said : IsFrontOf (said_items t) (replies k met)
  pub turn_by_turn : TurnsBreakOff IsServedTurn ServedTurnBreaksOff turns k t
  pub stands : ConsoleStandsFor after (console_after k met)

-- the serving broke off within so many turns, whatever console the one in memory stood for
abbrev pub IsBrokenOff : ℕ → Console → Console → List TalkItem → Type 0
IsBrokenOff turns before after t =
    (count_met t ≤ serving_room * turns) × ((k : model.Console) → ConsoleStandsFor before k
    → ServingBreaksOff turns k after t)

-- what serving a console for so many turns says and hears, by its end
abbrev pub ServesTurns : ServeEnd → ℕ → Console → Console → Served → Served → List TalkItem → Type 0
ServesTurns end.Done turns before after old new t =
    TalkIsCounted turns old new t × ((k : model.Console) → ConsoleStandsFor before k → ConsoleIsServed turns k after t)
ServesTurns end.LinkFault turns before after old new t = IsBrokenOff turns before after t
ServesTurns end.OutOfMemory turns before after old new t = IsBrokenOff turns before after t

-- all of this was said, and nothing came
abbrev pub OnlySays : List TalkItem → Type 0
OnlySays [] = Unit {0}
OnlySays (Said b ends ∷ t) = OnlySays t
OnlySays (Heard b ∷ t) = ⊥
OnlySays (Quiet ∷ t) = ⊥

-- These are the replies to what came before, and the console in memory is the one after that.
pub record IsAnswered (k : model.Console) (after : Console) (came t : List TalkItem) : Type 0 where
  pub said : t ≡ replies k came
  pub stands : ConsoleStandsFor after (console_after k came)

-- Of what came the console met a prefix, and this is a prefix of its replies to that.
pub record IsAnsweredInPart (k : model.Console) (after : Console) (came t : List TalkItem) : Type 0 where
  pub met : List TalkItem
  pub front : IsFrontOf met came
  pub said : IsFrontOf t (replies k met)
  pub stands : ConsoleStandsFor after (console_after k met)

-- the answers of a console to what came, by how they end
abbrev pub ConsoleReplies : ServeEnd → List TalkItem → Console → Console → List TalkItem → Type 0
ConsoleReplies end.Done came before after t =
    (k : model.Console) → ConsoleStandsFor before k → IsAnswered k after came t
ConsoleReplies end.LinkFault came before after t =
    (k : model.Console) → ConsoleStandsFor before k → IsAnsweredInPart k after came t
ConsoleReplies end.OutOfMemory came before after t =
    (k : model.Console) → ConsoleStandsFor before k → IsAnsweredInPart k after came t

-- a reply is said as one message, and its bytes are counted, or a prefix of it is said
abbrev pub SaysReply : ServeEnd → List ℕ → Served → Served → List TalkItem → Type 0
SaysReply end.Done bytes old new t = (t ≡ message bytes) × (new.said ≡ old.said + length bytes)
SaysReply end.LinkFault bytes old new t = IsFront bytes t
SaysReply end.OutOfMemory bytes old new t = IsFront bytes t

-- the bytes said are counted, if all were said
abbrev pub CountsSaid : ServeEnd → Served → Served → List TalkItem → Type 0
CountsSaid end.Done old new t = new.said ≡ old.said + length (said t)
CountsSaid end.LinkFault old new t = Unit {0}
CountsSaid end.OutOfMemory old new t = Unit {0}

-- A console answered what came: nothing more came meanwhile, and the bytes said are counted.
pub record AnswersAll (end : ServeEnd) (came : List TalkItem) (before after : Console) (old new : Served)
    (t : List TalkItem) : Type 0 where
  pub only : OnlySays t
  pub replies : ConsoleReplies end came before after t
  pub counted : CountsSaid end old new t
