-- The unseen deliveries of a talk, each at its place.
use Rattle.std.specs.Prelude.{◌≡◌, ◌⊎◌, ℕ, ◌+◌, true, false, List, [], ◌∷◌, ◌++◌, Some}
use Rattle.console_model.specs.Console.{Outcome}
use Rattle.console_model.specs.Hear.{hear}
use Rattle.console_model.specs.Tick.{tick}
use Rattle.serial_link.specs.declared.talk.TalkItem.{TalkItem}
use Rattle.serial_link.specs.declared.talk.TalkItem.TheVariants.{Said, Heard, Quiet}
use Rattle.station_sim.specs.declared.unseen.Unseen.{Unseen}
use Rattle.schedule_file.specs.Fates.{FatesByNumber}
use Rattle.station_sim.specs.Delivery.{delivered}
use Rattle.station_sim.specs.Line.{Line, from_host, from_console, message_counted, happens}
use Rattle.station_sim.specs.Talk.{line_step}
use Rattle.station_sim.specs.Unseen.{IsUnseenMessage, IsUnseenReply}

-- The line's next message of the host is unseen, and this is its name.
pub record IsNextMessage (f : FatesByNumber) (message : List ℕ) (w : Line) (which : Unseen) : Type 0 where
  pub named : which ≡ from_host (w.messages + 1)
  pub unseen : IsUnseenMessage message (delivered (f.host (w.messages + 1)) message) w.console

-- The line's next reply is unseen, and this is its name.
pub record IsNextReply (f : FatesByNumber) (o : Outcome) (w : Line) (which : Unseen) : Type 0 where
  pub named : which ≡ from_console (w.replies + 1)
  pub unseen : IsUnseenReply o (delivered (f.reply (w.replies + 1)) o.bytes)

-- of the replies to these bytes, which the console hears one after another, the one of this name is unseen
abbrev pub IsAmongReplies : FatesByNumber → List ℕ → Line → Unseen → Type 0
IsAmongReplies f [] w which = ⊥
IsAmongReplies f (b ∷ bs) w which =
    IsNextReply f (hear w.console b) w which ⊎ IsAmongReplies f bs (happens f (hear w.console b) w) which

-- it is the message, or one of the replies to what comes of it
abbrev pub IsAtMessage : FatesByNumber → List ℕ → Line → Unseen → Type 0
IsAtMessage f message w which =
    IsNextMessage f message w which
    ⊎ IsAmongReplies f (delivered (f.host (w.messages + 1)) message) (message_counted f message w) which

-- it is delivered here: a message as its last byte is said, and a reply to a wait, which is a tick
abbrev pub IsAtItem : FatesByNumber → TalkItem → Line → Unseen → Type 0
IsAtItem f (Said b false) w which = ⊥
IsAtItem f (Said b true) w which = IsAtMessage f (w.begun ++ b ∷ []) w which
IsAtItem f (Heard b) w which = ⊥
IsAtItem f Quiet w which = IsNextReply f (tick w.console) w which

-- at some place of a talk from this line the delivery of this name is unseen
abbrev pub HasUnseen : FatesByNumber → List TalkItem → Line → Unseen → Type 0
HasUnseen f [] w which = ⊥
HasUnseen f (i ∷ t) w which = IsAtItem f i w which ⊎ ((u : Line) × (line_step f i w ≡ Some u) × HasUnseen f t u which)
