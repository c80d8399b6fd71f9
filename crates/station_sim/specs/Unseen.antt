-- When a delivery is unseen: it differs from what was sent, and yet the console obeys it, or the host takes it for
-- whole. (This project's profile.)
use Rattle.std.specs.Prelude.{◌≡◌, ◌≢◌, ℕ, ◌+◌, ◌<◌, ◌≤◌, ◌⊎◌, true, List, [], ◌∷◌, ◌++◌, length, Some, None}
use Rattle.std.specs.declared.option.Option.{Option}
use Rattle.crc_ccitt.specs.Check.{is_good}
use Rattle.vantage_frames.specs.declared.command.Command.{Command as Order}
use Rattle.console_model.specs.declared.frame.FrameKind.{FrameKind}
use Rattle.console_model.specs.declared.order.Order.TheVariants.{Known}
use Rattle.console_model.specs.declared.reply.ReplyKind.{ReplyKind}
use Rattle.console_model.specs.declared.reply.ReplyKind.TheVariants.{Nothing, Code, Test, Wake}
use Rattle.console_model.specs.declared.reply.ReplyKind.TheVariants.{Ack, AckFrame, Page, Packet}
use Rattle.console_model.specs.Console.{Console, Outcome}
use Rattle.console_model.specs.Console.ConsoleState.{Command, Frame}
use Rattle.console_model.specs.FrameSize.{frame_size}
use Rattle.console_model.specs.Hear.{hear}
use Rattle.console_model.specs.Reading.{read_order}
use Rattle.station_sim.specs.declared.unseen.Unseen.{Unseen}

-- The byte is the LF behind a line that is a command.
pub record EndsCommand (c : Console) (b : ℕ) : Type 0 where
  pub line : List ℕ
  pub order : Order
  pub state : c.state ≡ Command line
  pub ends : b ≡ 10
  pub is_command : read_order line ≡ Known order

-- The byte is the last of a frame with a good check.
pub record EndsGoodFrame (c : Console) (b : ℕ) : Type 0 where
  pub kind : FrameKind
  pub got : List ℕ
  pub state : c.state ≡ Frame kind got
  pub whole : frame_size kind ≤ length got + 1
  pub good : is_good (got ++ b ∷ []) ≡ true

-- with the byte a command or a good frame is complete
abbrev pub ByteCompletes : Console → ℕ → Type 0
ByteCompletes c b = EndsCommand c b ⊎ EndsGoodFrame c b

-- at the byte a page is sent
abbrev pub ByteSendsPage : Console → ℕ → Type 0
ByteSendsPage c b = (hear c b).kind ≡ Page

-- the console that has heard these bytes, one after another
abbrev pub having_heard : List ℕ → Console → Console
having_heard [] c = c
having_heard (b ∷ bs) c = having_heard bs (hear c b).next

-- it is so of one of these bytes, and of the console that has heard those before it
abbrev pub AtSomeByte : (Console → ℕ → Type 0) → List ℕ → Console → Type 0
AtSomeByte Happens got c =
    (front : List ℕ) × (b : ℕ) × (rest : List ℕ) × (got ≡ front ++ b ∷ rest) × Happens (having_heard front c) b

-- A message of the host came otherwise than it was sent. All the same this console completes a command or a good frame
-- with what came, or, if more than one byte was sent, sends a page at it.
pub record IsUnseenMessage (sent got : List ℕ) (c : Console) : Type 0 where
  pub differs : sent ≢ got
  pub obeyed : AtSomeByte ByteCompletes got c ⊎ ((1 < length sent) × AtSomeByte ByteSendsPage got c)

-- the first byte is an ACK
abbrev pub BeginsWithAck : List ℕ → Type 0
BeginsWithAck got = (rest : List ℕ) × (got ≡ 6 ∷ rest)

-- the first byte is an ACK, and the check of the rest is good
abbrev pub IsGoodBehindAck : List ℕ → Type 0
IsGoodBehindAck got = (rest : List ℕ) × (got ≡ 6 ∷ rest) × (is_good rest ≡ true)

-- what came of a reply is taken for whole, by the reply's kind; an ACK alone that changed is seen to be none
abbrev pub PassesForWhole : ReplyKind → List ℕ → List ℕ → Type 0
PassesForWhole Nothing sent got = ⊥
PassesForWhole Code sent got = BeginsWithAck got
PassesForWhole Wake sent got = BeginsWithAck got
PassesForWhole Test sent got = BeginsWithAck got
PassesForWhole Ack sent got = ⊥
PassesForWhole AckFrame sent got = (length got ≡ length sent) × IsGoodBehindAck got
PassesForWhole Page sent got = (length got ≡ length sent) × (is_good got ≡ true)
PassesForWhole Packet sent got = (length got ≡ length sent) × (is_good got ≡ true)

-- A reply of the console came otherwise than it was sent, and it is taken for whole.
pub record IsUnseenReply (o : Outcome) (got : List ℕ) : Type 0 where
  pub differs : o.bytes ≢ got
  pub passes : PassesForWhole o.kind o.bytes got

-- the first unseen delivery before and after one that may be unseen: what was named stays, and else this one is named
-- just if it is unseen
abbrev pub NamesFirst : Type 0 → Unseen → Option Unseen → Option Unseen → Type 0
NamesFirst unseen this None None = ¬ unseen
NamesFirst unseen this None (Some which) = unseen × (which ≡ this)
NamesFirst unseen this (Some before) after = after ≡ Some before
