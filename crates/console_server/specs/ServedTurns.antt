-- What is heard and said in each turn.
use Rattle.std.specs.Prelude.{ℕ, ◌≡◌, List, ◌++◌}
use Rattle.causes.specs.Lists.{IsFrontOf}
use Rattle.console_model.specs.Console.{Console}
use Rattle.serial_link.specs.Turns.{CameOfOneReceive}
use Rattle.serial_link.specs.declared.talk.TalkItem.{TalkItem}
use Rattle.console_server.specs.Replies.{console_after, replies}

-- the bytes that one receive hears at most
abbrev pub serving_room : ℕ
serving_room = 256

-- A turn: one receive, and the console's replies to it before the next one. The console becomes the one after it.
pub record IsServedTurn (k : Console) (t : List TalkItem) (next : Console) : Type 0 where
  pub received : List TalkItem
  pub answered : List TalkItem
  pub whole : t ≡ received ++ answered
  pub receives : CameOfOneReceive serving_room received
  pub says : answered ≡ replies k received
  pub next_is : next ≡ console_after k received

-- A turn in which the replies broke off: the console met a prefix of what came, and a prefix of its replies to that was
-- said.
pub record ServedTurnBreaksOff (k : Console) (t : List TalkItem) : Type 0 where
  pub received : List TalkItem
  pub answered : List TalkItem
  pub whole : t ≡ received ++ answered
  pub receives : CameOfOneReceive serving_room received
  pub met : List TalkItem
  pub front : IsFrontOf met received
  pub says : IsFrontOf answered (replies k met)
