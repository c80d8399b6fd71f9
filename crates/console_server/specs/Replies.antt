-- What a console says to what comes over a line.
use Rattle.std.specs.Prelude.{List, [], ◌∷◌, ◌++◌}
use Rattle.console_model.specs.Console.{Console}
use Rattle.console_model.specs.Hear.{hear}
use Rattle.console_model.specs.Tick.{tick}
use Rattle.serial_link.specs.Talk.{message}
use Rattle.serial_link.specs.declared.talk.TalkItem.{TalkItem}
use Rattle.serial_link.specs.declared.talk.TalkItem.TheVariants.{Said, Heard, Quiet}

-- what was said
abbrev pub said_items : List TalkItem → List TalkItem
said_items [] = []
said_items (Said b ends ∷ t) = Said b ends ∷ said_items t
said_items (Heard b ∷ t) = said_items t
said_items (Quiet ∷ t) = said_items t

-- the console after what came: each byte was heard by it, and each wait was a tick
abbrev pub console_after : Console → List TalkItem → Console
console_after k [] = k
console_after k (Said b ends ∷ t) = console_after k t
console_after k (Heard b ∷ t) = console_after (hear k b).next t
console_after k (Quiet ∷ t) = console_after (tick k).next t

-- the replies of a console to what came, in order, each as one message
abbrev pub replies : Console → List TalkItem → List TalkItem
replies k [] = []
replies k (Said b ends ∷ t) = replies k t
replies k (Heard b ∷ t) = message (hear k b).bytes ++ replies (hear k b).next t
replies k (Quiet ∷ t) = message (tick k).bytes ++ replies (tick k).next t
