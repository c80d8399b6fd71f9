use Rattle.dmpaft_driver.specs.Trying.{SpellsMessage}
use Rattle.std.proofs.Common.{length}
use Rattle.dmpaft_driver.proofs.trying.said_of.Given as goal

-- so many items spell the front of the message
abbrev pub invariant-items : goal.invariant-items
invariant-items l = record { spells : SpellsMessage l.fn.words l.fn.items l.count l.left l.rest }

abbrev pub decreases-items : goal.decreases-items
decreases-items l = length l.left
