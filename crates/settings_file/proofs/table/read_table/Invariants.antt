use Rattle.toml.specs.View.{members_view}
use Rattle.settings_file.proofs.TableWalk.{HasWalked}
use Rattle.settings_file.proofs.table.read_table.Given as goal

abbrev pub invariant-loop-key : goal.invariant-loop-key
invariant-loop-key g l =
    (goal.iterator-loop-key g).can_next l.key-iterator × (goal.iterator-loop-key g).is_finite l.key-iterator
    × g.F.Filled.valid l.filled
    × HasWalked g.F.Filled.filled l.fn.section l.fn.field (members_view l.fn.table.entries) (members_view l.key-iterator) l.fn.start l.filled l.at
