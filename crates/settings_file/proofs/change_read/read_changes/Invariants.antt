use Rattle.std.proofs.Common.{◌≡◌, [], length, map, drop}
use Rattle.toml.specs.View.{view}
use Rattle.settings_file.specs.Changes.{AreChanges, last_start}
use Rattle.settings_file.specs.ChangesRead.{changes_from}
use Rattle.settings_file.proofs.change_read.read_changes.Given as goal

abbrev pub invariant-loop-index : goal.invariant-loop-index
invariant-loop-index l =
    AreChanges l.changes × (length l.changes ≡ l.index) × (l.last ≡ last_start l.changes)
    × (changes_from l.at l.changes (drop l.index (map view l.table-items)) ≡ changes_from l.at [] (map view l.table-items))
