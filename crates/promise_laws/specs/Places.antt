-- Where in a run something stands.
use Rattle.std.specs.Prelude.{◌≡◌, List, [], ◌∷◌, ◌++◌, Some, None}
use Rattle.std.specs.declared.option.Option.{Option}
use Rattle.station_base.specs.declared.row.Row.{Row}
use Rattle.replay_laws.specs.Kept.{Past, no_past, past_with_item}
use Rattle.replay_laws.specs.Replay.{Item}

-- what is known behind these items
abbrev pub past_behind : Past → List Item → Past
past_behind past [] = past
past_behind past (item ∷ items) = past_behind (past_with_item past item) items

-- An item of a run has this, behind what is known of the items before it.
pub record SomeItem (has : Past → Item → Type 0) (items : List Item) : Type 0 where
  pub before : List Item
  pub item : Item
  pub after : List Item
  pub place : items ≡ before ++ item ∷ after
  pub it_has : has (past_behind no_past before) item

-- the rows that the archive has at an item; at an unseen delivery none are known
abbrev pub rows_at : Item → Option (List Row)
rows_at (Item.Opened rows n) = Some rows
rows_at (Item.OpenStopped change rows) = Some rows
rows_at (Item.Ran round) = Some round.rows
rows_at (Item.Unsaid number which) = None
rows_at (Item.Ended rows) = Some rows
