-- What a run that is kept says of the item at a place, and of the rows there.
use Rattle.std.proofs.Common.{◌≡◌, ℕ, ◌≤◌, true, List, [], ◌∷◌, ◌++◌, length, None, subst, arith}
use Rattle.std.specs.Prelude.{IsSomeAnd}
use Rattle.std.proofs.lemmas.List.{length-append}
use Rattle.causes.specs.Lists.{IsFrontOf}
use Rattle.station_base.specs.declared.row.Row.{Row}
use Rattle.settings_file.specs.StationSettings.{StationSettings}
use Rattle.packed_rows.specs.Rising.{rows_rise}
use Rattle.replay_laws.specs.Kept.{Kept, KeptFrom, Past, ItemHolds, HoldsRows, no_past, past_with_item}
use Rattle.replay_laws.specs.DumpCounts.{DumpsGather, DumpCount, dump_counts}
use Rattle.replay_laws.specs.Replay.{Item}
use Rattle.replay_laws.proofs.Rounds.{front_join}
use Rattle.promise_laws.specs.Places.{SomeItem, past_behind, rows_at}

module _ (settings : StationSettings) (records : List (List ℕ)) where
  kept_behind : (past : Past) (before : List Item) (item : Item) (after : List Item) → KeptFrom settings records past (before ++ item ∷ after)
      → ItemHolds settings records (past_behind past before) item
  kept_behind past [] item after kept = kept.0
  kept_behind past (first ∷ before) item after kept = kept_behind (past_with_item past first) before item after kept.1

  -- a run is not kept if one of its items has what no item that holds has
  pub refused : (has : Past → Item → Type 0) → ((past : Past) (item : Item) → has past item → ItemHolds settings records past item → ⊥)
      → (items : List Item) → SomeItem has items → Kept settings records items → ⊥
  refused has never items some kept =
      never (past_behind no_past some.before) some.item some.it_has
      (kept_behind no_past some.before some.item some.after (subst (Kept settings records) some.place kept))

  -- What is so of the rows of an archive at each item.
  pub record RowsHold (past : Past) (rows : List Row) : Type 0 where
    pub dumps : List DumpCount
    pub gathers : DumpsGather settings records dumps [] rows
    pub grows : IsFrontOf past.rows rows
    pub has_acknowledged : past.acknowledged ≤ length rows
    pub once : rows_rise None rows ≡ true

  found : (past : Past) (rows : List Row) → HoldsRows settings records past rows → RowsHold past rows
  found past rows h = record {
    dumps = past.dumps;
    gathers = h.gathers;
    grows = h.grows;
    has_acknowledged = h.has_acknowledged;
    once = h.once;
  }

  no_shorter : (xs ys : List Row) (n : ℕ) → IsFrontOf xs ys → n ≤ length xs → n ≤ length ys
  no_shorter xs ys n (rest, is) le =
      subst (λ (zs : List Row). n ≤ length zs) is (omega (arith, le, length-append xs rest))

  -- the rows at an item that holds
  pub rows_hold : (past : Past) (item : Item) (has : List Row → Type 0) → IsSomeAnd (rows_at item) has
      → ItemHolds settings records past item → (rows : List Row) × has rows × RowsHold past rows
  rows_hold past (Item.Opened rows n) has it h = (rows, it, found past rows h.found)
  rows_hold past (Item.OpenStopped change rows) has it h = (rows, it, found past rows h)
  rows_hold past (Item.Ran round) has it h = (
    round.rows,
    it,
    record {
      dumps = past.dumps ++ dump_counts round.tried;
      gathers = h.gathers;
      grows = front_join past.rows round.kept round.rows h.grows h.leaves;
      has_acknowledged = no_shorter round.kept round.rows past.acknowledged h.leaves h.has_acknowledged;
      once = h.once;
    },
  )
  rows_hold past (Item.Unsaid number which) has it h = absurd it
  rows_hold past (Item.Ended rows) has it h = (rows, it, found past rows h.found)
