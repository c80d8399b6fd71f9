-- No item that holds has rows that are made up, out of order, or gone.
use Rattle.std.proofs.Common.{ℕ, List, [], arith}
use Rattle.std.proofs.lemmas.List.Elements.{All-nil, All-contains}
use Rattle.causes.specs.Lists.{IsFrontOf}
use Rattle.settings_file.specs.StationSettings.{StationSettings}
use Rattle.station_base.specs.declared.row.Row.{Row}
use Rattle.std.specs.List.{Contains}
use Rattle.std.specs.Prelude.{◌<◌, length}
use Rattle.replay_laws.specs.Kept.{Past, ItemHolds}
use Rattle.replay_laws.specs.Replay.{Item}
use Rattle.promise_laws.specs.Rows.{IsOfRecord, HasMadeUpRow, StampsDoNotRise, HasStampTwice, HasLostRows, HasLostAcknowledged}
use Rattle.promise_laws.proofs.Found.{rows_hold}
use Rattle.promise_laws.proofs.StoredRows.{gathered_are_stored}
use Rattle.promise_laws.proofs.RisingStamps.{do_not_rise}

module _ (settings : StationSettings) (records : List (List ℕ)) where
  pub none_made_up : (past : Past) (item : Item) → HasMadeUpRow settings records past item → ItemHolds settings records past item → ⊥
  none_made_up past item has h =
      let (rows, (row, there, no_record), holds) =
      rows_hold settings records past item (λ rows. (row : Row) × Contains rows row × (IsOfRecord settings records row → ⊥)) has h in
      no_record (All-contains (IsOfRecord settings records) rows row
      (gathered_are_stored settings records holds.dumps [] rows (All-nil (IsOfRecord settings records)) holds.gathers) there)

  pub none_twice : (past : Past) (item : Item) → HasStampTwice past item → ItemHolds settings records past item → ⊥
  none_twice past item has h =
      let (rows, falls, holds) = rows_hold settings records past item StampsDoNotRise has h in
      do_not_rise rows falls holds.once

  pub none_lost : (past : Past) (item : Item) → HasLostRows past item → ItemHolds settings records past item → ⊥
  none_lost past item has h =
      let (rows, lost, holds) = rows_hold settings records past item (λ rows. IsFrontOf past.rows rows → ⊥) has h in
      lost holds.grows

  pub none_acknowledged_lost : (past : Past) (item : Item) → HasLostAcknowledged past item → ItemHolds settings records past item → ⊥
  none_acknowledged_lost past item has h =
      let (rows, fewer, holds) = rows_hold settings records past item (λ rows. length rows < past.acknowledged) has h in
      omega (arith, fewer, holds.has_acknowledged)
