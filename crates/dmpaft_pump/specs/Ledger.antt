-- What a keeper tells of what it keeps, as one value.
use Rattle.std.specs.Prelude.{◌≡◌, ℕ, ◌+◌, ◌≤◌, List, Option}
use Rattle.station_base.specs.CivilMinute.{CivilMinute}
use Rattle.causes.specs.declared.stored.Stored.{Stored}
use Rattle.dmpaft_pump.specs.Keeper.{Handed, one_batch, kept_all, join, last_kept}

-- What keepers of type K tell: the stamp of the last record kept, if there is one; how many more batches may be handed
-- over, which says nothing of whether they will be kept; that one became another by these batches. A keeper becomes
-- itself by no batch, and batches behind others that were kept are handed over in one.
pub record Ledger (K : Type 0) : Type 1 where
  pub last : K → Option CivilMinute
  pub room : K → ℕ
  pub keeps : K → Handed → K → Type 0
  pub keeps_none : (k : K) → keeps k Handed.Nothing k
  pub keeps_joins : (k l m : K) (first : List (List (List ℕ))) (later : Handed)
      → keeps k (kept_all first) l → keeps l later m → keeps k (join (kept_all first) later) m

-- what a keeper did with one batch, by its answer
pub record Keeps {K : Type 0} (ledger : Ledger K) (old : K) (rows : List (List ℕ)) (answer : Stored) (new : K)
    : Type 0 where
  pub room : ledger.room old ≤ ledger.room new + 1
  pub last : ledger.last new ≡ last_kept (one_batch answer rows) (ledger.last old)
  pub keeps : ledger.keeps old (one_batch answer rows) new
