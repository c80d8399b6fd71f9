-- What taken pages give to a keeper and to the tally, by the end answered.
use Rattle.std.specs.Prelude.{◌≡◌, ◌≢◌, ℕ, ◌+◌, List, length, Option}
use Rattle.station_base.specs.CivilMinute.{CivilMinute}
use Rattle.causes.specs.declared.stored.Stored.{Stored}
use Rattle.causes.specs.declared.stored.Stored.TheVariants as stored
use Rattle.dmpaft_pump.specs.declared.outcome.DumpEnd.{DumpEnd}
use Rattle.dmpaft_pump.specs.declared.outcome.DumpEnd.TheVariants as dump_end
use Rattle.dmpaft_pump.specs.declared.outcome.Tally.{Tally}
use Rattle.dmpaft_pump.specs.Keeper.{Handed, last_kept}
use Rattle.dmpaft_pump.specs.Ledger.{Ledger}
use Rattle.dmpaft_pump.specs.Batch.{batches, answered_batches, all_skipped, EndsGiving}

-- what the keeper answered to the last batch
abbrev pub keeper_answer : DumpEnd → Stored
keeper_answer dump_end.Full = stored.Full
keeper_answer dump_end.Stale = stored.Stale
keeper_answer dump_end.DiskFault = stored.DiskFault
keeper_answer other = stored.Done

-- what becomes of the batches of the taken pages after the last stamp, of the first page from a place on
abbrev pub dump_batches : DumpEnd → Option CivilMinute → ℕ → List (List ℕ) → Handed
dump_batches end last place taken = answered_batches (keeper_answer end) (batches last place taken)

-- a batch that was refused is that of the last page
abbrev pub RefusesLast : DumpEnd → Option CivilMinute → ℕ → List (List ℕ) → Type 0
RefusesLast end after place taken = keeper_answer end ≢ stored.Done → EndsGiving after place taken

-- The batches of taken pages were handed over, and the pages were tallied.
pub record Gathers {K : Type 0} (ledger : Ledger K) (end : DumpEnd) (after : Option CivilMinute) (place : ℕ)
    (taken : List (List ℕ)) (k : K) (tally : Tally) (l : K) (now : Tally) : Type 0 where
  pub handed : ledger.keeps k (dump_batches end after place taken) l
  pub refused : RefusesLast end after place taken
  pub pages : now.pages ≡ tally.pages + length taken
  pub skipped : now.skipped ≡ tally.skipped + all_skipped place taken
  pub last : now.last ≡ last_kept (dump_batches end after place taken) tally.last
