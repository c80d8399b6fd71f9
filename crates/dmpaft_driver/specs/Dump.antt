-- What a dump, or what is left of one, does to its link, its keeper and the tally.
use Rattle.std.specs.Prelude.{◌≡◌, ℕ, ◌+◌, ◌*◌, ◌≤◌, ◌<◌, ◌^◌, List, Option}
use Rattle.station_base.specs.CivilMinute.{CivilMinute}
use Rattle.causes.specs.Cause.{Cause}
use Rattle.serial_link.specs.declared.talk.TalkItem.{TalkItem}
use Rattle.serial_link.specs.Traffic.{Traffic}
use Rattle.serial_link.specs.Talk.{Adds}
use Rattle.vantage_frames.specs.declared.header.TheConstants.{MOST_PAGES}
use Rattle.dmpaft_pump.specs.declared.batch.TheConstants.{MOST_RECORDS}
use Rattle.dmpaft_pump.specs.declared.outcome.DumpEnd.{DumpEnd}
use Rattle.dmpaft_pump.specs.declared.outcome.DumpEnd.TheVariants as dump_end
use Rattle.dmpaft_pump.specs.declared.outcome.Tally.{Tally}
use Rattle.dmpaft_pump.specs.Ledger.{Ledger}
use Rattle.dmpaft_pump.specs.Slot.{StampIsWithin}
use Rattle.dmpaft_driver.specs.Attempt.{End}
use Rattle.dmpaft_driver.specs.Outcome.{Ended}
use Rattle.dmpaft_driver.specs.Gathered.{Gathers}

-- What a dump works on: a link, a keeper, and the tally of the attempts so far.
pub record DumpHost (L K : Type 0) : Type 0 where
  pub link : L
  pub keeper : K
  pub tally : Tally

-- a link, a keeper and a tally as one value
abbrev pub host : {L K : Type 0} → L → K → Tally → DumpHost L K
host link keeper tally = record { link = link; keeper = keeper; tally = tally }

-- What was said and heard follows the grammar of an attempt, or of what is left of one, to the end answered; its
-- batches were handed over, and its pages tallied.
pub record Dumped {L K : Type 0} (G : List TalkItem → ℕ → List (List ℕ) → End → Type 0) (traffic : Traffic L)
    (ledger : Ledger K) (after : Option CivilMinute) (end : DumpEnd) (old new : DumpHost L K) : Type 0 where
  pub said : List TalkItem
  pub place : ℕ
  pub taken : List (List ℕ)
  pub ends : Ended (λ t pages e. G t place pages e) end said taken
  pub adds : Adds traffic old.link said new.link
  pub gathers : Gathers ledger end after place taken old.keeper old.tally new.keeper new.tally

-- a dump may begin: the keeper's last record is not newer than the stamp asked for, and there is room for one dump
pub record MayDump {K : Type 0} (ledger : Ledger K) (keeper : K) (after : Option CivilMinute) (tally : Tally)
    : Type 0 where
  pub last : StampIsWithin (ledger.last keeper) after
  pub room : MOST_PAGES ≤ ledger.room keeper
  pub pages : tally.pages < 2 ^ 31
  pub skipped : tally.skipped < 2 ^ 31

-- a dump, or what is left of one, failed only where the link did, and took no more than one dump can
pub record Bounds {L K : Type 0} (traffic : Traffic L) (ledger : Ledger K) (end : DumpEnd) (old new : DumpHost L K)
    : Type 0 where
  pub fault : Cause (traffic.faults old.link) (traffic.faults new.link) (end ≡ dump_end.LinkFault)
  pub shortage : Cause (traffic.shortages old.link) (traffic.shortages new.link) (end ≡ dump_end.OutOfMemory)
  pub room : ledger.room old.keeper ≤ ledger.room new.keeper + MOST_PAGES
  pub pages : new.tally.pages ≤ old.tally.pages + MOST_PAGES
  pub skipped : new.tally.skipped ≤ old.tally.skipped + MOST_RECORDS * MOST_PAGES
