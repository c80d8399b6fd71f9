-- What was said and heard tells which pages were taken, which were acknowledged, and how an attempt ended.
use Rattle.std.specs.Prelude.{◌≡◌, ◌≢◌, ℕ, true, List, [], ◌∷◌, ◌++◌, Option}
use Rattle.causes.specs.Lists.{IsFrontOf}
use Rattle.station_base.specs.CivilMinute.{CivilMinute}
use Rattle.serial_link.specs.declared.talk.TalkItem.{TalkItem}
use Rattle.serial_link.specs.declared.talk.TalkItem.TheVariants.{Said}
use Rattle.vantage_frames.specs.StampFrame.{stamp_frame_of}
use Rattle.wake_retry.specs.Parts.{heard}
use Rattle.dmpaft_pump.specs.declared.outcome.DumpEnd.{DumpEnd}
use Rattle.dmpaft_driver.specs.Attempt.{End, Attempt}
use Rattle.dmpaft_pump.specs.Batch.{batches}
use Rattle.dmpaft_pump.specs.Keeper.{kept_in}
use Rattle.dmpaft_driver.specs.Outcome.{Ended, IsCutAfter}
use Rattle.dmpaft_driver.specs.Gathered.{dump_batches, RefusesLast}

-- Two readings of one talk agree: on the pages, on the end, and where a page was taken on the place in the header.
pub record Agree (place place' : ℕ) (taken taken' : List (List ℕ)) (end end' : End) : Type 0 where
  pub pages : taken ≡ taken'
  pub ends : end ≡ end'
  pub places : taken ≢ [] → place ≡ place'

-- one stamp frame and one talk have one list of taken pages and one end
abbrev pub OneAttempt : Type 0
OneAttempt = (frame : List ℕ) (talk : List TalkItem) (place place' : ℕ) (taken taken' : List (List ℕ))
    (end end' : End) → Attempt frame talk place taken end → Attempt frame talk place' taken' end'
    → Agree place place' taken taken' end end'

-- the prefix of an attempt has one list of pages that were taken in it
abbrev pub OneFront : Type 0
OneFront = (frame : List ℕ) (talk : List TalkItem) (place place' : ℕ) (taken taken' : List (List ℕ))
    → IsCutAfter (λ t pages end. Attempt frame t place pages end) talk taken
    → IsCutAfter (λ t pages end. Attempt frame t place' pages end) talk taken' → taken ≡ taken'

-- in this talk 0x06 was said right after the last of these pages was taken
abbrev pub Acknowledges : List ℕ → List TalkItem → ℕ → List (List ℕ) → Type 0
Acknowledges frame talk place pages =
    (front : List TalkItem) × (rest : List TalkItem) × (talk ≡ front ++ Said 6 true ∷ rest)
    × Attempt frame front place pages End.Refused

-- An attempt after this stamp, with what was said and heard in it, the place in the header, the pages taken, and the
-- end answered; a batch that was refused is that of the last page.
pub record IsAttempt (after : Option CivilMinute) (talk : List TalkItem) (place : ℕ) (taken : List (List ℕ))
    (end : DumpEnd) : Type 0 where
  pub ends : Ended (λ t pages e. Attempt (stamp_frame_of after) t place pages e) end talk taken
  pub refused : RefusesLast end after place taken

-- the batches of acknowledged pages were kept before all others
abbrev pub AcknowledgedAreKept : Type 0
AcknowledgedAreKept = (after : Option CivilMinute) (talk : List TalkItem) (place place' : ℕ)
    (taken pages : List (List ℕ)) (end : DumpEnd) → IsAttempt after talk place taken end
    → Acknowledges (stamp_frame_of after) talk place' pages
    → IsFrontOf (batches after place' pages) (kept_in (dump_batches end after place taken))

-- of pages that were taken the first were acknowledged, where others were taken after them or the last was not refused
abbrev pub TakenAreAcknowledged : Type 0
TakenAreAcknowledged = (frame : List ℕ) (talk : List TalkItem) (place : ℕ) (first more : List (List ℕ)) (end : End)
    → Attempt frame talk place (first ++ more) end → first ≢ [] → (more ≡ [] → end ≢ End.Refused)
    → Acknowledges frame talk place first

-- these stand in these bytes, one behind the other
abbrev pub StandIn : List (List ℕ) → List ℕ → Type 0
StandIn [] bytes = Unit {0}
StandIn (page ∷ more) bytes =
    (before : List ℕ) × (behind : List ℕ) × (bytes ≡ before ++ (page ++ behind)) × StandIn more behind

-- the pages that were taken stand in what was heard
abbrev pub TakenWereHeard : Type 0
TakenWereHeard = (frame : List ℕ) (talk : List TalkItem) (place : ℕ) (taken : List (List ℕ)) (end : End)
    → Attempt frame talk place taken end → StandIn taken (heard talk)
