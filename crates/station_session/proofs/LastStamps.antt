-- The stamp of the last record kept, behind another one.
use Rattle.std.proofs.Common.{◌≡◌, ℕ, true, List, [], ◌∷◌, refl, sym, ◌∙◌, ap, subst, Option, Some, None}
use Rattle.station_base.specs.CivilMinute.{CivilMinute}
use Rattle.station_base.specs.LastStamp.{exceeds, Rises, last_stamp}
use Rattle.archive_record.specs.Reading.{stamp_in}
use Rattle.causes.specs.declared.stored.Stored.{Stored}
use Rattle.causes.specs.declared.stored.Stored.TheVariants.{Done, Full, Stale, DiskFault}
use Rattle.dmpaft_pump.specs.Batch.{slots_in_page, rising, newest, add, batches, answered_batches}
use Rattle.dmpaft_pump.specs.Keeper.{Handed, one_batch, join, last_kept}
use Rattle.dmpaft_driver.specs.Gathered as gathered
use Rattle.dmpaft_pump.specs.Pump.{AttemptState, Saying, Hearing, Keeping, Over, Astray}
use Rattle.dmpaft_pump.specs.Shown.{all_kept, pump_answer}
use Rattle.dmpaft_driver.specs.Standing.{place_of_part, taken_in, handed_over}
use Rattle.dmpaft_pump.proofs.HandedBatches.{kept_answered}
use Rattle.dmpaft_pump.proofs.Rows.{rows_rise, within_self}
use Rattle.station_session.specs.Attempts.{MadeAttempt, batches_in, stamp_after, all_batches}
use Rattle.station_session.specs.Fits.{first_some}

-- where one of these was kept it tells the last stamp, whatever it was before
abbrev pub TellsLast : Handed → Type 0
TellsLast h = (before : Option CivilMinute) → last_kept h before ≡ first_some (last_kept h None) before

pub first_joins : (a b c : Option CivilMinute) → first_some a (first_some b c) ≡ first_some (first_some a b) c
first_joins None b c = refl
first_joins (Some x) b c = refl

none_exceeds : (b : Option CivilMinute) → exceeds b None ≡ true → ⊥
none_exceeds None e = cc
none_exceeds (Some x) e = cc

-- the last of records that rise has a stamp
last_tells : (b : Option CivilMinute) (rows : List (List ℕ)) → Rises stamp_in b rows → (before : Option CivilMinute) → last_stamp stamp_in rows before ≡ first_some (last_stamp stamp_in rows None) before
last_tells b [] h before = refl
last_tells b (r ∷ rows) h before = go (stamp_in r) h.0 (last_tells (stamp_in r) rows h.1 (stamp_in r))
  where
    go : (o : Option CivilMinute) → exceeds b o ≡ true → last_stamp stamp_in rows o ≡ first_some (last_stamp stamp_in rows None) o → last_stamp stamp_in rows o ≡ first_some (last_stamp stamp_in rows o) before
    go None e ih = absurd (none_exceeds b e)
    go (Some y) e ih = ih ∙ first_joins (last_stamp stamp_in rows None) (Some y) before ∙ ap (λ z. first_some z before) (sym ih)

-- the records of each batch that was kept tell the last stamp
abbrev AllTell : Handed → Type 0
AllTell Handed.Nothing = Unit {0}
AllTell (Handed.Kept rows more) = ((before : Option CivilMinute) → last_stamp stamp_in rows before ≡ first_some (last_stamp stamp_in rows None) before) × AllTell more
AllTell (Handed.Refused rows why) = Unit {0}

tells : (h : Handed) → AllTell h → TellsLast h
tells Handed.Nothing t before = refl
tells (Handed.Kept rows more) t before =
    tells more t.1 (last_stamp stamp_in rows before) ∙ ap (λ z. first_some (last_kept more None) z) (t.0 before) ∙ first_joins (last_kept more None) (last_stamp stamp_in rows None) before
    ∙ ap (λ z. first_some z before) (sym (tells more t.1 (last_stamp stamp_in rows None)))
tells (Handed.Refused rows why) t before = refl

all_join : (h k : Handed) → AllTell h → AllTell k → AllTell (join h k)
all_join Handed.Nothing k t u = u
all_join (Handed.Kept rows more) k t u = (t.0, all_join more k t.1 u)
all_join (Handed.Refused rows why) k t u = tt

one_tells : (k : Stored) (b : Option CivilMinute) (rows : List (List ℕ)) → Rises stamp_in b rows → AllTell (one_batch k rows)
one_tells Done b rows h = (last_tells b rows h, tt)
one_tells Full b rows h = tt
one_tells Stale b rows h = tt
one_tells DiskFault b rows h = tt

more_tells : (k : Stored) (b : Option CivilMinute) (rows : List (List ℕ)) → Rises stamp_in b rows → (bs : List (List (List ℕ))) → AllTell (answered_batches k bs) → AllTell (answered_batches k (rows ∷ bs))
more_tells k b rows h [] ih = one_tells k b rows h
more_tells k b rows h (x ∷ bs) ih = (last_tells b rows h, ih)

answered_tells : (k : Stored) (a : Option CivilMinute) (place : ℕ) (taken : List (List ℕ)) → AllTell (answered_batches k (batches a place taken))
answered_tells k a place [] = tt
answered_tells k a place (page ∷ more) = go (rising a (slots_in_page place page)) (rows_rise a a (slots_in_page place page) (within_self a)) (answered_tells k (newest a (slots_in_page place page)) 0 more)
  where
    go : (rows : List (List ℕ)) → Rises stamp_in a rows → AllTell (answered_batches k (batches (newest a (slots_in_page place page)) 0 more)) → AllTell (answered_batches k (add rows (batches (newest a (slots_in_page place page)) 0 more)))
    go [] h ih = ih
    go (r ∷ rows) h ih = more_tells k a (r ∷ rows) h (batches (newest a (slots_in_page place page)) 0 more) ih

kept_tell : (a : Option CivilMinute) (place : ℕ) (taken : List (List ℕ)) → TellsLast (all_kept a place taken)
kept_tell a place taken = subst TellsLast (kept_answered (batches a place taken)) (tells (answered_batches Done (batches a place taken)) (answered_tells Done a place taken))

pub handed_tells : (a : Option CivilMinute) (s : AttemptState) → TellsLast (handed_over a s)
handed_tells a (Saying part i others) = kept_tell a (place_of_part part) (taken_in part)
handed_tells a (Hearing part bytes run) = kept_tell a (place_of_part part) (taken_in part)
handed_tells a (Keeping more place taken page) = kept_tell a place taken
handed_tells a (Over place taken end) = tells (answered_batches (pump_answer end) (batches a place taken)) (answered_tells (pump_answer end) a place taken)
handed_tells a Astray = λ before. refl

all_of_each : (last : Option CivilMinute) (ts : List MadeAttempt) → AllTell (all_batches last ts)
all_of_each last [] = tt
all_of_each last (t ∷ ts) = all_join (batches_in last t) (all_batches (stamp_after last t) ts) (answered_tells (gathered.keeper_answer t.end) last t.place t.taken) (all_of_each (stamp_after last t) ts)

pub all_tell : (last : Option CivilMinute) (ts : List MadeAttempt) → TellsLast (all_batches last ts)
all_tell last ts = tells (all_batches last ts) (all_of_each last ts)
