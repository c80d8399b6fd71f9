-- A disk from which an archive is opened, and what the calls of a recovery made of it.
use Rattle.std.proofs.Common.{◌≡◌, ℕ, ◌+◌, ◌-◌, ◌<◌, ◌≤◌, ◌^◌, Bool, true, false, List, Some, refl, sym, ◌∙◌, ap, subst, arith, length, take}
use Rattle.std.proofs.lemmas.Bool.{false≢true}
use Rattle.causes.specs.Told.{WhereTold}
use Rattle.disk_model.specs.Disk.{IsDurable, Stays, BeginsChanges}
use Rattle.disk_model.specs.Stopping.{stopping_medium, stopping_state_of}
use Rattle.disk_model.specs.StoppingState.{StoppingState, after_stops}
use Rattle.disk_model.specs.declared.disk.Disked.TheVariants.{Done}
use Rattle.disk_model.specs.declared.mem_disk.MemDisk.{MemDisk}
use Rattle.disk_model.specs.declared.stopping.Stopping.{Stopping}
use Rattle.gated_log.proofs.RecoveryFinds.{still_durable}
use Rattle.gated_log.specs.Calls.{RecoveryCalls, up_to, recovery_changes, any_failed, changes}
use Rattle.gated_log.specs.Version.{is_refused}
use Rattle.gated_log.specs.declared.start.Purpose.TheVariants.{Write}
use Rattle.gated_log.specs.declared.version.Version.{Version}
use Rattle.packed_rows.specs.Rows.{holds, not_archive, damaged}
use Rattle.weather_book.specs.Stands.{HasRows}
use Rattle.weather_book.specs.Start.{FindsBook}
use Rattle.weather_book.specs.declared.start.BookStart.{BookStart}
use Rattle.weather_book.specs.declared.start.BookStart.TheVariants as start
use Rattle.replay_laws.specs.Keeping.{Archive}
use Rattle.replay_laws.specs.Stopped.{DiskRests}
use Rattle.gated_log.proofs.StoppedCalls.{IsArmed}
use Rattle.gated_log.specs.Layout.{empty_size}
use Rattle.round_play.specs.Opening.{CanOpen, stopping_limits}
use Rattle.round_play.specs.Resting.{AtRest, HasLeft}
use Rattle.round_play.proofs.RecoveryChanges.{Does, by_changes, fails_by_changes}
use Rattle.round_play.proofs.StoppedRecovery.{Halted, length_within, stops_within, last_failed, last_done}

-- A disk at rest but for a stop that may be armed, with room for an opening.
pub record Starts (k pick openings : ℕ) (a : Archive) (d : Stopping MemDisk) : Type 0 where
  pub rests : DiskRests a (stopping_state_of d) (stopping_medium.moment d)
  pub armed_is : (stopping_state_of d).armed ≡ k
  pub pick_is : (stopping_state_of d).pick ≡ pick
  pub image : List ℕ
  pub seen : stopping_medium.seen d ≡ Some image
  pub length_is : length image ≡ a.size
  pub rows : HasRows a.rows image
  pub durable : IsDurable stopping_medium d
  pub left : HasLeft openings a (stopping_state_of d)
  pub room : CanOpen d

pub starts_at_rest : (openings : ℕ) (a : Archive) (d : Stopping MemDisk) → AtRest openings a d → CanOpen d
    → Starts 0 (stopping_state_of d).pick openings a d
starts_at_rest openings a d r room = record {
  rests = r.rests;
  armed_is = r.unarmed;
  pick_is = refl;
  image = r.image;
  seen = r.seen;
  length_is = r.length_is;
  rows = r.rows;
  durable = r.durable;
  left = r.room;
  room = room;
}

-- after a stop was armed
module _ (k pick openings : ℕ) (a : Archive) (d e : Stopping MemDisk)
    (state : stopping_state_of e ≡ record (stopping_state_of d) { armed = k; pick = pick }) (stays : Stays stopping_medium d e) where
  rests_armed : DiskRests a (stopping_state_of d) (stopping_medium.moment d) → DiskRests a (stopping_state_of e) (stopping_medium.moment e)
  rests_armed r = record {
    goes = ap (λ (s : StoppingState). s.stopped) state ∙ r.goes;
    sure = ap (λ (s : StoppingState). s.inner.fails_at) state ∙ r.sure;
    size = ap (λ (s : StoppingState). s.inner.size) state ∙ r.size;
    synced = ap (λ (s : StoppingState). s.inner.synced_size) state ∙ r.synced;
    changes_are = stays.at ∙ r.changes_are;
  }

  left_armed : HasLeft openings a (stopping_state_of d) → HasLeft openings a (stopping_state_of e)
  left_armed r =
      subst (λ (s : StoppingState). HasLeft openings a s) (sym state) (record { changes = r.changes; bytes = r.bytes })

  room_armed : CanOpen d → CanOpen e
  room_armed r =
      let most : (stopping_limits e).capacity ≡ (stopping_limits d).capacity = ap (λ (s : StoppingState). s.inner.limits.capacity) state in
      let changes : (stopping_state_of e).inner.changes ≡ (stopping_state_of d).inner.changes = ap (λ (s : StoppingState). s.inner.changes) state in
      let bytes : (stopping_state_of e).inner.bytes ≡ (stopping_state_of d).inner.bytes = ap (λ (s : StoppingState). s.inner.bytes) state in
      record {
        capacity = omega (arith, r.capacity, most);
        changes = omega (arith, r.changes, changes);
        bytes = omega (arith, r.bytes, bytes);
        moments = subst (λ (m : ℕ). m + 3 < 2 ^ 64) (sym stays.at) r.moments;
      }

  pub starts_armed : AtRest openings a d → CanOpen d → Starts k pick openings a e
  starts_armed r room = record {
    rests = rests_armed r.rests;
    armed_is = ap (λ (s : StoppingState). s.armed) state;
    pick_is = ap (λ (s : StoppingState). s.pick) state;
    image = r.image;
    seen = stays.reads ∙ r.seen;
    length_is = r.length_is;
    rows = r.rows;
    durable = still_durable stopping_medium d e 0 stays r.durable;
    left = left_armed r.room;
    room = room_armed room;
  }

-- what the state tells
pub is_armed : (k pick openings : ℕ) (a : Archive) (d : Stopping MemDisk) → Starts k pick openings a d
    → IsArmed (stopping_state_of d) a.size k pick (stopping_limits d).capacity 3 empty_size
is_armed k pick openings a d r = record {
  goes = r.rests.goes;
  armed_is = r.armed_is;
  pick_is = r.pick_is;
  sure = r.rests.sure;
  size_is = r.rests.size;
  synced_is = r.rests.synced;
  capacity_is = omega arith;
  changes_are = r.room.changes;
  bytes_are = r.room.bytes;
}

-- the answers of a recovery of such a file
abbrev pub IsKnown : BookStart → Type 0
IsKnown (start.Book book) = Unit {0}
IsKnown (start.NotArchive bytes) = ⊥
IsKnown start.OldVersion = ⊥
IsKnown (start.Damaged place) = ⊥
IsKnown start.DiskFault = Unit {0}
IsKnown start.OutOfMemory = Unit {0}

pub is_known : (k pick openings : ℕ) (a : Archive) (d : Stopping MemDisk) → Starts k pick openings a d → (answer : BookStart)
    → WhereTold (stopping_medium.seen d) (FindsBook Write answer) → IsKnown answer
is_known k pick openings a d r (start.Book book) finds = tt
is_known k pick openings a d r (start.NotArchive bytes) finds =
    let e : holds a.rows ≡ not_archive = sym r.rows.rows_are ∙ (finds r.image r.seen).0 in cc e
is_known k pick openings a d r start.OldVersion finds =
    false≢true (sym (ap (λ (v : Version). is_refused Write v) r.rows.version_is) ∙ finds r.image r.seen)
is_known k pick openings a d r (start.Damaged place) finds =
    let e : holds a.rows ≡ damaged place = sym r.rows.rows_are ∙ (finds r.image r.seen).0 in cc e
is_known k pick openings a d r start.DiskFault finds = tt
is_known k pick openings a d r start.OutOfMemory finds = tt

-- What the calls of a recovery from there made of it, a call of them having failed or not.
module _ (k pick openings : ℕ) (a : Archive) (d e : Stopping MemDisk) (r : Starts k pick openings a d) (slots : ℕ) (failed : Bool)
    (begun : BeginsChanges stopping_medium 3 d e) (went : RecoveryCalls stopping_medium d e (stopping_medium.moment e - stopping_medium.moment d) slots failed) where
  does : Does (stopping_state_of d) (stopping_state_of e) went.calls (changes went.calls)
  does = by_changes went.calls (stopping_state_of d) (stopping_state_of e) r.rests.sure went.by.state

  pub went_by : after_stops (Some (stopping_state_of d)) (up_to (take (stopping_medium.moment e - stopping_medium.moment d) recovery_changes) went.answer) ≡ Some (stopping_state_of e)
  went_by = ap (λ cs. after_stops (Some (stopping_state_of d)) cs) (sym went.changes_are) ∙ does.state

  failed_by : any_failed (up_to (take (stopping_medium.moment e - stopping_medium.moment d) recovery_changes) went.answer) ≡ failed
  failed_by =
      ap any_failed (sym went.changes_are)
      ∙ sym (fails_by_changes 0 went.calls (stopping_state_of d) (stopping_state_of e) r.rests.goes r.rests.sure (omega arith) went.fits went.by.state) ∙ went.fails

  pub few : stopping_medium.moment e - stopping_medium.moment d ≤ 3
  few = omega (arith, begun.1)

  -- none failed
  pub went_well : failed ≡ false → 1 ≤ stopping_medium.moment e - stopping_medium.moment d
      → after_stops (Some (stopping_state_of d)) (up_to (take (stopping_medium.moment e - stopping_medium.moment d) recovery_changes) Done) ≡ Some (stopping_state_of e)
  went_well ok some =
      let last = last_done (stopping_medium.moment e - stopping_medium.moment d) went.answer some few (failed_by ∙ ok) in
      ap (λ answer. after_stops (Some (stopping_state_of d)) (up_to (take (stopping_medium.moment e - stopping_medium.moment d) recovery_changes) answer)) (sym last) ∙ went_by

  -- one failed: the disk stopped within the last change
  pub went_wrong : failed ≡ true
      → (1 ≤ stopping_medium.moment e - stopping_medium.moment d)
      × Halted (stopping_state_of e) a.size (length_within (stopping_medium.moment e - stopping_medium.moment d) a.size) k pick (stopping_medium.moment e - stopping_medium.moment d)
  went_wrong bad =
      let last = last_failed (stopping_medium.moment e - stopping_medium.moment d) went.answer few (failed_by ∙ bad) in (
        last.0,
        stops_within (stopping_state_of d) (stopping_state_of e) a.size k pick (stopping_limits d).capacity (is_armed k pick openings a d r)
            (stopping_medium.moment e - stopping_medium.moment d) r.room.capacity last.0 few
            (ap (λ answer. after_stops (Some (stopping_state_of d)) (up_to (take (stopping_medium.moment e - stopping_medium.moment d) recovery_changes) answer)) (sym last.1) ∙ went_by),
      )

-- with no stop armed none fails
pub never_wrong : (pick openings : ℕ) (a : Archive) (d e : Stopping MemDisk) (r : Starts 0 pick openings a d) (slots : ℕ) (failed : Bool)
    → BeginsChanges stopping_medium 3 d e → RecoveryCalls stopping_medium d e (stopping_medium.moment e - stopping_medium.moment d) slots failed
    → failed ≡ true → ⊥
never_wrong pick openings a d e r slots failed begun went bad =
    let wrong = went_wrong 0 pick openings a d e r slots failed begun went bad in
    absurd (omega (arith, wrong.0, wrong.1.at))
