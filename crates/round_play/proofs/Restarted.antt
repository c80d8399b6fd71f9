-- An archive at whose opening the disk stopped, after the restart.
use Rattle.std.proofs.Common.{◌≡◌, inl, inr, ⊎_elim, ℕ, ◌+◌, ◌-◌, ◌%◌, ◌<◌, ◌≤◌, ◌==◌, max, Bool, true, false, if◌then◌else◌, List, Some, refl, sym, ◌∙◌, ap, arith, length}
use Rattle.std.specs.Prelude.{nat_lt, ◌&&◌, ◌||◌}
use Rattle.std.proofs.lemmas.Bool.Decides.{nat_tests}
use Rattle.causes.specs.Told.{WhereTold}
use Rattle.disk_model.specs.Disk.{IsDurable, LeavesJust, LeavesOnly, BeginsChanges}
use Rattle.disk_model.specs.DiskState.{Limits}
use Rattle.disk_model.specs.MemDisk.{steps_on}
use Rattle.disk_model.specs.Picked.{picked_length}
use Rattle.disk_model.specs.Platter.{IsImage}
use Rattle.disk_model.specs.Stopping.{stopping_medium, stopping_state_of, platter_within, restart_image}
use Rattle.disk_model.specs.StoppingState.{StoppingState, begun_again}
use Rattle.disk_model.specs.TimeLaws.{le_or_gt, left_now, now_left}
use Rattle.disk_model.specs.declared.mem_disk.MemDisk.{MemDisk}
use Rattle.disk_model.specs.declared.stopping.Stopping.{Stopping}
use Rattle.gated_log.specs.Calls.{RecoveryCalls}
use Rattle.station_base.specs.declared.row.Row.{Row}
use Rattle.gated_log.specs.Layout.{empty_size}
use Rattle.weather_book.specs.Stands.{HasRows, NowHasRows}
use Rattle.schedule_file.specs.declared.schedule.step.Stop.{Stop}
use Rattle.replay_laws.specs.Keeping.{Archive}
use Rattle.replay_laws.specs.Replay.{cut_archive, stops_opening}
use Rattle.replay_laws.specs.Stopped.{DiskRests}
use Rattle.round_play.specs.Opening.{stopping_limits}
use Rattle.round_play.specs.Resting.{AtRest, HasLeft}
use Rattle.round_play.proofs.RecoveryCalls.{Starts, went_wrong, few}
use Rattle.round_play.proofs.RecoveryChanges.{limits_stay}
use Rattle.round_play.proofs.Opened.{left_by}
use Rattle.round_play.proofs.StoppedRecovery.{Halted, length_within}

-- of one length a restart picks that
same_picked : (pick size : ℕ) → picked_length pick size size ≡ size
same_picked pick size = by (pick == 0) (nat_lt pick 3)
  where
    by : (a b : Bool) → (if a then size else if b then size else size + pick % (size - size + 1)) ≡ size
    by true b = refl
    by false true = refl
    by false false = let rest : pick % (size - size + 1) < size - size + 1 = omega arith in omega (arith, rest)

-- an image that a crash now leaves is one of the platter, and the other way round
pub image_of : (d : Stopping MemDisk) (c : List ℕ) → stopping_medium.left d (stopping_medium.moment d) c → IsImage (platter_within d) c
image_of d c left = left_now d.disk.first.items d.disk.moment (steps_on d.disk) d.disk.numbered (stopping_medium.moment d) c (omega arith) left

pub left_of : (d : Stopping MemDisk) (c : List ℕ) → IsImage (platter_within d) c → stopping_medium.left d (stopping_medium.moment d) c
left_of d c is = now_left d.disk.first.items d.disk.moment (steps_on d.disk) d.disk.numbered c is

-- a stop that was reached
module _ (k size : ℕ) where
  pub within_sync : k ≡ 1 → stops_opening k size ≡ true
  within_sync one = let e : (k == 1) ≡ true = grind (arith, nat_tests, one) in rw e refl

  pub within_making : size ≤ empty_size → 1 ≤ k → k ≤ 3 → stops_opening k size ≡ true
  within_making short low high = by (k == 1) (k == 2) (k == 3) some (grind (arith, nat_tests))
    where
      some : ((k == 1) || ((k == 2) || (k == 3))) ≡ true
      some = grind (arith, nat_tests)

      by : (a b c : Bool) → (a || (b || c)) ≡ true → nat_lt empty_size size ≡ false → (a || ((b || c) && (if nat_lt empty_size size then false else true))) ≡ true
      by true b c is large = refl
      by false true c is large = rw large refl
      by false false true is large = rw large refl
      by false false false is large = absurd cc

-- what a restart made of a disk that had stopped
module _ (stop : Stop) (openings : ℕ) (a : Archive) (d e f : Stopping MemDisk) (r : Starts stop.change stop.pick openings a d) (count : ℕ) (failed : Bool)
    (begun : BeginsChanges stopping_medium 3 d e)
    (went : RecoveryCalls stopping_medium d e (stopping_medium.moment e - stopping_medium.moment d) count failed) (bad : failed ≡ true)
    (one_change : WhereTold (stopping_medium.seen d) (λ c. empty_size < length c → stopping_medium.moment e ≡ stopping_medium.moment d + 1)) where
  wrong : (1 ≤ stopping_medium.moment e - stopping_medium.moment d)
      × Halted (stopping_state_of e) a.size (length_within (stopping_medium.moment e - stopping_medium.moment d) a.size) stop.change stop.pick (stopping_medium.moment e - stopping_medium.moment d)
  wrong = went_wrong stop.change stop.pick openings a d e r count failed begun went bad

  at_most : stop.change ≤ 3
  at_most = let n = few stop.change stop.pick openings a d e r count failed begun went in omega (arith, n, wrong.1.at)

  long_once : empty_size < a.size → stop.change ≡ 1
  long_once long = let is = one_change r.image r.seen (omega (arith, r.length_is, long)) in omega (arith, wrong.1.at, is)

  pub reached : stops_opening stop.change a.size ≡ true
  reached = elim (le_or_gt a.size empty_size) [
    | inl short ↦ within_making stop.change a.size short (omega (arith, wrong.0, wrong.1.at)) at_most
    | inr long ↦ within_sync stop.change a.size (long_once long)
  ]

  module _ (images : (rows : List Row) → NowHasRows stopping_medium d rows → LeavesOnly stopping_medium (HasRows rows) d e)
      (was_left : stopping_medium.left e (stopping_medium.moment e) (restart_image e))
      (length_is : length (restart_image e) ≡ picked_length (stopping_state_of e).pick (stopping_state_of e).inner.synced_size (stopping_state_of e).inner.size)
      (reads : stopping_medium.seen f ≡ Some (restart_image e)) (synced : stopping_medium.synced f ≡ Some (restart_image e))
      (just : LeavesJust (stopping_medium.left f) (restart_image e)) (moment : stopping_medium.moment f ≡ stopping_medium.moment e)
      (state : stopping_state_of f ≡ begun_again (length (restart_image e)) (stopping_state_of e)) where
    -- its rows
    rows_left : HasRows a.rows (restart_image e)
    rows_left =
        let now = left_by d a.rows r.image r.durable r.seen r.rows in
        let since = stopping_medium.since e (stopping_medium.moment d) (stopping_medium.moment e) (restart_image e) begun.0 was_left in
        ⊎_elim (λ was. now (restart_image e) was) (λ has. has) (images a.rows now (stopping_medium.moment d) (restart_image e) (omega arith) since)

    -- its length
    length_left : length (restart_image e) ≡ (cut_archive stop a).size
    length_left =
        length_is ∙ ap (λ (p : ℕ). picked_length p (stopping_state_of e).inner.synced_size (stopping_state_of e).inner.size) wrong.1.pick_is
        ∙ ap (λ (n : ℕ). picked_length stop.pick n (stopping_state_of e).inner.size) wrong.1.synced_is
        ∙ ap (λ (n : ℕ). picked_length stop.pick a.size n) (wrong.1.size_is ∙ ap (λ (n : ℕ). length_within n a.size) (sym wrong.1.at)) ∙ by (stop.change == 1) refl
      where
        by : (b : Bool) → (stop.change == 1) ≡ b → picked_length stop.pick a.size (if b then a.size else max a.size empty_size) ≡ (if b then a.size else picked_length stop.pick a.size empty_size)
        by true is = same_picked stop.pick a.size
        by false is = elim (le_or_gt a.size empty_size) [
          | inl short ↦ ap (λ (n : ℕ). picked_length stop.pick a.size n) (let e : max a.size empty_size ≡ empty_size = omega (arith, short) in e)
          | inr long ↦ absurd (let one = long_once long in let e : (stop.change == 1) ≡ true = grind (arith, nat_tests, one) in cc)
        ]

    rests_left : DiskRests (cut_archive stop a) (stopping_state_of f) (stopping_medium.moment f)
    rests_left = record {
      goes = ap (λ (s : StoppingState). s.stopped) state;
      sure = ap (λ (s : StoppingState). s.inner.fails_at) state ∙ wrong.1.sure;
      size = ap (λ (s : StoppingState). s.inner.size) state ∙ length_left;
      synced = ap (λ (s : StoppingState). s.inner.synced_size) state ∙ length_left;
      changes_are = omega (arith, moment, begun.0, r.rests.changes_are, wrong.1.at);
    }

    limits_left : stopping_limits f ≡ stopping_limits d
    limits_left = ap (λ (s : StoppingState). s.inner.limits) state ∙ limits_stay went.calls (stopping_state_of d) (stopping_state_of e) went.by.state

    room_left : HasLeft (openings + 1) (cut_archive stop a) (stopping_state_of f)
    room_left =
        let changes : (stopping_state_of f).inner.changes ≡ (stopping_limits e).changes = ap (λ (s : StoppingState). s.inner.changes) state in
        let bytes : (stopping_state_of f).inner.bytes ≡ (stopping_limits e).bytes = ap (λ (s : StoppingState). s.inner.bytes) state in
        let limits : stopping_limits f ≡ stopping_limits e = ap (λ (s : StoppingState). s.inner.limits) state in
        let most_changes : (stopping_limits f).changes ≡ (stopping_limits e).changes = ap (λ (l : Limits). l.changes) limits in
        let most_bytes : (stopping_limits f).bytes ≡ (stopping_limits e).bytes = ap (λ (l : Limits). l.bytes) limits in
        record { changes = omega (arith, changes, most_changes); bytes = omega (arith, bytes, most_bytes) }

    durable_left : IsDurable stopping_medium f
    durable_left c now = reads ∙ ap (λ (x : List ℕ). Some x) (sym (just.nothing_else (stopping_medium.moment f) c now))

    pub at_rest_again : AtRest (openings + 1) (cut_archive stop a) f
    at_rest_again = record {
      rests = rests_left;
      unarmed = ap (λ (s : StoppingState). s.armed) state;
      image = restart_image e;
      seen = reads;
      synced = synced;
      length_is = length_left;
      rows = rows_left;
      durable = durable_left;
      left = left_by f a.rows (restart_image e) durable_left reads rows_left;
      room = room_left;
    }
