-- An archive that was opened.
use Rattle.std.proofs.Common.{◌≡◌, inl, inr, ℕ, ◌+◌, ◌-◌, ◌<◌, ◌≤◌, ◌==◌, max, Bool, true, false, if◌then◌else◌, List, Some, refl, sym, ◌∙◌, ap, subst, arith, length, take}
use Rattle.std.specs.Prelude.{nat_lt, ◌&&◌, ◌||◌}
use Rattle.std.proofs.lemmas.Bool.Decides.{nat_tests}
use Rattle.causes.specs.Told.{WhereTold, map_told}
use Rattle.disk_model.specs.Disk.{IsDurable, Stays, BeginsChanges, written}
use Rattle.disk_model.specs.DiskState.{Limits}
use Rattle.disk_model.specs.ImageLaws.{length-written}
use Rattle.disk_model.specs.Stopping.{stopping_medium, stopping_state_of, platter_within}
use Rattle.disk_model.specs.StoppingState.{StoppingState, after_stops}
use Rattle.disk_model.specs.TimeLaws.{le_or_gt}
use Rattle.disk_model.specs.declared.disk.Disked.TheVariants.{Done}
use Rattle.disk_model.specs.declared.mem_disk.MemDisk.{MemDisk}
use Rattle.disk_model.specs.declared.stopping.Stopping.{Stopping}
use Rattle.gated_log.specs.Calls.{RecoveryCalls, up_to, recovery_changes}
use Rattle.gated_log.specs.Log.{empty_archive}
use Rattle.gated_log.specs.Start.{MovedToWrite, remade}
use Rattle.station_base.specs.declared.row.Row.{Row}
use Rattle.packed_rows.specs.Rows.{holds, rows_of}
use Rattle.weather_book.proofs.BookOnDisk.{stands_stays}
use Rattle.weather_book.specs.Stands.{HasRows, NowHasRows, ReadsRows, StandsOn}
use Rattle.weather_book.specs.Book as book_words
use Rattle.weather_book.specs.declared.book.Book.{Book}
use Rattle.settings_file.specs.StationSettings.{StationSettings}
use Rattle.gated_log.specs.Layout.{empty_size}
use Rattle.station_session.specs.Session.{book_of, session_settings}
use Rattle.station_session.specs.declared.session.Session.{Session}
use Rattle.replay_laws.specs.Keeping.{Archive}
use Rattle.replay_laws.specs.Replay.{archive_made_ready, stops_opening}
use Rattle.replay_laws.specs.Stopped.{DiskRests}
use Rattle.round_play.specs.Opening.{IsOpened, stopping_limits}
use Rattle.round_play.specs.Resting.{AtRest, HasLeft}
use Rattle.round_play.proofs.RecoveryCalls.{Starts, is_armed, went_well}
use Rattle.round_play.proofs.RecoveryChanges.{limits_stay}
use Rattle.round_play.proofs.StoppedRecovery.{Passed, synced_once, made_anew}

-- an image has one list of rows
pub same_rows : (rows others : List Row) (image : List ℕ) → rows_of image ≡ holds rows → rows_of image ≡ holds others → rows ≡ others
same_rows rows others image one two = let e : holds rows ≡ holds others = sym one ∙ two in cc

-- what was synced last is what a read gives, where a crash leaves that
pub synced_seen : (d : Stopping MemDisk) (image : List ℕ) → IsDurable stopping_medium d → stopping_medium.seen d ≡ Some image
    → stopping_medium.synced d ≡ Some image
synced_seen d image durable seen =
    sym (durable (platter_within d).synced (stopping_medium.synced_image d (platter_within d).synced refl)) ∙ seen

-- so each image that a crash now leaves has the rows that a read gives
pub left_by : (d : Stopping MemDisk) (rows : List Row) (image : List ℕ) → IsDurable stopping_medium d → stopping_medium.seen d ≡ Some image
    → HasRows rows image → NowHasRows stopping_medium d rows
left_by d rows image durable seen has c now =
    let e : Some image ≡ Some c = sym seen ∙ durable c now in let same : image ≡ c = cc in subst (HasRows rows) same has

-- the length of a file that was made anew, or was longer
remade_length : (image : List ℕ) → length (remade image) ≡ max (length image) empty_size
remade_length image = by (nat_lt (length image) (empty_size + 1)) refl
  where
    by : (b : Bool) → nat_lt (length image) (empty_size + 1) ≡ b → length (if b then written 0 empty_archive image else image) ≡ max (length image) empty_size
    by true short = length-written 0 empty_archive image
    by false long = let e : empty_size + 1 ≤ length image = grind (arith, nat_tests, long) in omega (arith, e)

-- a stop that was not reached
module _ (k size : ℕ) where
  pub not_in_three : (1 ≤ k → 3 < k) → stops_opening k size ≡ false
  not_in_three passed =
      let one : (k == 1) ≡ false = grind (arith, nat_tests, passed) in
      let two : (k == 2) ≡ false = grind (arith, nat_tests, passed) in
      let three : (k == 3) ≡ false = grind (arith, nat_tests, passed) in
      rw (one, two, three) refl

  pub not_in_one : empty_size < size → (1 ≤ k → 1 < k) → stops_opening k size ≡ false
  not_in_one long passed =
      let one : (k == 1) ≡ false = grind (arith, nat_tests, passed) in
      let large : nat_lt empty_size size ≡ true = grind (arith, nat_tests) in
      rw (one, large) (nothing (k == 2 || k == 3))
    where
      nothing : (b : Bool) → (b && false) ≡ false
      nothing true = refl
      nothing false = refl

-- what a recovery that went well made of the state
pub record Opens (k : ℕ) (a : Archive) (d e : Stopping MemDisk) : Type 0 where
  pub changes : ℕ
  pub passed : Passed (stopping_state_of d) (stopping_state_of e) k changes (max a.size empty_size)
  pub some : 1 ≤ changes
  pub moments : stopping_medium.moment e ≡ stopping_medium.moment d + changes
  pub changes_are : changes ≡ (if nat_lt empty_size a.size then 1 else 3)
  pub unreached : stops_opening k a.size ≡ false
  pub limits : stopping_limits e ≡ stopping_limits d

module _ (k pick openings : ℕ) (a : Archive) (d e : Stopping MemDisk) (r : Starts k pick openings a d) (count : ℕ)
    (begun : BeginsChanges stopping_medium 3 d e)
    (went : RecoveryCalls stopping_medium d e (stopping_medium.moment e - stopping_medium.moment d) count false)
    (moved : WhereTold (stopping_medium.seen d) (MovedToWrite (stopping_medium.moment d) (stopping_medium.moment e))) where
  went_changes : (n : ℕ) → 1 ≤ n → stopping_medium.moment e ≡ stopping_medium.moment d + n
      → after_stops (Some (stopping_state_of d)) (up_to (take n recovery_changes) Done) ≡ Some (stopping_state_of e)
  went_changes n some is =
      let same : stopping_medium.moment e - stopping_medium.moment d ≡ n = omega (arith, is) in
      subst (λ (m : ℕ). after_stops (Some (stopping_state_of d)) (up_to (take m recovery_changes) Done) ≡ Some (stopping_state_of e)) same
      (went_well k pick openings a d e r count false begun went refl (omega (arith, same, some)))

  pub opens : Opens k a d e
  opens = elim (le_or_gt (length r.image) empty_size) [
    | inl short ↦
        let is = (moved r.image r.seen).made short in
        let passed = made_anew (stopping_state_of d) (stopping_state_of e) a.size k pick (stopping_limits d).capacity (is_armed k pick openings a d r) (went_changes 3 (omega arith) is) in
        let small : nat_lt empty_size a.size ≡ false = (let le : a.size ≤ empty_size = omega (arith, r.length_is, short) in grind (arith, nat_tests, le)) in
        record {
          changes = 3;
          passed = passed;
          some = omega arith;
          moments = is;
          changes_are = ap (λ (b : Bool). if b then 1 else 3) (sym small);
          unreached = not_in_three k a.size passed.passed;
          limits = limits_stay went.calls (stopping_state_of d) (stopping_state_of e) went.by.state;
        }
    | inr long ↦
        let is = (moved r.image r.seen).kept long in
        let gt : empty_size < a.size = omega (arith, r.length_is, long) in
        let passed = synced_once (stopping_state_of d) (stopping_state_of e) a.size k pick (stopping_limits d).capacity (is_armed k pick openings a d r) (went_changes 1 (omega arith) is) in
        let large : nat_lt empty_size a.size ≡ true = grind (arith, nat_tests, gt) in
        let size : a.size ≡ max a.size empty_size = omega (arith, gt) in
        record {
          changes = 1;
          passed = subst (λ (n : ℕ). Passed (stopping_state_of d) (stopping_state_of e) k 1 n) size passed;
          some = omega arith;
          moments = is;
          changes_are = ap (λ (b : Bool). if b then 1 else 3) (sym large);
          unreached = not_in_one k a.size gt passed.passed;
          limits = limits_stay went.calls (stopping_state_of d) (stopping_state_of e) went.by.state;
        }
  ]

  -- with no stop armed any more the disk is at rest again
  module _ (book : Book) (reads : stopping_medium.seen e ≡ map_told remade (stopping_medium.seen d))
      (stands : (rows : List Row) × StandsOn stopping_medium book e rows × ReadsRows stopping_medium d rows)
      (since_sync : (rows : List Row) → ReadsRows stopping_medium d rows
      → (c : List ℕ) → stopping_medium.left e (stopping_medium.moment d + 1) c → HasRows rows c)
      (f : Stopping MemDisk) (state : stopping_state_of f ≡ record (stopping_state_of e) { armed = 0 }) (stays : Stays stopping_medium e f) where
    pub stands_there : StandsOn stopping_medium book f a.rows
    stands_there =
        let same = same_rows stands.0 a.rows r.image (stands.2 r.image r.seen) r.rows.rows_are in
        stands_stays stopping_medium book e f a.rows (subst (λ (rows : List Row). StandsOn stopping_medium book e rows) same stands.1) stays

    reads_then : stopping_medium.seen e ≡ Some (remade r.image)
    reads_then = reads ∙ ap (map_told remade) r.seen

    reads_now : stopping_medium.seen f ≡ Some (remade r.image)
    reads_now = stays.reads ∙ reads_then

    rows_now : HasRows a.rows (remade r.image)
    rows_now =
        let o = opens in
        since_sync a.rows (λ image told. let e : Some r.image ≡ Some image = sym r.seen ∙ told in let same : r.image ≡ image = cc in subst (λ (i : List ℕ). rows_of i ≡ holds a.rows) same r.rows.rows_are)
        (remade r.image) (stopping_medium.since e (stopping_medium.moment d + 1) (stopping_medium.moment e) (remade r.image) (omega (arith, o.moments, o.some))
        (stopping_medium.reads_image e (remade r.image) reads_then))

    rests_now : DiskRests (archive_made_ready a) (stopping_state_of f) (stopping_medium.moment f)
    rests_now =
        let o = opens in
        record {
          goes = ap (λ (s : StoppingState). s.stopped) state ∙ o.passed.goes;
          sure = ap (λ (s : StoppingState). s.inner.fails_at) state ∙ o.passed.sure;
          size = ap (λ (s : StoppingState). s.inner.size) state ∙ o.passed.size_is;
          synced = ap (λ (s : StoppingState). s.inner.synced_size) state ∙ o.passed.synced_is;
          changes_are = stays.at ∙ o.moments ∙ ap (λ (n : ℕ). n + o.changes) r.rests.changes_are ∙ ap (λ (n : ℕ). a.changes + n) o.changes_are;
        }

    left_now : HasLeft (openings + 1) (archive_made_ready a) (stopping_state_of f)
    left_now =
        let o = opens in
        let changes : (stopping_state_of f).inner.changes ≡ (stopping_state_of e).inner.changes = ap (λ (s : StoppingState). s.inner.changes) state in
        let bytes : (stopping_state_of f).inner.bytes ≡ (stopping_state_of e).inner.bytes = ap (λ (s : StoppingState). s.inner.bytes) state in
        let limits : stopping_limits f ≡ stopping_limits d = ap (λ (s : StoppingState). s.inner.limits) state ∙ o.limits in
        let most_changes : (stopping_limits f).changes ≡ (stopping_limits d).changes = ap (λ (l : Limits). l.changes) limits in
        let most_bytes : (stopping_limits f).bytes ≡ (stopping_limits d).bytes = ap (λ (l : Limits). l.bytes) limits in
        let begun_then : (archive_made_ready a).changes ≡ a.changes + o.changes = ap (λ (n : ℕ). a.changes + n) (sym o.changes_are) in
        record {
          changes = omega (arith, changes, most_changes, begun_then, o.passed.changes_are, r.left.changes);
          bytes = omega (arith, bytes, most_bytes, o.passed.bytes_are, r.left.bytes);
        }

    pub at_rest : AtRest (openings + 1) (archive_made_ready a) f
    at_rest =
        let there = stands_there in
        record {
          rests = rests_now;
          unarmed = ap (λ (s : StoppingState). s.armed) state;
          image = remade r.image;
          seen = reads_now;
          synced = synced_seen f (remade r.image) there.log.rests.durable reads_now;
          length_is = remade_length r.image ∙ ap (λ (n : ℕ). max n empty_size) r.length_is;
          rows = rows_now;
          durable = there.log.rests.durable;
          left = left_by f a.rows (remade r.image) there.log.rests.durable reads_now rows_now;
          room = left_now;
        }

    -- and a session of the book goes on over it
    pub is_opened : (settings : StationSettings) (session : Session) → book_of session ≡ book → session_settings session ≡ settings
        → (book_words.book_is_stale book ≡ false) × (book_words.most_rows_of book ≡ settings.most) → IsOpened settings openings a session f
    is_opened settings session same settings_are fresh = (
      at_rest,
      record {
        stands = subst (λ (b : Book). StandsOn stopping_medium b f a.rows) (sym same) stands_there;
        settings_are = settings_are;
        most = ap book_words.most_rows_of same ∙ fresh.1;
        fresh = ap book_words.book_is_stale same ∙ fresh.0;
      },
    )

-- a state in which no stop is armed
pub unarmed_state : (s : StoppingState) → s.armed ≡ 0 → s ≡ record s { armed = 0 }
unarmed_state s none = ap (λ (n : ℕ). record s { armed = n }) none
