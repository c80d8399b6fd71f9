-- What calls keep of a disk that may stop, and that batches which were kept pass over no stop.
use Rattle.std.proofs.Common.{◌≡◌, ◌≢◌, ℕ, ◌+◌, ◌-◌, ◌*◌, ◌<◌, ◌≤◌, ◌==◌, Bool, true, false, if◌then◌else◌, List, [], ◌∷◌, ◌++◌, Option, Some, None, refl, sym, ◌∙◌, ap, subst, arith, append-nil, append_assoc}
use Rattle.std.specs.Prelude.{◌&&◌}
use Rattle.std.proofs.lemmas.Option.{same_Some}
use Rattle.disk_model.specs.Calls.{DiskCall, attached, measured, was_read, wrote, synced, answered_failed, is_change}
use Rattle.disk_model.specs.DiskState.{DiskState, call_counted, call_done, next_disk_state, must_fail, after_call, same_truth, says_size}
use Rattle.disk_model.specs.StoppingState.{StoppingState, after_stop, and_stop, after_stops, within_stop, where_failed, go_on}
use Rattle.disk_model.specs.declared.disk.Disked.TheVariants.{Done}
use Rattle.gated_log.specs.Calls.{up_to, append_changes, changes_in_a_batch}
use Rattle.station_base.specs.declared.row.Row.{Row}
use Rattle.settings_file.specs.StationSettings.{StationSettings}
use Rattle.dmpaft_pump.specs.Keeper.{Refusal, Handed}
use Rattle.causes.specs.declared.stored.Stored.TheVariants as kept
use Rattle.packed_rows.specs.Rows.{slot_total}
use Rattle.packed_rows.specs.Rising.{last_row_stamp}
use Rattle.station_session.specs.Batches.{kept_count, kept_records, last_answer, changes_for, slots_more}
use Rattle.station_session.specs.Records.{stored_rows}
use Rattle.station_session.specs.Attempts.{MadeAttempt, all_batches}
use Rattle.replay_laws.specs.Session.{NotPast}
use Rattle.schedule_file.specs.declared.schedule.step.Stop.{Stop}
use Rattle.replay_laws.specs.Stopped.{armed_by, IsStop}
use Rattle.gated_log.proofs.StoppedCalls.{not_one, one_of, wrote_done, synced_done, written, after_sync}
use Rattle.gated_log.specs.Layout.{slot_size}
use Rattle.replay_laws.proofs.Stops.{stops_part, not_past, total_grows}
use Rattle.station_session.proofs.Stamps.{stored_append}

-- The room that the disk was made with stays, and where no call is to fail none is.
pub record KeepsLimits (s u : DiskState) : Type 0 where
  pub limits : u.limits ≡ s.limits
  pub sure : s.fails_at ≡ 0 → u.fails_at ≡ 0

keeps_same : (s u : DiskState) → u ≡ s → KeepsLimits s u
keeps_same s u is = record { limits = ap (λ x. x.limits) is; sure = λ z. ap (λ x. x.fails_at) is ∙ z }

keeps_counted : (s : DiskState) → KeepsLimits s (call_counted s)
keeps_counted s = record { limits = refl; sure = λ z. omega (arith, z) }

keeps_done : (s : DiskState) (call : DiskCall) → KeepsLimits s (call_done (call_counted s) call)
keeps_done s (attached name make answer) = keeps_counted s
keeps_done s (measured answer) = keeps_counted s
keeps_done s (was_read at n answer) = keeps_counted s
keeps_done s (wrote at len byte answer) = record { limits = refl; sure = λ z. omega (arith, z) }
keeps_done s (synced answer) = record { limits = refl; sure = λ z. omega (arith, z) }

keeps_next : (s : DiskState) (call : DiskCall) → KeepsLimits s (next_disk_state s call)
keeps_next s call = go (must_fail s call)
  where
    go : (t : Bool) → KeepsLimits s (if t then call_counted s else call_done (call_counted s) call)
    go true = keeps_counted s
    go false = keeps_done s call

keeps_within : (s : DiskState) (call : DiskCall) → KeepsLimits s (within_stop s call)
keeps_within s (attached name make answer) = keeps_next s (attached name make answer)
keeps_within s (measured answer) = keeps_next s (measured answer)
keeps_within s (was_read at n answer) = keeps_next s (was_read at n answer)
keeps_within s (wrote at len byte answer) = keeps_next s (wrote at len byte answer)
keeps_within s (synced answer) = keeps_counted s

keeps_failed : (call : DiskCall) (s : DiskState) (x u : StoppingState) → KeepsLimits s x.inner → where_failed call x ≡ Some u → KeepsLimits s u.inner
keeps_failed call s x u k h = go (answered_failed call) h
  where
    go : (t : Bool) → (if t then Some x else None) ≡ Some u → KeepsLimits s u.inner
    go true e = subst (λ (y : StoppingState). KeepsLimits s y.inner) (same_Some x u e) k
    go false e = absurd cc

keeps_on : (s : StoppingState) (call : DiskCall) (armed : ℕ) (u : StoppingState) → go_on armed s.pick (after_call s.inner call) ≡ Some u → KeepsLimits s.inner u.inner
keeps_on s call armed u h = go (same_truth (must_fail s.inner call) (answered_failed call) && says_size s.inner.size call) h
  where
    go : (t : Bool) → go_on armed s.pick (if t then Some (next_disk_state s.inner call) else None) ≡ Some u → KeepsLimits s.inner u.inner
    go true e = subst (λ (y : StoppingState). KeepsLimits s.inner y.inner) (same_Some (record { inner = next_disk_state s.inner call; armed = armed; pick = s.pick; stopped = false }) u e) (keeps_next s.inner call)
    go false e = absurd cc

keeps_call : (s u : StoppingState) (call : DiskCall) → after_stop s call ≡ Some u → KeepsLimits s.inner u.inner
keeps_call s u call h = go s.stopped (is_change call && (s.armed == 1)) h
  where
    go : (t b : Bool) → (if t then where_failed call (record s { inner = call_counted s.inner; stopped = true })
        else if b then where_failed call (record s { inner = within_stop s.inner call; armed = 0; stopped = true })
        else go_on (if is_change call then s.armed - 1 else s.armed) s.pick (after_call s.inner call)) ≡ Some u → KeepsLimits s.inner u.inner
    go true b e = keeps_failed call s.inner (record s { inner = call_counted s.inner; stopped = true }) u (keeps_counted s.inner) e
    go false true e = keeps_failed call s.inner (record s { inner = within_stop s.inner call; armed = 0; stopped = true }) u (keeps_within s.inner call) e
    go false false e = keeps_on s call (if is_change call then s.armed - 1 else s.armed) u e

keeps_joins : (s m u : DiskState) → KeepsLimits s m → KeepsLimits m u → KeepsLimits s u
keeps_joins s m u a b = record { limits = b.limits ∙ a.limits; sure = λ z. b.sure (a.sure z) }

-- so do calls one after another
pub calls_keep : (calls : List DiskCall) (s u : StoppingState) → after_stops (Some s) calls ≡ Some u → KeepsLimits s.inner u.inner
calls_keep [] s u h = keeps_same s.inner u.inner (ap (λ (x : StoppingState). x.inner) (sym (same_Some s u h)))
calls_keep (c ∷ calls) s u h =
    let p = stops_part (Some s) (c ∷ []) calls u h in
    keeps_joins s.inner p.0.inner u.inner (keeps_call s p.0 c p.1) (calls_keep calls p.0 u p.2)

-- the changes of a batch that was kept pass over no stop
pub batch_passes : (s u : StoppingState) (gate len : ℕ) → after_stops (Some s) (up_to (append_changes gate len) Done) ≡ Some u → (1 ≤ s.armed → 4 < s.armed) × (u.armed ≡ s.armed - 4)
batch_passes s u gate len h =
    let p4 = one_of (and_stop (and_stop (and_stop (Some s) (wrote (gate + 1) len None Done)) (synced Done)) (wrote gate 1 (Some 1) Done)) (synced Done) u h in
    let p3 = one_of (and_stop (and_stop (Some s) (wrote (gate + 1) len None Done)) (synced Done)) (wrote gate 1 (Some 1) Done) p4.0 p4.1 in
    let p2 = one_of (and_stop (Some s) (wrote (gate + 1) len None Done)) (synced Done) p3.0 p3.1 in
    let q1 = wrote_done s p2.0 (gate + 1) len None p2.1 in
    let q2 = synced_done p2.0 p3.0 p2.2 in
    let q3 = wrote_done p3.0 p4.0 gate 1 (Some 1) p3.2 in
    let q4 = synced_done p4.0 u p4.2 in
    let e1 : p2.0.armed ≡ s.armed - 1 = ap (λ (x : StoppingState). x.armed) q1.2 in
    let e2 : p3.0.armed ≡ p2.0.armed - 1 = ap (λ (x : StoppingState). x.armed) q2.2 in
    let e3 : p4.0.armed ≡ p3.0.armed - 1 = ap (λ (x : StoppingState). x.armed) q3.2 in
    let e4 : u.armed ≡ p4.0.armed - 1 = ap (λ (x : StoppingState). x.armed) q4.2 in
    let n1 = not_one s.armed q1.1 in
    let n2 = not_one p2.0.armed q2.1 in
    let n3 = not_one p3.0.armed q3.1 in
    let n4 = not_one p4.0.armed q4.1 in (
      (λ some. grind (arith, n1, n2, n3, n4, e1, e2, e3, some)),
      omega (arith, e1, e2, e3, e4),
    )

-- nor do those of all batches of a round
chain_passes : (settings : StationSettings) (rows : List Row) (steps : Handed) (failed : ℕ) (s u : StoppingState) → after_stops (Some s) (changes_for settings failed rows steps) ≡ Some u → 1 ≤ s.armed → changes_in_a_batch * kept_count steps < s.armed
chain_passes settings rows Handed.Nothing failed s u h some = omega (arith, some)
chain_passes settings rows (Handed.Refused records why) failed s u h some = omega (arith, some)
chain_passes settings rows (Handed.Kept records more) failed s u h some =
    let p = stops_part (Some s) (up_to (append_changes (slot_size * (slot_total rows + 1)) (slot_size * slots_more rows (stored_rows settings records))) Done) (changes_for settings failed (rows ++ stored_rows settings records) more) u h in
    let q = batch_passes s p.0 (slot_size * (slot_total rows + 1)) (slot_size * slots_more rows (stored_rows settings records)) p.1 in
    let r = chain_passes settings (rows ++ stored_rows settings records) more failed p.0 u p.2 (omega (arith, q.0 some, q.1)) in
    omega (arith, r, q.0 some, q.1)

-- a round passes over no stop, whatever room its disk has
pub round_passes : (settings : StationSettings) (rows : List Row) (ts : List MadeAttempt) (stop : Option Stop) (failed : ℕ) (s u : StoppingState) → IsStop stop → s.armed ≡ armed_by stop
    → after_stops (Some s) (changes_for settings failed rows (all_batches (last_row_stamp rows) ts)) ≡ Some u → NotPast stop (kept_count (all_batches (last_row_stamp rows) ts))
round_passes settings rows ts stop failed s u is armed h =
    not_past stop (kept_count (all_batches (last_row_stamp rows) ts)) is
    (λ some. omega (arith, armed, chain_passes settings rows (all_batches (last_row_stamp rows) ts) failed s u h (omega (arith, armed, some))))

-- what a batch that was kept takes of the record's room
batch_takes : (s u : StoppingState) (gate len : ℕ) → after_stops (Some s) (up_to (append_changes gate len) Done) ≡ Some u → (s.inner.changes ≤ u.inner.changes + 4) × (s.inner.bytes ≤ u.inner.bytes + (len + 1))
batch_takes s u gate len h =
    let p4 = one_of (and_stop (and_stop (and_stop (Some s) (wrote (gate + 1) len None Done)) (synced Done)) (wrote gate 1 (Some 1) Done)) (synced Done) u h in
    let p3 = one_of (and_stop (and_stop (Some s) (wrote (gate + 1) len None Done)) (synced Done)) (wrote gate 1 (Some 1) Done) p4.0 p4.1 in
    let p2 = one_of (and_stop (Some s) (wrote (gate + 1) len None Done)) (synced Done) p3.0 p3.1 in
    let w1 = written s p2.0 (gate + 1) len None 0 (wrote_done s p2.0 (gate + 1) len None p2.1).2 in
    let w2 = after_sync p2.0 p3.0 (synced_done p2.0 p3.0 p2.2).2 in
    let w3 = written p3.0 p4.0 gate 1 (Some 1) 0 (wrote_done p3.0 p4.0 gate 1 (Some 1) p3.2).2 in
    let w4 = after_sync p4.0 u (synced_done p4.0 u p4.2).2 in
    (omega (arith, w1.changes, w2.changes, w3.changes, w4.changes), omega (arith, w1.bytes, w2.bytes, w3.bytes, w4.bytes))

-- What batches that were kept take of the record's room: `changes_in_a_batch` changes each, and the bytes of their slots and of
-- a gate.
pub record Takes (settings : StationSettings) (rows : List Row) (steps : Handed) (s u : StoppingState) : Type 0 where
  pub changes : s.inner.changes ≤ u.inner.changes + changes_in_a_batch * kept_count steps
  pub bytes : s.inner.bytes + slot_size * slot_total rows ≤ u.inner.bytes + slot_size * slot_total (rows ++ stored_rows settings (kept_records steps)) + kept_count steps

takes_none : (settings : StationSettings) (rows : List Row) (steps : Handed) (s u : StoppingState) → Some s ≡ Some u → kept_records steps ≡ [] → Takes settings rows steps s u
takes_none settings rows steps s u is none =
    let e = same_Some s u is in
    let z : slot_total (rows ++ stored_rows settings (kept_records steps)) ≡ slot_total rows = ap (λ (x : List (List ℕ)). slot_total (rows ++ stored_rows settings x)) none ∙ ap slot_total (append-nil rows) in
    record { changes = omega (arith, ap (λ (x : StoppingState). x.inner.changes) e); bytes = omega (arith, ap (λ (x : StoppingState). x.inner.bytes) e, z) }

pub chain_takes : (settings : StationSettings) (rows : List Row) (steps : Handed) (failed : ℕ) (s u : StoppingState) → last_answer steps ≢ kept.DiskFault → after_stops (Some s) (changes_for settings failed rows steps) ≡ Some u → Takes settings rows steps s u
chain_takes settings rows Handed.Nothing failed s u sure h = takes_none settings rows Handed.Nothing s u h refl
chain_takes settings rows (Handed.Refused records Refusal.Full) failed s u sure h = takes_none settings rows (Handed.Refused records Refusal.Full) s u h refl
chain_takes settings rows (Handed.Refused records Refusal.Stale) failed s u sure h = takes_none settings rows (Handed.Refused records Refusal.Stale) s u h refl
chain_takes settings rows (Handed.Refused records Refusal.DiskFault) failed s u sure h = absurd (sure refl)
chain_takes settings rows (Handed.Kept records more) failed s u sure h =
    let p = stops_part (Some s) (up_to (append_changes (slot_size * (slot_total rows + 1)) (slot_size * slots_more rows (stored_rows settings records))) Done) (changes_for settings failed (rows ++ stored_rows settings records) more) u h in
    let q = batch_takes s p.0 (slot_size * (slot_total rows + 1)) (slot_size * slots_more rows (stored_rows settings records)) p.1 in
    let r = chain_takes settings (rows ++ stored_rows settings records) more failed p.0 u sure p.2 in
    let rows_are : rows ++ stored_rows settings (kept_records (Handed.Kept records more)) ≡ (rows ++ stored_rows settings records) ++ stored_rows settings (kept_records more)
    = ap (λ (z : List Row). rows ++ z) (stored_append settings records (kept_records more)) ∙ sym (append_assoc rows (stored_rows settings records) (stored_rows settings (kept_records more))) in
    record {
      changes = omega (arith, q.0, r.changes);
      bytes = omega (arith, q.1, r.bytes, ap slot_total rows_are, total_grows rows (stored_rows settings records));
    }
