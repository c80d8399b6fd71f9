-- What a stop within a round leaves of an archive.
use Rattle.std.proofs.Common.{◌≡◌, ◌≢◌, ℕ, ◌+◌, ◌-◌, ◌*◌, ◌/◌, ◌%◌, ◌<◌, ◌≤◌, ◌==◌, max, Bool, true, false, if◌then◌else◌, not, inl, inr, List, [], ◌∷◌, ◌++◌, length, slice_index, Option, Some, None, refl, sym, ◌∙◌, ap, subst, arith, append-nil, append_assoc}
use Rattle.std.specs.Prelude.{nat_lt, take}
use Rattle.std.proofs.lemmas.Bool.Decides.{nat_tests}
use Rattle.std.proofs.lemmas.Option.{same_Some}
use Rattle.disk_model.specs.Calls.{DiskCall}
use Rattle.disk_model.specs.Disk.{LeavesNow}
use Rattle.disk_model.specs.Medium.{Medium}
use Rattle.disk_model.specs.Picked.{picked_length, picked_byte}
use Rattle.disk_model.specs.StoppingState.{StoppingState, after_stops, and_stop}
use Rattle.disk_model.specs.TimeLaws.{le_or_gt}
use Rattle.disk_model.specs.declared.disk.Disked.TheVariants.{Done, Failed}
use Rattle.gated_log.specs.Appending.{ByGate}
use Rattle.gated_log.specs.Calls.{up_to, append_changes, changes_in_a_batch}
use Rattle.station_base.specs.declared.row.Row.{Row}
use Rattle.settings_file.specs.StationSettings.{StationSettings}
use Rattle.weather_book.specs.declared.book.Book.{Book}
use Rattle.packed_rows.specs.Rows.{slot_total}
use Rattle.packed_rows.proofs.RowLaws.{total_push}
use Rattle.weather_book.specs.Stands.{HasRows, StandsOn}
use Rattle.dmpaft_pump.specs.Keeper.{Refusal, Handed, count}
use Rattle.causes.specs.declared.stored.Stored.{Stored}
use Rattle.causes.specs.declared.stored.Stored.TheVariants as kept
use Rattle.station_session.specs.declared.report.Mark.{Mark}
use Rattle.station_session.specs.Batches.{kept_records, all_records, kept_count, last_answer, ChangesAreBegun, batch_changes, changes_for, slots_more as slots_taken}
use Rattle.station_session.specs.Records.{stored_rows}
use Rattle.station_session.specs.Holding.{Stores, holding, rows_after_batches}
use Rattle.packed_rows.specs.Rising.{last_row_stamp}
use Rattle.station_session.specs.declared.round_end.RoundEnd.TheVariants as round_end
use Rattle.station_session.specs.Attempts.{MadeAttempt, all_batches}
use Rattle.station_session.specs.declared.round_end.RoundEnd.{RoundEnd}
use Rattle.replay_laws.specs.Session.{NotPast, RoundStopsAt, archive_left_after}
use Rattle.station_session.proofs.Stamps.{stored_append}
use Rattle.schedule_file.specs.declared.schedule.step.Stop.{Stop}
use Rattle.replay_laws.specs.Keeping.{Archive, slots_for_rows, with_batch, needed, appended, stopped, left_by_stop, is_early, opens_gate, batches_before}
use Rattle.replay_laws.specs.Stopped.{with_kept, refused_records, ArchiveIsLeft, IsRestart, DiskHasRoom, DiskRests, armed_by, IsStop}
use Rattle.gated_log.proofs.StoppedCalls.{IsArmed, batch_done, batch_stopped, batch_fails}
use Rattle.gated_log.specs.Layout.{slot_size}

none_stays : (calls : List DiskCall) → after_stops None calls ≡ None
none_stays [] = refl
none_stays (c ∷ calls) = none_stays calls

pub stops_part : (o : Option StoppingState) (xs ys : List DiskCall) (u : StoppingState) → after_stops o (xs ++ ys) ≡ Some u → (m : StoppingState) × (after_stops o xs ≡ Some m) × (after_stops (Some m) ys ≡ Some u)
stops_part None [] ys u h = absurd (let y : None ≡ Some u = sym (none_stays ys) ∙ h in cc)
stops_part (Some s) [] ys u h = (s, refl, h)
stops_part o (x ∷ xs) ys u h = stops_part (and_stop o x) xs ys u h

pub slots_is : (rows : List Row) → slots_for_rows rows ≡ slot_total rows
unfolding slots_for_rows
slots_is rows = refl

-- more rows take no fewer slots
pub total_grows : (rows more : List Row) → slot_total rows ≤ slot_total (rows ++ more)
total_grows rows [] = let e = ap slot_total (append-nil rows) in omega (arith, e)
total_grows rows (row ∷ more) =
    let e = ap slot_total (append_assoc rows (row ∷ []) more) in
    let rest = total_grows (rows ++ row ∷ []) more in
    omega (arith, e, rest, total_push rows row)

-- how many slots a batch takes behind the rows of an archive
abbrev taken : StationSettings → Archive → List (List ℕ) → ℕ
taken settings a batch = slots_taken a.rows (stored_rows settings batch)

-- two batches one after another are their records at once
with_join : (settings : StationSettings) (a : Archive) (xs ys : List (List ℕ)) → with_batch settings a (xs ++ ys) ≡ with_batch settings (appended settings a xs) ys
with_join settings a xs ys = ap (λ (rows : List Row). a.rows ++ rows) (stored_append settings xs ys) ∙ sym (append_assoc a.rows (stored_rows settings xs) (stored_rows settings ys))

taken_join : (settings : StationSettings) (a : Archive) (xs ys : List (List ℕ)) → taken settings a (xs ++ ys) ≡ taken settings a xs + taken settings (appended settings a xs) ys
taken_join settings a xs ys =
    let all = ap slot_total (with_join settings a xs ys) in
    let first = total_grows a.rows (stored_rows settings xs) in
    let second = total_grows (with_batch settings a xs) (stored_rows settings ys) in
    omega (arith, all, first, second)

-- the length that a batch needs
ends_at : (settings : StationSettings) (a : Archive) (batch : List (List ℕ)) → slot_size * (slot_total a.rows + 1) + 1 + slot_size * taken settings a batch ≡ slot_size * (slot_total (with_batch settings a batch) + 1) + 1
ends_at settings a batch = let grows = total_grows a.rows (stored_rows settings batch) in omega (arith, grows)

needed_is : (settings : StationSettings) (a : Archive) (batch : List (List ℕ)) → max a.size (slot_size * (slot_total a.rows + 1) + 1 + slot_size * taken settings a batch) ≡ needed a (with_batch settings a batch)
needed_is settings a batch =
    ap (λ (n : ℕ). max a.size n) (ends_at settings a batch)
    ∙ ap (λ (n : ℕ). max a.size (slot_size * (n + 1) + 1)) (sym (slots_is (with_batch settings a batch)))

-- a disk with room is at rest, and has the bytes and the length for all batches
pub has_armed : (settings : StationSettings) (armed pick : ℕ) (a : Archive) (steps : Handed) (s : StoppingState) → DiskHasRoom settings armed pick a steps s
    → IsArmed s a.size armed pick s.inner.limits.capacity (changes_in_a_batch * count steps) (slot_size * taken settings a (all_records steps) + count steps)
has_armed settings armed pick a steps s room =
    let all = slots_is (with_batch settings a (all_records steps)) in
    let old = slots_is a.rows in
    record {
      goes = room.goes;
      armed_is = room.armed_is;
      pick_is = room.pick_is;
      sure = room.sure;
      size_is = room.size;
      synced_is = room.synced;
      capacity_is = omega arith;
      changes_are = room.changes;
      bytes_are = omega (arith, room.bytes, all, old);
    }

pub has_length : (settings : StationSettings) (armed pick : ℕ) (a : Archive) (steps : Handed) (s : StoppingState) → DiskHasRoom settings armed pick a steps s
    → slot_size * (slot_total (with_batch settings a (all_records steps)) + 1) + 1 ≤ s.inner.limits.capacity
has_length settings armed pick a steps s room = let all = slots_is (with_batch settings a (all_records steps)) in omega (arith, room.capacity, all)

-- what the state then tells of the batch of the stop
pub record Cut (settings : StationSettings) (a : Archive) (steps : Handed) (u : StoppingState) (k pick failed : ℕ) : Type 0 where
  pub halted : u.stopped ≡ true
  pub count : k ≡ changes_in_a_batch * kept_count steps + failed
  pub pick_is : u.pick ≡ pick
  pub size_is : u.inner.size ≡ needed (with_kept settings a steps) (with_batch settings (with_kept settings a steps) (refused_records steps))
  pub early : failed ≤ 2 → u.inner.synced_size ≡ (with_kept settings a steps).size
  pub late : 3 ≤ failed → (u.inner.synced_size ≡ needed (with_kept settings a steps) (with_batch settings (with_kept settings a steps) (refused_records steps)))
      × ((more : List (ℕ × ℕ)) × (u.inner.singles ≡ (slot_size * (slots_for_rows (with_kept settings a steps).rows + 1), 1) ∷ more))

pub chain_stopped : (settings : StationSettings) (a : Archive) (steps : Handed) (failed : ℕ) (s u : StoppingState) (k pick capacity : ℕ) → last_answer steps ≡ kept.DiskFault → 1 ≤ failed → failed ≤ 4
    → IsArmed s a.size k pick capacity (changes_in_a_batch * count steps) (slot_size * taken settings a (all_records steps) + count steps) → slot_size * (slot_total (with_batch settings a (all_records steps)) + 1) + 1 ≤ capacity
    → after_stops (Some s) (changes_for settings failed a.rows steps) ≡ Some u → Cut settings a steps u k pick failed
chain_stopped settings a Handed.Nothing failed s u k pick capacity fault low high r room h = absurd (let y : kept.Done ≡ kept.DiskFault = fault in cc)
chain_stopped settings a (Handed.Refused rows why) failed s u k pick capacity fault low high r room h =
    let fits : slot_size * (slot_total a.rows + 1) + 1 + slot_size * taken settings a rows ≤ capacity = omega (arith, room, ends_at settings a rows) in
    let h2 : after_stops (Some s) (up_to (take failed (append_changes (slot_size * (slot_total a.rows + 1)) (slot_size * taken settings a rows))) Failed) ≡ Some u
    = subst (λ (y : Stored). after_stops (Some s) (batch_changes y failed (slot_total a.rows) (taken settings a rows)) ≡ Some u) fault h in
    let stop = batch_fails s u (slot_size * (slot_total a.rows + 1)) (slot_size * taken settings a rows) a.size k pick capacity failed r fits low high h2 in
    let b = batch_stopped s u (slot_size * (slot_total a.rows + 1)) (slot_size * taken settings a rows) a.size k pick capacity failed r fits low high h2 stop in
    let larger = needed_is settings a rows in
    record {
      halted = stop;
      count = omega (arith, b.at);
      pick_is = b.pick_is;
      size_is = b.size_is ∙ larger;
      early = b.early;
      late = λ l. let q = b.late l in (q.0 ∙ larger, (q.1.0, q.1.1 ∙ ap (λ (n : ℕ). (slot_size * (n + 1), 1) ∷ q.1.0) (sym (slots_is a.rows))));
    }
chain_stopped settings a (Handed.Kept rows more) failed s u k pick capacity fault low high r room h =
    let len = taken_join settings a rows (all_records more) in
    let all = ap slot_total (with_join settings a rows (all_records more)) in
    let p = stops_part (Some s) (up_to (append_changes (slot_size * (slot_total a.rows + 1)) (slot_size * taken settings a rows)) Done) (changes_for settings failed (with_batch settings a rows) more) u h in
    let r2 : IsArmed s a.size k pick capacity (changes_in_a_batch * count more + 4) (slot_size * taken settings (appended settings a rows) (all_records more) + count more + (slot_size * taken settings a rows + 1)) = record { goes = r.goes; armed_is = r.armed_is; pick_is = r.pick_is; sure = r.sure; size_is = r.size_is; synced_is = r.synced_is; capacity_is = r.capacity_is; changes_are = omega (arith, r.changes_are); bytes_are = omega (arith, r.bytes_are, len) } in
    let one = batch_done s p.0 (slot_size * (slot_total a.rows + 1)) (slot_size * taken settings a rows) a.size k pick capacity (changes_in_a_batch * count more) (slot_size * taken settings (appended settings a rows) (all_records more) + count more) r2 p.1 in
    let b = chain_stopped settings (appended settings a rows) more failed p.0 u (k - 4) pick capacity fault low high
    (subst (λ (z : ℕ). IsArmed p.0 z (k - 4) pick capacity (changes_in_a_batch * count more) (slot_size * taken settings (appended settings a rows) (all_records more) + count more)) (needed_is settings a rows) one.1)
    (omega (arith, room, all)) p.2 in
    record {
      halted = b.halted;
      count = omega (arith, b.count, low);
      pick_is = b.pick_is;
      size_is = b.size_is;
      early = b.early;
      late = b.late;
    }

-- the rows are those of the batches that were kept
pub rows_kept : (settings : StationSettings) (a : Archive) (steps : Handed) → rows_after_batches settings a.rows steps ≡ (with_kept settings a steps).rows
rows_kept settings a Handed.Nothing = append-nil a.rows
rows_kept settings a (Handed.Refused rows why) = append-nil a.rows
rows_kept settings a (Handed.Kept rows more) =
    ap (λ (y : List Row). a.rows ++ y) (stored_append settings rows (kept_records more)) ∙ sym (append_assoc a.rows (stored_rows settings rows) (stored_rows settings (kept_records more)))
    ∙ rows_kept settings (appended settings a rows) more

-- and with the one that was refused those of all
rows_all : (settings : StationSettings) (a : Archive) (steps : Handed) → a.rows ++ stored_rows settings (all_records steps) ≡ with_batch settings (with_kept settings a steps) (refused_records steps)
rows_all settings a Handed.Nothing = refl
rows_all settings a (Handed.Refused rows why) = refl
rows_all settings a (Handed.Kept rows more) =
    ap (λ (y : List Row). a.rows ++ y) (stored_append settings rows (all_records more)) ∙ sym (append_assoc a.rows (stored_rows settings rows) (stored_rows settings (all_records more)))
    ∙ rows_all settings (appended settings a rows) more

-- each batch that was kept took `changes_in_a_batch` changes
changes_kept : (settings : StationSettings) (a : Archive) (steps : Handed) → (with_kept settings a steps).changes ≡ a.changes + changes_in_a_batch * kept_count steps
changes_kept settings a Handed.Nothing = omega arith
changes_kept settings a (Handed.Refused rows why) = omega arith
changes_kept settings a (Handed.Kept rows more) = omega (arith, changes_kept settings (appended settings a rows) more)

same_length : (pick n : ℕ) → picked_length pick n n ≡ n
same_length pick n = go (pick == 0) (nat_lt pick 3)
  where
    go : (s t : Bool) → (if s then n else if t then n else n + pick % (n - n + 1)) ≡ n
    go true t = refl
    go false true = refl
    go false false = omega arith

early_is : (s : Stop) (b j : ℕ) → s.change ≡ changes_in_a_batch * b + j → 1 ≤ j → j ≤ 2 → is_early s ≡ true
early_is s b j e low high = grind (arith, nat_tests)

late_is : (s : Stop) (b j : ℕ) → s.change ≡ changes_in_a_batch * b + j → 3 ≤ j → j ≤ 4 → is_early s ≡ false
late_is s b j e low high = grind (arith, nat_tests)

-- what a stop within the last batch leaves
left_stopped : (settings : StationSettings) (stop : Stop) (n : ℕ) (a : Archive) (steps : Handed) → last_answer steps ≡ kept.DiskFault
    → archive_left_after settings (Some stop) n a steps ≡ stopped settings stop (n + kept_count steps) (with_kept settings a steps) (refused_records steps)
left_stopped settings stop n a Handed.Nothing fault = absurd (let y : kept.Done ≡ kept.DiskFault = fault in cc)
left_stopped settings stop n a (Handed.Refused rows Refusal.Full) fault = absurd (let y : kept.Full ≡ kept.DiskFault = fault in cc)
left_stopped settings stop n a (Handed.Refused rows Refusal.Stale) fault = absurd (let y : kept.Stale ≡ kept.DiskFault = fault in cc)
left_stopped settings stop n a (Handed.Refused rows Refusal.DiskFault) fault = ap (λ (m : ℕ). stopped settings stop m a rows) (let e : n ≡ n + 0 = omega arith in e)
left_stopped settings stop n a (Handed.Kept rows more) fault =
    left_stopped settings stop (n + 1) (appended settings a rows) more fault
    ∙ ap (λ (m : ℕ). stopped settings stop m (with_kept settings (appended settings a rows) more) (refused_records more)) (let e : n + 1 + kept_count more ≡ n + kept_count (Handed.Kept rows more) = omega arith in e)

-- where no batch met a fault, the archive has those that were kept
pub left_kept : (settings : StationSettings) (stop : Option Stop) (n : ℕ) (a : Archive) (steps : Handed) → last_answer steps ≢ kept.DiskFault → archive_left_after settings stop n a steps ≡ with_kept settings a steps
left_kept settings stop n a Handed.Nothing none = refl
left_kept settings stop n a (Handed.Refused rows Refusal.Full) none = refl
left_kept settings stop n a (Handed.Refused rows Refusal.Stale) none = refl
left_kept settings stop n a (Handed.Refused rows Refusal.DiskFault) none = absurd (none refl)
left_kept settings stop n a (Handed.Kept rows more) none = left_kept settings stop (n + 1) (appended settings a rows) more none

positive : (n : ℕ) → 0 < n → not (n == 0) ≡ true
positive n h = let y : (n == 0) ≡ false = grind (arith, nat_tests, h) in rw y refl

none_there : (n : ℕ) → n ≡ 0 → not (n == 0) ≡ false
none_there n h = rw h refl

pub stop_law : {D : Type 0} (medium : Medium D)
    (settings : StationSettings) (a : Archive) (steps : Handed) (stop : Stop) (d0 d1 : D) (b0 b1 : Book) (marks : List Mark) (s u : StoppingState) (image : List ℕ)
    → last_answer steps ≡ kept.DiskFault → medium.moment d0 ≡ a.changes
    → Stores medium settings a.rows steps (holding b0 d0 []) (holding b1 d1 marks) → StandsOn medium b0 d0 a.rows
    → ((failed : ℕ) → medium.went d0 (changes_for settings failed a.rows steps) d1 → after_stops (Some s) (changes_for settings failed a.rows steps) ≡ Some u)
    → DiskHasRoom settings stop.change stop.pick a steps s → LeavesNow medium d1 image → IsRestart u (medium.synced d1) image
    → (batches_before stop.change ≡ kept_count steps) × ArchiveIsLeft (stopped settings stop (kept_count steps) (with_kept settings a steps) (refused_records steps)) image (medium.moment d1)
stop_law medium settings a steps stop d0 d1 b0 b1 marks s u image fault start st stands by room was again =
    (omega (arith, cut.count, begun.0, begun.1), elim (le_or_gt st.failed 2) [ inl few ↦ early few | inr many ↦ late (omega (arith, many)) ])
  where
    begun : (1 ≤ st.failed) × (st.failed ≤ 4)
    begun = subst (λ (x : Stored). ChangesAreBegun x st.failed) fault st.begun

    cut : Cut settings a steps u stop.change stop.pick st.failed
    cut = chain_stopped settings a steps st.failed s u stop.change stop.pick s.inner.limits.capacity fault begun.0 begun.1
        (has_armed settings stop.change stop.pick a steps s room)
        (has_length settings stop.change stop.pick a steps s room) (by st.failed st.went_on)

    gate : ByGate medium (3 ≤ st.failed) (slot_size * (slots_for_rows (with_kept settings a steps).rows + 1)) (HasRows (with_kept settings a steps).rows) (HasRows (with_batch settings (with_kept settings a steps) (refused_records steps))) d1
    gate =
        subst (λ (n : ℕ). ByGate medium (3 ≤ st.failed) (slot_size * (n + 1)) (HasRows (with_kept settings a steps).rows) (HasRows (with_batch settings (with_kept settings a steps) (refused_records steps))) d1) (sym (slots_is (with_kept settings a steps).rows))
        (subst (λ (x : List Row). ByGate medium (3 ≤ st.failed) (slot_size * (slot_total (with_kept settings a steps).rows + 1)) (HasRows (with_kept settings a steps).rows) (HasRows x) d1) (rows_all settings a steps)
        (subst (λ (x : List Row). ByGate medium (3 ≤ st.failed) (slot_size * (slot_total x + 1)) (HasRows x) (HasRows (a.rows ++ stored_rows settings (all_records steps))) d1) (rows_kept settings a steps) (st.gate fault stands)))

    counted : medium.moment d1 ≡ (with_kept settings a steps).changes + (stop.change - changes_in_a_batch * kept_count steps)
    counted = omega (arith, st.moved, start, changes_kept settings a steps, cut.count)

    as_left : (early opens : Bool) → is_early stop ≡ early → opens_gate stop (with_kept settings a steps) ≡ opens → ArchiveIsLeft (left_by_stop early opens settings stop (kept_count steps) (with_kept settings a steps) (refused_records steps)) image (medium.moment d1)
        → ArchiveIsLeft (stopped settings stop (kept_count steps) (with_kept settings a steps) (refused_records steps)) image (medium.moment d1)
    as_left early opens e o h =
        subst (λ (t : Bool). ArchiveIsLeft (left_by_stop t (opens_gate stop (with_kept settings a steps)) settings stop (kept_count steps) (with_kept settings a steps) (refused_records steps)) image (medium.moment d1)) (sym e)
        (subst (λ (t : Bool). ArchiveIsLeft (left_by_stop early t settings stop (kept_count steps) (with_kept settings a steps) (refused_records steps)) image (medium.moment d1)) (sym o) h)

    early : st.failed ≤ 2 → ArchiveIsLeft (stopped settings stop (kept_count steps) (with_kept settings a steps) (refused_records steps)) image (medium.moment d1)
    early few =
        let e = early_is stop (kept_count steps) st.failed cut.count begun.0 few in
        as_left true (opens_gate stop (with_kept settings a steps)) e refl (record {
          rows = elim (gate.images image was) [ inl x ↦ x.1 | inr x ↦ absurd (omega (arith, x.0, few)) ];
          size = again.size ∙ ap (λ (n : ℕ). picked_length u.pick n u.inner.size) (cut.early few)
              ∙ ap (λ (n : ℕ). picked_length u.pick (with_kept settings a steps).size n) cut.size_is
              ∙ ap (λ (n : ℕ). picked_length n (with_kept settings a steps).size (needed (with_kept settings a steps) (with_batch settings (with_kept settings a steps) (refused_records steps)))) cut.pick_is;
          changes_are = counted;
        })

    late : 3 ≤ st.failed → ArchiveIsLeft (stopped settings stop (kept_count steps) (with_kept settings a steps) (refused_records steps)) image (medium.moment d1)
    late many =
        let e = late_is stop (kept_count steps) st.failed cut.count many begun.1 in
        let q = cut.late many in
        let told = again.told in
        let p = slot_size * (slots_for_rows (with_kept settings a steps).rows + 1) in
        let byte : slice_index image (slot_size * (slots_for_rows (with_kept settings a steps).rows + 1)) ≡ picked_byte stop.pick (slot_size * (slots_for_rows (with_kept settings a steps).rows + 1)) 0 1
        = again.byte told.0 told.1 (slot_size * (slots_for_rows (with_kept settings a steps).rows + 1)) 1 q.1.0 q.1.1 (gate.within image was)
        ∙ ap (λ (n : ℕ). picked_byte u.pick (slot_size * (slots_for_rows (with_kept settings a steps).rows + 1)) n 1) (gate.closed many told.0 told.1)
        ∙ ap (λ (n : ℕ). picked_byte n (slot_size * (slots_for_rows (with_kept settings a steps).rows + 1)) 0 1) cut.pick_is in
        let size : length image ≡ needed (with_kept settings a steps) (with_batch settings (with_kept settings a steps) (refused_records steps))
        = again.size ∙ ap (λ (n : ℕ). picked_length u.pick n u.inner.size) q.0 ∙ ap (λ (n : ℕ). picked_length u.pick (needed (with_kept settings a steps) (with_batch settings (with_kept settings a steps) (refused_records steps))) n) cut.size_is
        ∙ same_length u.pick (needed (with_kept settings a steps) (with_batch settings (with_kept settings a steps) (refused_records steps))) in
        elim (gate.images image was) [
          | inl x ↦ as_left false false e (none_there (picked_byte stop.pick (slot_size * (slots_for_rows (with_kept settings a steps).rows + 1)) 0 1) (sym byte ∙ x.0)) (record { rows = x.1; size = size; changes_are = counted })
          | inr x ↦ as_left false true e (positive (picked_byte stop.pick (slot_size * (slots_for_rows (with_kept settings a steps).rows + 1)) 0 1) (omega (arith, byte, x.1))) (record { rows = x.2; size = size; changes_are = counted })
        ]

pub round_stops : {D : Type 0} (medium : Medium D)
    (settings : StationSettings) (a : Archive) (ts : List MadeAttempt) (stop : Stop) (d0 d1 : D) (b0 b1 : Book) (marks : List Mark) (s u : StoppingState) (image : List ℕ)
    → last_answer (all_batches (last_row_stamp a.rows) ts) ≡ kept.DiskFault → medium.moment d0 ≡ a.changes
    → Stores medium settings a.rows (all_batches (last_row_stamp a.rows) ts) (holding b0 d0 []) (holding b1 d1 marks) → StandsOn medium b0 d0 a.rows
    → ((failed : ℕ) → medium.went d0 (changes_for settings failed a.rows (all_batches (last_row_stamp a.rows) ts)) d1 → after_stops (Some s) (changes_for settings failed a.rows (all_batches (last_row_stamp a.rows) ts)) ≡ Some u)
    → DiskHasRoom settings stop.change stop.pick a (all_batches (last_row_stamp a.rows) ts) s → LeavesNow medium d1 image → IsRestart u (medium.synced d1) image
    → RoundStopsAt (Some stop) round_end.DiskFault (kept_count (all_batches (last_row_stamp a.rows) ts))
    × ArchiveIsLeft (archive_left_after settings (Some stop) 0 a (all_batches (last_row_stamp a.rows) ts)) image (medium.moment d1)
round_stops medium settings a ts stop d0 d1 b0 b1 marks s u image fault start st stands by room was again =
    let q = stop_law medium settings a (all_batches (last_row_stamp a.rows) ts) stop d0 d1 b0 b1 marks s u image fault start st stands by room was again in
    let e = left_stopped settings stop 0 a (all_batches (last_row_stamp a.rows) ts) fault in
    let zero_more : 0 + kept_count (all_batches (last_row_stamp a.rows) ts) ≡ kept_count (all_batches (last_row_stamp a.rows) ts) = omega arith in (
      record { before = omega (arith, q.0); at = λ e. q.0 },
      subst (λ (x : Archive). ArchiveIsLeft x image (medium.moment d1)) (sym (e ∙ ap (λ (n : ℕ). stopped settings stop n (with_kept settings a (all_batches (last_row_stamp a.rows) ts)) (refused_records (all_batches (last_row_stamp a.rows) ts))) zero_more)) q.1,
    )

pub changes_after : (settings : StationSettings) (stop : Option Stop) (n : ℕ) (a : Archive) (steps : Handed) → last_answer steps ≢ kept.DiskFault → (archive_left_after settings stop n a steps).changes ≡ a.changes + changes_in_a_batch * kept_count steps
changes_after settings stop n a steps none = ap (λ (x : Archive). x.changes) (left_kept settings stop n a steps none) ∙ changes_kept settings a steps

-- calls that do nothing leave a disk as it was
armed_still : (s u : StoppingState) (size k pick capacity changes bytes more wide : ℕ) → Some s ≡ Some u → IsArmed s size k pick capacity (changes + more) (bytes + wide) → (1 ≤ k → changes_in_a_batch * 0 < k) × IsArmed u size (k - changes_in_a_batch * 0) pick capacity changes bytes
armed_still s u size k pick capacity changes bytes more wide is r = (
  (λ some. omega (arith, some)),
  subst (λ (z : StoppingState). IsArmed z size (k - changes_in_a_batch * 0) pick capacity changes bytes) (same_Some s u is) (record {
    goes = r.goes;
    armed_is = omega (arith, r.armed_is);
    pick_is = r.pick_is;
    sure = r.sure;
    size_is = r.size_is;
    synced_is = r.synced_is;
    capacity_is = r.capacity_is;
    changes_are = omega (arith, r.changes_are);
    bytes_are = omega (arith, r.bytes_are);
  }),
)

chain_goes : (settings : StationSettings) (a : Archive) (steps : Handed) (failed : ℕ) (s u : StoppingState) (k pick capacity changes bytes : ℕ) → last_answer steps ≢ kept.DiskFault
    → IsArmed s a.size k pick capacity (changes + changes_in_a_batch * count steps) (bytes + (slot_size * taken settings a (all_records steps) + count steps)) → after_stops (Some s) (changes_for settings failed a.rows steps) ≡ Some u
    → (1 ≤ k → changes_in_a_batch * kept_count steps < k) × IsArmed u (with_kept settings a steps).size (k - changes_in_a_batch * kept_count steps) pick capacity changes bytes
chain_goes settings a Handed.Nothing failed s u k pick capacity changes bytes none r h = armed_still s u a.size k pick capacity changes bytes (changes_in_a_batch * 0) (slot_size * taken settings a [] + 0) h r
chain_goes settings a (Handed.Refused rows Refusal.Full) failed s u k pick capacity changes bytes none r h = armed_still s u a.size k pick capacity changes bytes (changes_in_a_batch * 1) (slot_size * taken settings a rows + 1) h r
chain_goes settings a (Handed.Refused rows Refusal.Stale) failed s u k pick capacity changes bytes none r h = armed_still s u a.size k pick capacity changes bytes (changes_in_a_batch * 1) (slot_size * taken settings a rows + 1) h r
chain_goes settings a (Handed.Refused rows Refusal.DiskFault) failed s u k pick capacity changes bytes none r h = absurd (none refl)
chain_goes settings a (Handed.Kept rows more) failed s u k pick capacity changes bytes none r h =
    let len = taken_join settings a rows (all_records more) in
    let p = stops_part (Some s) (up_to (append_changes (slot_size * (slot_total a.rows + 1)) (slot_size * taken settings a rows)) Done) (changes_for settings failed (with_batch settings a rows) more) u h in
    let r2 : IsArmed s a.size k pick capacity (changes + changes_in_a_batch * count more + 4) (bytes + (slot_size * taken settings (appended settings a rows) (all_records more) + count more) + (slot_size * taken settings a rows + 1)) = record { goes = r.goes; armed_is = r.armed_is; pick_is = r.pick_is; sure = r.sure; size_is = r.size_is; synced_is = r.synced_is; capacity_is = r.capacity_is; changes_are = omega (arith, r.changes_are); bytes_are = omega (arith, r.bytes_are, len) } in
    let one = batch_done s p.0 (slot_size * (slot_total a.rows + 1)) (slot_size * taken settings a rows) a.size k pick capacity (changes + changes_in_a_batch * count more) (bytes + (slot_size * taken settings (appended settings a rows) (all_records more) + count more)) r2 p.1 in
    let b = chain_goes settings (appended settings a rows) more failed p.0 u (k - 4) pick capacity changes bytes none
    (subst (λ (z : ℕ). IsArmed p.0 z (k - 4) pick capacity (changes + changes_in_a_batch * count more) (bytes + (slot_size * taken settings (appended settings a rows) (all_records more) + count more))) (needed_is settings a rows) one.1) p.2 in (
      (λ some. omega (arith, one.0 some, b.0 (omega (arith, one.0 some)))),
      subst (λ (z : ℕ). IsArmed u (with_kept settings (appended settings a rows) more).size z pick capacity changes bytes) (let e : k - 4 - changes_in_a_batch * kept_count more ≡ k - changes_in_a_batch * kept_count (Handed.Kept rows more) = omega arith in e) b.1,
    )

none_failed : (k : Stored) (failed : ℕ) → k ≢ kept.DiskFault → ChangesAreBegun k failed → failed ≡ 0
none_failed kept.Done failed none h = h
none_failed kept.Full failed none h = h
none_failed kept.Stale failed none h = h
none_failed kept.DiskFault failed none h = absurd (none refl)

pub not_past : (stop : Option Stop) (n : ℕ) → IsStop stop → (1 ≤ armed_by stop → changes_in_a_batch * n < armed_by stop) → NotPast stop n
not_past None n is h = tt
not_past (Some s) n is h = omega (arith, h is)

pub round_goes : {D : Type 0} (medium : Medium D)
    (settings : StationSettings) (a : Archive) (ts : List MadeAttempt) (end : RoundEnd) (stop : Option Stop) (pick : ℕ) (d0 d1 : D) (b0 b1 : Book) (marks : List Mark) (s u : StoppingState)
    → end ≢ round_end.DiskFault → last_answer (all_batches (last_row_stamp a.rows) ts) ≢ kept.DiskFault → IsStop stop → medium.moment d0 ≡ a.changes
    → Stores medium settings a.rows (all_batches (last_row_stamp a.rows) ts) (holding b0 d0 []) (holding b1 d1 marks)
    → ((failed : ℕ) → medium.went d0 (changes_for settings failed a.rows (all_batches (last_row_stamp a.rows) ts)) d1 → after_stops (Some s) (changes_for settings failed a.rows (all_batches (last_row_stamp a.rows) ts)) ≡ Some u)
    → DiskHasRoom settings (armed_by stop) pick a (all_batches (last_row_stamp a.rows) ts) s
    → RoundStopsAt stop end (kept_count (all_batches (last_row_stamp a.rows) ts)) × DiskRests (archive_left_after settings stop 0 a (all_batches (last_row_stamp a.rows) ts)) u (medium.moment d1)
round_goes medium settings a ts end stop pick d0 d1 b0 b1 marks s u sure none is start st by room =
    let r = has_armed settings (armed_by stop) pick a (all_batches (last_row_stamp a.rows) ts) s room in
    let q = chain_goes settings a (all_batches (last_row_stamp a.rows) ts) st.failed s u (armed_by stop) pick s.inner.limits.capacity 0 0 none
    (record { goes = r.goes; armed_is = r.armed_is; pick_is = r.pick_is; sure = r.sure; size_is = r.size_is; synced_is = r.synced_is; capacity_is = r.capacity_is; changes_are = omega (arith, r.changes_are); bytes_are = omega (arith, r.bytes_are) }) (by st.failed st.went_on) in (
      record { before = not_past stop (kept_count (all_batches (last_row_stamp a.rows) ts)) is q.0; at = λ e. absurd (sure e) },
      subst (λ (x : Archive). DiskRests x u (medium.moment d1)) (sym (left_kept settings stop 0 a (all_batches (last_row_stamp a.rows) ts) none)) (record {
        goes = q.1.goes;
        sure = q.1.sure;
        size = q.1.size_is;
        synced = q.1.synced_is;
        changes_are = omega (arith, st.moved, start, none_failed (last_answer (all_batches (last_row_stamp a.rows) ts)) st.failed none st.begun, changes_kept settings a (all_batches (last_row_stamp a.rows) ts));
      }),
    )

pub round_sure : {D : Type 0} (medium : Medium D)
    (settings : StationSettings) (a : Archive) (ts : List MadeAttempt) (pick : ℕ) (d0 d1 : D) (b0 b1 : Book) (marks : List Mark) (s u : StoppingState)
    → Stores medium settings a.rows (all_batches (last_row_stamp a.rows) ts) (holding b0 d0 []) (holding b1 d1 marks)
    → ((failed : ℕ) → medium.went d0 (changes_for settings failed a.rows (all_batches (last_row_stamp a.rows) ts)) d1 → after_stops (Some s) (changes_for settings failed a.rows (all_batches (last_row_stamp a.rows) ts)) ≡ Some u)
    → DiskHasRoom settings 0 pick a (all_batches (last_row_stamp a.rows) ts) s → last_answer (all_batches (last_row_stamp a.rows) ts) ≢ kept.DiskFault
round_sure medium settings a ts pick d0 d1 b0 b1 marks s u st by room fault =
    let begun = subst (λ (x : Stored). ChangesAreBegun x st.failed) fault st.begun in
    let cut = chain_stopped settings a (all_batches (last_row_stamp a.rows) ts) st.failed s u 0 pick s.inner.limits.capacity fault begun.0 begun.1
    (has_armed settings 0 pick a (all_batches (last_row_stamp a.rows) ts) s room)
    (has_length settings 0 pick a (all_batches (last_row_stamp a.rows) ts) s room) (by st.failed st.went_on) in
    absurd (omega (arith, cut.count, begun.0))
