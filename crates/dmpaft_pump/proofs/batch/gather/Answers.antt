use Rattle.std.proofs.Common.{◌≡◌, ℕ, ◌+◌, List, [], ◌∷◌, ◌++◌, length, sym, ◌∙◌, ap, arith, true, false, Option, Some}
use Rattle.station_base.specs.CivilMinute.{CivilMinute}
use Rattle.vantage_frames.specs.Slots.{slot_at}
use Rattle.archive_record.specs.Reading.{stamp_in}
use Rattle.archive_record.specs.Record.{reads_as_row}
use Rattle.station_base.specs.LastStamp.{exceeds}
use Rattle.dmpaft_pump.specs.Slot.{is_skipped}
use Rattle.dmpaft_pump.specs.Batch.{slots_in_page}
use Rattle.station_base.specs.LastStamp.{last_stamp}
use Rattle.dmpaft_pump.proofs.Rows.{last_snoc, going_newer, going_past, going_skipped, going_as, older, no_record}
use Rattle.dmpaft_pump.proofs.batch.gather.Goals as goal
use Rattle.dmpaft_pump.proofs.batch.gather.Goals.{in-Record+then-is_after, in-Record+else-is_after, in-Empty, in-Skipped}

pub loop-place-preserved : goal.loop-place-preserved
loop-place-preserved c =
    let i = c.loop-place.invariant in
    let a = c.args.last.now in
    let page = c.args.page.now in
    let all = slots_in_page c.args.from page in
    let rows = c.loop-place.batch in
    let b = c.loop-place.last in
    let n = c.loop-place.skipped in
    let place = c.loop-place.place in
    let at = c.slot.ensures in
    let left = slots_in_page (place + 1) page in
    elim c.match-read_slot.branch [
      | in-Record+then-is_after w ↦
          let slot : w.in-Record.record ≡ slot_at page place = w.in-Record.ensures.2 ∙ at in
          let stamp : stamp_in (slot_at page place) ≡ Some w.stamp-stamp.result = ap stamp_in (sym slot) ∙ w.stamp-stamp.ensures in
          let newer : exceeds b (stamp_in (slot_at page place)) ≡ true = ap (λ (x : Option CivilMinute). exceeds b x) stamp ∙ sym w.is_after.ensures ∙ w.if-is_after.true in
          let items : rows ++ slot_at page place ∷ [] ≡ c.match-read_slot.batch = ap (λ (x : List ℕ). rows ++ x ∷ []) (sym slot) ∙ sym w.push.ensures.items ∙ sym w.batch-is in
          record {
            going = going_as a all (rows ++ slot_at page place ∷ []) c.match-read_slot.batch (stamp_in (slot_at page place)) c.match-read_slot.last n c.match-read_slot.skipped left items (stamp ∙ sym w.last-is) (sym w.skipped-is) (going_newer a all rows b n place page c.loop-place-test.true i.going (ap reads_as_row (sym at) ∙ w.in-Record.ensures.0) (ap is_skipped (sym at) ∙ w.in-Record.ensures.1) newer);
            last = w.last-is ∙ sym stamp ∙ sym (last_snoc rows (slot_at page place) a) ∙ ap (λ (x : List (List ℕ)). last_stamp stamp_in x a) items;
            few = omega (arith, i.few, ap (λ (x : List (List ℕ)). length x) w.batch-is, w.push.ensures.len);
            some = omega (arith, i.some, w.skipped-is);
          }
      | in-Record+else-is_after w ↦
          let slot : w.in-Record.record ≡ slot_at page place = w.in-Record.ensures.2 ∙ at in
          let stamp : stamp_in (slot_at page place) ≡ Some w.stamp-stamp.result = ap stamp_in (sym slot) ∙ w.stamp-stamp.ensures in
          let not_newer : exceeds b (stamp_in (slot_at page place)) ≡ false = ap (λ (x : Option CivilMinute). exceeds b x) stamp ∙ sym w.is_after.ensures ∙ w.if-is_after.false in
          record {
            going = going_as a all rows c.match-read_slot.batch b c.match-read_slot.last n c.match-read_slot.skipped left (sym w.batch-is) (sym w.last-is) (sym w.skipped-is) (going_past a all rows b n place page c.loop-place-test.true i.going (older a all rows b n place page c.loop-place-test.true i.going (ap reads_as_row (sym at) ∙ w.in-Record.ensures.0) not_newer) (ap is_skipped (sym at) ∙ w.in-Record.ensures.1));
            last = w.last-is ∙ i.last ∙ ap (λ (x : List (List ℕ)). last_stamp stamp_in x a) (sym w.batch-is);
            few = omega (arith, i.few, ap (λ (x : List (List ℕ)). length x) w.batch-is);
            some = omega (arith, i.some, w.skipped-is);
          }
      | in-Empty w ↦
          record {
            going = going_as a all rows c.match-read_slot.batch b c.match-read_slot.last n c.match-read_slot.skipped left (sym w.batch-is) (sym w.last-is) (sym w.skipped-is) (going_past a all rows b n place page c.loop-place-test.true i.going (no_record a all rows b n place page c.loop-place-test.true i.going (ap reads_as_row (sym at) ∙ w.in-Empty.ensures.0)) (ap is_skipped (sym at) ∙ w.in-Empty.ensures.1));
            last = w.last-is ∙ i.last ∙ ap (λ (x : List (List ℕ)). last_stamp stamp_in x a) (sym w.batch-is);
            few = omega (arith, i.few, ap (λ (x : List (List ℕ)). length x) w.batch-is);
            some = omega (arith, i.some, w.skipped-is);
          }
      | in-Skipped w ↦
          record {
            going = going_as a all rows c.match-read_slot.batch b c.match-read_slot.last (n + 1) c.match-read_slot.skipped left (sym w.batch-is) (sym w.last-is) (sym w.skipped-is) (going_skipped a all rows b n place page c.loop-place-test.true i.going (ap reads_as_row (sym at) ∙ w.in-Skipped.ensures.0) (ap is_skipped (sym at) ∙ w.in-Skipped.ensures.1));
            last = w.last-is ∙ i.last ∙ ap (λ (x : List (List ℕ)). last_stamp stamp_in x a) (sym w.batch-is);
            few = omega (arith, i.few, ap (λ (x : List (List ℕ)). length x) w.batch-is);
            some = omega (arith, i.some, w.skipped-is);
          }
    ]
