use Rattle.std.proofs.Common.{rules, ◌≡◌, length, sym, ap, ◌∙◌, arith}
use Rattle.station_base.specs.CivilMinute.{CivilMinute}
use Rattle.row_slot.specs.Slot.{row_in_slot}
use Rattle.std.specs.Prelude.{Option}
use Rattle.gated_log.specs.Layout.{slot_size}
use Rattle.packed_rows.specs.Closing.{closings, begins_day}
use Rattle.packed_rows.proofs.PackedBatches.{one_closing, is_thirteen, slots_and_row, small_closings}
use Rattle.packed_rows.proofs.batch_slots.push_row.Goals as goal

pub closing_slot-slot-requires : goal.closing_slot-slot-requires
closing_slot-slot-requires c = let few = small_closings (begins_day c.args.tail.now.last c.args.row.now.stamp) in omega (arith, few, c.closings-k-end.ensures)

pub loop-k-preserved : goal.loop-k-preserved
loop-k-preserved c =
    let long : length c.closing_slot-slot.result ≡ slot_size = search rules in
    record {
      slots = λ before ends.
          one_closing before c.loop-k.k c.args.slots.now.items c.loop-k.slots.items c.push_bytes.new.text.items c.closing_slot-slot.result (c.loop-k.invariant.slots before ends) c.push_bytes.ensures.bytes
          (c.closing_slot-slot.ensures before ends
          (is_thirteen before c.args.tail.now.last c.args.row.now.stamp c.loop-k.k ends.last (let e = c.closings-k-end.ensures in let t = c.loop-k-test.true in omega arith)));
      size = omega (arith, c.push_bytes.ensures.length, c.loop-k.invariant.size, long);
    }

pub returns-clause-slots : goal.returns-clause-slots
returns-clause-slots c before ends =
    let count : c.loop-k.k ≡ c.closings-k-end.result = omega arith in
    slots_and_row before c.args.row.now c.loop-k.k c.args.slots.now.items c.loop-k.slots.items c.push_bytes-2.new.text.items c.write-slot.result
    (count ∙ c.closings-k-end.ensures ∙ ap (λ (o : Option CivilMinute). closings (begins_day o c.args.row.now.stamp)) ends.last)
    (c.loop-k.invariant.slots before ends) c.push_bytes-2.ensures.bytes c.write-slot.ensures.bytes

pub returns-clause-length : goal.returns-clause-length
returns-clause-length c =
    let long : length c.write-slot.result ≡ slot_size = search rules in
    let count : c.loop-k.k ≡ c.closings-k-end.result = omega arith in
    let few = small_closings (begins_day c.args.tail.now.last c.args.row.now.stamp) in
    omega (arith, c.push_bytes-2.ensures.length, c.loop-k.invariant.size, long, c.closings-k-end.ensures)

pub returns-clause-read_back : goal.returns-clause-read_back
returns-clause-read_back c = let long : length c.write-slot.result ≡ slot_size = search rules in
    record { back = ap row_in_slot (sym c.write-slot.ensures.bytes) ∙ c.write-slot.ensures.read_back; size = ap length (sym c.write-slot.ensures.bytes) ∙ long }
