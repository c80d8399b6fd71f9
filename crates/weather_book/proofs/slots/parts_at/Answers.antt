use Rattle.std.proofs.Common.{refl, ◌≡◌, ◌∙◌, ap, ℕ, take, drop, arith, ◌+◌, ◌-◌, ◌*◌}
use Rattle.daily_summary.specs.Parts.{part_size}
use Rattle.gated_log.specs.Layout.{slot_size}
use Rattle.packed_rows.specs.Closing.{part_place}
use Rattle.weather_book.proofs.Stored.{one_copied, all_copied}
use Rattle.weather_book.proofs.slots.parts_at.Goals as goal

pub loop-k-init : goal.loop-k-init
loop-k-init c = record { parts_are = refl }

pub loop-k-preserved : goal.loop-k-preserved
loop-k-preserved c =
    let k = c.loop-k.k in
    let sized : slot_size * k + part_place + part_size - (slot_size * k + part_place) ≡ part_size = omega arith in
    one_copied c.args.bytes.now k (part_size * k + part_size - part_size * k) c.loop-k.parts c.copy_from_slice.new.self c.told-bytes c.loop-k-test.true (omega arith) c.loop-k.invariant
    (c.copy_from_slice.ensures.after ∙ ap (λ (n : ℕ). take n (drop (slot_size * k + part_place) c.args.bytes.now)) sized)

pub returns : goal.returns
returns c = all_copied c.args.bytes.now c.loop-k.k c.loop-k.parts (omega arith) c.loop-k.invariant
