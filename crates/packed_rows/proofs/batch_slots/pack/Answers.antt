use Rattle.std.proofs.Common.{◌≡◌, ◌+◌, ◌≤◌, ◌++◌, List, ℕ, length, take, drop, sym, ◌∙◌, ap, subst, arith, append_assoc, append-nil, [], ◌∷◌, Option}
use Rattle.std.proofs.lemmas.List.{drop_all, take_all}
use Rattle.station_base.specs.CivilMinute.{CivilMinute}
use Rattle.row_slot.specs.Slot.{slot_of}
use Rattle.packed_rows.specs.Closing.{closing_before}
use Rattle.packed_rows.specs.Rising.{rows_rise}
use Rattle.packed_rows.specs.Rows.{slots_after}
use Rattle.packed_rows.specs.Tail.{EndsRows}
use Rattle.std.specs.Prelude.{All}
use Rattle.station_base.specs.FieldSet.{AreMissing}
use Rattle.station_base.specs.RowLine.{IsPrintable}
use Rattle.station_base.specs.declared.row.Row.{Row}
use Rattle.packed_rows.specs.Packed.{joined_slots, AreReadBack}
use Rattle.packed_rows.proofs.PackedBatches.{packed_at, read_back_at, rises_at, rises_on, front_at}
use Rattle.packed_rows.proofs.batch_slots.pack.Goals as goal

pub push_row-requires-clause-room : goal.push_row-requires-clause-room
push_row-requires-clause-room c = omega (arith, c.loop-row.invariant.size, c.loop-row-test.true, c.requires.few)

pub push_row-requires-clause-printable : goal.push_row-requires-clause-printable
push_row-requires-clause-printable c = subst (λ (r : Row). All IsPrintable r.values) (sym c.row-item.is) (c.requires.printable c.loop-row.row-index c.row-item.result c.loop-row-test.true)

pub push_row-requires-clause-limited : goal.push_row-requires-clause-limited
push_row-requires-clause-limited c = subst (λ (r : Row). AreMissing r.limited r.values) (sym c.row-item.is) (c.requires.limited c.loop-row.row-index c.row-item.result c.loop-row-test.true)

pub push-requires-clause-printable : goal.push-requires-clause-printable
push-requires-clause-printable c = subst (λ (r : Row). All IsPrintable r.values) (sym c.row-item.is) (c.requires.printable c.loop-row.row-index c.row-item.result c.loop-row-test.true)

pub push-requires-clause-rises : goal.push-requires-clause-rises
push-requires-clause-rises c = rises_at c.args.rows.now c.loop-row.row-index c.row-item.result c.loop-row-test.true c.row-item.is c.loop-row.end.last c.loop-row.invariant.rising

pub loop-row-init : goal.loop-row-init
loop-row-init c =
    record {
      ends = λ before ends. subst (λ (r : List Row). EndsRows c.args.tail.now r) (sym (append-nil before)) ends;
      slots = λ before ends. ap (λ (b : List ℕ). b ++ joined_slots (slots_after (before ++ []) c.args.rows.now)) c.new-slots.ensures
          ∙ ap (λ (r : List Row). joined_slots (slots_after r c.args.rows.now)) (append-nil before);
      size = omega (arith, ap length c.new-slots.ensures);
      rising = c.requires.rising;
      read_back = tt;
    }

pub loop-row-preserved : goal.loop-row-preserved
loop-row-preserved c =
    let i = c.loop-row.invariant in let at = c.loop-row.row-index in let rows = c.args.rows.now in let row = c.row-item.result in
    let lt = c.loop-row-test.true in let is = c.row-item.is in
    record {
      ends = λ before ends.
          subst (λ (r : List Row). EndsRows c.push.new.self r) (append_assoc before (take at rows) (row ∷ []) ∙ ap (λ (r : List Row). before ++ r) (front_at rows at row lt is))
          (c.push.ensures.ends (before ++ take at rows) (i.ends before ends));
      slots = λ before ends.
          let b = before ++ take at rows in
          ap (λ (x : List ℕ). x ++ joined_slots (slots_after (before ++ take (at + 1) rows) (drop (at + 1) rows))) (c.push_row.ensures.slots b (i.ends before ends))
          ∙ append_assoc c.loop-row.slots.items (joined_slots (closing_before b row ++ slot_of row ∷ [])) (joined_slots (slots_after (before ++ take (at + 1) rows) (drop (at + 1) rows)))
          ∙ ap (λ (r : List Row). c.loop-row.slots.items ++ (joined_slots (closing_before b row ++ slot_of row ∷ []) ++ joined_slots (slots_after r (drop (at + 1) rows))))
          (sym (append_assoc before (take at rows) (row ∷ []) ∙ ap (λ (r : List Row). before ++ r) (front_at rows at row lt is)))
          ∙ ap (λ (x : List ℕ). c.loop-row.slots.items ++ x) (sym (packed_at rows at row lt is b)) ∙ i.slots before ends;
      size = omega (arith, i.size, c.push_row.ensures.length);
      rising = ap (λ (o : Option CivilMinute). rows_rise o (drop (at + 1) rows)) c.push.ensures.last ∙ rises_on rows at row lt is c.loop-row.end.last i.rising;
      read_back = read_back_at rows at row lt is i.read_back c.push_row.ensures.read_back;
    }

pub returns-clause-slots : goal.returns-clause-slots
returns-clause-slots c before ends =
    let e : c.loop-row.row-index ≡ length c.args.rows.now = omega arith in
    let none : drop c.loop-row.row-index c.args.rows.now ≡ [] = drop_all c.loop-row.row-index c.args.rows.now (omega (arith, e)) in
    sym (append-nil c.loop-row.slots.items)
    ∙ ap (λ (r : List Row). c.loop-row.slots.items ++ joined_slots (slots_after (before ++ take c.loop-row.row-index c.args.rows.now) r)) (sym none) ∙ c.loop-row.invariant.slots before ends

pub returns-clause-read_back : goal.returns-clause-read_back
returns-clause-read_back c =
    subst (λ (r : List Row). AreReadBack r) (take_all c.loop-row.row-index c.args.rows.now (let e : length c.args.rows.now ≤ c.loop-row.row-index = omega arith in e)) c.loop-row.invariant.read_back
