use Rattle.std.proofs.Common.{rules, ◌≡◌, ◌<◌, ◌+◌, ◌^◌, ℕ, Some, None, Ok, Err, List, Bor, set, replicate, length, sym, ap, ◌∙◌, arith, refl, take, drop}
use Rattle.station_base.specs.Fields.{field_count}
use Rattle.row_text.specs.Words.{first_word, behind_word}
use Rattle.row_text.specs.FieldsTold.{behind_name, told_by_word}
use Rattle.row_text.proofs.FieldsInTurn.{step_none, step_some, step_err, row_begun, row_ended, row_left, none_yet, free_set, long_set, small_next, small_sum, bit_fits, bits_none, bits_some}
use Rattle.row_text.proofs.Rows.{rest_whole}
use Rattle.row_text.proofs.fields.read_fields.Goals as goal
use Rattle.row_text.proofs.fields.read_fields.Goals.{in-Some+in-Ok, then-is_none, else-is_none, in_default}

pub loop-index-init : goal.loop-index-init
loop-index-init c = record {
  same = row_begun c.args.stamp c.args.interval (replicate 37 None) c.args.text.now;
  long = refl;
  free = λ k _. none_yet 37 k;
  small = omega arith;
}

pub returns-in-Err : goal.returns-in-Err
returns-in-Err c =
    let found : behind_name c.loop-index.index c.loop-index.rest.now ≡ Some c.in-Some.more.now = search rules in
    let told : told_by_word (take c.end_before-end.result c.in-Some.more.now) ≡ Err c.in-Err.fault = search rules in
    let is : told_by_word (first_word c.in-Some.more.now) ≡ Err c.in-Err.fault = ap (λ (n : ℕ). told_by_word (take n c.in-Some.more.now)) (sym c.end_before-end.ensures.end) ∙ told in
    step_err c.args.stamp c.args.interval c.loop-index.values c.loop-index.limited c.loop-index.index c.loop-index.rest.now _ c.loop-index-test.true c.loop-index.invariant.long c.loop-index.invariant.same c.in-Some.more.now c.in-Err.fault found is

pub returns-then-not-is_empty : goal.returns-then-not-is_empty
returns-then-not-is_empty c =
    let end : c.loop-index.index ≡ field_count = omega arith in
    let some : 0 < length c.loop-index.rest.now = search rules in
    ap Err c.find_fault.ensures ∙ row_left c.args.stamp c.args.interval c.loop-index.values c.loop-index.limited c.loop-index.index c.loop-index.rest.now _ end some c.loop-index.invariant.same

pub returns : goal.returns
returns c =
    let end : c.loop-index.index ≡ field_count = omega arith in
    let none : length c.loop-index.rest.now ≡ 0 = search rules in
    row_ended c.args.stamp c.args.interval c.loop-index.values c.loop-index.limited c.loop-index.index _ c.loop-index.rest.now end c.loop-index.invariant.long none c.loop-index.invariant.same

pub loop-index-preserved : goal.loop-index-preserved
loop-index-preserved c =
    elim c.match-read_name.branch [
      | in-Some+in-Ok w ↦
          let found : behind_name c.loop-index.index c.loop-index.rest.now ≡ Some w.in-Some.more.now = search rules in
          let rest : c.match-read_name.rest.now ≡ behind_word w.in-Some.more.now =
          ap (λ (r : Bor (List ℕ)). r.now) w.rest-is ∙ rest_whole w.end_before-end.result w.in-Some.more.now ∙ ap (λ (n : ℕ). drop n w.in-Some.more.now) w.end_before-end.ensures.end in
          let values : c.match-read_name.values ≡ set c.loop-index.values c.loop-index.index w.in-Ok.told = w.values-is in
          let told : told_by_word (take w.end_before-end.result w.in-Some.more.now) ≡ Ok w.in-Ok.told = search rules in
          let is : told_by_word (first_word w.in-Some.more.now) ≡ Ok w.in-Ok.told = ap (λ (n : ℕ). told_by_word (take n w.in-Some.more.now)) (sym w.end_before-end.ensures.end) ∙ told in
          let same = step_some c.args.stamp c.args.interval c.loop-index.values c.loop-index.limited c.loop-index.index c.loop-index.rest.now _ c.loop-index-test.true c.loop-index.invariant.long c.loop-index.invariant.same w.in-Some.more.now w.in-Ok.told found is in
          elim w.if-is_none.branch [
            | then-is_none w' ↦
                let none : w.in-Ok.told ≡ None = search rules in
                let limited : c.match-read_name.limited ≡ c.loop-index.limited + 2 ^ c.loop-index.index =
                w.limited-is ∙ w'.limited-is ∙ ap (λ (n : ℕ). c.loop-index.limited + n) (bit_fits c.loop-index.index c.loop-index-test.true) in
                rw (values, limited, rest) (record {
                  same = rw (bits_none w.in-Ok.told c.loop-index.limited c.loop-index.index none) at same;
                  long = long_set c.loop-index.values c.loop-index.index w.in-Ok.told c.loop-index.invariant.long;
                  free = free_set c.loop-index.values c.loop-index.index w.in-Ok.told c.loop-index.invariant.free;
                  small = small_sum c.loop-index.limited c.loop-index.index c.loop-index.invariant.small;
                })
            | else-is_none w' ↦
                let some : w.in-Ok.told ≡ None → ⊥ = λ none. search (rules, none) in
                let limited : c.match-read_name.limited ≡ c.loop-index.limited = w.limited-is ∙ w'.limited-is in
                rw (values, limited, rest) (record {
                  same = rw (bits_some w.in-Ok.told c.loop-index.limited c.loop-index.index some) at same;
                  long = long_set c.loop-index.values c.loop-index.index w.in-Ok.told c.loop-index.invariant.long;
                  free = free_set c.loop-index.values c.loop-index.index w.in-Ok.told c.loop-index.invariant.free;
                  small = small_next c.loop-index.limited c.loop-index.index c.loop-index.invariant.small;
                })
          ]
      | in_default w ↦
          let values : c.match-read_name.values ≡ c.loop-index.values = w.values-is in
          let limited : c.match-read_name.limited ≡ c.loop-index.limited = w.limited-is in
          let rest : c.match-read_name.rest.now ≡ c.loop-index.rest.now = ap (λ (r : Bor (List ℕ)). r.now) w.rest-is in
          let none : behind_name c.loop-index.index c.loop-index.rest.now ≡ None = search rules in
          rw (values, limited, rest) (record {
            same = step_none c.args.stamp c.args.interval c.loop-index.values c.loop-index.limited c.loop-index.index c.loop-index.rest.now _ c.loop-index-test.true c.loop-index.invariant.long c.loop-index.invariant.same (c.loop-index.invariant.free c.loop-index.index (omega arith)) none;
            long = c.loop-index.invariant.long;
            free = λ k above. c.loop-index.invariant.free k (omega arith);
            small = small_next c.loop-index.limited c.loop-index.index c.loop-index.invariant.small;
          })
    ]
