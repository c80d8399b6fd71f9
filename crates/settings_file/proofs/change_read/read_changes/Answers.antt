use Rattle.std.proofs.Common.{◌≡◌, ◌≤◌, [], ◌∷◌, length, Some, Ok, Err, sym, ◌∙◌, None, rules, arith}
use Rattle.std.proofs.lemmas.List.{length-append}
use Rattle.station_base.proofs.LastStamps.{last_stamp-append}
use Rattle.toml.specs.Data.{as_array}
use Rattle.toml.specs.View.{view, array_view, items_view}
use Rattle.settings_file.specs.Changes.{last_start, change_start}
use Rattle.settings_file.specs.ChangesRead.{change_of}
use Rattle.settings_file.proofs.ChangesWalk.{changes_of-many, changes_of-walked, walk-goes, walk-faults, walk-over}
use Rattle.settings_file.proofs.change_read.read_changes.Goals as goal

pub returns-then-len-gt-MOST_SETTINGS_CHANGES-clause-exact : goal.returns-then-len-gt-MOST_SETTINGS_CHANGES-clause-exact
returns-then-len-gt-MOST_SETTINGS_CHANGES-clause-exact c =
    let is : as_array (view c.args.value.now) ≡ Some (array_view c.in-Some.tables.now) = search rules in
    sym (changes_of-many c.args.at.now (view c.args.value.now) c.in-Some.tables.now.items is (omega arith))

pub returns-in_err-change-clause-exact : goal.returns-in_err-change-clause-exact
returns-in_err-change-clause-exact c =
    let some : as_array (view c.args.value.now) ≡ Some (array_view c.in-Some.tables.now) = search rules in
    let is : as_array (view c.args.value.now) ≡ Some (items_view c.deref-table-items.result.now) = rw c.deref-table-items.ensures.value some in
    let few : length c.deref-table-items.result.now ≤ 16 = omega arith in
    let walked = changes_of-walked c.args.at.now (view c.args.value.now) c.deref-table-items.result.now is few in
    let (_, count, last_is, same) = c.loop-index.invariant in
    let x = c.table-item.result in
    let fault = c.in_err-change.field-0.0 in
    let bad : change_of c.args.at.now (length c.loop-index.changes) (last_start c.loop-index.changes) (view x) ≡ Err fault =
    rw (count, ← last_is) (sym c.read_change.ensures.exact ∙ c.in_err-change.was) in
    let given : c.from_residual.result ≡ Err fault = search rules in
    let stops = walk-faults c.args.at.now c.loop-index.changes c.deref-table-items.result.now c.loop-index.index x c.loop-index-test.true c.table-item.is fault bad in
    given ∙ sym (walked ∙ sym same ∙ stops)

pub push-requires-clause-room : goal.push-requires-clause-room
push-requires-clause-room c = let (_, count, _, _) = c.loop-index.invariant in omega arith

pub push-requires-clause-later : goal.push-requires-clause-later
push-requires-clause-later c =
    let (_, _, last_is, _) = c.loop-index.invariant in
    rw (← last_is) c.in_ok-change.ensures.later

pub loop-index-preserved : goal.loop-index-preserved
loop-index-preserved c =
    let (_, count, last_is, same) = c.loop-index.invariant in
    let x = c.table-item.result in
    let change = c.in_ok-change.change in
    let good : change_of c.args.at.now (length c.loop-index.changes) (last_start c.loop-index.changes) (view x) ≡ Ok change =
    rw (count, ← last_is) (sym c.read_change.ensures.exact ∙ c.in_ok-change.was) in
    let goes = walk-goes c.args.at.now c.loop-index.changes c.deref-table-items.result.now c.loop-index.index x c.loop-index-test.true c.table-item.is change good in
    let more = c.push.ensures.more in (
      c.push.ensures.valid,
      rw more (omega (arith, length-append c.loop-index.changes (change ∷ []))),
      rw more (sym (last_stamp-append change_start c.loop-index.changes (change ∷ []) None)),
      rw more (sym goes ∙ same),
    )

pub returns-clause-exact : goal.returns-clause-exact
returns-clause-exact c =
    let some : as_array (view c.args.value.now) ≡ Some (array_view c.in-Some.tables.now) = search rules in
    let is : as_array (view c.args.value.now) ≡ Some (items_view c.deref-table-items.result.now) = rw c.deref-table-items.ensures.value some in
    let few : length c.deref-table-items.result.now ≤ 16 = omega arith in
    let walked = changes_of-walked c.args.at.now (view c.args.value.now) c.deref-table-items.result.now is few in
    let (_, _, _, same) = c.loop-index.invariant in
    sym (walked ∙ sym same ∙ walk-over c.args.at.now c.loop-index.changes c.deref-table-items.result.now c.loop-index.index c.loop-index-test.false)

pub returns-clause-valid : goal.returns-clause-valid
returns-clause-valid c = c.loop-index.invariant.0
