use Rattle.std.proofs.Common.{rules, ◌≡◌, Some, sym, arith}
use Rattle.row_text.specs.FieldsTold.{behind_name}
use Rattle.row_text.proofs.FieldsInTurn.{fault_past, fault_none}
use Rattle.row_text.proofs.fields.find_fault.Goals as goal

pub returns-in-Some : goal.returns-in-Some
returns-in-Some c =
    let found : behind_name c.loop-index.index c.args.text.now ≡ Some c.in-Some._more.now = search rules in
    sym (fault_past c.args.text.now c.in-Some._more.now c.loop-index.index c.loop-index-test.true found)

pub returns : goal.returns
returns c = sym (fault_none c.args.text.now (λ field small. c.loop-index.invariant field (omega arith)))
