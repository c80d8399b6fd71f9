use Rattle.std.proofs.Common.{◌≡◌, ℕ, ◌<◌, None}
use Rattle.row_text.specs.FieldsTold.{behind_name}
use Rattle.row_text.proofs.fields.find_fault.Given as goal

-- no name of the fields before begins the text
abbrev pub invariant-loop-index : goal.invariant-loop-index
invariant-loop-index l = (k : ℕ) → k < l.index → behind_name k l.text ≡ None
