use Rattle.std.proofs.Common.{◌≡◌, take}
use Rattle.row_slot.specs.Values.{presence_of}
use Rattle.row_slot.proofs.values.presence_of.Given as goal

abbrev pub invariant-loop-field : goal.invariant-loop-field
invariant-loop-field l = l.presence ≡ presence_of (take l.field l.values)
