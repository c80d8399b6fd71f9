use Rattle.std.proofs.Common.{◌≡◌, length}
use Rattle.schedule_file.specs.Pieces.{words_left}
use Rattle.schedule_file.specs.Forms.{named_values_in}
use Rattle.schedule_file.specs.Naming.{values_on}
use Rattle.schedule_file.proofs.schedule.naming.read_values.Given as goal

abbrev pub invariant-loop-word : goal.invariant-loop-word
invariant-loop-word l = named_values_in (words_left l.words) ≡ values_on l.naming (words_left l.rest)

abbrev pub decreases-loop-word : goal.decreases-loop-word
decreases-loop-word l = length l.rest
