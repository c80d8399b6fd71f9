use Rattle.std.proofs.Common.{ap, sym, ◌∙◌, ◌+◌, arith}
use Rattle.schedule_file.specs.Reader.{said_by}
use Rattle.schedule_file.proofs.Limits.{counted_steps}
use Rattle.schedule_file.specs.Pieces.{lines_of}
use Rattle.schedule_file.specs.Reading.{said_by_text, read_lines}
use Rattle.schedule_file.proofs.schedule.Schedule.read.Goals as goal

pub loop-rest-init : goal.loop-rest-init
unfolding said_by_text
loop-rest-init c = record {
  said = ap (read_lines c.args.period 1 (lines_of c.args.bytes.now)) (sym c.new-reader.ensures.said);
  period = c.new-reader.ensures.period;
  few = omega arith;
}

pub invariant_of-result : goal.invariant_of-result
invariant_of-result c = record {
  counted = counted_steps c.args.bytes.now c.loop-rest.rest.now c.args.period (c.loop-rest.number + 1) c.loop-rest.reader.period (said_by c.loop-rest.reader) c.in-Ok-finish.steps.items
      c.loop-rest.invariant.said (sym c.is_empty.ensures ∙ c.loop-rest-test.false) c.loop-rest.invariant.period c.in-Ok-finish.ensures;
}
