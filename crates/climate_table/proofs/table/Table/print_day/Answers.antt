use Rattle.std.proofs.Common.{[]}
use Rattle.climate_table.specs.Spans.{ended_lines}
use Rattle.climate_table.specs.Table.{degree_lines}
use Rattle.climate_table.proofs.Prints.{both_done, both_printed, first_failed, part_printed, second_failed}
use Rattle.climate_table.proofs.table.Table.print_day.Goals as goal

pub returns-in-Failed-clause-failed : goal.returns-in-Failed-clause-failed
returns-in-Failed-clause-failed g c is =
    first_failed _ _ c.args.pending.now.items (ended_lines c.args.self.now.month c.args.day.0) (degree_lines c.args.day.0 c.args.summary.now)
    (c.print_ended.ensures.failed c.in-Failed.is)

pub returns-clause-done : goal.returns-clause-done
returns-clause-done g c is =
    both_done _ _ _ c.args.pending.now.items _ _ (ended_lines c.args.self.now.month c.args.day.0) (degree_lines c.args.day.0 c.args.summary.now)
    (c.print_ended.ensures.done c.in_default.is) (c.print_degrees.ensures.done is)

pub returns-clause-failed : goal.returns-clause-failed
returns-clause-failed g c is =
    second_failed _ _ _ c.args.pending.now.items _ (ended_lines c.args.self.now.month c.args.day.0) (degree_lines c.args.day.0 c.args.summary.now)
    (c.print_ended.ensures.done c.in_default.is) (c.print_degrees.ensures.failed is)

pub returns-in-Failed-clause-wrote : goal.returns-in-Failed-clause-wrote
returns-in-Failed-clause-wrote g c =
    part_printed g.K.Sink.outlet c.args.pending.now.items [] [] (ended_lines c.args.self.now.month c.args.day.0) (degree_lines c.args.day.0 c.args.summary.now) _ _
    (rw c.in-Failed.is at c.print_ended.ensures.wrote)

pub returns-clause-wrote : goal.returns-clause-wrote
returns-clause-wrote g c =
    both_printed g.K.Sink.outlet c.print_degrees.result c.args.pending.now.items _ _ (ended_lines c.args.self.now.month c.args.day.0)
    (degree_lines c.args.day.0 c.args.summary.now) _ _ _ (rw c.in_default.is at c.print_ended.ensures.wrote) c.print_degrees.ensures.wrote
