use Rattle.std.proofs.Common.{ℕ, List, ap}
use Rattle.query_service.specs.declared.service.QueryEnd.TheVariants as query_end
use Rattle.run_output.specs.Output.{Output}
use Rattle.run_output.specs.declared.status.Status.TheVariants.{Done}
use Rattle.commands.proofs.queries.answer_all.Goals as goal

pub returns-in-Done : goal.returns-in-Done
returns-in-Done g c = record {
  end = query_end.Done;
  lines = c.answer_queries.new.count.lines;
  talks = c.in-Done.ensures.talk;
  link_still = c.in-Done.ensures.still;
  stays = c.in-Done.ensures.stays;
  reads = c.in-Done.ensures.went;
  disk_cause = c.in-Done.ensures.disk_fault;
  given = ap (λ (text : List ℕ). let output : Output = record { text = text; status = Done } in output) c.line_of.ensures;
}
