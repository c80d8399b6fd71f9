use Rattle.std.proofs.Common.{ℕ, List, ap}
use Rattle.console_server.specs.declared.serving.ServeEnd.TheVariants as serve_end
use Rattle.run_output.specs.Output.{Output}
use Rattle.run_output.specs.declared.status.Status.TheVariants.{Done}
use Rattle.model_commands.proofs.serving.serve_console.Goals as goal

pub returns-in-Done : goal.returns-in-Done
returns-in-Done g c = record {
  after = c.serve.new.console;
  end = serve_end.Done;
  count = c.serve.new.count;
  talks = c.in-Done.ensures.talk;
  given = ap (λ (text : List ℕ). let output : Output = record { text = text; status = Done } in output) c.line_of.ensures;
}
