use Rattle.std.proofs.Common.{◌≡◌, rules, ◌∙◌}
use Rattle.vantage_frames.specs.LineReading.{command_of}
use Rattle.vantage_frames.proofs.Lines.{command_of_reads, command_of-line}
use Rattle.vantage_frames.proofs.reading.read_command.Goals as goal

pub returns-clause-found : goal.returns-clause-found
unfolding command_of
returns-clause-found c = let exact : c.or_else.result ≡ command_of c.args.line.now = search rules in rw exact (command_of_reads c.args.line.now)

pub returns-clause-only : goal.returns-clause-only
unfolding command_of
returns-clause-only c command says =
    let exact : c.or_else.result ≡ command_of c.args.line.now = search rules in exact ∙ command_of-line command c.args.line.now says
