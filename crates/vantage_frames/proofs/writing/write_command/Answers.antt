use Rattle.vantage_frames.specs.LineWriting.{line_of}
use Rattle.vantage_frames.proofs.Written.{read_again}
use Rattle.vantage_frames.proofs.writing.write_command.Goals as goal

pub returns-clause-again : goal.returns-clause-again
returns-clause-again c read reads = read_again c.args.command.now (line_of c.args.command.now) read c.write_line-line.ensures.line reads
