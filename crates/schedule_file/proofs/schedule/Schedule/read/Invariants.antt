use Rattle.std.proofs.Common.{◌≡◌, ◌+◌, ◌≤◌, length}
use Rattle.schedule_file.specs.Pieces.{lines_of}
use Rattle.schedule_file.specs.Reading.{said_by_text, read_lines}
use Rattle.schedule_file.specs.Reader.{said_by}
use Rattle.schedule_file.proofs.schedule.Schedule.read.Given as goal

abbrev pub invariant-loop-rest : goal.invariant-loop-rest
invariant-loop-rest l = record {
  said : said_by_text l.bytes l.period ≡ read_lines l.period (l.number + 1) (lines_of l.rest) (said_by l.reader);
  period : l.reader.period ≡ l.period;
  few : l.number ≤ 10000;
}

abbrev pub decreases-loop-rest : goal.decreases-loop-rest
decreases-loop-rest l = length l.rest
