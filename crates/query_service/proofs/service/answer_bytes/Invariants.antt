use Rattle.std.proofs.Common.{◌≤◌, ◌+◌, take}
use Rattle.query_service.specs.Service.{ServesQueries}
use Rattle.query_service.specs.Turns.{AnswersBytes}
use Rattle.query_service.specs.declared.service.QueryEnd.TheVariants.{Done}
use Rattle.query_service.proofs.service.answer_bytes.Given as goal

-- the bytes so far were taken, and their lines answered
abbrev pub invariant-loop-byte : goal.invariant-loop-byte
invariant-loop-byte g l = record {
  serves : ServesQueries g.L.Link.traffic g.D.Disk.medium l.book Done (AnswersBytes g.D.Disk.medium l.book l.fn.disk Done (take l.byte-index l.bytes)
      l.fn.line.items l.line.items l.fn.count.lines l.count.lines) l.fn.link l.link l.fn.disk l.disk;
  few : l.count.lines ≤ l.fn.count.lines + l.byte-index;
}
