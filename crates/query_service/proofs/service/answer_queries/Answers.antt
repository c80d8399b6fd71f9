use Rattle.query_service.proofs.Joined.{done_without_fault, serves_as}
use Rattle.query_service.proofs.Turn.{turns_answered}
use Rattle.query_service.proofs.service.answer_queries.Goals as goal

pub returns-clause-talk : goal.returns-clause-talk
returns-clause-talk g c =
    let m = g.D.Disk.medium in let book = c.args.book.now in
    (serves_as g.L.Link.traffic m book c.take_turns.result _ _ c.args.link.now c.take_turns.new.link c.args.disk.now c.take_turns.new.disk c.take_turns.ensures
    (λ t part. turns_answered m book c.args.disk.now c.take_turns.result c.args.turns _ _ _ c.take_turns.new.count.lines t c.new-line.ensures c.requires.lines part)).talk

pub returns-clause-complete : goal.returns-clause-complete
returns-clause-complete g c =
    done_without_fault g.L.Link.traffic g.D.Disk.medium c.args.book.now c.take_turns.result _ c.args.link.now c.take_turns.new.link c.args.disk.now c.take_turns.new.disk c.take_turns.ensures
