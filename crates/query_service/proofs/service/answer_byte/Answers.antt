use Rattle.std.proofs.Common.{◌+◌, ◌∷◌, [], refl, subst, sym, arith}
use Rattle.query_service.specs.Service.{ServesQueries}
use Rattle.query_service.specs.Turns.{AnswersBytes}
use Rattle.query_service.specs.declared.service.QueryEnd.{QueryEnd}
use Rattle.query_service.specs.declared.service.QueryEnd.TheVariants.{Done}
use Rattle.query_service.proofs.Joined.{serves_as, serves_none}
use Rattle.query_service.proofs.Turn.{byte_held, line_answered, line_cut}
use Rattle.query_service.proofs.service.answer_byte.Goals as goal

pub returns-then-byte-ne-LINE_FEED-clause-serves : goal.returns-then-byte-ne-LINE_FEED-clause-serves
returns-then-byte-ne-LINE_FEED-clause-serves g c =
    serves_none g.L.Link.traffic g.D.Disk.medium c.args.book.now _ c.args.link.now c.args.disk.now
    (byte_held g.D.Disk.medium c.args.book.now c.args.disk.now c.args.byte c.args.line.now.items c.hold.new.line.items c.args.count.now.lines
    c.if-byte-ne-LINE_FEED.true c.hold.ensures)

pub returns-in-Done-clause-serves : goal.returns-in-Done-clause-serves
returns-in-Done-clause-serves g c =
    let m = g.D.Disk.medium in let book = c.args.book.now in
    subst (λ (end : QueryEnd). ServesQueries g.L.Link.traffic m book end (AnswersBytes m book c.args.disk.now end (c.args.byte ∷ []) c.args.line.now.items c.clear.new.self.items
    c.args.count.now.lines (c.args.count.now.lines + 1)) c.args.link.now c.answer-end.new.link c.args.disk.now c.answer-end.new.disk) (sym c.in-Done.is)
    (serves_as g.L.Link.traffic m book Done _ _ c.args.link.now c.answer-end.new.link c.args.disk.now c.answer-end.new.disk (rw c.deref.ensures.0 at c.in-Done.ensures)
    (λ t one. line_answered m book c.args.disk.now c.args.byte c.args.line.now.items c.clear.new.self.items c.args.count.now.lines (c.args.count.now.lines + 1) t
    c.if-byte-ne-LINE_FEED.false c.clear.ensures refl one))

pub returns-in_default : goal.returns-in_default
returns-in_default g c =
    let m = g.D.Disk.medium in let book = c.args.book.now in
    record {
      serves = serves_as g.L.Link.traffic m book c.answer-end.result _ _ c.args.link.now c.answer-end.new.link c.args.disk.now c.answer-end.new.disk
          (rw c.deref.ensures.0 at c.answer-end.ensures)
          (λ t one. line_cut m book c.args.disk.now c.answer-end.result c.args.byte c.args.line.now.items c.args.count.now.lines t
          c.if-byte-ne-LINE_FEED.false c.in_default.not-Done one);
      few = omega arith;
    }
