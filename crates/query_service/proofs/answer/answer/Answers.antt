use Rattle.std.proofs.Common.{◌≡◌, refl, subst, sym}
use Rattle.query_service.specs.Service.{ServesQueries}
use Rattle.query_service.specs.Turns.{AnswersLine}
use Rattle.query_service.specs.declared.service.QueryEnd.{QueryEnd}
use Rattle.query_service.proofs.SaidAnswer.{answered}
use Rattle.query_service.proofs.answer.answer.Goals as goal

pub returns : goal.returns
returns g c =
    let traffic = g.L.Link.traffic in let medium = g.D.Disk.medium in
    let end = c.reply-end.new.out in
    let last : c.link-1.given.0 ≡ end.link.now = c.link-1.given.1 (sym c.reply-end.ensures.wrote.1.same) in
    subst (λ (e : QueryEnd). ServesQueries traffic medium c.args.book.now e (AnswersLine medium c.args.book.now c.args.disk.now e c.args.line.now)
    c.args.link.now c.link-1.given.0 c.args.disk.now c.reply-end.new.disk) (sym c.end_of.ensures)
    (rw (sym last) at (answered traffic medium c.args.book.now c.args.line.now c.request_of.result c.request_of.ensures c.args.disk.now c.reply-end.new.disk _ end refl c.reply-end.result c.reply-end.ensures))
