use Rattle.std.proofs.Common.{List, subst, sym}
use Rattle.station_base.specs.declared.row.Row.{Row}
use Rattle.query_service.specs.Answers.{answer_to}
use Rattle.query_service.specs.Said.{BookReplies}
use Rattle.query_service.specs.declared.request.Request.{Request}
use Rattle.query_service.proofs.reply.reply.Goals as goal

pub returns-in-Last : goal.returns-in-Last
returns-in-Last g c =
    subst (λ (request : Request). BookReplies g.K.Sink.outlet g.D.Disk.medium c.args.book.now (λ (rows : List Row). answer_to rows request) c.say_last.result
    c.args.disk.now c.say_last.new.disk c.args.out.now c.say_last.new.out) (sym c.in-Last.is) c.say_last.ensures

pub returns-in-Rows : goal.returns-in-Rows
returns-in-Rows g c =
    subst (λ (request : Request). BookReplies g.K.Sink.outlet g.D.Disk.medium c.args.book.now (λ (rows : List Row). answer_to rows request) c.say_rows.result
    c.args.disk.now c.say_rows.new.disk c.args.out.now c.say_rows.new.out) (sym c.in-Rows.is) c.say_rows.ensures

pub returns-in-Day : goal.returns-in-Day
returns-in-Day g c =
    subst (λ (request : Request). BookReplies g.K.Sink.outlet g.D.Disk.medium c.args.book.now (λ (rows : List Row). answer_to rows request) c.say_day.result
    c.args.disk.now c.say_day.new.disk c.args.out.now c.say_day.new.out) (sym c.in-Day.is) c.say_day.ensures
