use Rattle.std.proofs.Common.{◌≡◌, ◌≢◌, length, take, subst, sym, arith, length-take-le}
use Rattle.query_service.specs.declared.service.QueryEnd.TheVariants.{Done, LinkFault, OutOfMemory}
use Rattle.query_service.specs.Turns.{TakesTurns}
use Rattle.query_service.proofs.Joined.{serves_as}
use Rattle.query_service.proofs.Turn.{failed_serves, hears_serves, quiet_serves, short_serves, turn_failed, turn_quiet, turn_serve}
use Rattle.query_service.proofs.service.take_turn.Goals as goal

pub returns-in-Got-clause-serves : goal.returns-in-Got-clause-serves
returns-in-Got-clause-serves g c =
    let heard = c.in-Got.ensures in
    let n = c.in-Got.size in
    let bytes = take n c.recv.new.buf in
    let long : length bytes ≡ n = length-take-le n c.recv.new.buf heard.within.1 in
    let room = c.recv.auto.buf in
    turn_serve g.L.Link.traffic g.D.Disk.medium c.args.book.now c.answer_bytes.result bytes c.args.line.now.items c.answer_bytes.new.line.items
    c.args.count.now.lines c.answer_bytes.new.count.lines c.args.link.now c.recv.new.self c.answer_bytes.new.link c.args.disk.now c.answer_bytes.new.disk
    (omega (arith, long, heard.within.0)) (omega (arith, long, heard.within.1, room))
    (hears_serves g.L.Link.traffic g.D.Disk.medium c.args.book.now c.args.link.now c.recv.new.self c.args.disk.now n c.recv.new.buf heard)
    c.answer_bytes.ensures.serves

pub returns-in-Quiet-clause-serves : goal.returns-in-Quiet-clause-serves
returns-in-Quiet-clause-serves g c =
    let m = g.D.Disk.medium in let book = c.args.book.now in let line = c.args.line.now.items in let n = c.args.count.now.lines in
    serves_as g.L.Link.traffic m book Done _ _ c.args.link.now c.recv.new.self c.args.disk.now c.args.disk.now
    (quiet_serves g.L.Link.traffic m book c.args.link.now c.recv.new.self c.args.disk.now c.recv.new.buf c.in-Quiet.ensures)
    (λ t is. subst (λ t. TakesTurns m book c.args.disk.now Done 1 line line n n t) (sym is) (turn_quiet m book c.args.disk.now line n))

pub returns-in-Failed-clause-serves : goal.returns-in-Failed-clause-serves
returns-in-Failed-clause-serves g c =
    let m = g.D.Disk.medium in let book = c.args.book.now in let line = c.args.line.now.items in let n = c.args.count.now.lines in
    let broke : LinkFault ≢ Done = λ e. absurd (let bad : LinkFault ≡ Done = e in cc) in
    serves_as g.L.Link.traffic m book LinkFault _ _ c.args.link.now c.recv.new.self c.args.disk.now c.args.disk.now
    (failed_serves g.L.Link.traffic m book c.args.link.now c.recv.new.self c.args.disk.now c.recv.new.buf c.in-Failed.ensures)
    (λ t is. subst (λ t. TakesTurns m book c.args.disk.now LinkFault 1 line line n n t) (sym is) (turn_failed m book c.args.disk.now LinkFault line n broke))

pub returns-in-OutOfMemory-clause-serves : goal.returns-in-OutOfMemory-clause-serves
returns-in-OutOfMemory-clause-serves g c =
    let m = g.D.Disk.medium in let book = c.args.book.now in let line = c.args.line.now.items in let n = c.args.count.now.lines in
    let broke : OutOfMemory ≢ Done = λ e. absurd (let bad : OutOfMemory ≡ Done = e in cc) in
    serves_as g.L.Link.traffic m book OutOfMemory _ _ c.args.link.now c.recv.new.self c.args.disk.now c.args.disk.now
    (short_serves g.L.Link.traffic m book c.args.link.now c.recv.new.self c.args.disk.now c.recv.new.buf c.in-OutOfMemory.ensures)
    (λ t is. subst (λ t. TakesTurns m book c.args.disk.now OutOfMemory 1 line line n n t) (sym is) (turn_failed m book c.args.disk.now OutOfMemory line n broke))
