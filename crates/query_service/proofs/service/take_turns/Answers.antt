use Rattle.std.proofs.Common.{ℕ, ◌≡◌, ◌+◌, refl, subst, arith}
use Rattle.query_service.specs.Service.{ServesQueries}
use Rattle.query_service.specs.Turns.{TakesTurns}
use Rattle.query_service.specs.declared.service.QueryEnd.TheVariants.{Done, LinkFault, DiskFault, OutOfMemory}
use Rattle.query_service.proofs.Joined.{serves_none}
use Rattle.query_service.proofs.Turn.{turns_none, turns_serve}
use Rattle.query_service.proofs.service.take_turns.Goals as goal

pub loop-init : goal.loop-init
loop-init g c = record {
  serves = serves_none g.L.Link.traffic g.D.Disk.medium c.args.book.now _ c.args.link.now c.args.disk.now
      (turns_none g.D.Disk.medium c.args.book.now c.args.disk.now c.args.line.now.items c.args.count.now.lines);
  within = omega arith;
  few = omega (arith, c.requires.lines);
}

pub loop-preserved : goal.loop-preserved
loop-preserved g c =
    let new = c.take_turn.new in
    record {
      serves = turns_serve g.L.Link.traffic g.D.Disk.medium c.args.book.now Done c.loop.counter (c.loop.counter + 1) c.args.line.now.items c.loop.line.items new.line.items
          c.args.count.now.lines c.loop.count.lines new.count.lines c.args.link.now c.loop.link new.link c.args.disk.now c.loop.disk new.disk
          (omega arith) (λ _. refl) c.loop.invariant.serves c.in-Done.ensures.serves;
      within = omega (arith, c.loop-test.true);
      few = omega (arith, c.loop.invariant.few, c.in-Done.ensures.few);
    }

pub returns-in-LinkFault : goal.returns-in-LinkFault
returns-in-LinkFault g c =
    let new = c.take_turn.new in
    turns_serve g.L.Link.traffic g.D.Disk.medium c.args.book.now LinkFault c.loop.counter c.args.turns c.args.line.now.items c.loop.line.items new.line.items
    c.args.count.now.lines c.loop.count.lines new.count.lines c.args.link.now c.loop.link new.link c.args.disk.now c.loop.disk new.disk
    (omega (arith, c.loop-test.true)) (λ e. absurd (let bad : LinkFault ≡ Done = e in cc)) c.loop.invariant.serves c.in-LinkFault.ensures.serves

pub returns-in-DiskFault : goal.returns-in-DiskFault
returns-in-DiskFault g c =
    let new = c.take_turn.new in
    turns_serve g.L.Link.traffic g.D.Disk.medium c.args.book.now DiskFault c.loop.counter c.args.turns c.args.line.now.items c.loop.line.items new.line.items
    c.args.count.now.lines c.loop.count.lines new.count.lines c.args.link.now c.loop.link new.link c.args.disk.now c.loop.disk new.disk
    (omega (arith, c.loop-test.true)) (λ e. absurd (let bad : DiskFault ≡ Done = e in cc)) c.loop.invariant.serves c.in-DiskFault.ensures.serves

pub returns-in-OutOfMemory : goal.returns-in-OutOfMemory
returns-in-OutOfMemory g c =
    let new = c.take_turn.new in
    turns_serve g.L.Link.traffic g.D.Disk.medium c.args.book.now OutOfMemory c.loop.counter c.args.turns c.args.line.now.items c.loop.line.items new.line.items
    c.args.count.now.lines c.loop.count.lines new.count.lines c.args.link.now c.loop.link new.link c.args.disk.now c.loop.disk new.disk
    (omega (arith, c.loop-test.true)) (λ e. absurd (let bad : OutOfMemory ≡ Done = e in cc)) c.loop.invariant.serves c.in-OutOfMemory.ensures.serves

pub returns : goal.returns
returns g c =
    let m = g.D.Disk.medium in let book = c.args.book.now in
    let all : c.loop.counter ≡ c.args.turns = omega (arith, c.loop-test.false, c.loop.invariant.within) in
    subst (λ (turns : ℕ). ServesQueries g.L.Link.traffic m book Done (TakesTurns m book c.args.disk.now Done turns c.args.line.now.items c.loop.line.items
    c.args.count.now.lines c.loop.count.lines) c.args.link.now c.loop.link c.args.disk.now c.loop.disk) all c.loop.invariant.serves
