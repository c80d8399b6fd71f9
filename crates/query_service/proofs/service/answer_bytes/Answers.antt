use Rattle.std.proofs.Common.{ℕ, ◌≡◌, ◌+◌, List, [], ◌∷◌, take, drop, get_or, subst, sym, arith}
use Rattle.std.proofs.lemmas.List.{take_all, take_more}
use Rattle.query_service.specs.Service.{ServesQueries}
use Rattle.query_service.specs.Turns.{AnswersBytes}
use Rattle.query_service.specs.declared.service.QueryEnd.TheVariants.{Done, LinkFault, DiskFault, OutOfMemory}
use Rattle.query_service.proofs.Joined.{serves_none}
use Rattle.query_service.proofs.Turn.{bytes_none, bytes_serve, bytes_serve_cut, bytes_whole}
use Rattle.query_service.proofs.service.answer_bytes.Goals as goal

pub loop-byte-init : goal.loop-byte-init
loop-byte-init g c = record {
  serves = serves_none g.L.Link.traffic g.D.Disk.medium c.args.book.now _ c.args.link.now c.args.disk.now
      (bytes_none g.D.Disk.medium c.args.book.now c.args.disk.now c.args.line.now.items c.args.count.now.lines);
  few = omega arith;
}

pub loop-byte-preserved : goal.loop-byte-preserved
loop-byte-preserved g c =
    let m = g.D.Disk.medium in let book = c.args.book.now in let bytes = c.args.bytes.now in let n = c.loop-byte.byte-index in let new = c.answer_byte.new in
    record {
      serves = subst (λ (came : List ℕ). ServesQueries g.L.Link.traffic m book Done (AnswersBytes m book c.args.disk.now Done came c.args.line.now.items new.line.items
          c.args.count.now.lines new.count.lines) c.args.link.now new.link c.args.disk.now new.disk) (sym (take_more bytes n 0 c.loop-byte-test.true))
          (bytes_serve g.L.Link.traffic m book Done (take n bytes) (get_or bytes n 0 ∷ []) c.args.line.now.items c.loop-byte.line.items new.line.items
          c.args.count.now.lines c.loop-byte.count.lines new.count.lines c.args.link.now c.loop-byte.link new.link c.args.disk.now c.loop-byte.disk new.disk
          c.loop-byte.invariant.serves c.in-Done.ensures.serves);
      few = omega (arith, c.loop-byte.invariant.few, c.in-Done.ensures.few);
    }

pub returns-in-LinkFault : goal.returns-in-LinkFault
returns-in-LinkFault g c =
    let m = g.D.Disk.medium in let book = c.args.book.now in let bytes = c.args.bytes.now in let n = c.loop-byte.byte-index in let new = c.answer_byte.new in
    record {
      serves = subst (λ (came : List ℕ). ServesQueries g.L.Link.traffic m book LinkFault (AnswersBytes m book c.args.disk.now LinkFault came c.args.line.now.items new.line.items
          c.args.count.now.lines new.count.lines) c.args.link.now new.link c.args.disk.now new.disk) (bytes_whole bytes n c.loop-byte-test.true)
          (bytes_serve_cut g.L.Link.traffic m book LinkFault (take n bytes) (get_or bytes n 0 ∷ []) (drop (n + 1) bytes) c.args.line.now.items c.loop-byte.line.items new.line.items
          c.args.count.now.lines c.loop-byte.count.lines new.count.lines c.args.link.now c.loop-byte.link new.link c.args.disk.now c.loop-byte.disk new.disk
          (λ e. absurd (let bad : LinkFault ≡ Done = e in cc)) c.loop-byte.invariant.serves c.in-LinkFault.ensures.serves);
      few = omega (arith, c.loop-byte.invariant.few, c.in-LinkFault.ensures.few, c.loop-byte-test.true);
    }

pub returns-in-DiskFault : goal.returns-in-DiskFault
returns-in-DiskFault g c =
    let m = g.D.Disk.medium in let book = c.args.book.now in let bytes = c.args.bytes.now in let n = c.loop-byte.byte-index in let new = c.answer_byte.new in
    record {
      serves = subst (λ (came : List ℕ). ServesQueries g.L.Link.traffic m book DiskFault (AnswersBytes m book c.args.disk.now DiskFault came c.args.line.now.items new.line.items
          c.args.count.now.lines new.count.lines) c.args.link.now new.link c.args.disk.now new.disk) (bytes_whole bytes n c.loop-byte-test.true)
          (bytes_serve_cut g.L.Link.traffic m book DiskFault (take n bytes) (get_or bytes n 0 ∷ []) (drop (n + 1) bytes) c.args.line.now.items c.loop-byte.line.items new.line.items
          c.args.count.now.lines c.loop-byte.count.lines new.count.lines c.args.link.now c.loop-byte.link new.link c.args.disk.now c.loop-byte.disk new.disk
          (λ e. absurd (let bad : DiskFault ≡ Done = e in cc)) c.loop-byte.invariant.serves c.in-DiskFault.ensures.serves);
      few = omega (arith, c.loop-byte.invariant.few, c.in-DiskFault.ensures.few, c.loop-byte-test.true);
    }

pub returns-in-OutOfMemory : goal.returns-in-OutOfMemory
returns-in-OutOfMemory g c =
    let m = g.D.Disk.medium in let book = c.args.book.now in let bytes = c.args.bytes.now in let n = c.loop-byte.byte-index in let new = c.answer_byte.new in
    record {
      serves = subst (λ (came : List ℕ). ServesQueries g.L.Link.traffic m book OutOfMemory (AnswersBytes m book c.args.disk.now OutOfMemory came c.args.line.now.items new.line.items
          c.args.count.now.lines new.count.lines) c.args.link.now new.link c.args.disk.now new.disk) (bytes_whole bytes n c.loop-byte-test.true)
          (bytes_serve_cut g.L.Link.traffic m book OutOfMemory (take n bytes) (get_or bytes n 0 ∷ []) (drop (n + 1) bytes) c.args.line.now.items c.loop-byte.line.items new.line.items
          c.args.count.now.lines c.loop-byte.count.lines new.count.lines c.args.link.now c.loop-byte.link new.link c.args.disk.now c.loop-byte.disk new.disk
          (λ e. absurd (let bad : OutOfMemory ≡ Done = e in cc)) c.loop-byte.invariant.serves c.in-OutOfMemory.ensures.serves);
      few = omega (arith, c.loop-byte.invariant.few, c.in-OutOfMemory.ensures.few, c.loop-byte-test.true);
    }

pub returns : goal.returns
returns g c =
    let m = g.D.Disk.medium in let book = c.args.book.now in let bytes = c.args.bytes.now in let n = c.loop-byte.byte-index in
    record {
      serves = subst (λ (came : List ℕ). ServesQueries g.L.Link.traffic m book Done (AnswersBytes m book c.args.disk.now Done came c.args.line.now.items c.loop-byte.line.items
          c.args.count.now.lines c.loop-byte.count.lines) c.args.link.now c.loop-byte.link c.args.disk.now c.loop-byte.disk)
          (take_all n bytes (omega (arith, c.loop-byte-test.false))) c.loop-byte.invariant.serves;
      few = omega (arith, c.loop-byte.invariant.few, c.loop-byte-test.false);
    }
