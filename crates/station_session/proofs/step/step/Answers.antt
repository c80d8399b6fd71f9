use Rattle.std.proofs.Common.{◌+◌, ◌*◌, ◌≤◌, sym, subst}
use Rattle.weather_book.specs.declared.book.Book.{Book}
use Rattle.weather_book.specs.Book.{spare}
use Rattle.dmpaft_pump.specs.declared.batch.TheConstants.{MOST_RECORDS}
use Rattle.dmpaft_pump.specs.Keeper.{count}
use Rattle.dmpaft_driver.specs.Standing.{gives}
use Rattle.station_session.specs.Holding.{Holding, holding}
use Rattle.station_session.specs.OneBatch.{AddsBatch, Chain}
use Rattle.station_session.proofs.SameBook.{holding_same}
use Rattle.station_session.proofs.step.step.Goals as goal

pub returns-clause-steps : goal.returns-clause-steps
returns-clause-steps g c start after s h =
    let D = g.D.Disk in
    let t = c.turn.ensures.turns start after s h in
    let k = c.turn.new.keeper in
    let same = t.handed.same in
    let book = c.book-1.given.1 (sym same.book) in
    record {
      said = t.said;
      answers = t.answers;
      adds = t.adds;
      chain = subst (λ (x : Holding _). Chain (AddsBatch D.medium c.args.settings.now) (holding c.args.book.now c.args.disk.now c.args.marks.now.items) (gives after s t.answers) x)
          (sym (holding_same k.book.now _ k.disk.now _ k.marks.now _ book (c.disk-1.given.1 (sym same.disk)) (c.marks-1.given.1 (sym same.marks)))) t.handed.chain;
      spare = subst (λ (x : Book). spare c.args.book.now ≤ spare x + MOST_RECORDS * count (gives after s t.answers)) (sym book) t.handed.spare;
      turns = t.turns;
    }
