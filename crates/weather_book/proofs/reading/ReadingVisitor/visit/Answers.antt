use Rattle.std.proofs.Common.{refl, sym, arith}
use Rattle.std.proofs.Props.{props}
use Rattle.std.proofs.Math.Logic.{∥∥₁_elim}
use Rattle.packed_rows.specs.Rows.{as_read}
use Rattle.weather_book.proofs.Readings.{closing_read, closing_small, none_is, rising, row_read, wrong_read}
use Rattle.weather_book.proofs.reading.ReadingVisitor.visit.Goals as goal

pub push-requires-clause-rises : goal.push-requires-clause-rises
push-requires-clause-rises c =
    let kept = c.args.self.now.kept in
    ∥∥₁_elim kept.some (hlevel props) (λ p. rising p.0 c.args.self.now.shown c.judge_as.new.row kept.tail.last p.1.ends.last (c.in-Row.ensures.judges p.0 p.1.ends).1)

pub invariant_of-self-in-Closing : goal.invariant_of-self-in-Closing
invariant_of-self-in-Closing c =
    let self = c.args.self.now in
    record {
      counted = omega (arith, self.counted);
      bounded = ∥∥₁_elim self.kept.some (hlevel props) (λ p.
          let small = closing_small p.0 self.shown (as_read c.args.version c.args.slot.now) (c.in-Closing.ensures.judges p.0 p.1.ends).1 in
          omega (arith, small));
    }

pub returns-in-Ok : goal.returns-in-Ok
returns-in-Ok c =
    let none = none_is c.args.self.now.unfit (sym c.if-is_some.ensures) in
    row_read c.args.version c.args.self.now _ c.args.slot.now none refl c.judge_as.new.row none refl c.in-Ok.ensures.keeps c.in-Row.ensures.judges

pub returns-in-Closing : goal.returns-in-Closing
returns-in-Closing c =
    let none = none_is c.args.self.now.unfit (sym c.if-is_some.ensures) in
    closing_read c.args.version c.args.self.now _ c.args.slot.now none refl c.judge_as.new.row none refl (λ rows keeps. keeps) c.in-Closing.ensures.judges

pub returns-in-Wrong : goal.returns-in-Wrong
returns-in-Wrong c =
    let none = none_is c.args.self.now.unfit (sym c.if-is_some.ensures) in
    wrong_read c.args.version c.args.self.now _ c.args.slot.now none refl c.args.place c.judge_as.new.row refl c.requires.order c.in-Wrong.ensures.judges
