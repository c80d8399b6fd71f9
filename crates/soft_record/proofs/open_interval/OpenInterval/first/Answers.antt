use Rattle.std.proofs.Common.{List, [], None, refl, sym, subst}
use Rattle.soft_record.specs.Interval.{Rising}
use Rattle.soft_record.specs.Sums.{AreSumsOf}
use Rattle.soft_record.proofs.Intervals.{kept}
use Rattle.soft_record.proofs.open_interval.OpenInterval.first.Goals as goal

pub returns : goal.returns
returns c period ends =
    let P : List Rising → Type 0 = λ (rs : List Rising). AreSumsOf rs c.first.result in
    record {
      last = refl;
      civil = c.requires.civil;
      end = ends;
      sums = subst P (sym (kept period _ None c.args.entry.now [] (sym ends))) c.first.ensures.sums;
    }
