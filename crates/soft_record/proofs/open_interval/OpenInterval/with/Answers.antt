use Rattle.std.proofs.Common.{List, None, Some, Option, ◌++◌, ◌∷◌, [], ◌≡◌, ◌∙◌, sym, ap, subst}
use Rattle.station_base.specs.CivilMinute.{minute_of}
use Rattle.soft_record.specs.declared.entry.Entry.{Entry}
use Rattle.soft_record.specs.Interval.{Rising, interval_of, rising_entry}
use Rattle.soft_record.specs.Sums.{AreSumsOf}
use Rattle.soft_record.proofs.Intervals.{joins, last_more}
use Rattle.soft_record.proofs.open_interval.OpenInterval.with.Goals as goal

pub returns : goal.returns
returns c period entries is_open ends =
    let o = c.args.self.now in
    let e = c.args.entry.now in
    let old = interval_of period (minute_of o.end) entries in
    let same : interval_of period (minute_of o.end) (entries ++ e ∷ []) ≡ old ++ rising_entry (Some o.last) e ∷ [] =
    joins period (minute_of o.end) entries e (sym ends) ∙ ap (λ (before : Option Entry). old ++ rising_entry before e ∷ []) is_open.last in
    let P : List Rising → Type 0 = λ (rs : List Rising). AreSumsOf rs c.with.result in
    record {
      last = last_more None entries e;
      civil = is_open.civil;
      end = ends;
      sums = subst P (sym same) (c.with.ensures.sums old is_open.sums);
    }
