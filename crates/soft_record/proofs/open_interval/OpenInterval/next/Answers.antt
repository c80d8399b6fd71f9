use Rattle.std.proofs.Common.{ℕ, List, None, Some, ◌++◌, ◌∷◌, [], ◌≡◌, ◌≢◌, ◌∙◌, sym, ap, subst}
use Rattle.soft_record.specs.Entry.{interval_end}
use Rattle.soft_record.specs.Interval.{Rising, interval_of, rising_entry}
use Rattle.soft_record.specs.Sums.{AreSumsOf}
use Rattle.soft_record.proofs.Ends.{period_some}
use Rattle.soft_record.proofs.Intervals.{begins, last_more}
use Rattle.soft_record.proofs.open_interval.OpenInterval.next.Goals as goal

pub returns : goal.returns
returns c period entries valid good is_open follows ends other =
    let o = c.args.self.now in
    let e = c.args.entry.now in
    let apart : interval_end period o.last ≢ interval_end period e = λ same. other (is_open.end ∙ (same ∙ sym ends)) in
    let one : interval_of period (interval_end period e) (entries ++ e ∷ []) ≡ rising_entry (Some o.last) e ∷ [] =
    begins period o.last e entries (period_some period valid) good is_open.last follows apart in
    let same = ap (λ (end : ℕ). interval_of period end (entries ++ e ∷ [])) ends ∙ one in
    let P : List Rising → Type 0 = λ (rs : List Rising). AreSumsOf rs c.with.result in
    record {
      last = last_more None entries e;
      civil = c.requires.civil;
      end = ends;
      sums = subst P (sym same) (c.with.ensures.sums [] c.new.ensures.sums);
    }
