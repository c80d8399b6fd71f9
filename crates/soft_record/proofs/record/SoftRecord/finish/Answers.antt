use Rattle.std.proofs.Common.{ℕ, sym, subst}
use Rattle.station_base.specs.CivilMinute.{minute_of}
use Rattle.soft_record.specs.Given.{IsRowOf}
use Rattle.soft_record.specs.Interval.{interval_of}
use Rattle.soft_record.specs.SoftRow.{IsSoftRow}
use Rattle.soft_record.proofs.EntriesSoFar.{finishes_some, keeps_some}
use Rattle.soft_record.proofs.record.SoftRecord.finish.Goals as goal

pub returns-clause-finishes : goal.returns-clause-finishes
returns-clause-finishes c = λ period entries rows stands.
    let old = c.args.self.now in
    let o = c.in_ok-open.open in
    let is_open = keeps_some period entries old.open o stands.last (sym c.in_ok-open.ensures.value) in
    let P : ℕ → Type 0 = λ (p : ℕ). IsSoftRow p (minute_of o.end) (interval_of period (minute_of o.end) entries) c.row_of.result in
    let row : IsRowOf period entries (minute_of o.end) c.row_of.result = subst P stands.its_period (c.row_of.ensures.row _ is_open.civil is_open.sums) in
    finishes_some old period entries rows o c.row_of.result stands is_open row
