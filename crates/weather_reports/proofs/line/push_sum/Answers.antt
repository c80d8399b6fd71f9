use Rattle.std.proofs.Common.{append_assoc, rules}
use Rattle.std.specs.Prelude.{FitsSigned}
use Rattle.std.specs.Int.{w32, w64}
use Rattle.std.proofs.lemmas.Int.{to_z-of_z}
use Rattle.weather_reports.specs.Line.{sum_text}
use Rattle.weather_reports.proofs.line.push_sum.Goals as goal

pub returns-clause-text : goal.returns-clause-text
unfolding sum_text
returns-clause-text c =
    let s = c.args.sum.now in
    let least : FitsSigned w32 s.least = search rules in
    let greatest : FitsSigned w32 s.greatest = search rules in
    let sum : FitsSigned w64 s.sum = search rules in
    let wsum : FitsSigned w64 s.wsum = search rules in
    rw (
      c.push_count-2.ensures.text,
      c.push_signed-2.ensures.text,
      c.push_count.ensures.text,
      c.push_signed.ensures.text,
      c.push_extreme-2.ensures.text,
      c.push_extreme.ensures.text,
      to_z-of_z w32 s.least least,
      to_z-of_z w32 s.greatest greatest,
      to_z-of_z w64 s.sum sum,
      to_z-of_z w64 s.wsum wsum,
      c.from.ensures,
    ) (simp append_assoc)
