use Rattle.std.proofs.Common.{◌≡◌, arith}
use Rattle.soft_record.specs.Entry.{interval_end}
use Rattle.soft_record.proofs.interval_end.interval_end.Goals as goal

pub returns-clause-found : goal.returns-clause-found
returns-clause-found c =
    let next = c.next_multiple_of.ensures in
    let found = c.from_minute.ensures.found in
    let ends : c.next_multiple_of.result ≡ interval_end c.args.period c.args.entry.now = grind arith in (
      λ some. omega (arith, (found.0 some).1, ends),
      λ within. found.1 (omega (arith, next.lower_bound, c.full_minute.ensures.from), omega (arith, within, ends)),
    )
