use Rattle.std.proofs.Common.{refl, arith}
use Rattle.station_base.proofs.Minutes.{last_minute_number}
use Rattle.station_base.proofs.stamp.Stamp.after.Goals as goal

pub returns-then-minute-gt-LAST_MINUTE-clause-last : goal.returns-then-minute-gt-LAST_MINUTE-clause-last
returns-then-minute-gt-LAST_MINUTE-clause-last c = (λ some. cc, λ before. absurd (omega (arith, last_minute_number)))

pub returns-clause-last : goal.returns-clause-last
returns-clause-last c = (λ _. omega (arith, last_minute_number), λ _. refl)
