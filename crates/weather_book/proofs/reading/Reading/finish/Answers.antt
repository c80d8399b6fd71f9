use Rattle.std.proofs.Common.{◌+◌, ◌*◌, ℕ, ◌≡◌, ap, arith}
use Rattle.gated_log.specs.Layout.{slot_size}
use Rattle.weather_book.proofs.Readings.{open_end, still_keeps, unfit_found, whole}
use Rattle.weather_book.proofs.reading.Reading.finish.Goals as goal

pub returns-in-Some-clause-damaged : goal.returns-in-Some-clause-damaged
returns-in-Some-clause-damaged c = unfit_found c.args.self c.in-Some.unfit c.in-Some.is

pub returns-in-None-clause-damaged : goal.returns-in-None-clause-damaged
returns-in-None-clause-damaged c v slots has =
    open_end v slots c.args.self (still_keeps v slots c.args.self c.in-None.is has) (slot_size * (c.args.self.seen + 1)) (ap (λ (k : ℕ). slot_size * (k + 1)) has.seen_is) c.if-self-gt0.true

pub returns-in-None-2-clause-keeps : goal.returns-in-None-2-clause-keeps
returns-in-None-2-clause-keeps c v slots has =
    let self = c.args.self in let k = still_keeps v slots self c.in-None-2.is has in
    let none : self.shown ≡ 0 = omega (arith, c.if-self-gt0.false) in
    record { rows = k.rows; keeps = k.keeps; total = omega (arith, k.total, none); holds_them = whole v slots self k none }
