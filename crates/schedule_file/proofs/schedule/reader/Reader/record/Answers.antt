use Rattle.std.proofs.Common.{◌≡◌, arith, true, false, refl}
use Rattle.archive_record.specs.Writing.{CanHoldAll}
use Rattle.schedule_file.specs.Reader.{said_by}
use Rattle.schedule_file.proofs.RecordFaults.{is_past, is_early, is_misnamed, is_unheld, is_told}
use Rattle.schedule_file.proofs.schedule.reader.Reader.record.Goals as goal

pub returns-then-last_minute-gt-LAST_MINUTE : goal.returns-then-last_minute-gt-LAST_MINUTE
returns-then-last_minute-gt-LAST_MINUTE c =
    is_past c.args.self.now.period (said_by c.args.self.now) c.args.told.now c.args.count c.in-Some.stamp c.in-Some.is (omega arith)

pub returns-then-from-self : goal.returns-then-from-self
returns-then-from-self c =
    is_early c.args.self.now.period (said_by c.args.self.now) c.args.told.now c.args.count c.in-Some.stamp c.in-Some.is (omega arith) (omega arith)

pub returns-in_default-values : goal.returns-in_default-values
returns-in_default-values c =
    is_misnamed c.args.self.now.period (said_by c.args.self.now) c.args.told.now c.args.count c.in-Some.stamp c.in-Some.is (omega arith) (omega arith) c.in_default-values.is

pub returns-in-Some-write : goal.returns-in-Some-write
returns-in-Some-write c = (
  is_told c.args.self.now.period (said_by c.args.self.now) c.args.told.now c.args.count c.in-Some.stamp c.in-Some-values.values c.in-Some.is (omega arith) (omega arith) c.in-Some-values.is (c.in-Some-write.ensures.can.0 refl).values,
  rw (c.in-Some.is, c.in-Some-values.is) c.in-Some-write.ensures.read_back,
)

pub returns-in-None : goal.returns-in-None
returns-in-None c =
    is_unheld c.args.self.now.period (said_by c.args.self.now) c.args.told.now c.args.count c.in-Some.stamp c.in-Some-values.values c.in-Some.is (omega arith) (omega arith) c.in-Some-values.is
    (λ (held : CanHoldAll c.in-Some-values.values). let wrong : false ≡ true = c.in-None.ensures.can.1 (record { unlimited = refl; values = held }) in cc)
