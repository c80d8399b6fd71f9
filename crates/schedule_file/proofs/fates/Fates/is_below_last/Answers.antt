use Rattle.std.proofs.Common.{sym}
use Rattle.schedule_file.proofs.InOrder.{not_below}
use Rattle.schedule_file.proofs.Lines.{last_below}
use Rattle.schedule_file.proofs.fates.Fates.is_below_last.Goals as goal

pub returns-in-Some : goal.returns-in-Some
returns-in-Some c = record {
  seen = λ period. sym (last_below period c.args.number c.args.self.now.mids.items c.in-Some.mid.now (rw (← c.deref.ensures.value) (sym c.in-Some.ensures.value)));
  behind = λ above. not_below c.args.number c.args.self.now.mids.items c.in-Some.mid.now (rw (← c.deref.ensures.value) (sym c.in-Some.ensures.value)) above;
}
