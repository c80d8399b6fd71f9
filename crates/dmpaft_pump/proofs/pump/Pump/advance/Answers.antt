use Rattle.std.proofs.Common.{true, Bool, sym, subst}
use Rattle.dmpaft_pump.specs.declared.phase.Phase.{Phase}
use Rattle.dmpaft_pump.specs.declared.phase.Phase.TheVariants as phase
use Rattle.dmpaft_pump.specs.Pump.{state_at, next_after_part}
use Rattle.dmpaft_pump.specs.Phases.{part_of_phase}
use Rattle.dmpaft_pump.specs.Shown.{PumpShows, PartIsReady}
use Rattle.dmpaft_pump.proofs.pump.Pump.advance.Goals as goal

pub returns-in-Asking-clause-shows : goal.returns-in-Asking-clause-shows
returns-in-Asking-clause-shows c = λ start after place taken bytes h.
    let said = c.in-Asking.said in
    let k : PartIsReady start after place taken (phase.Asking c.in-Asking.more c.in-Asking.left said) true bytes c.args.self.now =
    subst (λ (p : Phase). PartIsReady start after place taken p true bytes c.args.self.now) c.in-Asking.is (subst (λ (f : Bool). PartIsReady start after place taken c.args.phase f bytes c.args.self.now) c.if-full-3.true h) in
    subst (λ (p : Phase). PumpShows start after (state_at after (next_after_part after (part_of_phase place taken p) c.args.full bytes)) c.after_page.new.self) (sym c.in-Asking.is)
    (c.after_page.ensures.shows start after place taken bytes said k)
