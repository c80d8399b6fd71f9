use Rattle.std.proofs.Common.{◌∙◌, ◌+◌, ◌-◌, ◌*◌, ℕ, ap, arith, refl}
use Rattle.daily_summary.specs.Parts.{entry_at, entry_size}
use Rattle.daily_summary.specs.Running.{running_summary}
use Rattle.daily_summary.proofs.PartsLaws.{one_written, part_written}
use Rattle.daily_summary.proofs.running.RunningSummary.part.Goals as goal

pub loop-place-init : goal.loop-place-init
loop-place-init c = record { bytes = refl }

pub loop-place-preserved : goal.loop-place-preserved
loop-place-preserved c =
    let place = c.loop-place.place in
    one_written (running_summary c.args.self.now) (3 * c.args.k) place (entry_size * place + entry_size - entry_size * place) c.loop-place.part c.copy_from_slice.new.self (omega arith) c.loop-place.invariant
    (c.copy_from_slice.ensures.after ∙ c.entry.ensures ∙ ap (λ (k : ℕ). entry_at (3 * k + place) (running_summary c.args.self.now)) c.from.ensures)

pub returns : goal.returns
returns c = part_written (running_summary c.args.self.now) c.args.k c.loop-place.place c.loop-place.part (omega arith) c.loop-place.invariant
