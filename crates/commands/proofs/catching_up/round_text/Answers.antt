use Rattle.std.proofs.Common.{◌≡◌, ◌≢◌, ◌++◌, List, ℕ, refl, sym, ◌∙◌, rules}
use Rattle.station_session.specs.declared.report.Report.{Report}
use Rattle.station_session.specs.declared.round_end.RoundEnd.{RoundEnd}
use Rattle.station_session.specs.declared.round_end.RoundEnd.TheVariants as round
use Rattle.run_output.specs.Output.{Output}
use Rattle.run_output.specs.declared.status.Status.{Status}
use Rattle.commands.specs.StationRun.{end_output, round_lines, round_output}
use Rattle.commands.proofs.catching_up.round_text.Goals as goal

-- a round that has a line is told by it and by that of the status
told : (end : RoundEnd) (report : Report) (text : List ℕ) (status : Status) → end ≢ round.Stale → end ≢ round.OutOfMemory
    → text ≡ round_lines end report ++ (end_output end).text → status ≡ (end_output end).status
    → ◌≡◌ {A = Output} (record { text = text; status = status }) (round_output end report)
told round.Stale report text status fresh memory text_is status_is = absurd (fresh refl)
told round.OutOfMemory report text status fresh memory text_is status_is = absurd (memory refl)
told end report text status fresh memory text_is status_is = rw text_is (rw status_is refl)

pub returns-in-Done : goal.returns-in-Done
returns-in-Done c =
    told c.args.end c.args.report.now _ _ c.requires c.in_default.not-OutOfMemory (search rules) (sym c.in-Done.is ∙ c.ending-status.ensures.status)

pub returns-in_default-status : goal.returns-in_default-status
returns-in_default-status c =
    c.new.ensures ∙ told c.args.end c.args.report.now _ _ c.requires c.in_default.not-OutOfMemory (search rules) c.ending-status.ensures.status
