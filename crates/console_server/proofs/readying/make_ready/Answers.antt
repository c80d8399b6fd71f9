use Rattle.std.proofs.Common.{◌≡◌, ℕ, suc, ◌+◌, ◌<◌, List, ◌∷◌, Some, length, drop, get_or, sym, ap, ◌∙◌, subst, arith}
use Rattle.std.proofs.Math.Seq.{drop-cons}
use Rattle.console_model.specs.Due.{due}
use Rattle.console_model.specs.Standing.{ConsoleStandsFor}
use Rattle.station_sim.specs.Line.{due_all}
use Rattle.schedule_file.specs.declared.schedule.step.Step.{Step}
use Rattle.console_server.specs.Ready.{console_made_ready, ticked}
use Rattle.console_server.specs.Runs.{run_from}
use Rattle.console_server.proofs.readying.make_ready.Goals as goal
use Rattle.console_server.proofs.readying.make_ready.Goals.{in-Due, in-Run, in-Idle, in-Open}

-- a step and those behind it are left
left : (steps : List Step) (i : ℕ) (item step : Step) → i < length steps → item ≡ get_or steps i item → item ≡ step → drop i steps ≡ step ∷ drop (i + 1) steps
left steps i item step below at is =
    let more : suc i ≡ i + 1 = omega arith in
    drop-cons steps i item below ∙ ap (λ (s : Step). s ∷ drop (suc i) steps) (sym at ∙ is) ∙ ap (λ (n : ℕ). step ∷ drop n steps) more

pub loop-step-preserved : goal.loop-step-preserved
loop-step-preserved c = λ k stands.
    let period = c.args.period in
    let steps = c.args.steps.now in
    let i = c.loop-step.step-index in
    let at = c.loop-step.invariant k stands in
    let m = at.0 in
    elim c.match-step.branch [
      | in-Due w ↦
          let next = left steps i c.step-item.result _ c.loop-step-test.true c.step-item.is w.in-Due.is in (
            due w.in-Due.rec m,
            subst (λ x. ConsoleStandsFor x (due w.in-Due.rec m)) (sym w.console-is) (w.due.ensures.stands m at.1),
            sym (ap (λ (s : List Step). console_made_ready period s m) next) ∙ at.2,
          )
      | in-Run w ↦
          let next = left steps i c.step-item.result _ c.loop-step-test.true c.step-item.is w.in-Run.is in
          let last = due_all (run_from period (Some w.in-Run.first) w.in-Run.count) m in (
            last,
            subst (λ x. ConsoleStandsFor x last) (sym w.console-is) (w.run_falls_due.ensures m at.1),
            sym (ap (λ (s : List Step). console_made_ready period s m) next) ∙ at.2,
          )
      | in-Idle w ↦
          let next = left steps i c.step-item.result _ c.loop-step-test.true c.step-item.is w.in-Idle.is in
          let last = ticked w.in-Idle.ticks m in (
            last,
            subst (λ x. ConsoleStandsFor x last) (sym w.console-is) (w.pass_ticks.ensures m at.1),
            sym (ap (λ (s : List Step). console_made_ready period s m) next) ∙ at.2,
          )
      | in-Open w ↦
          let next = left steps i c.step-item.result _ c.loop-step-test.true c.step-item.is w.in-Open.is in (
            m,
            subst (λ x. ConsoleStandsFor x m) (sym w.console-is) at.1,
            sym (ap (λ (s : List Step). console_made_ready period s m) next) ∙ at.2,
          )
    ]
