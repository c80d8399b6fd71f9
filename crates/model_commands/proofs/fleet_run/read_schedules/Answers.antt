use Rattle.std.proofs.Common.{◌≡◌, ℕ, ◌+◌, List, [], ◌∷◌, ◌++◌, Err, drop, refl, sym, ap, subst, arith, rules, Bor}
use Rattle.std.specs.Global.{Vec}
use Rattle.std.specs.Prelude.{All, vec_len}
use Rattle.std.specs.declared.result.Result.{Result}
use Rattle.std.proofs.lemmas.List.{drop_more}
use Rattle.std.proofs.lemmas.List.Elements.{All-push}
use Rattle.command_words.specs.Command.{texts}
use Rattle.run_output.specs.Output.{Output}
use Rattle.run_output.specs.Outside.{means}
use Rattle.schedule_file.specs.declared.schedule.Schedule.{Schedule}
use Rattle.model_commands.specs.ScheduleReading.{IsFit}
use Rattle.model_commands.proofs.ScheduleFiles.{Completes, memory_ends, read_ends, reads_on}
use Rattle.model_commands.proofs.fleet_run.read_schedules.Goals as goal

abbrev none : Bor (List ℕ)
none = record { ref_ptr = (0, 0); now = [] }

pub returns-in_err-schedule-clause-reads : goal.returns-in_err-schedule-clause-reads
returns-in_err-schedule-clause-reads g c =
    let m = means g.F.Files.shelf g.K.Sink.outlet g.L.Link.traffic g.D.Disk.medium in
    let names = c.args.names.now in
    let at = c.loop-name.name-index in
    let before = subst (λ (left : List (Bor (List ℕ))).
    Completes m c.args.period c.loop-name.schedules.items (texts left) (texts names) c.args.outside.now c.loop-name.outside)
    (drop_more names at none (search rules)) c.loop-name.invariant.completes in
    read_ends m c.args.period c.loop-name.schedules.items _ (texts (drop (at + 1) names)) (texts names) c.args.outside.now
    c.loop-name.outside _ before c.read_schedule.result (c.read_schedule.ensures.reads, refl) c.in_err-schedule.field-0.0
    c.from_residual.result c.in_err-schedule.was (search rules)

pub returns-then-is_err-clause-reads : goal.returns-then-is_err-clause-reads
returns-then-is_err-clause-reads g c =
    let m = means g.F.Files.shelf g.K.Sink.outlet g.L.Link.traffic g.D.Disk.medium in
    let names = c.args.names.now in
    let at = c.loop-name.name-index in
    let before = subst (λ (left : List (Bor (List ℕ))).
    Completes m c.args.period c.loop-name.schedules.items (texts left) (texts names) c.args.outside.now c.loop-name.outside)
    (drop_more names at none (search rules)) c.loop-name.invariant.completes in
    memory_ends m c.args.period c.loop-name.schedules.items _ (texts (drop (at + 1) names)) (texts names) c.args.outside.now
    c.loop-name.outside _ before c.read_schedule.result (c.read_schedule.ensures.reads, refl) c.in_ok-schedule.schedule
    _ c.in_ok-schedule.was (ap (λ (o : Output). let r : Result (Vec Schedule) Output = Err o in r) c.silent.ensures)

pub loop-name-preserved : goal.loop-name-preserved
loop-name-preserved g c =
    let m = means g.F.Files.shelf g.K.Sink.outlet g.L.Link.traffic g.D.Disk.medium in
    let names = c.args.names.now in
    let at = c.loop-name.name-index in
    let before = subst (λ (left : List (Bor (List ℕ))).
    Completes m c.args.period c.loop-name.schedules.items (texts left) (texts names) c.args.outside.now c.loop-name.outside)
    (drop_more names at none (search rules)) c.loop-name.invariant.completes in
    let new = record c.loop-name.outside { files = c.read_schedule.new.files } in
    let pushed : c.push.new.self.items ≡ c.loop-name.schedules.items ++ c.in_ok-schedule.schedule ∷ [] =
    rw c.if-is_err.ensures.negation at c.push.ensures.items in
    let long : vec_len c.push.new.self ≡ vec_len c.loop-name.schedules + 1 = rw c.if-is_err.ensures.negation at c.push.ensures.len in
    record {
      completes = subst (λ (given : List Schedule). Completes m c.args.period given (texts (drop (at + 1) names)) (texts names) c.args.outside.now new)
          (sym pushed)
          (reads_on m c.args.period c.loop-name.schedules.items _ (texts (drop (at + 1) names)) (texts names) c.args.outside.now
          c.loop-name.outside new before c.read_schedule.result (c.read_schedule.ensures.reads, refl) c.in_ok-schedule.schedule
          c.in_ok-schedule.was);
      fit = subst (λ (schedules : List Schedule). All (IsFit c.args.period) schedules) (sym pushed)
          (All-push (IsFit c.args.period) c.loop-name.schedules.items c.in_ok-schedule.schedule c.loop-name.invariant.fit (record {
            accepted = c.in_ok-schedule.ensures.accepted;
            period_is = c.in_ok-schedule.ensures.period;
            few = c.in_ok-schedule.ensures.few;
          }));
      as_many = omega (arith, long, c.loop-name.invariant.as_many);
    }
