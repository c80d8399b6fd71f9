use Rattle.std.proofs.Common.{◌≡◌, ℕ, ◌+◌, ◌-◌, List, Ok, Err, refl, sym, ap, subst, ◌∙◌, arith, rules}
use Rattle.std.specs.declared.result.Result.{Result}
use Rattle.run_output.specs.Ended.{Lines}
use Rattle.run_output.specs.Output.{Output}
use Rattle.run_output.specs.Outside.{means}
use Rattle.run_output.specs.declared.status.Status.TheVariants.{Done}
use Rattle.commands.specs.StayRun.{standing, stayed, stayed_line, stays}
use Rattle.commands.proofs.StayStep.{further, report_ends, round_ends, pause_ends}
use Rattle.commands.proofs.staying.make_rounds.Goals as goal

pub returns-in_err-report : goal.returns-in_err-report
returns-in_err-report g c rows stands =
    let m = means g.F.Files.shelf g.K.Sink.outlet g.L.Link.traffic g.D.Disk.medium in
    let gives : ◌≡◌ {A = Result Lines Output} c.from_residual.result (Err c.in_err-report.field-0.0) = search rules in
    report_ends m c.args.waits c.args.rounds (c.args.rounds - 1) 0 (standing c.args.session 0 rows) c.args.outside.now c.from_residual.result
    c.in_err-report.field-0.0 (omega (arith, c.if-rounds-eq0.false)) c.in_err-report.ensures.none gives

pub returns-in_err-series : goal.returns-in_err-series
returns-in_err-series g c rows stands =
    let m = means g.F.Files.shelf g.K.Sink.outlet g.L.Link.traffic g.D.Disk.medium in
    let k = c.rounds.made in
    let so_far = c.rounds.invariant.so_far rows stands in
    let round = c.in_err-series.ensures.round so_far.0 so_far.1 in
    let gives : ◌≡◌ {A = Result Lines Output} c.from_residual-in_err-series.result (Err c.in_err-series.field-0.0) = search rules in
    so_far.2 c.from_residual-in_err-series.result c.make_round.new.outside
    (round_ends m c.args.waits (c.args.rounds - k) (c.args.rounds - (k + 1)) k (standing c.rounds.series.session c.rounds.series.give_ups so_far.0) c.rounds.outside c.make_round.new.outside
    c.from_residual-in_err-series.result c.in_err-series.field-0.0 (omega (arith, c.rounds-test.true)) round.1 gives)

pub returns-in_err-pause_between : goal.returns-in_err-pause_between
returns-in_err-pause_between g c rows stands =
    let m = means g.F.Files.shelf g.K.Sink.outlet g.L.Link.traffic g.D.Disk.medium in
    let k = c.rounds.made in
    let so_far = c.rounds.invariant.so_far rows stands in
    let round = c.in_ok-series.ensures.round so_far.0 so_far.1 in
    let gives : ◌≡◌ {A = Result Lines Output} c.from_residual-in_err-pause_between.result (Err c.in_err-pause_between.field-0.0) = search rules in
    so_far.2 c.from_residual-in_err-pause_between.result _
    (pause_ends m c.args.waits (c.args.rounds - k) (c.args.rounds - (k + 1)) k (standing c.rounds.series.session c.rounds.series.give_ups so_far.0) (standing c.in_ok-series.series.session c.in_ok-series.series.give_ups round.0)
    c.rounds.outside c.make_round.new.outside _ c.from_residual-in_err-pause_between.result c.in_err-pause_between.field-0.0 (omega (arith, c.rounds-test.true)) round.1
    (c.in_err-pause_between.ensures, refl) gives)

pub rounds-preserved : goal.rounds-preserved
rounds-preserved g c =
    let m = means g.F.Files.shelf g.K.Sink.outlet g.L.Link.traffic g.D.Disk.medium in
    let k = c.rounds.made in
    record {
      so_far = λ rows stands.
          let so_far = c.rounds.invariant.so_far rows stands in
          let round = c.in_ok-series.ensures.round so_far.0 so_far.1 in (
            round.0,
            round.2,
            λ result new more. so_far.2 result new
                (further m c.args.waits (c.args.rounds - k) (c.args.rounds - (k + 1)) k (standing c.rounds.series.session c.rounds.series.give_ups so_far.0)
                (standing c.in_ok-series.series.session c.in_ok-series.series.give_ups round.0) c.rounds.outside c.make_round.new.outside _ new result (omega (arith, c.rounds-test.true)) round.1
                (c.in_ok-pause_between.ensures, refl) more),
          );
      fresh = c.in_ok-series.ensures.fresh;
      give_ups = c.in_ok-series.ensures.give_ups;
      room = omega (arith, c.rounds.invariant.room, c.make_round.ensures.begun);
      within = omega (arith, c.rounds-test.true);
      marks = c.make_round.ensures.marks;
    }

-- a text of the last line is what is written last
text_is : (made : ℕ) (text : List ℕ) → text ≡ stayed_line made → ◌≡◌ {A = Output} (record { text = text; status = Done }) (stayed made)
text_is made text is = ap (λ (t : List ℕ). let output : Output = record { text = t; status = Done } in output) is

pub returns : goal.returns
returns g c rows stands =
    let m = means g.F.Files.shelf g.K.Sink.outlet g.L.Link.traffic g.D.Disk.medium in
    let so_far = c.rounds.invariant.so_far rows stands in
    let none : c.args.rounds - c.rounds.made ≡ 0 = omega (arith, c.rounds-test.false, c.rounds.invariant.within) in
    so_far.2 (Ok c.stayed_text-text.result) c.rounds.outside
    (subst (λ (n : ℕ). stays m c.args.waits n c.rounds.made (standing c.rounds.series.session c.rounds.series.give_ups so_far.0) c.rounds.outside (Ok c.stayed_text-text.result) c.rounds.outside) (sym none)
    (text_is c.rounds.made c.stayed_text-text.result.items c.stayed_text-text.ensures, refl))

-- without a round the last line is all
pub returns-then-rounds-eq0 : goal.returns-then-rounds-eq0
returns-then-rounds-eq0 g c rows stands =
    let m = means g.F.Files.shelf g.K.Sink.outlet g.L.Link.traffic g.D.Disk.medium in
    let none : c.args.rounds ≡ 0 = c.if-rounds-eq0.true in
    subst (λ (n : ℕ). stays m c.args.waits n 0 (standing c.args.session 0 rows) c.args.outside.now (Ok c.stayed_text.result) c.args.outside.now) (sym none)
    (text_is 0 c.stayed_text.result.items (c.stayed_text.ensures ∙ ap stayed_line none), refl)
