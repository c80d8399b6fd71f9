use Rattle.std.proofs.Common.{◌≡◌, ℕ, suc, ◌+◌, ◌-◌, List, [], ◌∷◌, Option, Some, None, sym, ap, ◌∙◌, subst, arith}
use Rattle.console_model.specs.Due.{due}
use Rattle.console_model.specs.Standing.{ConsoleStandsFor}
use Rattle.station_sim.specs.Line.{due_all}
use Rattle.archive_record.specs.MovedOn.{moved_on}
use Rattle.console_server.specs.Runs.{run_from}
use Rattle.console_server.proofs.RunEnds.{none_left}
use Rattle.console_server.proofs.run.run_falls_due.Goals as goal

pub returns-in_default : goal.returns-in_default
returns-in_default c = λ k stands.
    let period = c.args.period in
    let count = c.args.count - c.loop.counter in
    let at = c.loop.invariant k stands in
    let some : count ≡ suc (c.args.count - (c.loop.counter + 1)) = omega (arith, c.loop-test.true) in
    let ended : run_from period c.loop.next count ≡ [] =
    ap (λ (next : Option (List ℕ)). run_from period next count) c.in_default.is ∙ ap (run_from period None) some in
    subst (ConsoleStandsFor c.loop.console) (sym (ap (λ (rs : List (List ℕ)). due_all rs at.0) ended) ∙ at.2) at.1

pub loop-preserved : goal.loop-preserved
loop-preserved c = λ k stands.
    let period = c.args.period in
    let rec = c.in-Some.rec in
    let count = c.args.count - (c.loop.counter + 1) in
    let at = c.loop.invariant k stands in
    let some : c.args.count - c.loop.counter ≡ suc count = omega (arith, c.loop-test.true) in
    let before : run_from period c.loop.next (c.args.count - c.loop.counter) ≡ rec ∷ run_from period (moved_on period rec) count =
    ap (λ (next : Option (List ℕ)). run_from period next (c.args.count - c.loop.counter)) c.in-Some.is ∙ ap (run_from period (Some rec)) some in (
      due rec at.0,
      c.due.ensures.stands at.0 at.1,
      ap (λ (next : Option (List ℕ)). due_all (run_from period next count) (due rec at.0)) c.moved_on-next.ensures
          ∙ sym (ap (λ (rs : List (List ℕ)). due_all rs at.0) before) ∙ at.2,
    )

pub returns : goal.returns
returns c = λ k stands.
    let at = c.loop.invariant k stands in
    let none : c.args.count - c.loop.counter ≡ 0 = omega (arith, c.loop-test.false) in
    let ended = ap (run_from c.args.period c.loop.next) none ∙ none_left c.args.period c.loop.next in
    subst (ConsoleStandsFor c.loop.console) (sym (ap (λ (rs : List (List ℕ)). due_all rs at.0) ended) ∙ at.2) at.1
