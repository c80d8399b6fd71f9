use Rattle.std.proofs.Common.{◌≡◌, ℕ, suc, ◌+◌, ◌-◌, List, ◌∷◌, [], Option, Some, None, refl, sym, ap, ◌∙◌, subst, arith}
use Rattle.schedule_file.specs.Lists.{fates_of}
use Rattle.station_sim.specs.declared.sim.Sim.{Sim}
use Rattle.station_sim.specs.Line.{waited}
use Rattle.station_sim.specs.Standing.{SimStandsFor}
use Rattle.schedule_steps.specs.Runs.{run_records, IsRun}
use Rattle.schedule_steps.proofs.RunRecords.{left_of, IsLeft, all_left, none_left, next_left}
use Rattle.schedule_steps.proofs.steps.run_falls_due.Goals as goal

pub loop-init : goal.loop-init
loop-init c =
    let all : c.args.count ≡ c.args.count - 0 = omega arith in
    record {
      left = subst (IsLeft c.args.period (Some c.args.first.now)) all (all_left c.args.period c.args.first.now c.args.count c.requires.stamps);
      fates = refl;
      talk = refl;
      stands = λ w s. (w, s, ap (λ (n : ℕ). waited (run_records c.args.period c.args.first.now n) w) (sym all));
    }

pub returns : goal.returns
returns c = record {
  fates = c.loop.invariant.fates;
  talk = c.loop.invariant.talk;
  stands = λ w s.
      let period = c.args.period in
      let none : c.args.count - c.loop.counter ≡ 0 = omega (arith, c.loop-test.false) in
      let at = c.loop.invariant.stands w s in
      let ended = ap (left_of period c.loop.next) none ∙ none_left period c.loop.next in
      subst (SimStandsFor c.loop.line) (sym (ap (λ (rs : List (List ℕ)). waited rs at.0) ended) ∙ at.2) at.1;
}

pub returns-in_default : goal.returns-in_default
returns-in_default c =
    let some : c.args.count - c.loop.counter ≡ suc (c.args.count - (c.loop.counter + 1)) = omega (arith, c.loop-test.true) in
    absurd (subst (IsLeft c.args.period None) some (subst (λ (next : Option (List ℕ)). IsLeft c.args.period next (c.args.count - c.loop.counter)) c.in_default.is c.loop.invariant.left))

pub loop-preserved : goal.loop-preserved
loop-preserved c =
    let period = c.args.period in
    let rec = c.in-Some.rec in
    let count = c.args.count - (c.loop.counter + 1) in
    let some : c.args.count - c.loop.counter ≡ suc count = omega (arith, c.loop-test.true) in
    let run : IsRun period rec (suc count) =
    subst (IsLeft period (Some rec)) some (subst (λ (next : Option (List ℕ)). IsLeft period next (c.args.count - c.loop.counter)) c.in-Some.is c.loop.invariant.left) in
    let next = next_left period count rec c.moved_on-next.result c.moved_on-next.ensures run in
    let before : left_of period c.loop.next (c.args.count - c.loop.counter) ≡ run_records period rec (suc count) =
    ap (λ (o : Option (List ℕ)). left_of period o (c.args.count - c.loop.counter)) c.in-Some.is ∙ ap (run_records period rec) some in
    record {
      left = next.0;
      fates = ap (λ (s : Sim). fates_of s.fates) c.due.ensures.others ∙ c.loop.invariant.fates;
      talk = ap (λ (s : Sim). s.talk.items) c.due.ensures.others ∙ c.loop.invariant.talk;
      stands = λ w s.
          let at = c.loop.invariant.stands w s in
          let v = at.0 in (
            waited (rec ∷ []) v,
            c.due.ensures.stands v at.1,
            ap (λ (rs : List (List ℕ)). waited rs (waited (rec ∷ []) v)) next.1 ∙ ap (λ (rs : List (List ℕ)). waited rs v) (sym before) ∙ at.2,
          );
    }
