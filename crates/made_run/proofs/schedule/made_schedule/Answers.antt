use Rattle.std.proofs.Common.{◌≡◌, ◌+◌, ◌-◌, ◌++◌, ℕ, suc, true, List, [], ◌∷◌, sym, ap, subst, ◌∙◌, arith, rules}
use Rattle.station_base.proofs.Minutes.{last_minute_number}
use Rattle.schedule_file.specs.declared.schedule.step.Step as code_step
use Rattle.schedule_file.specs.declared.schedule.step.Step.TheVariants as code
use Rattle.schedule_file.specs.Steps.{ScheduleStep, step_seen, steps_seen}
use Rattle.draws.specs.Draws.{next_draw}
use Rattle.made_run.specs.Made.{after_kind, after_rounds, is_round, kind_drawn, made_steps, round_of, rounds_behind, steps_from}
use Rattle.made_run.proofs.MadeSchedules.{first_due_number}
use Rattle.made_run.proofs.Stepwise.{due_seen, record_made, round_made}
use Rattle.made_run.proofs.schedule.made_schedule.Goals as goal
use Rattle.made_run.proofs.schedule.made_schedule.Goals.{then-is_round+in_ok-drawn_round+in_ok-push-2, else-is_round}

pub later-stamp-requires : goal.later-stamp-requires
later-stamp-requires c =
    omega (arith, c.loop-number.invariant.minute, c.requires.period, c.requires.count, c.loop-number-test.true, first_due_number, last_minute_number)

pub loop-number-preserved : goal.loop-number-preserved
loop-number-preserved c =
    let number = c.loop-number.number in let left = c.args.count - (number + 1) in let y = c.loop-number.draws.number in let xs = c.loop-number.steps.items in
    let some : c.args.count - number ≡ suc left = omega (arith, c.loop-number-test.true) in
    let made = subst (λ (n : ℕ). steps_seen 5 c.loop-number.steps.items ++ steps_from n number y ≡ made_steps c.args.seed c.args.count) some c.loop-number.invariant.made in
    let due = due_seen number c.args.period y c.loop-number.stamp c.drawn_record.result (omega (arith, c.loop-number-test.true, c.requires.count)) c.requires.period
    c.loop-number.invariant.civil c.loop-number.invariant.minute c.drawn_record.ensures.reads in
    let same : c.args.count - number - 1 ≡ left = omega arith in
    let test : c.is_round.result ≡ is_round (number + 1) left = c.is_round.ensures ∙ ap (is_round (number + 1)) same in
    record {
      made = elim c.if-is_round.branch [
        | then-is_round+in_ok-drawn_round+in_ok-push-2 w ↦
            let r = w.in_ok-drawn_round.field-0 in
            let items : c.if-is_round.steps.items ≡ (xs ++ code.Due c.drawn_record.result ∷ []) ++ r ∷ [] =
            ap (λ s. s.items) w.steps-is ∙ w.in_ok-push-2.ensures.items ∙ ap (λ (z : List code_step.Step). z ++ r ∷ []) c.in_ok-push.ensures.items in
            let round : step_seen 5 r ∷ [] ≡ rounds_behind true (next_draw (next_draw y)) =
            ap (λ (s : ScheduleStep). s ∷ []) (w.in_ok-drawn_round.ensures.step 5 ∙ ap (λ (n : ℕ). round_of (kind_drawn n) (next_draw n)) c.drawn_record.ensures.draws) in
            let drew : c.if-is_round.draws.number ≡ after_rounds true (next_draw (next_draw y)) =
            ap (λ d. d.number) w.draws-is ∙ w.in_ok-drawn_round.ensures.draws ∙ ap (λ (n : ℕ). after_kind (kind_drawn n) (next_draw n)) c.drawn_record.ensures.draws in
            ap (λ (z : List code_step.Step). steps_seen 5 z ++ steps_from left (number + 1) c.if-is_round.draws.number) items
            ∙ round_made xs (code.Due c.drawn_record.result) r left number y c.if-is_round.draws.number (made_steps c.args.seed c.args.count) due (sym test ∙ w.if-is_round.true) round drew made
        | else-is_round w ↦
            let items : c.if-is_round.steps.items ≡ xs ++ code.Due c.drawn_record.result ∷ [] = ap (λ s. s.items) w.steps-is ∙ c.in_ok-push.ensures.items in
            let drew : c.if-is_round.draws.number ≡ next_draw (next_draw y) = ap (λ d. d.number) w.draws-is ∙ c.drawn_record.ensures.draws in
            ap (λ (z : List code_step.Step). steps_seen 5 z ++ steps_from left (number + 1) c.if-is_round.draws.number) items
            ∙ ap (λ (n : ℕ). steps_seen 5 (xs ++ code.Due c.drawn_record.result ∷ []) ++ steps_from left (number + 1) n) drew
            ∙ record_made xs (code.Due c.drawn_record.result) left number y (made_steps c.args.seed c.args.count) due (sym test ∙ w.if-is_round.false) made
      ];
      below = elim c.if-is_round.branch [
        | then-is_round+in_ok-drawn_round+in_ok-push-2 w ↦ search rules
        | else-is_round w ↦ search rules
      ];
      minute = omega (arith, c.later-stamp.ensures.minute, c.loop-number.invariant.minute, c.requires.period);
      civil = c.later-stamp.ensures.civil;
    }
