-- The steps that are made, one after another.
use Rattle.std.proofs.Common.{◌≡◌, ℕ, suc, ◌+◌, ◌*◌, ◌≤◌, Bool, true, false, List, [], ◌∷◌, ◌++◌, Some, refl, sym, ap, ◌∙◌, append_assoc, arith}
use Rattle.std.specs.Prelude.{codes}
use Rattle.std.proofs.lemmas.List.{map-append}
use Rattle.station_base.specs.CivilMinute.{CivilMinute, IsCivilMinute, minute_of}
use Rattle.station_base.specs.Stamp.{stamp_of_text, stamp_text}
use Rattle.station_base.specs.declared.row.Row.{Row}
use Rattle.archive_record.specs.Reading.{reading}
use Rattle.archive_record.specs.declared.record_read.RecordRead.TheVariants.{Row as ReadRow}
use Rattle.schedule_file.specs.declared.schedule.step.Step as code_step
use Rattle.schedule_file.specs.declared.schedule.step.Step.TheVariants as code
use Rattle.schedule_file.specs.Steps.{ScheduleStep, DueStep, step_seen, steps_seen}
use Rattle.archive_record.proofs.MovedStamps.{same_minute}
use Rattle.draws.specs.Draws.{drawn, next_draw}
use Rattle.made_run.specs.Made.{after_rounds, due_after, due_step, due_values, first_due, is_round, plain_round, rounds_behind, steps_from}
use Rattle.made_run.proofs.MadeSchedules.{due_numbered}

pub first_read : stamp_of_text (codes "2024-01-01 00:05") ≡ Some first_due
unfolding stamp_of_text stamp_text
first_read = refl

-- a step more, and what is still to come
pub step_more : (xs : List code_step.Step) (x : code_step.Step) (rest : List ScheduleStep) → steps_seen 5 (xs ++ x ∷ []) ++ rest ≡ steps_seen 5 xs ++ step_seen 5 x ∷ rest
step_more xs x rest = ap (λ (z : List ScheduleStep). z ++ rest) (map-append (step_seen 5) xs (x ∷ [])) ∙ append_assoc (steps_seen 5 xs) (step_seen 5 x ∷ []) rest

-- a record of the stamp and the draws is the one that is due
pub due_seen : (number period x : ℕ) (stamp : CivilMinute) (rec : List ℕ) → number ≤ 5000 → period ≡ 5 → IsCivilMinute stamp → minute_of stamp ≡ minute_of first_due + 5 * number
    → reading rec period ≡ ReadRow (record { stamp = stamp; interval = period; values = due_values (drawn (next_draw x)) (drawn (next_draw (next_draw x))); limited = 0 })
    → step_seen 5 (code.Due rec) ≡ due_step number x
due_seen number period x stamp rec few five civil minute reads =
    let at = due_numbered (5 * number) (omega (arith, few)) in
    let same : stamp ≡ due_after (5 * number) = same_minute stamp (due_after (5 * number)) civil at.civil (minute ∙ sym at.number) in
    let values = due_values (drawn (next_draw x)) (drawn (next_draw (next_draw x))) in
    let row : CivilMinute → ℕ → Row = λ s p. record { stamp = s; interval = p; values = values; limited = 0 } in
    ap (λ (p : ℕ). DueStep (reading rec p)) (sym five) ∙ ap DueStep reads ∙ ap (λ (s : CivilMinute). DueStep (ReadRow (row s period))) same
    ∙ ap (λ (p : ℕ). DueStep (ReadRow (row (due_after (5 * number)) p))) five

-- a record more, where no round comes behind it
pub record_made : (xs : List code_step.Step) (x : code_step.Step) (left number y : ℕ) (all : List ScheduleStep) → step_seen 5 x ≡ due_step number y → is_round (number + 1) left ≡ false
    → steps_seen 5 xs ++ steps_from (suc left) number y ≡ all → steps_seen 5 (xs ++ x ∷ []) ++ steps_from left (number + 1) (next_draw (next_draw y)) ≡ all
record_made xs x left number y all due none made =
    let rest : Bool → List ScheduleStep = λ t. rounds_behind t (next_draw (next_draw y)) ++ steps_from left (number + 1) (after_rounds t (next_draw (next_draw y))) in
    step_more xs x (rest false) ∙ ap (λ (z : ScheduleStep). steps_seen 5 xs ++ z ∷ rest false) due ∙ ap (λ (t : Bool). steps_seen 5 xs ++ due_step number y ∷ rest t) (sym none) ∙ made

-- a record more, and a round behind it
pub round_made : (xs : List code_step.Step) (x r : code_step.Step) (left number y after : ℕ) (all : List ScheduleStep) → step_seen 5 x ≡ due_step number y → is_round (number + 1) left ≡ true
    → step_seen 5 r ∷ [] ≡ rounds_behind true (next_draw (next_draw y)) → after ≡ after_rounds true (next_draw (next_draw y))
    → steps_seen 5 xs ++ steps_from (suc left) number y ≡ all → steps_seen 5 ((xs ++ x ∷ []) ++ r ∷ []) ++ steps_from left (number + 1) after ≡ all
round_made xs x r left number y after all due some round drew made =
    let rest : Bool → List ScheduleStep = λ t. rounds_behind t (next_draw (next_draw y)) ++ steps_from left (number + 1) (after_rounds t (next_draw (next_draw y))) in
    let to_come = steps_from left (number + 1) after in
    step_more (xs ++ x ∷ []) r to_come ∙ step_more xs x (step_seen 5 r ∷ to_come)
    ∙ ap (λ (z : ScheduleStep). steps_seen 5 xs ++ z ∷ step_seen 5 r ∷ to_come) due
    ∙ ap (λ (z : List ScheduleStep). steps_seen 5 xs ++ (due_step number y ∷ (z ++ to_come))) round
    ∙ ap (λ (n : ℕ). steps_seen 5 xs ++ (due_step number y ∷ (rounds_behind true (next_draw (next_draw y)) ++ steps_from left (number + 1) n))) drew
    ∙ ap (λ (t : Bool). steps_seen 5 xs ++ due_step number y ∷ rest t) (sym some) ∙ made

-- and at the end the last round
pub last_made : (xs : List code_step.Step) (x : code_step.Step) (left number y : ℕ) (all : List ScheduleStep) → step_seen 5 x ≡ plain_round → left ≡ 0 → steps_seen 5 xs ++ steps_from left number y ≡ all → steps_seen 5 (xs ++ x ∷ []) ≡ all
last_made xs x left number y all plain none made =
    map-append (step_seen 5) xs (x ∷ []) ∙ ap (λ (z : ScheduleStep). steps_seen 5 xs ++ z ∷ []) plain
    ∙ ap (λ (n : ℕ). steps_seen 5 xs ++ steps_from n number y) (sym none) ∙ made
