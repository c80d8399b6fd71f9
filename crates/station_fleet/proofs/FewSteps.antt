-- A schedule that was read has few steps.
use Rattle.std.proofs.Common.{ℕ, ◌≡◌, ◌+◌, ◌≤◌, Bool, true, false, Option, Some, None, List, [], ◌∷◌, length, length-append, refl, sym, ap, subst, ◌∙◌, arith, Result, Ok, Err}
use Rattle.std.specs.Prelude.{◌==◌, ◌++◌, if◌then◌else◌, not}
use Rattle.std.proofs.lemmas.Bool.Decides.{nat_tests}
use Rattle.schedule_file.specs.declared.schedule.Schedule.{Schedule}
use Rattle.schedule_file.specs.declared.schedule.form.Form.{Form}
use Rattle.schedule_file.specs.declared.schedule.form.Form.TheVariants.{Due, Run, Idle, Open, Round, Host, Reply, Late, Mid, Stop}
use Rattle.schedule_file.specs.declared.schedule.turn.Turn.{Turn}
use Rattle.schedule_file.specs.declared.schedule.turn.Turn.TheVariants.{Neither, Opening, InRound}
use Rattle.schedule_file.specs.declared.schedule.step.Step as code_step
use Rattle.schedule_file.specs.Answer.{ScheduleReadsAs}
use Rattle.schedule_file.specs.Forms.{form_of}
use Rattle.schedule_file.specs.Kinds.{kinds, first_applying}
use Rattle.schedule_file.specs.Pieces.{lines_of, words_of, is_silent, is_all_plain}
use Rattle.schedule_file.specs.Reading.{LineFault, accept_read, said_with_form, next_line, read_schedule_line, read_lines, said_or, said_by_text}
use Rattle.schedule_file.specs.Steps.{Details, Said, ScheduleStep, nothing_said, steps_said, steps_seen, turn_steps}
use Rattle.schedule_file.specs.declared.schedule.step.Stop.{Stop as StopSaid}

same_ok : {A E : Type 0} (a b : A) → ◌≡◌ {A = Result A E} (Ok a) (Ok b) → a ≡ b
same_ok a b e = cc

-- what is said has one step more at most
abbrev Grew : Said → Said → Type 0
Grew s t = length (steps_said t) ≤ length (steps_said s) + 1

behind_more : (front since : List ScheduleStep) (x : ScheduleStep) → length (front ++ (since ++ x ∷ [])) ≤ length (front ++ since) + 1
behind_more front since x =
    omega (arith, length-append front (since ++ x ∷ []), length-append since (x ∷ []), length-append front since)

turn_more : (front : List ScheduleStep) (x : ScheduleStep) → length ((front ++ x ∷ []) ++ []) ≤ length front + 1
turn_more front x = omega (arith, length-append (front ++ x ∷ []) [], length-append front (x ∷ []))

same_turn : (turn : Turn) (d e : Details) (p q : Option StopSaid) → length (turn_steps turn d p) ≡ length (turn_steps turn e q)
same_turn Neither d e p q = refl
same_turn Opening d e p q = refl
same_turn InRound d e p q = refl

same_long : (before one other since : List ScheduleStep) → length one ≡ length other
    → length ((before ++ one) ++ since) ≤ length ((before ++ other) ++ since) + 1
same_long before one other since same = omega (
  arith,
  same,
  length-append (before ++ one) since,
  length-append before one,
  length-append (before ++ other) since,
  length-append before other,
)

details_grew : (s : Said) (details : Details) (stop : Option StopSaid)
    → length ((s.before ++ turn_steps s.turn details stop) ++ s.since) ≤ length (steps_said s) + 1
details_grew s details stop = same_long s.before (turn_steps s.turn details stop) (turn_steps s.turn s.details s.stop) s.since
    (same_turn s.turn details s.details stop s.stop)

grew_after : (period : ℕ) (s : Said) (form : Form) → Grew s (said_with_form period s form)
grew_after period s (Due told) = behind_more (s.before ++ turn_steps s.turn s.details s.stop) s.since _
grew_after period s (Run first count) = behind_more (s.before ++ turn_steps s.turn s.details s.stop) s.since _
grew_after period s (Idle ticks) = behind_more (s.before ++ turn_steps s.turn s.details s.stop) s.since _
grew_after period s Open = turn_more (steps_said s) _
grew_after period s Round = turn_more (steps_said s) _
grew_after period s (Host number fate) = details_grew s _ s.stop
grew_after period s (Reply number fate) = details_grew s _ s.stop
grew_after period s (Late number waits place) = details_grew s _ s.stop
grew_after period s (Mid number told) = details_grew s _ s.stop
grew_after period s (Stop stop) = details_grew s s.details (Some stop)

below_last : (n : ℕ) → n ≤ 10001 → (n == 10001) ≡ false → n + 1 ≤ 10001
below_last n within apart = grind (arith, nat_tests)

module _ (period : ℕ) where
  accepted : (kind : Option ℕ) (s t : Said) (form : Form) → said_or kind (said_with_form period s form) ≡ Ok t → Grew s t
  accepted None s t form e = subst (λ (u : Said). Grew s u) (same_ok (said_with_form period s form) t e) (grew_after period s form)
  accepted (Some kind) s t form e = absurd (let wrong : ⊥ = cc in wrong)

  of_form : (r : Result Form ℕ) (s t : Said) → accept_read period s r ≡ Ok t → Grew s t
  of_form (Err kind) s t e = absurd (let wrong : ⊥ = cc in wrong)
  of_form (Ok form) s t e = accepted (first_applying (kinds period s form)) s t form e

  of_line : (late silent faulty : Bool) (words : List (List ℕ)) (s t : Said)
      → (if late then Err 1 else if silent then Ok s else if faulty then Err 2 else accept_read period s (form_of words)) ≡ Ok t
      → (late ≡ false) × Grew s t
  of_line true silent faulty words s t e = absurd (let wrong : ⊥ = cc in wrong)
  of_line false true faulty words s t e = (refl, subst (λ (u : Said). Grew s u) (same_ok s t e) (omega arith))
  of_line false false true words s t e = absurd (let wrong : ⊥ = cc in wrong)
  of_line false false false words s t e = (refl, of_form (form_of words) s t e)

  line_grew : (number : ℕ) (line : List ℕ) (s t : Said) → read_schedule_line period number line s ≡ Ok t
      → ((number == 10001) ≡ false) × Grew s t
  unfolding read_schedule_line
  line_grew number line s t e =
      of_line (number == 10001) (is_silent line) (not (is_all_plain line)) (words_of line) s t e

  -- so many lines may come from this one on
  abbrev Few : ℕ → Said → Said → Type 0
  Few number s t = length (steps_said t) + number ≤ length (steps_said s) + 10001

  rest_few : (number : ℕ) (r : Result Said ℕ) (rest : Said → Result Said LineFault) (s t : Said) → number ≤ 10001
      → ((u : Said) → r ≡ Ok u → ((number == 10001) ≡ false) × Grew s u)
      → ((u : Said) → number + 1 ≤ 10001 → rest u ≡ Ok t → Few (number + 1) u t) → next_line number r rest ≡ Ok t
      → Few number s t
  rest_few number (Err kind) rest s t within here later e = absurd (let wrong : ⊥ = cc in wrong)
  rest_few number (Ok u) rest s t within here later e =
      let grew = here u refl in
      let below : number + 1 ≤ 10001 = below_last number within grew.0 in
      let few = later u below e in
      omega (arith, grew.1, few)

  lines_few : (number : ℕ) (lines : List (List ℕ)) (s t : Said) → number ≤ 10001 → read_lines period number lines s ≡ Ok t
      → Few number s t
  lines_few number [] s t within e =
      subst (λ (u : Said). Few number s u) (same_ok s t e) (omega (arith, within))
  lines_few number (line ∷ lines) s t within e =
      rest_few number (read_schedule_line period number line s) (λ (said : Said). read_lines period (number + 1) lines said) s t within
      (λ u read. line_grew number line s u read) (λ u below read. lines_few (number + 1) lines u t below read) e

  said_few : (bytes : List ℕ) (t : Said) → said_by_text bytes period ≡ Ok t → length (steps_said t) ≤ 10000
  unfolding said_by_text
  said_few bytes t e =
      let few : length (steps_said t) + 1 ≤ 10001 = lines_few 1 (lines_of bytes) nothing_said t (omega arith) e in
      omega (arith, few)

  seen_long : (xs : List code_step.Step) → length (steps_seen period xs) ≡ length xs
  seen_long [] = refl
  seen_long (x ∷ xs) = let rest = seen_long xs in omega (arith, rest)

-- a schedule that was read has at most 10,000 steps
pub few_steps : (bytes : List ℕ) (period : ℕ) (schedule : Schedule) → ScheduleReadsAs (said_by_text bytes period) (Ok schedule)
    → length schedule.steps.items ≤ 10000
few_steps bytes period schedule reads =
    let few = said_few period bytes reads.0 reads.1 in
    let long = sym (ap (λ (xs : List ScheduleStep). length xs) reads.2.steps) ∙ seen_long schedule.period schedule.steps.items in
    omega (arith, few, long)
