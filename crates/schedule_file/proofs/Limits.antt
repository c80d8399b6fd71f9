-- What holds of each accepted schedule: its records are few, and just those of its steps.
use Rattle.std.proofs.Common.{◌≡◌, ℕ, ◌+◌, ◌≤◌, Bool, true, false, Option, Some, None, List, [], ◌∷◌, length, length-append, refl, sym, ap, ◌∙◌, arith, lit≤, Ok}
use Rattle.std.specs.Prelude.{◌==◌, nat_lt, nat_le, not, ◌||◌, if◌then◌else◌, ◌++◌}
use Rattle.std.specs.List.{list_any}
use Rattle.std.proofs.lemmas.Bool.{ltb-false}
use Rattle.schedule_file.specs.declared.schedule.form.Form.{Form}
use Rattle.schedule_file.specs.declared.schedule.form.Form.TheVariants.{Due, Run, Idle, Open, Round, Host, Reply, Late, Mid, Stop}
use Rattle.schedule_file.specs.declared.schedule.turn.Turn.{Turn}
use Rattle.schedule_file.specs.declared.schedule.turn.Turn.TheVariants.{Neither, Opening, InRound}
use Rattle.schedule_file.specs.Steps.{Said, ScheduleStep, MidRecord, records_within, records_in_steps, turn_steps, steps_said, steps_seen}
use Rattle.schedule_file.specs.Steps.ScheduleStep.{DueStep, RunStep, IdleStep}
use Rattle.schedule_file.specs.Kinds.{FaultKind, kind_if, kinds, first_applying, told_kinds, count_kinds, is_in_round, is_due, is_below_last}
use Rattle.schedule_file.specs.Steps.{record_told}
use Rattle.schedule_file.specs.declared.schedule.step.Step as Seen
use Rattle.schedule_file.specs.Pieces.{lines_of}
use Rattle.schedule_file.specs.Reading.{said_with_form, read_lines, said_by_text}
use Rattle.schedule_file.proofs.Kept.{steps_kept}
use Rattle.schedule_file.specs.Limits.{most_records, most_mids}

-- the kinds behind some, where none of all applies
least_behind : (ks more : List FaultKind) → first_applying (ks ++ more) ≡ None → first_applying more ≡ None
least_behind [] more none = none
least_behind (k ∷ ks) more none = go k.applies (least_behind ks more) none
  where
    go : (b : Bool) → (first_applying (ks ++ more) ≡ None → first_applying more ≡ None) → (if b then Some k.kind else first_applying (ks ++ more)) ≡ None → first_applying more ≡ None
    go true rest h = cc
    go false rest h = rest h

-- where none of the kinds applies, the first does not
pub first_fails : (b : Bool) (kind : ℕ) (rest : Option ℕ) → (if b then Some kind else rest) ≡ None → b ≡ false
first_fails true kind rest h = cc
first_fails false kind rest h = refl

-- and none of the rest does
pub rest_fails : (b : Bool) (kind : ℕ) (rest : Option ℕ) → (if b then Some kind else rest) ≡ None → rest ≡ None
rest_fails true kind rest h = cc
rest_fails false kind rest h = h

-- an accepted line leaves at most 20,000 records
few_after : (period : ℕ) (s : Said) (form : Form) → s.records ≤ most_records → first_applying (kinds period s form) ≡ None → (said_with_form period s form).records ≤ most_records
few_after period s (Due told) few none =
    ltb-false most_records (s.records + 1) (first_fails (nat_lt most_records (s.records + 1)) 10 None (least_behind (told_kinds period s told 1) (count_kinds s 1) none))
few_after period s (Run first count) few none =
    ltb-false most_records (s.records + count) (first_fails (nat_lt most_records (s.records + count)) 10 None (least_behind (told_kinds period s first count) (count_kinds s count) none))
few_after period s (Idle ticks) few none = few
few_after period s Open few none = few
few_after period s Round few none = few
few_after period s (Host number fate) few none = few
few_after period s (Reply number fate) few none = few
few_after period s (Late number waits place) few none = few
few_after period s (Mid number told) few none =
    let misplaced : Bool = not (is_in_round s.turn) || list_any is_due s.since in
    let behind : List FaultKind = kind_if 13 (is_below_last s.details.mids number) ∷ kind_if 14 (nat_le most_mids (length s.details.mids)) ∷ [] in
    let more = least_behind (told_kinds period s told 1) (kind_if 8 misplaced ∷ kind_if 10 (nat_lt most_records (s.records + 1)) ∷ behind) none in
    let rest = rest_fails misplaced 8 (first_applying (kind_if 10 (nat_lt most_records (s.records + 1)) ∷ behind)) more in
    ltb-false most_records (s.records + 1) (first_fails (nat_lt most_records (s.records + 1)) 10 (first_applying behind) rest)
few_after period s (Stop stop) few none = few

-- an accepted schedule has at most 20,000 records
pub few_records : (bytes : List ℕ) (period : ℕ) (said : Said) → said_by_text bytes period ≡ Ok said → said.records ≤ most_records
few_records bytes period said read =
    steps_kept period (λ (s : Said). s.records ≤ most_records) (λ words form is s few none. few_after period s form few none) bytes said (lit≤ tt) read

records_join : (xs ys : List ScheduleStep) → records_in_steps (xs ++ ys) ≡ records_in_steps xs + records_in_steps ys
records_join [] ys = omega arith
records_join (x ∷ xs) ys = omega (arith, records_join xs ys)

of_turn : (t : Turn) (s : Said) → records_in_steps (turn_steps t s.details s.stop) ≡ records_within t (length s.details.mids)
of_turn Neither s = refl
of_turn Opening s = refl
of_turn InRound s = omega arith

-- the records are those of the steps before, of the last `open` or `round`, and of the steps after it
Counted : Said → Type 0
Counted s = s.records ≡ records_in_steps s.before + records_within s.turn (length s.details.mids) + records_in_steps s.since

all_counted : (s : Said) → records_in_steps (steps_said s) ≡ records_in_steps s.before + records_within s.turn (length s.details.mids) + records_in_steps s.since
all_counted s =
    let front = s.before ++ turn_steps s.turn s.details s.stop in
    omega (arith, records_join front s.since, records_join s.before (turn_steps s.turn s.details s.stop), of_turn s.turn s)

one_within : (t : Turn) (n : ℕ) → is_in_round t ≡ true → records_within t (n + 1) ≡ records_within t n + 1
one_within Neither n within = cc
one_within Opening n within = cc
one_within InRound n within = refl

in_round : (a b : Bool) → (not a || b) ≡ false → a ≡ true
in_round true b none = refl
in_round false b none = cc

counted_after : (period : ℕ) (s : Said) (form : Form) → Counted s → first_applying (kinds period s form) ≡ None → Counted (said_with_form period s form)
unfolding Counted
counted_after period s (Due told) c none = omega (arith, c, records_join s.since (DueStep (record_told period told) ∷ []))
counted_after period s (Run first count) c none = omega (arith, c, records_join s.since (RunStep (record_told period first) count ∷ []))
counted_after period s (Idle ticks) c none = omega (arith, c, records_join s.since (IdleStep ticks ∷ []))
counted_after period s Open c none = omega (arith, c, all_counted s)
counted_after period s Round c none = omega (arith, c, all_counted s)
counted_after period s (Host number fate) c none = c
counted_after period s (Reply number fate) c none = c
counted_after period s (Late number waits place) c none = c
counted_after period s (Mid number told) c none =
    let misplaced : Bool = not (is_in_round s.turn) || list_any is_due s.since in
    let behind : List FaultKind = kind_if 13 (is_below_last s.details.mids number) ∷ kind_if 14 (nat_le most_mids (length s.details.mids)) ∷ [] in
    let more = least_behind (told_kinds period s told 1) (kind_if 8 misplaced ∷ kind_if 10 (nat_lt most_records (s.records + 1)) ∷ behind) none in
    let within = in_round (is_in_round s.turn) (list_any is_due s.since)
    (first_fails misplaced 8 (first_applying (kind_if 10 (nat_lt most_records (s.records + 1)) ∷ behind)) more) in
    let x : MidRecord = record { number = number; record_read = record_told period told } in
    let grown : records_within s.turn (length (s.details.mids ++ x ∷ [])) ≡ records_within s.turn (length s.details.mids) + 1 =
    ap (records_within s.turn) (length-append s.details.mids (x ∷ [])) ∙ one_within s.turn (length s.details.mids) within in
    omega (arith, c, grown)
counted_after period s (Stop stop) c none = c

-- an accepted schedule has just the records of its steps
pub counts_records : (bytes : List ℕ) (period : ℕ) (said : Said) → said_by_text bytes period ≡ Ok said → said.records ≡ records_in_steps (steps_said said)
unfolding Counted
counts_records bytes period said read =
    steps_kept period Counted (λ words form is s counted none. counted_after period s form counted none) bytes said refl read ∙ sym (all_counted said)

empty_is : (rest : List ℕ) → (length rest == 0) ≡ true → rest ≡ []
empty_is [] none = refl
empty_is (x ∷ xs) none = absurd (let wrong : length (x ∷ xs) ≡ 0 = grind (arith, none) in omega (arith, wrong))

-- so has a schedule that was read to its end
pub counted_steps : (bytes rest : List ℕ) (period number kept : ℕ) (said : Said) (steps : List Seen.Step)
    → said_by_text bytes period ≡ read_lines period number (lines_of rest) said → (length rest == 0) ≡ true
    → kept ≡ period → steps_seen kept steps ≡ steps_said said → said.records ≡ records_in_steps (steps_seen period steps)
counted_steps bytes rest period number kept said steps read none same seen =
    let whole : said_by_text bytes period ≡ Ok said = read ∙ ap (λ (r : List ℕ). read_lines period number (lines_of r) said) (empty_is rest none) in
    counts_records bytes period said whole ∙ ap records_in_steps (sym seen) ∙ ap (λ (n : ℕ). records_in_steps (steps_seen n steps)) same
