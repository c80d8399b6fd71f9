-- What is known of a line's form: messages and changes are counted from 1.
use Rattle.std.proofs.Common.{◌≡◌, ℕ, ◌≤◌, Bool, true, false, List, [], ◌∷◌, Option, Some, None, Result, Ok, refl, subst}
use Rattle.std.specs.Prelude.{◌&&◌, nat_le, if◌then◌else◌, option_map, codes}
use Rattle.std.specs.List.{AllByRecursion}
use Rattle.std.specs.Str.{bytes_eq}
use Rattle.std.proofs.lemmas.Bool.{and_parts, leb-true}
use Rattle.numerals.specs.Numeral.{decimal_within}
use Rattle.numerals.specs.Then.{◌>>=◌}
use Rattle.numerals.proofs.PassedTests.{only_if_some}
use Rattle.schedule_file.specs.declared.fate.Fate.{Fate}
use Rattle.schedule_file.specs.declared.schedule.form.Form.{Form}
use Rattle.schedule_file.specs.declared.schedule.form.Form.TheVariants.{Due, Run, Idle, Open, Round, Host, Reply, Late, Mid, Stop}
use Rattle.schedule_file.specs.Words.{number_in_word, schedule_number_within, count_in_word, fate_of}
use Rattle.schedule_file.specs.Forms.{FormEntry, entries, form_by, form_of, or_misspelled, told_in_words, due_form, run_in, idle_in, open_in, round_in, host_in, reply_in, answer_in, late_form, mid_in, stop_in}

-- the message of a record, and the change of a stop, are at least 1
abbrev pub CountsFromOne : Form → Type 0
CountsFromOne (Due told) = Unit {0}
CountsFromOne (Run first count) = Unit {0}
CountsFromOne (Idle ticks) = Unit {0}
CountsFromOne Open = Unit {0}
CountsFromOne Round = Unit {0}
CountsFromOne (Host number fate) = Unit {0}
CountsFromOne (Reply number fate) = Unit {0}
CountsFromOne (Late number waits place) = Unit {0}
CountsFromOne (Mid number told) = 1 ≤ number
CountsFromOne (Stop stop) = 1 ≤ stop.change

then_some : {A : Type 0} (o : Option A) (k : A → Option Form) (form : Form) (P : Type 0) → ((a : A) → o ≡ Some a → k a ≡ Some form → P) → (o >>= k) ≡ Some form → P
then_some None k form P each is = absurd (let wrong : ⊥ = cc in wrong)
then_some (Some a) k form P each is = each a refl is

same_form : (a b : Form) → ◌≡◌ {A = Option Form} (Some a) (Some b) → a ≡ b
same_form a b is = cc

is_form : (a b : Form) → CountsFromOne a → ◌≡◌ {A = Option Form} (Some a) (Some b) → CountsFromOne b
is_form a b counts is = subst CountsFromOne (same_form a b is) counts

no_form : (form : Form) → ◌≡◌ {A = Option Form} None (Some form) → CountsFromOne form
no_form form is = absurd (let wrong : ⊥ = cc in wrong)

least_by : (o : Option ℕ) (m : ℕ) → (o >>= (λ n. if nat_le 1 n && nat_le n 9999999 then Some n else None)) ≡ Some m → 1 ≤ m
least_by None m is = absurd (let wrong : ⊥ = cc in wrong)
least_by (Some n) m is =
    let within = only_if_some (nat_le 1 n && nat_le n 9999999) n m is in
    subst (λ (k : ℕ). 1 ≤ k) within.1 (leb-true 1 n (and_parts (nat_le 1 n) (nat_le n 9999999) within.0).0)

-- what is counted is at least 1
count_least : (word : List ℕ) (n : ℕ) → count_in_word word ≡ Some n → 1 ≤ n
unfolding decimal_within
count_least word n is = least_by (number_in_word word) n is

IsMeant : (List (List ℕ) → Option Form) → Type 0
IsMeant form_in = (words : List (List ℕ)) (form : Form) → form_in words ≡ Some form → CountsFromOne form

due_meant : IsMeant due_form
unfolding IsMeant
due_meant [] form is = no_form form is
due_meant (date ∷ []) form is = no_form form is
due_meant (date ∷ time ∷ words) form is = then_some (told_in_words date time words) (λ told. Some (Due told)) form (CountsFromOne form) (λ told said same. is_form (Due told) form tt same) is

run_meant : IsMeant run_in
unfolding IsMeant
run_meant [] form is = no_form form is
run_meant (date ∷ []) form is = no_form form is
run_meant (date ∷ time ∷ []) form is = no_form form is
run_meant (date ∷ time ∷ count ∷ words) form is =
    then_some (count_in_word count) (λ n. told_in_words date time words >>= (λ first. Some (Run first n))) form (CountsFromOne form)
    (λ n counted then_is. then_some (told_in_words date time words) (λ first. Some (Run first n)) form (CountsFromOne form) (λ first said same. is_form (Run first n) form tt same) then_is) is

idle_meant : IsMeant idle_in
unfolding IsMeant
idle_meant [] form is = no_form form is
idle_meant (ticks ∷ []) form is = then_some (schedule_number_within 1 100 ticks) (λ n. Some (Idle n)) form (CountsFromOne form) (λ n said same. is_form (Idle n) form tt same) is
idle_meant (ticks ∷ word ∷ words) form is = no_form form is

open_meant : IsMeant open_in
unfolding IsMeant
open_meant [] form is = is_form Open form tt is
open_meant (word ∷ words) form is = no_form form is

round_meant : IsMeant round_in
unfolding IsMeant
round_meant [] form is = is_form Round form tt is
round_meant (word ∷ words) form is = no_form form is

host_meant : IsMeant host_in
unfolding IsMeant
host_meant [] form is = no_form form is
host_meant (number ∷ words) form is =
    then_some (count_in_word number) (λ n. fate_of words >>= (λ fate. Some (Host n fate))) form (CountsFromOne form)
    (λ n counted then_is. then_some (fate_of words) (λ fate. Some (Host n fate)) form (CountsFromOne form) (λ fate said same. is_form (Host n fate) form tt same) then_is) is

late_meant : (number : ℕ) → IsMeant (late_form number)
unfolding IsMeant
late_meant number [] form is = no_form form is
late_meant number (waits ∷ []) form is = no_form form is
late_meant number (waits ∷ place ∷ []) form is =
    then_some (number_in_word waits) (λ k. number_in_word place >>= (λ p. Some (Late number k p))) form (CountsFromOne form)
    (λ k read then_is. then_some (number_in_word place) (λ p. Some (Late number k p)) form (CountsFromOne form) (λ p said same. is_form (Late number k p) form tt same) then_is) is
late_meant number (waits ∷ place ∷ word ∷ words) form is = no_form form is

fate_meant : (number : ℕ) (fate : Option Fate) (form : Form) → option_map (Reply number) fate ≡ Some form → CountsFromOne form
fate_meant number None form is = no_form form is
fate_meant number (Some fate) form is = is_form (Reply number fate) form tt is

answer_by : (late : Bool) (number : ℕ) (words : List (List ℕ)) (fate : Option Fate) (form : Form) → (if late then late_form number words else option_map (Reply number) fate) ≡ Some form → CountsFromOne form
unfolding IsMeant
answer_by true number words fate form is = late_meant number words form is
answer_by false number words fate form is = fate_meant number fate form is

answer_meant : (number : ℕ) → IsMeant (answer_in number)
unfolding IsMeant
answer_meant number [] form is = no_form form is
answer_meant number (word ∷ words) form is = answer_by (bytes_eq word (codes "late")) number words (fate_of (word ∷ words)) form is

reply_meant : IsMeant reply_in
unfolding IsMeant
reply_meant [] form is = no_form form is
reply_meant (number ∷ words) form is = then_some (count_in_word number) (λ n. answer_in n words) form (CountsFromOne form) (λ n counted then_is. answer_meant n words form then_is) is

mid_meant : IsMeant mid_in
unfolding IsMeant
mid_meant [] form is = no_form form is
mid_meant (number ∷ []) form is = no_form form is
mid_meant (number ∷ date ∷ []) form is = no_form form is
mid_meant (number ∷ date ∷ time ∷ words) form is =
    then_some (count_in_word number) (λ n. told_in_words date time words >>= (λ told. Some (Mid n told))) form (CountsFromOne form)
    (λ n counted then_is. then_some (told_in_words date time words) (λ told. Some (Mid n told)) form (CountsFromOne form)
    (λ told said same. is_form (Mid n told) form (count_least number n counted) same) then_is) is

stop_meant : IsMeant stop_in
unfolding IsMeant
stop_meant [] form is = no_form form is
stop_meant (change ∷ []) form is = no_form form is
stop_meant (change ∷ pick ∷ []) form is =
    then_some (count_in_word change) (λ k. number_in_word pick >>= (λ p. Some (Stop (record { change = k; pick = p })))) form (CountsFromOne form)
    (λ k counted then_is. then_some (number_in_word pick) (λ p. Some (Stop (record { change = k; pick = p }))) form (CountsFromOne form)
    (λ p said same. is_form (Stop (record { change = k; pick = p })) form (count_least change k counted) same) then_is) is
stop_meant (change ∷ pick ∷ word ∷ words) form is = no_form form is

all_meant : AllByRecursion (λ (e : FormEntry). IsMeant e.form) entries
all_meant = (due_meant, (run_meant, (idle_meant, (open_meant, (round_meant, (host_meant, (reply_meant, (mid_meant, (stop_meant, tt)))))))))

spelled : (o : Option Form) (form : Form) → or_misspelled o ≡ Ok form → o ≡ Some form
spelled None form is = absurd (let wrong : ⊥ = cc in wrong)
spelled (Some other) form is = cc

entry_by : (here : Bool) (e : FormEntry) (rest : Result Form ℕ) (words : List (List ℕ)) (form : Form) → IsMeant e.form → (rest ≡ Ok form → CountsFromOne form)
    → (if here then or_misspelled (e.form words) else rest) ≡ Ok form → CountsFromOne form
unfolding IsMeant
entry_by true e rest words form meant later is = meant words form (spelled (e.form words) form is)
entry_by false e rest words form meant later is = later is

by_meant : (es : List FormEntry) (word : List ℕ) (words : List (List ℕ)) (form : Form) → AllByRecursion (λ (e : FormEntry). IsMeant e.form) es → form_by es word words ≡ Ok form → CountsFromOne form
by_meant [] word words form all is = absurd (let wrong : ⊥ = cc in wrong)
by_meant (e ∷ es) word words form all is = entry_by (bytes_eq word e.word) e (form_by es word words) words form all.0 (by_meant es word words form all.1) is

-- the form of a line counts from 1
pub form_counts : (words : List (List ℕ)) (form : Form) → form_of words ≡ Ok form → CountsFromOne form
unfolding form_of
form_counts [] form is = absurd (let wrong : ⊥ = cc in wrong)
form_counts (word ∷ words) form is = by_meant entries word words form all_meant is
