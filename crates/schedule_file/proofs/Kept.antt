-- What each accepted line keeps holds of what a whole schedule says.
use Rattle.std.proofs.Common.{◌≡◌, ℕ, ◌+◌, Bool, true, false, Option, Some, None, List, [], ◌∷◌, refl, subst, Result, Ok, Err}
use Rattle.std.specs.Prelude.{if◌then◌else◌, not, ◌==◌}
use Rattle.schedule_file.specs.declared.schedule.form.Form.{Form}
use Rattle.schedule_file.specs.Pieces.{lines_of, words_of, is_silent, is_all_plain}
use Rattle.schedule_file.specs.Forms.{form_of}
use Rattle.schedule_file.specs.Steps.{Said, nothing_said}
use Rattle.schedule_file.specs.Kinds.{kinds, first_applying}
use Rattle.schedule_file.specs.Reading.{said_with_form, said_or, accept_read, read_schedule_line, read_lines, next_line, said_by_text, LineFault}

same_ok : {A E : Type 0} (a b : A) → ◌≡◌ {A = Result A E} (Ok a) (Ok b) → a ≡ b
same_ok a b e = cc

module _ (period : ℕ) (P : Said → Type 0)
    (step : (words : List (List ℕ)) (form : Form) → form_of words ≡ Ok form → (s : Said) → P s → first_applying (kinds period s form) ≡ None → P (said_with_form period s form)) where
  accepted : (k : Option ℕ) (s t : Said) (words : List (List ℕ)) (form : Form) → form_of words ≡ Ok form → P s → first_applying (kinds period s form) ≡ k → said_or k (said_with_form period s form) ≡ Ok t → P t
  accepted None s t words form read p none e = subst P (same_ok (said_with_form period s form) t e) (step words form read s p none)
  accepted (Some kind) s t words form read p none e = absurd (let wrong : ⊥ = cc in wrong)

  of_form : (r : Result Form ℕ) (s t : Said) (words : List (List ℕ)) → form_of words ≡ r → P s → accept_read period s r ≡ Ok t → P t
  of_form (Err kind) s t words read p e = absurd (let wrong : ⊥ = cc in wrong)
  of_form (Ok form) s t words read p e = accepted (first_applying (kinds period s form)) s t words form read p refl e

  of_line : (late silent faulty : Bool) (words : List (List ℕ)) (s t : Said) → P s
      → (if late then Err 1 else if silent then Ok s else if faulty then Err 2 else accept_read period s (form_of words)) ≡ Ok t → P t
  of_line true silent faulty words s t p e = absurd (let wrong : ⊥ = cc in wrong)
  of_line false true faulty words s t p e = subst P (same_ok s t e) p
  of_line false false true words s t p e = absurd (let wrong : ⊥ = cc in wrong)
  of_line false false false words s t p e = of_form (form_of words) s t words refl p e

  line_kept : (number : ℕ) (line : List ℕ) (s t : Said) → P s → read_schedule_line period number line s ≡ Ok t → P t
  unfolding read_schedule_line
  line_kept number line s t p e = of_line (number == 10001) (is_silent line) (not (is_all_plain line)) (words_of line) s t p e

  rest_kept : (number : ℕ) (r : Result Said ℕ) (rest : Said → Result Said LineFault) (t : Said) → ((u : Said) → r ≡ Ok u → P u)
      → ((u : Said) → P u → rest u ≡ Ok t → P t) → next_line number r rest ≡ Ok t → P t
  rest_kept number (Err kind) rest t here later e = absurd (let wrong : ⊥ = cc in wrong)
  rest_kept number (Ok u) rest t here later e = later u (here u refl) e

  lines_kept : (number : ℕ) (lines : List (List ℕ)) (s t : Said) → P s → read_lines period number lines s ≡ Ok t → P t
  lines_kept number [] s t p e = subst P (same_ok s t e) p
  lines_kept number (line ∷ lines) s t p e =
      rest_kept number (read_schedule_line period number line s) (λ (said : Said). read_lines period (number + 1) lines said) t
      (λ u read. line_kept number line s u p read) (λ u kept read. lines_kept (number + 1) lines u t kept read) e

  pub steps_kept : (bytes : List ℕ) (t : Said) → P nothing_said → said_by_text bytes period ≡ Ok t → P t
  unfolding said_by_text
  steps_kept bytes t p e = lines_kept 1 (lines_of bytes) nothing_said t p e
