-- What was read, against what was written.
use Rattle.std.proofs.Common.{◌≡◌, ◌≢◌, ℕ, zero, suc, ◌+◌, ◌<◌, ◌==◌, if◌then◌else◌, Bool, true, false, List, [], ◌∷◌}
use Rattle.std.proofs.Common.{length, take, slice_index_or, refl, sym, ◌∙◌, ap, arith}
use Rattle.std.proofs.Math.Seq.{take-length}
use Rattle.std.proofs.lemmas.Bool.{eq-eqb, ne_eqb}
use Rattle.console_tasks.specs.declared.end.TaskEnd.{TaskEnd}
use Rattle.console_tasks.specs.declared.end.TaskEnd.TheVariants as task_end
use Rattle.console_tasks.specs.Memory.{judge_back}
use Rattle.console_tasks.proofs.Troubles.{IsTrouble}

pub take_this : (b : Bool) (x y : TaskEnd) → b ≡ true → (if b then x else y) ≡ x
take_this b x y e = rw e refl

pub take_that : (b : Bool) (x y : TaskEnd) → b ≡ false → (if b then x else y) ≡ y
take_that b x y e = rw e refl

-- the first place that differs
pub back_differs : (at i : ℕ) (sent read : List ℕ) → i < length sent → length read ≡ length sent
    → take i read ≡ take i sent → slice_index_or read i 0 ≢ slice_index_or sent i 0
    → judge_back at sent read ≡ task_end.Differs (at + i) (slice_index_or sent i 0) (slice_index_or read i 0)
back_differs at i [] read below size so ne = absurd (omega arith)
back_differs at i (s ∷ sent) [] below size so ne = absurd (omega arith)
back_differs at zero (s ∷ sent) (r ∷ read) below size so ne =
    let e : at ≡ at + 0 = omega arith in
    take_that (r == s) (judge_back (at + 1) sent read) (task_end.Differs at s r) (ne_eqb r s ne)
    ∙ ap (λ x. task_end.Differs x s r) e
back_differs at (suc i) (s ∷ sent) (r ∷ read) below size so ne =
    let head : r ≡ s = cc in
    let tail : take i read ≡ take i sent = cc in
    let e : at + 1 + i ≡ at + suc i = omega arith in
    take_this (r == s) (judge_back (at + 1) sent read) (task_end.Differs at s r) (eq-eqb r s head)
    ∙ back_differs (at + 1) i sent read (omega arith) (omega arith) tail ne
    ∙ ap (λ x. task_end.Differs x (slice_index_or sent i 0) (slice_index_or read i 0)) e

back_self : (at : ℕ) (sent : List ℕ) → judge_back at sent sent ≡ task_end.Done
back_self at [] = refl
back_self at (s ∷ sent) = take_this (s == s) (judge_back (at + 1) sent sent) (task_end.Differs at s s) (eq-eqb s s refl)
    ∙ back_self (at + 1) sent

pub all_same : (i : ℕ) (sent read : List ℕ) → i ≡ length sent → length read ≡ length sent → take i read ≡ take i sent
    → read ≡ sent
all_same i sent read e size so =
    let f : i ≡ length read = omega arith in
    sym (take-length read) ∙ ap (λ n. take n read) (sym f) ∙ so ∙ ap (λ n. take n sent) e ∙ take-length sent

-- no place differs
pub back_same : (at : ℕ) (sent read : List ℕ) → read ≡ sent → judge_back at sent read ≡ task_end.Done
back_same at sent read e = ap (judge_back at sent) e ∙ back_self at sent

back_by : (b : Bool) (x : TaskEnd) (at s r : ℕ) → (x ≢ task_end.Done → IsTrouble x)
    → (if b then x else task_end.Differs at s r) ≢ task_end.Done → IsTrouble (if b then x else task_end.Differs at s r)
back_by true x at s r h ne = h ne
back_by false x at s r h ne = tt

-- one that does is a trouble
pub back_trouble : (at : ℕ) (sent read : List ℕ) → judge_back at sent read ≢ task_end.Done → IsTrouble (judge_back at sent read)
back_trouble at [] read ne = absurd (ne refl)
back_trouble at (s ∷ sent) [] ne = absurd (ne refl)
back_trouble at (s ∷ sent) (r ∷ read) ne =
    back_by (r == s) (judge_back (at + 1) sent read) at s r (back_trouble (at + 1) sent read) ne
