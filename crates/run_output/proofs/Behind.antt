-- A step that ended the run, and one that was done.
use Rattle.std.proofs.Common.{◌≡◌, Ok, Err, refl, sym, subst}
use Rattle.std.specs.declared.result.Result.{Result}
use Rattle.run_output.specs.Output.{Output}
use Rattle.run_output.specs.Steps.{CommandStep, Behind, then}

-- a step that ended the run is the last one
pub ended : {W A B : Type 0} (one : CommandStep W A) (next : A → CommandStep W B) (old mid : W) (answer : Result A Output) (result : Result B Output)
    (output : Output) → one old answer mid → answer ≡ Err output → result ≡ Err output → then one next old result mid
ended {W} {A} {B} one next old mid answer result output did is given = record {
  answer = answer;
  mid = mid;
  first = did;
  behind = subst (λ (x : Result A Output). Behind x next mid result mid) (sym is) (given, refl);
}

-- a step that was done is followed by the next
pub went_on : {W A B : Type 0} (one : CommandStep W A) (next : A → CommandStep W B) (old mid new : W) (answer : Result A Output)
    (result : Result B Output) (a : A) → one old answer mid → answer ≡ Ok a → next a mid result new → then one next old result new
went_on {W} {A} {B} one next old mid new answer result a did is more = record {
  answer = answer;
  mid = mid;
  first = did;
  behind = subst (λ (x : Result A Output). Behind x next mid result new) (sym is) more;
}

behind_has : {W A B : Type 0} (Q : Result B Output → Type 0) (one : CommandStep W A) (next : A → CommandStep W B) (old mid new : W) (answer : Result A Output)
    (result : Result B Output) → ((output : Output) → one old (Err output) mid → Q (Err output))
    → ((a : A) → one old (Ok a) mid → next a mid result new → Q result) → one old answer mid → Behind answer next mid result new → Q result
behind_has Q one next old mid new (Ok a) result at_end further did behind = further a did behind
behind_has Q one next old mid new (Err output) result at_end further did behind = subst Q (sym behind.0) (at_end output did)

-- what holds where the step ended the run, and of the next one where it was done, holds of both together
pub then_has : {W A B : Type 0} (Q : Result B Output → Type 0) (one : CommandStep W A) (next : A → CommandStep W B) (old new : W) (result : Result B Output)
    → ((output : Output) (mid : W) → one old (Err output) mid → Q (Err output))
    → ((a : A) (mid : W) → one old (Ok a) mid → next a mid result new → Q result) → then one next old result new → Q result
then_has Q one next old new result at_end further both =
    behind_has Q one next old both.mid new both.answer result (λ output. at_end output both.mid) (λ a. further a both.mid) both.first both.behind
