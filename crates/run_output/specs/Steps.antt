-- Steps one after another, up to the first that ends the run.
use Rattle.std.specs.Prelude.{◌≡◌, Ok, Err}
use Rattle.std.specs.declared.result.Result.{Result}
use Rattle.run_output.specs.Output.{Output}

-- What a step does: from what it works on, with this answer, to what is there then.
abbrev pub CommandStep : Type 0 → Type 0 → Type 1
CommandStep W A = W → Result A Output → W → Type 0

-- behind a step that was done the next one is made, and behind one that ended the run nothing
abbrev pub Behind : {W A B : Type 0} → Result A Output → (A → CommandStep W B) → CommandStep W B
Behind (Ok a) next mid result new = next a mid result new
Behind (Err output) next mid result new = (result ≡ Err output) × (new ≡ mid)

-- the one step, and then the next
pub record then {W A B : Type 0} (one : CommandStep W A) (next : A → CommandStep W B) (old : W)
    (result : Result B Output) (new : W) : Type 0 where
  pub answer : Result A Output
  pub mid : W
  pub first : one old answer mid
  pub behind : Behind answer next mid result new

-- nothing more is done, and this is the answer
abbrev pub done : {W A : Type 0} → A → CommandStep W A
done a old result new = (result ≡ Ok a) × (new ≡ old)
