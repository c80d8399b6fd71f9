-- Visitors of a log that count the slots.
use Rattle.std.proofs.Common.{arith, length-append}
use Rattle.std.specs.Prelude.{◌≡◌, ℕ, ◌+◌, List, [], ◌++◌, length}
use Rattle.gated_log.specs.declared.version.Version.{Version}
use Rattle.gated_log.specs.Visits.{Visits}

pub none_counted : (n : ℕ) → n ≡ n + 0
none_counted n = omega arith

pub slots_counted_join : (n m k : ℕ) (first later : List (List ℕ)) → m ≡ n + length first → k ≡ m + length later
    → k ≡ n + length (first ++ later)
slots_counted_join n m k first later one two = omega (arith, one, two, length-append first later)

-- what slots are to visitors that have such a count
abbrev pub counting : {V : Type 0} → (V → ℕ) → Visits V
counting count = record {
  saw = λ version old slots new. count new ≡ count old + length slots;
  count = count;
  saw_none = λ version v. none_counted (count v);
  saw_joins = λ version u v w first later one two. slots_counted_join (count u) (count v) (count w) first later one two;
  counts = λ version u v slots counted. counted;
}
