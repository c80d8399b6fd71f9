-- Each fault that ends a run has a cause, whatever steps it was made of.
use Rattle.std.proofs.Common.{ℕ, ◌≤◌, Bool, List, [], ◌++◌, Ok, Err, inl, inr, refl, sym, ap, subst, ◌∙◌, arith}
use Rattle.std.specs.Prelude.{◌||◌}
use Rattle.std.specs.declared.result.Result.{Result}
use Rattle.causes.specs.Cause.{Cause, Rose}
use Rattle.disk_model.specs.Medium.{Medium}
use Rattle.gated_log.specs.Calls.{any_failed}
use Rattle.gated_log.proofs.CallsMade.{any_join}
use Rattle.run_output.specs.Causes.{CountsFault, CountsDisks, HasCauses, HasCausesBut, WentWell}
use Rattle.run_output.specs.Ended.{EndsAmong, EndsBy, IsOneOf}
use Rattle.run_output.specs.Output.{Output}
use Rattle.run_output.specs.Outside.{Meanings}
use Rattle.run_output.specs.Steps.{Behind, CommandStep, then}
use Rattle.run_output.specs.declared.outside.Outside.{Outside}
use Rattle.run_output.specs.declared.status.Status.{Status}
use Rattle.run_output.specs.declared.status.Status.TheVariants.{DiskFault, LinkFault, ReadFault, WriteFault}

-- each fault that this step answers has a cause
abbrev pub Causes : {F K L D A : Type 0} → Meanings F K L D → CommandStep (Outside F K L D) A → Type 0
Causes {F} {K} {L} {D} {A} m step =
    (old new : Outside F K L D) (result : Result A Output) → step old result new → HasCauses m old result new

-- so has it where this cuts the run off
abbrev pub CausesBut : {F K L D A : Type 0} → Meanings F K L D → (Result A Output → Type 0) → CommandStep (Outside F K L D) A → Type 0
CausesBut {F} {K} {L} {D} {A} m Cut step =
    (old new : Outside F K L D) (result : Result A Output) → step old result new → HasCausesBut m (Cut result) old result new

-- no call
pub none_well : {D : Type 0} (medium : Medium D) (disk : D) → WentWell medium disk disk
none_well {D} medium disk = record { calls = []; by = medium.went_none disk; well = refl }

-- calls of which none failed, and others after them
pub went_well : {D : Type 0} (medium : Medium D) (old mid new : D) → WentWell medium old mid → WentWell medium mid new → WentWell medium old new
went_well medium old mid new one two = record {
  calls = one.calls ++ two.calls;
  by = medium.went_joins old mid new one.calls two.calls one.by two.by;
  well = any_join one.calls two.calls ∙ ap (λ (t : Bool). t || any_failed two.calls) one.well ∙ two.well;
}

-- a count that rose later rose, and so did one that rose before
pub rose_later : (a b c : ℕ) → a ≤ b → Rose b c → Rose a c
rose_later a b c le rose = omega arith

pub rose_before : (a b c : ℕ) → Rose a b → b ≤ c → Rose a c
rose_before a b c rose le = omega arith

-- a part that is not touched
pub same_cause : {fault : Type 0} (n : ℕ) → ¬ fault → Cause n n fault
same_cause n never = record { never_falls = omega arith; rose = λ is. absurd (never is) }

pub same_count : {fault cut : Type 0} (n : ℕ) → ¬ fault → CountsFault n n fault cut
same_count n never = record { cause = same_cause n never; still = λ _ _. refl }

pub same_disks : {D fault cut : Type 0} (medium : Medium D) (disk second : D) → ¬ fault → CountsDisks medium disk second disk second fault cut
same_disks medium disk second never = record {
  rose = λ is. absurd (never is);
  disk_never_falls = omega arith;
  second_never_falls = omega arith;
  disk_well = λ _ _. none_well medium disk;
  second_well = λ _ _. none_well medium second;
}

-- without a call no fault is answered
pub still : {F K L D A : Type 0} (m : Meanings F K L D) (world : Outside F K L D) (result : Result A Output)
    → ¬ (EndsBy ReadFault result) → ¬ (EndsBy WriteFault result) → ¬ (EndsBy LinkFault result) → ¬ (EndsBy DiskFault result)
    → HasCauses m world result world
still m world result read write link disk = record {
  files = same_count (m.shelf.faults world.files) read;
  sink = same_count (m.outlet.faults world.out) write;
  link = same_cause (m.traffic.faults world.link) link;
  disks = same_disks m.medium world.disk world.second disk;
}

-- what was done before had no fault, and what was done behind it has causes
join_causes : {one two : Type 0} (a b c : ℕ) → Cause a b one → Cause b c two → Cause a c two
join_causes a b c before behind =
    record { never_falls = omega (arith, before.never_falls, behind.never_falls); rose = λ is. rose_later a b c before.never_falls (behind.rose is) }

join_counts : {one cut two later : Type 0} (a b c : ℕ) → ¬ one → ¬ cut → CountsFault a b one cut → CountsFault b c two later → CountsFault a c two later
join_counts a b c never none before behind = record {
  cause = join_causes a b c before.cause behind.cause;
  still = λ fault write. behind.still fault write ∙ before.still never none;
}

join_disks : {D one cut two later : Type 0} (medium : Medium D) (d0 s0 d1 s1 d2 s2 : D) → ¬ one → ¬ cut → CountsDisks medium d0 s0 d1 s1 one cut
    → CountsDisks medium d1 s1 d2 s2 two later → CountsDisks medium d0 s0 d2 s2 two later
join_disks medium d0 s0 d1 s1 d2 s2 never none before behind = record {
  rose = λ is. elim (behind.rose is) [
    | inl rose ↦ inl (rose_later _ _ _ before.disk_never_falls rose)
    | inr rose ↦ inr (rose_later _ _ _ before.second_never_falls rose)
  ];
  disk_never_falls = omega (arith, before.disk_never_falls, behind.disk_never_falls);
  second_never_falls = omega (arith, before.second_never_falls, behind.second_never_falls);
  disk_well = λ disk write. went_well medium d0 d1 d2 (before.disk_well never none) (behind.disk_well disk write);
  second_well = λ disk write. went_well medium s0 s1 s2 (before.second_well never none) (behind.second_well disk write);
}

-- so it is where more cuts a step off
pub wider : {F K L D A : Type 0} {cut wide : Type 0} (m : Meanings F K L D) (old new : Outside F K L D) (result : Result A Output) → (cut → wide)
    → HasCausesBut m cut old result new → HasCausesBut m wide old result new
wider m old new result more has = record {
  files = has.files;
  sink = has.sink;
  link = has.link;
  disks = record {
    rose = has.disks.rose;
    disk_never_falls = has.disks.disk_never_falls;
    second_never_falls = has.disks.second_never_falls;
    disk_well = λ fault never. has.disks.disk_well fault (λ is. never (more is));
    second_well = λ fault never. has.disks.second_well fault (λ is. never (more is));
  };
}

-- what was done before a step that has causes had them too
joined : {F K L D A B cut : Type 0} (m : Meanings F K L D) (old mid new : Outside F K L D) (a : A) (result : Result B Output)
    → HasCauses m old (let r : Result A Output = Ok a in r) mid → HasCausesBut m cut mid result new → HasCausesBut m cut old result new
joined m old mid new a result one two = record {
  files = join_counts _ _ _ (λ no. no) (λ no. no) one.files two.files;
  sink = join_counts _ _ _ (λ no. no) (λ no. no) one.sink two.sink;
  link = join_causes _ _ _ one.link two.link;
  disks = join_disks m.medium _ _ _ _ _ _ (λ no. no) (λ no. no) one.disks two.disks;
}

module _ {F K L D A B : Type 0} (m : Meanings F K L D) (Cut : Result B Output → Type 0) (one : CommandStep (Outside F K L D) A)
    (next : A → CommandStep (Outside F K L D) B) (first : Causes m one) (each : (a : A) → CausesBut m Cut (next a))
    (cuts : (output : Output) → EndsBy WriteFault (let r : Result B Output = Err output in r) → Cut (Err output)) where
  behind_causes : (old mid new : Outside F K L D) (answer : Result A Output) (result : Result B Output) → HasCauses m old answer mid
      → Behind answer next mid result new → HasCausesBut m (Cut result) old result new
  behind_causes old mid new (Ok a) result has behind = joined m old mid new a result has (each a mid new result behind)
  behind_causes old mid new (Err output) result has behind =
      subst (λ (r : Result B Output). HasCausesBut m (Cut r) old r new) (sym behind.0)
      (subst (λ (w : Outside F K L D). HasCausesBut m (Cut (Err output)) old (let r : Result B Output = Err output in r) w) (sym behind.1)
      (wider m old mid (let r : Result B Output = Err output in r) (cuts output) has))

  -- where the one step has causes, and each that may follow it, so have both
  pub then_causes_but : CausesBut m Cut (then one next)
  then_causes_but old new result both = behind_causes old both.mid new both.answer result (first old both.mid both.answer both.first) both.behind

pub then_causes : {F K L D A B : Type 0} (m : Meanings F K L D) (one : CommandStep (Outside F K L D) A) (next : A → CommandStep (Outside F K L D) B)
    → Causes m one → ((a : A) → Causes m (next a)) → Causes m (then one next)
then_causes m one next first each = then_causes_but m (EndsBy WriteFault) one next first each (λ output is. is)

-- a write that failed is one of these statuses
pub among : {F K L D A : Type 0} (m : Meanings F K L D) (statuses : List Status) (step : CommandStep (Outside F K L D) A)
    → IsOneOf statuses WriteFault → Causes m step → CausesBut m (EndsAmong statuses) step
among {F} {K} {L} {D} {A} m statuses step has causes old new (Ok a) did = wider m old new (let r : Result A Output = Ok a in r) (λ is. is) (causes old new (Ok a) did)
among {F} {K} {L} {D} {A} m statuses step has causes old new (Err output) did =
    wider m old new (let r : Result A Output = Err output in r) (λ is. subst (IsOneOf statuses) (sym is) has) (causes old new (Err output) did)
