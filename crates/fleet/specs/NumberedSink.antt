-- What a sink tells that puts the number of a station before each line and hands it on.
use Rattle.std.specs.Prelude.{ℕ, ◌≡◌, ◌≤◌, ◌-◌, ◌^◌, Bool, true, false, List, [], ◌++◌, None}
use Rattle.std.proofs.Common.{refl, sym, subst, ◌∙◌, arith}
use Rattle.causes.specs.Cause.{Rose}
use Rattle.station_io.specs.declared.sink.Put.{Put}
use Rattle.station_io.specs.declared.sink.Put.TheVariants.{Done, Failed}
use Rattle.station_io.specs.Sink.{Outlet, SinkWrites}
use Rattle.fleet.specs.declared.numbered.Numbered.{Numbered}
use Rattle.fleet.specs.Lines.{PenSpells, is_stuck}
use Rattle.fleet.specs.PenLaws.{spells_none, spells_joins}

-- Once a write failed none is made any more. A count of faults stands as it was where none failed, and rose where one
-- did.
pub record SinkCounts (stuck_before stuck_after : Bool) (before after : ℕ) : Type 0 where
  pub stays : stuck_before ≡ true → stuck_after ≡ true
  pub never_falls : before ≤ after
  pub rose : stuck_before ≡ false → stuck_after ≡ true → Rose before after
  pub still : stuck_after ≡ false → after ≡ before

pub counts_none : (stuck : Bool) (n : ℕ) → SinkCounts stuck stuck n n
counts_none stuck n = record {
  stays = λ yes. yes;
  never_falls = omega arith;
  rose = λ no yes. absurd (let bad : true ≡ false = sym yes ∙ no in cc);
  still = λ _. refl;
}

pub counts_joins : (p q r : Bool) (a b c : ℕ) → SinkCounts p q a b → SinkCounts q r b c → SinkCounts p r a c
counts_joins p true r a b c one two = record {
  stays = λ _. two.stays refl;
  never_falls = omega (arith, one.never_falls, two.never_falls);
  rose = λ no yes. let here : Rose a b = one.rose no refl in omega (arith, here, two.never_falls);
  still = λ free. absurd (let bad : true ≡ false = sym (two.stays refl) ∙ free in cc);
}
counts_joins p false r a b c one two = record {
  stays = λ yes. absurd (let bad : true ≡ false = sym (one.stays yes) in cc);
  never_falls = omega (arith, one.never_falls, two.never_falls);
  rose = λ no yes. let here : Rose b c = two.rose refl yes in omega (arith, here, one.never_falls);
  still = λ free. two.still free ∙ one.still refl;
}

-- The same sink is written to, for the same station: these bytes, each line with its head.
pub record WritesNumbered {K : Type 0} (outlet : Outlet K) (old : Numbered K) (bytes : List ℕ) (new : Numbered K)
    : Type 0 where
  pub same : new.out.ghost_name ≡ old.out.ghost_name
  pub digit : new.digit ≡ old.digit
  pub text : List ℕ
  pub wrote : outlet.wrote old.out.now text new.out.now
  pub spells : PenSpells old.digit old.pen bytes new.pen text
  pub counts : SinkCounts (is_stuck old.pen) (is_stuck new.pen) (outlet.faults old.out.now) (outlet.faults new.out.now)

pub writes_none : {K : Type 0} (outlet : Outlet K) (s : Numbered K) → WritesNumbered outlet s [] s
writes_none outlet s = record {
  same = refl;
  digit = refl;
  text = [];
  wrote = outlet.wrote_none s.out.now;
  spells = spells_none s.digit s.pen;
  counts = counts_none (is_stuck s.pen) (outlet.faults s.out.now);
}

pub writes_joins : {K : Type 0} (outlet : Outlet K) (s t u : Numbered K) (xs ys : List ℕ) → WritesNumbered outlet s xs t
    → WritesNumbered outlet t ys u → WritesNumbered outlet s (xs ++ ys) u
writes_joins outlet s t u xs ys one two = record {
  same = two.same ∙ one.same;
  digit = two.digit ∙ one.digit;
  text = one.text ++ two.text;
  wrote = outlet.wrote_joins s.out.now t.out.now u.out.now one.text two.text one.wrote two.wrote;
  spells = spells_joins s.digit s.pen t.pen u.pen xs ys one.text two.text one.spells
      (subst (λ (n : ℕ). PenSpells n t.pen ys u.pen two.text) one.digit two.spells);
  counts = counts_joins (is_stuck s.pen) (is_stuck t.pen) (is_stuck u.pen) (outlet.faults s.out.now)
      (outlet.faults t.out.now)
      (outlet.faults u.out.now) one.counts two.counts;
}

-- whether it failed
abbrev pub failed : Put → Bool
failed Done = false
failed Failed = true

-- A count that stands at its end once a write failed.
abbrev pub faults_of : Bool → ℕ
faults_of true = 2 ^ 64 - 1
faults_of false = 0

-- what it tells
abbrev pub numbered_outlet : {K : Type 0} → Outlet K → Outlet (Numbered K)
numbered_outlet outlet = record {
  taken = λ _. None;
  faults = λ s. faults_of (is_stuck s.pen);
  wrote = WritesNumbered outlet;
  wrote_none = writes_none outlet;
  wrote_joins = writes_joins outlet;
}

-- A write of this piece gave this answer, and the pen is stuck where it failed.
pub record PutsPiece {K : Type 0} (outlet : Outlet K) (old : Numbered K) (piece : List ℕ) (answer : Put)
    (new : Numbered K) : Type 0 where
  pub written : List ℕ
  pub writes : SinkWrites answer piece written
  pub wrote : WritesNumbered outlet old written new
  pub stuck : is_stuck new.pen ≡ failed answer
