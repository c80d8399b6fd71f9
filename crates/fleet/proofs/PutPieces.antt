-- Writes of a sink that numbers lines.
use Rattle.std.proofs.Common.{ℕ, ◌≡◌, Bool, true, false, List, [], ◌++◌, None, refl, sym, ap, subst, ◌∙◌, arith, append-nil, append_assoc}
use Rattle.causes.specs.Cause.{Cause}
use Rattle.causes.specs.Lists.{IsFrontOf}
use Rattle.causes.proofs.WritesInTurn.{writes_nothing}
use Rattle.station_io.specs.declared.sink.Put.{Put}
use Rattle.station_io.specs.declared.sink.Put.TheVariants.{Done, Failed}
use Rattle.station_io.specs.Sink.{Outlet, Emits}
use Rattle.fleet.specs.declared.pen.Pen.{Pen}
use Rattle.fleet.specs.declared.pen.Pen.TheVariants.{AtStart, Inside, Stuck}
use Rattle.fleet.specs.declared.numbered.Numbered.{Numbered}
use Rattle.fleet.specs.Lines.{PenSpells, is_stuck, numbered_lines, pen_after}
use Rattle.fleet.specs.NumberedSink.{PutsPiece, WritesNumbered, writes_none, writes_joins, numbered_outlet, faults_of}
use Rattle.fleet.proofs.Fronts.{cut, front_before, front_behind, pen_free, spells_cut, spells_whole}

-- where the pen is after a write
abbrev pub pen_by : Put → Pen → Pen
pen_by Done pen = pen
pen_by Failed pen = Stuck

pub puts : {K : Type 0} (outlet : Outlet K) (old new : Numbered K) (piece text : List ℕ) (answer : Put)
    → new.out.ghost_name ≡ old.out.ghost_name → new.digit ≡ old.digit → is_stuck old.pen ≡ false
    → text ≡ numbered_lines old.digit old.pen piece → Emits outlet old.out.now text answer new.out.now
    → new.pen ≡ pen_by answer (pen_after old.pen piece) → PutsPiece outlet old piece answer new
puts outlet old new piece text Done same digit free is emits pen =
    let goes_free : is_stuck new.pen ≡ false = ap is_stuck pen ∙ pen_free old.pen piece free in
    let whole : emits.call.written ≡ numbered_lines old.digit old.pen piece = emits.call.writes ∙ is in
    record {
      written = piece;
      writes = refl;
      wrote = record {
        same = same;
        digit = digit;
        text = emits.call.written;
        wrote = emits.call.wrote;
        spells = subst (λ (t : List ℕ). PenSpells old.digit old.pen piece new.pen t) (sym whole)
            (subst (λ (p : Pen). PenSpells old.digit old.pen piece p (numbered_lines old.digit old.pen piece)) (sym pen)
            (spells_whole old.digit old.pen piece free));
        counts = record {
          stays = λ yes. absurd (let no : true ≡ false = sym yes ∙ free in cc);
          never_falls = emits.cause.never_falls;
          rose = λ _ yes. absurd (let no : true ≡ false = sym yes ∙ goes_free in cc);
          still = λ _. emits.still (λ (e : Done ≡ Failed). absurd (let no : Done ≡ Failed = e in cc));
        };
      };
      stuck = goes_free;
    }
puts outlet old new piece text Failed same digit free is emits pen =
    let c = cut old.digit old.pen piece emits.call.written emits.call.writes.0 (emits.call.writes.1 ∙ is) in
    record {
      written = c.written;
      writes = c.front;
      wrote = record {
        same = same;
        digit = digit;
        text = emits.call.written;
        wrote = emits.call.wrote;
        spells = subst (λ (p : Pen). PenSpells old.digit old.pen c.written p emits.call.written) (sym pen)
            (spells_cut old.digit old.pen piece emits.call.written c free);
        counts = record {
          stays = λ yes. absurd (let no : true ≡ false = sym yes ∙ free in cc);
          never_falls = emits.cause.never_falls;
          rose = λ _ _. emits.cause.rose refl;
          still = λ no. absurd (let bad : true ≡ false = ap is_stuck (sym pen) ∙ no in cc);
        };
      };
      stuck = ap is_stuck pen;
    }

-- a write that failed is counted
counted : (p : Bool) → Cause (faults_of p) (faults_of true) (Failed ≡ Failed)
counted true = record { never_falls = omega arith; rose = λ _. omega arith }
counted false = record { never_falls = omega arith; rose = λ _. omega arith }

cause_stuck : (p q : Bool) → q ≡ true → Cause (faults_of p) (faults_of q) (Failed ≡ Failed)
cause_stuck p q e =
    let P : Bool → Type 0 = λ (b : Bool). Cause (faults_of p) (faults_of b) (Failed ≡ Failed) in
    subst P (sym e) (counted p)

-- a pen that is not stuck is free
pub free_of : (pen : Pen) → (pen ≡ Stuck → ⊥) → is_stuck pen ≡ false
free_of AtStart apart = refl
free_of Inside apart = refl
free_of Stuck apart = absurd (apart refl)

-- all was written
pub emits_all : {K : Type 0} (outlet : Outlet K) (old new : Numbered K) (bytes : List ℕ) → is_stuck old.pen ≡ false
    → is_stuck new.pen ≡ false → WritesNumbered outlet old bytes new → Emits (numbered_outlet outlet) old bytes Done new
emits_all outlet old new bytes free goes_free wrote =
    let same : faults_of (is_stuck new.pen) ≡ faults_of (is_stuck old.pen) = ap faults_of (goes_free ∙ sym free) in
    record {
      done = λ _. tt;
      failed = λ e. absurd (let no : Done ≡ Failed = e in cc);
      call = record { written = bytes; writes = refl; wrote = wrote };
      cause = record {
        never_falls = omega (arith, same);
        rose = λ e. absurd (let no : Done ≡ Failed = e in cc);
      };
      still = λ _. same;
    }

-- a front was written
pub emits_front : {K : Type 0} (outlet : Outlet K) (old new : Numbered K) (bytes written : List ℕ) → IsFrontOf written bytes
    → is_stuck new.pen ≡ true → WritesNumbered outlet old written new
    → Emits (numbered_outlet outlet) old bytes Failed new
emits_front outlet old new bytes written front stuck wrote = record {
  done = λ e. absurd (let no : Failed ≡ Done = e in cc);
  failed = λ _. writes_nothing None bytes;
  call = record { written = written; writes = front; wrote = wrote };
  cause = cause_stuck (is_stuck old.pen) (is_stuck new.pen) stuck;
  still = λ no. absurd (no refl);
}

-- So much of the bytes was written, and this is left.
pub record IsLeft {K : Type 0} (outlet : Outlet K) (old : Numbered K) (bytes : List ℕ) (new : Numbered K) (rest : List ℕ)
    : Type 0 where
  pub written : List ℕ
  pub wrote : WritesNumbered outlet old written new
  pub whole : written ++ rest ≡ bytes
  pub free : is_stuck new.pen ≡ false

pub left_all : {K : Type 0} (outlet : Outlet K) (s : Numbered K) (bytes : List ℕ) → is_stuck s.pen ≡ false
    → IsLeft outlet s bytes s bytes
left_all outlet s bytes free = record { written = []; wrote = writes_none outlet s; whole = refl; free = free }

-- one that is stuck writes nothing
pub emits_stuck : {K : Type 0} (outlet : Outlet K) (s : Numbered K) (bytes : List ℕ) → s.pen ≡ Stuck
    → Emits (numbered_outlet outlet) s bytes Failed s
emits_stuck outlet s bytes stuck = emits_front outlet s s bytes [] (bytes, refl) (ap is_stuck stuck) (writes_none outlet s)

pub left_less : {K : Type 0} (outlet : Outlet K) (old mid new : Numbered K) (bytes piece more : List ℕ)
    → IsLeft outlet old bytes mid (piece ++ more) → PutsPiece outlet mid piece Done new → IsLeft outlet old bytes new more
left_less outlet old mid new bytes piece more left puts = record {
  written = left.written ++ piece;
  wrote = writes_joins outlet old mid new left.written piece left.wrote
      (subst (λ (w : List ℕ). WritesNumbered outlet mid w new) puts.writes puts.wrote);
  whole = append_assoc left.written piece more ∙ left.whole;
  free = puts.stuck;
}

pub left_cut : {K : Type 0} (outlet : Outlet K) (old mid new : Numbered K) (bytes piece more : List ℕ)
    → IsLeft outlet old bytes mid (piece ++ more) → PutsPiece outlet mid piece Failed new
    → Emits (numbered_outlet outlet) old bytes Failed new
left_cut outlet old mid new bytes piece more left puts =
    emits_front outlet old new bytes (left.written ++ puts.written)
    (subst (λ (x : List ℕ). IsFrontOf (left.written ++ puts.written) x) left.whole
    (front_behind left.written puts.written (piece ++ more) (front_before puts.written piece more puts.writes)))
    puts.stuck
    (writes_joins outlet old mid new left.written puts.written left.wrote puts.wrote)

pub left_none : {K : Type 0} (outlet : Outlet K) (old new : Numbered K) (bytes : List ℕ) → is_stuck old.pen ≡ false
    → IsLeft outlet old bytes new [] → Emits (numbered_outlet outlet) old bytes Done new
left_none outlet old new bytes free left =
    emits_all outlet old new bytes free left.free
    (subst (λ (w : List ℕ). WritesNumbered outlet old w new) (sym (append-nil left.written) ∙ left.whole) left.wrote)
