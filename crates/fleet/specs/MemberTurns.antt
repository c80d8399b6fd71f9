-- What members that take turns tell, and what one turn does.
use Rattle.std.specs.Prelude.{ℕ, ◌≡◌, ◌≢◌, ◌<◌, List, [], ◌∷◌, ◌++◌}
use Rattle.std.proofs.Common.{refl}
use Rattle.causes.specs.Cause.{Cause}
use Rattle.station_io.specs.Sink.{Outlet}
use Rattle.fleet.specs.declared.member.MemberTurn.{MemberTurn}
use Rattle.fleet.specs.declared.member.MemberTurn.TheVariants.{More, Ended, Unseen, WriteFault, OutOfMemory}
use Rattle.fleet.specs.Lines.{AreLines}

-- A text of the first kind, and one of the second behind it.
pub record Both (P Q : List ℕ → Type 0) (text : List ℕ) : Type 0 where
  pub first : List ℕ
  pub later : List ℕ
  pub whole : text ≡ first ++ later
  pub first_is : P first
  pub later_is : Q later

-- one text behind another
pub texts_join : {P Q : List ℕ → Type 0} (first later : List ℕ) → P first → Q later → Both P Q (first ++ later)
texts_join first later p q = record { first = first; later = later; whole = refl; first_is = p; later_is = q }

-- What members of type M tell: that one may take a turn; how many turns are left at most; that one became another by
-- turns of its own with these answers, in which it wrote a text of this kind. The kind is whatever is known of the
-- text, so that a member need not choose one. A member becomes itself by no turns, turns behind others are turns with
-- them, and what is known of a text may be said less exactly.
pub record Turning (M : Type 0) : Type 1 where
  pub may_turn : M → Type 0
  pub left : M → ℕ
  pub turned : M → List MemberTurn → (List ℕ → Type 0) → M → Type 0
  pub turned_none : (m : M) → turned m [] (λ text. text ≡ []) m
  pub turned_joins : (l m n : M) (first later : List MemberTurn) (P Q : List ℕ → Type 0)
      → turned l first P m → turned m later Q n → turned l (first ++ later) (Both P Q) n
  pub turned_wider : (l m : M) (answers : List MemberTurn) (P Q : List ℕ → Type 0)
      → ((text : List ℕ) → P text → Q text) → turned l answers P m → turned l answers Q m

-- what a turn with this answer writes: whole lines, unless it was cut off
abbrev pub WritesWhole : MemberTurn → List ℕ → Type 0
WritesWhole More bytes = AreLines bytes
WritesWhole Ended bytes = AreLines bytes
WritesWhole Unseen bytes = AreLines bytes
WritesWhole WriteFault bytes = Unit {0}
WritesWhole OutOfMemory bytes = Unit {0}

-- These bytes were written in a turn with this answer.
pub record WritesLines {K : Type 0} (outlet : Outlet K) (before : K) (answer : MemberTurn) (after : K) (bytes : List ℕ)
    : Type 0 where
  pub lines : WritesWhole answer bytes
  pub wrote : outlet.wrote before bytes after

-- One turn was taken with this answer, and some text was written; the member turned, whatever that text is. Where more
-- is to come the next turn may be taken, and fewer are left. A write fault is answered only where the sink's faults
-- rose.
pub record MemberTakesTurn {M K : Type 0} (turning : Turning M) (outlet : Outlet K) (old : M) (before : K)
    (answer : MemberTurn) (new : M) (after : K) : Type 0 where
  pub written : List ℕ
  pub writes : WritesLines outlet before answer after written
  pub turned : turning.turned old (answer ∷ []) (WritesLines outlet before answer after) new
  pub goes_on : answer ≡ More → turning.may_turn new
  pub falls : answer ≡ More → turning.left new < turning.left old
  pub cause : Cause (outlet.faults before) (outlet.faults after) (answer ≡ WriteFault)
  pub still : answer ≢ WriteFault → outlet.faults after ≡ outlet.faults before
