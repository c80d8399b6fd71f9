-- One turn of one of several stations.
use Rattle.std.proofs.Common.{ℕ, ◌≡◌, ◌≢◌, ◌<◌, ◌≤◌, ◌+◌, ◌-◌, ◌==◌, Bool, true, false, List, [], ◌∷◌, ◌++◌, length, Some, refl, sym, ap, subst, ◌∙◌, arith, set, get_or-set_same, get_or-set_other}
use Rattle.std.specs.Prelude.{slice_get, slice_index_or, nat_lt}
use Rattle.std.proofs.lemmas.Bool.Decides.{nat_tests}
use Rattle.std.proofs.lemmas.List.{length-set}
use Rattle.std.proofs.lemmas.Option.{slice_get-get_or, slice_get_past}
use Rattle.causes.specs.Cause.{Cause, Rose}
use Rattle.station_io.specs.Sink.{Outlet}
use Rattle.fleet.specs.declared.member.MemberTurn.{MemberTurn}
use Rattle.fleet.specs.declared.member.MemberTurn.TheVariants.{More, Ended, WriteFault}
use Rattle.fleet.specs.declared.pen.Pen.{Pen}
use Rattle.fleet.specs.declared.pen.Pen.TheVariants.{AtStart}
use Rattle.fleet.specs.declared.numbered.Numbered.{Numbered}
use Rattle.fleet.specs.Crew.{Crew, StationIsOpen, CrewIsReady, OneTurn}
use Rattle.fleet.specs.NumberedSink.{WritesNumbered, faults_of, numbered_outlet}
use Rattle.fleet.specs.Lines.{PenSpells, is_stuck, with_station_number}
use Rattle.fleet.specs.MemberTurns.{MemberTakesTurn, Turning, WritesLines}
use Rattle.fleet.specs.TurnText.{TurnEntry, WritesTurn}

-- what a list has behind a write of one place
get_set : {A : Type 0} (xs : List A) (i : ℕ) (y : A) → i < length xs → slice_get (set xs i y) i ≡ Some y
get_set xs i y within =
    slice_get-get_or (set xs i y) i y (omega (arith, within, length-set xs i y)) ∙ ap Some (get_or-set_same xs i y y within)

within_or_past : {A : Type 0} (xs : List A) (i k : ℕ) (y : A) → k ≢ i → (test : Bool) → nat_lt k (length xs) ≡ test
    → slice_get (set xs i y) k ≡ slice_get xs k
within_or_past xs i k y apart true below =
    let within : k < length xs = grind (arith, nat_tests) in
    slice_get-get_or (set xs i y) k y (omega (arith, within, length-set xs i y))
    ∙ ap Some (get_or-set_other xs i k y y apart) ∙ sym (slice_get-get_or xs k y within)
within_or_past xs i k y apart false above =
    let beyond : length xs ≤ k = grind (arith, nat_tests) in
    slice_get_past (set xs i y) k (omega (arith, beyond, length-set xs i y)) ∙ sym (slice_get_past xs k beyond)

get_other : {A : Type 0} (xs : List A) (i k : ℕ) (y : A) → k ≢ i → slice_get (set xs i y) k ≡ slice_get xs k
get_other xs i k y apart = within_or_past xs i k y apart _ refl

-- What a turn of a member is for its station, and for the sink without the numbers.
pub record MemberTook {M K : Type 0} (turning : Turning M) (outlet : Outlet K) (e : TurnEntry K) (before after : M) : Type 0 where
  pub written : List ℕ
  pub writes : WritesTurn outlet e written
  pub turned : turning.turned before (e.answer ∷ []) (WritesTurn outlet e) after
  pub goes_on : e.answer ≡ More → turning.may_turn after
  pub falls : e.answer ≡ More → turning.left after < turning.left before
  pub cause : Cause (outlet.faults e.before) (outlet.faults e.after) (e.answer ≡ WriteFault)
  pub still : e.answer ≢ WriteFault → outlet.faults e.after ≡ outlet.faults e.before

pub one_turn : {M K : Type 0} (turning : Turning M) (outlet : Outlet K) (members : List M) (last : List MemberTurn)
    (e : TurnEntry K) (place : ℕ) (before after : M) → place ≡ e.station - 1
    → StationIsOpen (record { members = members; last = last }) e.station → length last ≡ 8 → length members ≤ 8
    → slice_get members place ≡ Some before → MemberTook turning outlet e before after
    → OneTurn turning outlet (record { members = members; last = last }) e
    (record { members = set members place after; last = set last place e.answer })
one_turn turning outlet members last e place before after here goes size few was took =
    let within : place < length members = omega (arith, here, goes.from, goes.to) in
    let inside : place < length last = omega (arith, within, few, size) in
    record {
      is_open = goes;
      before = before;
      after = after;
      was = ap (λ (k : ℕ). slice_get members k) (sym here) ∙ was;
      is = ap (λ (k : ℕ). slice_get (set members place after) k) (sym here) ∙ get_set members place after within;
      written = took.written;
      writes = took.writes;
      turned = took.turned;
      falls = took.falls;
      answered = ap (λ (k : ℕ). slice_index_or (set last place e.answer) k Ended) (sym here) ∙ get_or-set_same last place e.answer Ended inside;
      as_many = length-set members place after;
      others = λ k apart. get_other members place k after (λ e. apart (e ∙ here));
      answers = λ k apart. get_or-set_other last place k e.answer Ended (λ e. apart (e ∙ here));
      members = ap (λ (k : ℕ). set members k after) here;
      last = ap (λ (k : ℕ). set last k e.answer) here;
      cause = took.cause;
      still = took.still;
    }

same_some : {A : Type 0} (a b : A) → Some a ≡ Some b → a ≡ b
same_some a b e = cc

may_turn_by : {M K : Type 0} (turning : Turning M) (outlet : Outlet K) (old new : Crew M) (e : TurnEntry K)
    (one : OneTurn turning outlet old e new)
    → CrewIsReady turning old → (e.answer ≡ More → turning.may_turn one.after) → (n : ℕ) (m : M)
    → slice_get new.members (n - 1) ≡ Some m → StationIsOpen new n → (test : Bool) → (n - 1 == e.station - 1) ≡ test
    → turning.may_turn m
may_turn_by turning outlet old new e one ready goes n m was goes_on true same =
    let here : n - 1 ≡ e.station - 1 = grind (arith, nat_tests) in
    let is : one.after ≡ m = same_some one.after m (sym one.is ∙ (ap (λ (k : ℕ). slice_get new.members k) (sym here) ∙ was)) in
    let more : e.answer ≡ More = sym one.answered ∙ (ap (λ (k : ℕ). slice_index_or new.last k Ended) (sym here) ∙ goes_on.more) in
    subst (λ (x : _). turning.may_turn x) is (goes more)
may_turn_by turning outlet old new e one ready goes n m was goes_on false other =
    let apart : n - 1 ≢ e.station - 1 = grind (arith, nat_tests) in
    ready.may_turn n m (sym (one.others (n - 1) apart) ∙ was) (record {
      from = goes_on.from;
      to = omega (arith, goes_on.to, one.as_many);
      more = sym (one.answers (n - 1) apart) ∙ goes_on.more;
    })

pub ready_after : {M K : Type 0} (turning : Turning M) (outlet : Outlet K) (old new : Crew M) (e : TurnEntry K)
    (one : OneTurn turning outlet old e new)
    → CrewIsReady turning old → length new.last ≡ 8 → (e.answer ≡ More → turning.may_turn one.after) → CrewIsReady turning new
ready_after turning outlet old new e one ready size goes = record {
  few = omega (arith, one.as_many, ready.few);
  size = size;
  absent = λ k past. one.answers k (λ e. absurd (omega (arith, past, e, one.as_many, one.is_open.from, one.is_open.to)))
      ∙ ready.absent k (omega (arith, past, one.as_many));
  may_turn = λ n m was goes_on. may_turn_by turning outlet old new e one ready goes n m was goes_on _ refl;
}

-- the same, where the turn is the one above
pub ready_of_turn : {M K : Type 0} (turning : Turning M) (outlet : Outlet K) (members : List M) (last : List MemberTurn)
    (e : TurnEntry K) (place : ℕ) (before after : M) → place ≡ e.station - 1
    → CrewIsReady turning (record { members = members; last = last }) → StationIsOpen (record { members = members; last = last }) e.station
    → slice_get members place ≡ Some before → MemberTook turning outlet e before after
    → CrewIsReady turning (record { members = set members place after; last = set last place e.answer })
unfolding one_turn
ready_of_turn turning outlet members last e place before after here ready goes was took =
    ready_after turning outlet _ _ e
    (one_turn turning outlet members last e place before after here goes ready.size ready.few was took)
    ready (length-set last place e.answer ∙ ready.size) took.goes_on

stuck_of : (b : Bool) → Rose 0 (faults_of b) → b ≡ true
stuck_of true rose = refl
stuck_of false rose = absurd (omega (arith, rose))

free_by : (b : Bool) → faults_of b ≡ 0 → b ≡ false
free_by true e = absurd (omega (arith, e))
free_by false e = refl

-- what a member wrote in a turn, with the numbers
writes_turn : {K : Type 0} (outlet : Outlet K) (old new : Numbered K) (e : TurnEntry K) (bytes : List ℕ)
    → old.pen ≡ AtStart → old.digit ≡ 48 + e.station → e.before ≡ old.out.now → e.after ≡ new.out.now
    → (e.answer ≢ WriteFault → faults_of (is_stuck new.pen) ≡ 0)
    → WritesLines (numbered_outlet outlet) old e.answer new bytes → WritesTurn outlet e bytes
writes_turn outlet old new e bytes start digit was is still writes =
    let wrote : WritesNumbered outlet old bytes new = writes.wrote in
    let spells : PenSpells (48 + e.station) AtStart bytes new.pen wrote.text =
    subst (λ (d : ℕ). PenSpells d AtStart bytes new.pen wrote.text) digit
    (subst (λ (p : Pen). PenSpells old.digit p bytes new.pen wrote.text) start wrote.spells) in
    record {
      lines = writes.lines;
      part = spells.part;
      small = spells.small;
      none = λ no. spells.none (free_by (is_stuck new.pen) (still no));
      wrote = subst (λ (k : _). outlet.wrote k (with_station_number e.station bytes ++ spells.part) e.after) (sym was)
          (subst (λ (k : _). outlet.wrote old.out.now (with_station_number e.station bytes ++ spells.part) k) (sym is)
          (subst (λ (t : List ℕ). outlet.wrote old.out.now t new.out.now) spells.whole wrote.wrote));
    }

-- a turn over the sink that numbers lines is a turn over the sink behind it
pub member_took : {M K : Type 0} (turning : Turning M) (outlet : Outlet K) (old new : Numbered K) (e : TurnEntry K)
    (before after : M) → old.pen ≡ AtStart → old.digit ≡ 48 + e.station → e.before ≡ old.out.now → e.after ≡ new.out.now
    → MemberTakesTurn turning (numbered_outlet outlet) before old e.answer after new → MemberTook turning outlet e before after
member_took turning outlet old new e before after start digit was is took =
    let wrote : WritesNumbered outlet old took.written new = took.writes.wrote in
    let begins : is_stuck old.pen ≡ false = ap is_stuck start in
    let free : faults_of (is_stuck old.pen) ≡ 0 = ap faults_of begins in
    let still : e.answer ≢ WriteFault → faults_of (is_stuck new.pen) ≡ 0 = λ no. took.still no ∙ free in
    record {
      written = took.written;
      writes = writes_turn outlet old new e took.written start digit was is still took.writes;
      turned = turning.turned_wider before after (e.answer ∷ []) (WritesLines (numbered_outlet outlet) old e.answer new)
          (WritesTurn outlet e) (λ bytes writes. writes_turn outlet old new e bytes start digit was is still writes) took.turned;
      goes_on = took.goes_on;
      falls = took.falls;
      cause = record {
        never_falls = omega (arith, ap outlet.faults was, ap outlet.faults is, wrote.counts.never_falls);
        rose = λ fault.
            let rose : Rose (faults_of (is_stuck old.pen)) (faults_of (is_stuck new.pen)) = took.cause.rose fault in
            let stuck : is_stuck new.pen ≡ true =
            stuck_of (is_stuck new.pen) (subst (λ (n : ℕ). Rose n (faults_of (is_stuck new.pen))) free rose) in
            subst (λ (n : ℕ). Rose n (outlet.faults e.after)) (sym (ap outlet.faults was))
            (subst (λ (n : ℕ). Rose (outlet.faults old.out.now) n) (sym (ap outlet.faults is))
            (wrote.counts.rose begins stuck));
      };
      still = λ no. ap outlet.faults is ∙ wrote.counts.still (free_by (is_stuck new.pen) (still no)) ∙ sym (ap outlet.faults was);
    }
