-- Turns of all stations, one after another.
use Rattle.std.proofs.Common.{ℕ, suc, zero, ◌≡◌, ◌≢◌, ◌<◌, ◌≤◌, ◌+◌, ◌-◌, ◌==◌, ◌^◌, Bool, true, false, List, [], ◌∷◌, ◌++◌, length, Option, Some, None, refl, sym, ap, subst, ◌∙◌, arith, length-append, set, if◌then◌else◌}
use Rattle.std.specs.Prelude.{slice_get, slice_index_or}
use Rattle.std.proofs.lemmas.Bool.Decides.{nat_tests}
use Rattle.station_io.specs.Sink.{Outlet}
use Rattle.draws.specs.Draws.{next_draw}
use Rattle.fleet.specs.declared.member.MemberTurn.{MemberTurn}
use Rattle.fleet.specs.declared.member.MemberTurn.TheVariants.{More, Ended, Unseen, WriteFault, OutOfMemory}
use Rattle.fleet.specs.Crew.{Crew, CrewIsReady, OneTurn}
use Rattle.fleet.specs.Log.{Along, AreDrawn, IsUncut, is_switch, last_answers_after, last_station, reached, switches_after, switches_in, turns_left}
use Rattle.fleet.specs.MemberTurns.{Turning}
use Rattle.fleet.specs.OpenStations.{chosen, is_more, open_from, least_unseen}
use Rattle.fleet.specs.StationLines.{AreUncut, AreUncutBeforeLast}
use Rattle.fleet.specs.TurnText.{TurnEntry}

-- one more turn behind others
pub along_more : {M K : Type 0} (turning : Turning M) (outlet : Outlet K) (old mid new : Crew M) (before out : K)
    (log : List (TurnEntry K)) (e : TurnEntry K) → Along turning outlet old before log mid out → OneTurn turning outlet mid e new
    → e.before ≡ out → Along turning outlet old before (log ++ e ∷ []) new e.after
along_more turning outlet old mid new before out [] e same one at =
    record {
      mid = new;
      begins = at ∙ same.1;
      turn = subst (λ (c : Crew _). OneTurn turning outlet c e new) same.0 one;
      later = (refl, refl);
    }
along_more turning outlet old mid new before out (f ∷ log) e along one at =
    record {
      mid = along.mid;
      begins = along.begins;
      turn = along.turn;
      later = along_more turning outlet along.mid mid new f.after out log e along.later one at;
    }

-- it is drawn behind them
pub drawn_more : {K : Type 0} (x : ℕ) (last : List MemberTurn) (log : List (TurnEntry K)) (e : TurnEntry K) → AreDrawn x last log
    → e.station ≡ chosen (next_draw (reached x log)) (open_from 1 (last_answers_after last log)) → AreDrawn x last (log ++ e ∷ [])
drawn_more x last [] e drawn at = (at, tt)
drawn_more x last (f ∷ log) e drawn at =
    (drawn.0, drawn_more (next_draw x) (set last (f.station - 1) f.answer) log e drawn.1 at)

pub uncut_more : {K : Type 0} (log : List (TurnEntry K)) (e : TurnEntry K) → AreUncut log → e.answer ≢ WriteFault
    → e.answer ≢ OutOfMemory → AreUncut (log ++ e ∷ [])
uncut_more [] e uncut fits found = (fits, found, tt)
uncut_more (f ∷ log) e uncut fits found = (uncut.0, uncut.1, uncut_more log e uncut.2 fits found)

-- of such turns none before the last was cut off, nor with one more behind them
pub uncut_before : {K : Type 0} (log : List (TurnEntry K)) → AreUncut log → AreUncutBeforeLast log
uncut_before [] uncut = tt
uncut_before (e ∷ []) uncut = tt
uncut_before (e ∷ next ∷ log) uncut = (uncut.0, uncut.1, uncut_before (next ∷ log) uncut.2)

pub uncut_ahead : {K : Type 0} (log : List (TurnEntry K)) (last : TurnEntry K) → AreUncut log
    → AreUncutBeforeLast (log ++ last ∷ [])
uncut_ahead [] last uncut = tt
uncut_ahead (e ∷ []) last uncut = (uncut.0, uncut.1, tt)
uncut_ahead (e ∷ next ∷ log) last uncut = (uncut.0, uncut.1, uncut_ahead (next ∷ log) last uncut.2)

pub reached_more : {K : Type 0} (x : ℕ) (log : List (TurnEntry K)) (e : TurnEntry K) → reached x (log ++ e ∷ []) ≡ next_draw (reached x log)
reached_more x [] e = refl
reached_more x (f ∷ log) e = reached_more (next_draw x) log e

pub last_answers_more : {K : Type 0} (last : List MemberTurn) (log : List (TurnEntry K)) (e : TurnEntry K)
    → last_answers_after last (log ++ e ∷ []) ≡ set (last_answers_after last log) (e.station - 1) e.answer
last_answers_more last [] e = refl
last_answers_more last (f ∷ log) e = last_answers_more (set last (f.station - 1) f.answer) log e

pub last_more : {K : Type 0} (log : List (TurnEntry K)) (e : TurnEntry K) → last_station (log ++ e ∷ []) ≡ Some e.station
last_more [] e = refl
last_more (f ∷ []) e = refl
last_more (f ∷ g ∷ log) e = last_more (g ∷ log) e

-- the last station behind one before
abbrev pub last_behind : {K : Type 0} → Option ℕ → List (TurnEntry K) → Option ℕ
last_behind before [] = before
last_behind before (e ∷ log) = last_behind (Some e.station) log

behind_is : {K : Type 0} (f : TurnEntry K) (log : List (TurnEntry K)) → last_behind (Some f.station) log ≡ last_station (f ∷ log)
behind_is f [] = refl
behind_is f (g ∷ log) = behind_is g log

behind_none : {K : Type 0} (log : List (TurnEntry K)) → last_behind None log ≡ last_station log
behind_none [] = refl
behind_none (f ∷ log) = behind_is f log

switches_behind : {K : Type 0} (before : Option ℕ) (log : List (TurnEntry K)) (e : TurnEntry K) → switches_after before (log ++ e ∷ [])
    ≡ switches_after before log + (if is_switch (last_behind before log) e.station then 1 else 0)
switches_behind before [] e = omega arith
switches_behind before (f ∷ log) e =
    let more = switches_behind (Some f.station) log e in
    omega (arith, more)

pub switches_more : {K : Type 0} (log : List (TurnEntry K)) (e : TurnEntry K) → switches_in (log ++ e ∷ [])
    ≡ switches_in log + (if is_switch (last_station log) e.station then 1 else 0)
switches_more log e = switches_behind None log e
    ∙ ap (λ (o : Option ℕ). switches_in log + (if is_switch o e.station then 1 else 0)) (behind_none log)

few_by : (test : Bool) (n m : ℕ) → n ≤ m → (if test then 1 else 0) + n ≤ suc m
few_by true n m few = omega (arith, few)
few_by false n m few = omega (arith, few)

-- there are no more switches than turns
pub switches_few : {K : Type 0} (before : Option ℕ) (log : List (TurnEntry K)) → switches_after before log ≤ length log
switches_few before [] = omega arith
switches_few before (e ∷ log) =
    few_by (is_switch before e.station) (switches_after (Some e.station) log) (length log) (switches_few (Some e.station) log)

-- a turn leaves fewer
head_less : (answer : MemberTurn) (left after rest : ℕ) → (answer ≡ More → after < left)
    → (if is_more answer then after + 1 else 0) + rest < left + 1 + rest
head_less More left after rest less = let falls : after < left = less refl in omega (arith, falls)
head_less Ended left after rest less = omega arith
head_less Unseen left after rest less = omega arith
head_less WriteFault left after rest less = omega arith
head_less OutOfMemory left after rest less = omega arith

same_some : {A : Type 0} (a b : A) → Some a ≡ Some b → a ≡ b
same_some a b e = cc

left_set : {M : Type 0} (turning : Turning M) (members : List M) (last : List MemberTurn) (i : ℕ) (m after : M)
    (answer : MemberTurn) → slice_get members i ≡ Some m → slice_index_or last i Ended ≡ More
    → (answer ≡ More → turning.left after < turning.left m)
    → turns_left turning (set members i after) (set last i answer) < turns_left turning members last
left_set turning [] last i m after answer was more falls = absurd (let bad : None ≡ Some m = was in cc)
left_set turning (n ∷ members) [] i m after answer was more falls = absurd (let bad : Ended ≡ More = more in cc)
left_set turning (n ∷ members) (a ∷ last) zero m after answer was more falls =
    let same : n ≡ m = same_some n m was in
    let P : MemberTurn → Type 0 = λ (x : MemberTurn). turns_left turning (after ∷ members) (answer ∷ last)
    < (if is_more x then turning.left n + 1 else 0) + turns_left turning members last in
    let less : answer ≡ More → turning.left after < turning.left n =
    λ e. subst (λ (x : _). turning.left after < turning.left x) (sym same) (falls e) in
    subst P (sym more) (head_less answer (turning.left n) (turning.left after) (turns_left turning members last) less)
left_set turning (n ∷ members) (a ∷ last) (suc i) m after answer was more falls =
    let less = left_set turning members last i m after answer was more falls in
    omega (arith, less)

pub left_less : {M K : Type 0} (turning : Turning M) (outlet : Outlet K) (old new : Crew M) (e : TurnEntry K)
    → OneTurn turning outlet old e new
    → turns_left turning new.members new.last < turns_left turning old.members old.last
left_less turning outlet old new e one =
    let less = left_set turning old.members old.last (e.station - 1) one.before one.after e.answer one.was one.is_open.more one.falls in
    subst (λ (ms : List _). turns_left turning ms new.last < turns_left turning old.members old.last) (sym one.members)
    (subst (λ (as_now : List MemberTurn). turns_left turning (set old.members (e.station - 1) one.after) as_now
    < turns_left turning old.members old.last) (sym one.last) less)

-- So far these turns were taken.
pub record SoFar {M K : Type 0} (turning : Turning M) (outlet : Outlet K) (seed : ℕ) (old : Crew M) (before : K)
    (number turns switches : ℕ) (station : Option ℕ) (now : Crew M) (out : K) : Type 0 where
  pub log : List (TurnEntry K)
  pub along : Along turning outlet old before log now out
  pub drawn : AreDrawn seed old.last log
  pub number_is : number ≡ reached seed log
  pub last_is : now.last ≡ last_answers_after old.last log
  pub below : number < 2 ^ 31
  pub faults : outlet.faults out ≡ outlet.faults before
  pub turns_are : turns ≡ length log
  pub switches_are : switches ≡ switches_in log
  pub station_is : station ≡ last_station log
  pub ready : CrewIsReady turning now
  pub uncut : IsUncut now.last
  pub whole : AreUncut log
  pub few : turns + turns_left turning now.members now.last ≤ turns_left turning old.members old.last

-- where nothing is open no answer is More
pub no_more : (n : ℕ) (last : List MemberTurn) (k : ℕ) → open_from n last ≡ [] → slice_index_or last k Ended ≡ More → ⊥
no_more n [] k none is = absurd (let bad : Ended ≡ More = is in cc)
no_more n (More ∷ last) k none is = absurd (let bad : n ∷ open_from (n + 1) last ≡ [] = none in cc)
no_more n (Ended ∷ last) zero none is = absurd (let bad : Ended ≡ More = is in cc)
no_more n (Ended ∷ last) (suc k) none is = no_more (n + 1) last k none is
no_more n (Unseen ∷ last) zero none is = absurd (let bad : Unseen ≡ More = is in cc)
no_more n (Unseen ∷ last) (suc k) none is = no_more (n + 1) last k none is
no_more n (WriteFault ∷ last) zero none is = absurd (let bad : WriteFault ≡ More = is in cc)
no_more n (WriteFault ∷ last) (suc k) none is = no_more (n + 1) last k none is
no_more n (OutOfMemory ∷ last) zero none is = absurd (let bad : OutOfMemory ≡ More = is in cc)
no_more n (OutOfMemory ∷ last) (suc k) none is = no_more (n + 1) last k none is

-- where no station is the least that ended unseen none did
none_unseen : (n : ℕ) (last : List MemberTurn) (k : ℕ) → least_unseen n last ≡ None → slice_index_or last k Ended ≡ Unseen → ⊥
none_unseen n [] k none is = absurd (let bad : Ended ≡ Unseen = is in cc)
none_unseen n (Unseen ∷ last) k none is = absurd (let bad : Some n ≡ None = none in cc)
none_unseen n (Ended ∷ last) zero none is = absurd (let bad : Ended ≡ Unseen = is in cc)
none_unseen n (Ended ∷ last) (suc k) none is = none_unseen (n + 1) last k none is
none_unseen n (More ∷ last) zero none is = absurd (let bad : More ≡ Unseen = is in cc)
none_unseen n (More ∷ last) (suc k) none is = none_unseen (n + 1) last k none is
none_unseen n (WriteFault ∷ last) zero none is = absurd (let bad : WriteFault ≡ Unseen = is in cc)
none_unseen n (WriteFault ∷ last) (suc k) none is = none_unseen (n + 1) last k none is
none_unseen n (OutOfMemory ∷ last) zero none is = absurd (let bad : OutOfMemory ≡ Unseen = is in cc)
none_unseen n (OutOfMemory ∷ last) (suc k) none is = none_unseen (n + 1) last k none is

ended_by : (last : List MemberTurn) (k : ℕ) (answer : MemberTurn) → open_from 1 last ≡ [] → least_unseen 1 last ≡ None
    → IsUncut last → slice_index_or last k Ended ≡ answer → answer ≡ Ended
ended_by last k More none seen uncut is = absurd (no_more 1 last k none is)
ended_by last k Ended none seen uncut is = refl
ended_by last k Unseen none seen uncut is = absurd (none_unseen 1 last k seen is)
ended_by last k WriteFault none seen uncut is = absurd ((uncut k).0 is)
ended_by last k OutOfMemory none seen uncut is = absurd ((uncut k).1 is)

pub all_ended : (last : List MemberTurn) → open_from 1 last ≡ [] → least_unseen 1 last ≡ None → IsUncut last → (k : ℕ)
    → slice_index_or last k Ended ≡ Ended
all_ended last none seen uncut k = ended_by last k _ none seen uncut refl

uncut_by : {M K : Type 0} (turning : Turning M) (outlet : Outlet K) (old new : Crew M) (e : TurnEntry K)
    → OneTurn turning outlet old e new → IsUncut old.last → e.answer ≢ WriteFault → e.answer ≢ OutOfMemory → (k : ℕ)
    → (test : Bool) → (k == e.station - 1) ≡ test
    → (slice_index_or new.last k Ended ≢ WriteFault) × (slice_index_or new.last k Ended ≢ OutOfMemory)
uncut_by turning outlet old new e one uncut fits found k true at =
    let here : k ≡ e.station - 1 = grind (arith, nat_tests) in
    let is : slice_index_or new.last k Ended ≡ e.answer = ap (λ (n : ℕ). slice_index_or new.last n Ended) here ∙ one.answered in
    (λ w. fits (sym is ∙ w), λ w. found (sym is ∙ w))
uncut_by turning outlet old new e one uncut fits found k false other =
    let apart : k ≢ e.station - 1 = grind (arith, nat_tests) in
    let is = one.answers k apart in
    (λ w. (uncut k).0 (sym is ∙ w), λ w. (uncut k).1 (sym is ∙ w))

-- the station that is drawn next, by what was so far
pub drawn_next : {M K : Type 0} (turning : Turning M) (outlet : Outlet K) (seed : ℕ) (old : Crew M) (before : K)
    (number turns switches : ℕ) (station : Option ℕ) (now : Crew M) (out : K) (n : ℕ)
    (so : SoFar turning outlet seed old before number turns switches station now out)
    → n ≡ chosen (next_draw number) (open_from 1 now.last)
    → n ≡ chosen (next_draw (reached seed so.log)) (open_from 1 (last_answers_after old.last so.log))
drawn_next turning outlet seed old before number turns switches station now out n so at =
    at ∙ (ap (λ (x : ℕ). chosen (next_draw x) (open_from 1 now.last)) so.number_is
    ∙ ap (λ (last : List MemberTurn). chosen (next_draw (reached seed so.log)) (open_from 1 last)) so.last_is)

-- one turn more, of a station that was not cut off
pub so_far_more : {M K : Type 0} (turning : Turning M) (outlet : Outlet K) (seed : ℕ) (old : Crew M) (before : K)
    (number turns switches : ℕ) (station : Option ℕ) (now : Crew M) (out : K) (e : TurnEntry K) (new : Crew M)
    (next_number more_switches : ℕ) → SoFar turning outlet seed old before number turns switches station now out
    → OneTurn turning outlet now e new → e.before ≡ out → e.answer ≢ WriteFault → e.answer ≢ OutOfMemory
    → e.station ≡ chosen (next_draw number) (open_from 1 now.last) → next_number ≡ next_draw number → next_number < 2 ^ 31
    → CrewIsReady turning new → more_switches ≡ switches + (if is_switch station e.station then 1 else 0)
    → SoFar turning outlet seed old before next_number (turns + 1) more_switches (Some e.station) new e.after
so_far_more turning outlet seed old before number turns switches station now out e new next_number more_switches
    so one from fits found at is below ready counted =
    let less = left_less turning outlet now new e one in
    record {
      log = so.log ++ e ∷ [];
      along = along_more turning outlet old now new before out so.log e so.along one from;
      drawn = drawn_more seed old.last so.log e so.drawn
          (drawn_next turning outlet seed old before number turns switches station now out e.station so at);
      number_is = is ∙ (ap next_draw so.number_is ∙ sym (reached_more seed so.log e));
      last_is = one.last ∙ (ap (λ (last : List MemberTurn). set last (e.station - 1) e.answer) so.last_is
          ∙ sym (last_answers_more old.last so.log e));
      below = below;
      faults = one.still fits ∙ (ap outlet.faults from ∙ so.faults);
      turns_are = omega (arith, so.turns_are, length-append so.log (e ∷ []));
      switches_are = counted ∙ (ap (λ (n : ℕ). n + (if is_switch station e.station then 1 else 0)) so.switches_are
          ∙ (ap (λ (o : Option ℕ). switches_in so.log + (if is_switch o e.station then 1 else 0)) so.station_is
          ∙ sym (switches_more so.log e)));
      station_is = sym (last_more so.log e);
      ready = ready;
      uncut = λ k. uncut_by turning outlet now new e one so.uncut fits found k _ refl;
      whole = uncut_more so.log e so.whole fits found;
      few = omega (arith, so.few, less);
    }
