-- Turns of stations one after another, and their answers and texts.
use Rattle.std.specs.Prelude.{ℕ, ◌≡◌, ◌≢◌, ◌+◌, ◌-◌, ◌==◌, not, Bool, true, false, if◌then◌else◌, List, [], ◌∷◌}
use Rattle.std.specs.Prelude.{slice_get, slice_index_or, Option, Some, None}
use Rattle.std.proofs.Common.{set}
use Rattle.station_io.specs.Sink.{Outlet}
use Rattle.draws.specs.Draws.{next_draw}
use Rattle.fleet.specs.declared.member.MemberTurn.{MemberTurn}
use Rattle.fleet.specs.declared.member.MemberTurn.TheVariants.{Ended, WriteFault, OutOfMemory}
use Rattle.fleet.specs.Crew.{Crew, OneTurn}
use Rattle.fleet.specs.MemberTurns.{Both, Turning}
use Rattle.fleet.specs.OpenStations.{is_more, open_from, chosen}
use Rattle.fleet.specs.TurnText.{TurnEntry, WritesTurn}

-- This turn was the first, and behind it come the others.
pub record FirstTurn {M K : Type 0} (turning : Turning M) (outlet : Outlet K) (old : Crew M) (before : K)
    (e : TurnEntry K) (Others : Crew M → Type 0) : Type 0 where
  pub mid : Crew M
  pub begins : e.before ≡ before
  pub turn : OneTurn turning outlet old e mid
  pub later : Others mid

-- turns one after another, of these stations over this sink
abbrev pub Along : {M K : Type 0} → Turning M → Outlet K → Crew M → K → List (TurnEntry K) → Crew M → K → Type 0
Along turning outlet old before [] new after = (new ≡ old) × (after ≡ before)
Along turning outlet old before (e ∷ log) new after =
    FirstTurn turning outlet old before e (λ mid. Along turning outlet mid e.after log new after)

-- the answers to the turns of a station, in order
abbrev pub answers_of : {K : Type 0} → ℕ → List (TurnEntry K) → List MemberTurn
answers_of station [] = []
answers_of station (e ∷ log) =
    if e.station == station then e.answer ∷ answers_of station log else answers_of station log

-- what is known of the text of a turn and of those behind it, by whether the turn counts
abbrev pub BothIf : Bool → (List ℕ → Type 0) → (List ℕ → Type 0) → List ℕ → Type 0
BothIf true P Q = Both P Q
BothIf false P Q = Q

-- the station wrote these bytes in its turns
abbrev pub WrittenBy : {K : Type 0} → Outlet K → ℕ → List (TurnEntry K) → List ℕ → Type 0
WrittenBy outlet station [] = λ bytes. bytes ≡ []
WrittenBy outlet station (e ∷ log) =
    BothIf (e.station == station) (WritesTurn outlet e) (WrittenBy outlet station log)

-- Whatever the order of the turns, a station is its opening member after its own turns.
abbrev pub IsAlone : {M K : Type 0} → Turning M → Outlet K → Crew M → List (TurnEntry K) → Crew M → ℕ → Type 0
IsAlone {M} turning outlet old log new station = (before : M) (after : M)
    → slice_get old.members (station - 1) ≡ Some before → slice_get new.members (station - 1) ≡ Some after
    → turning.turned before (answers_of station log) (WrittenBy outlet station log) after

-- the last answers of all stations behind these turns
abbrev pub last_answers_after : {K : Type 0} → List MemberTurn → List (TurnEntry K) → List MemberTurn
last_answers_after last [] = last
last_answers_after last (e ∷ log) = last_answers_after (set last (e.station - 1) e.answer) log

-- each turn goes to the station that is drawn behind this number among those that have not ended
abbrev pub AreDrawn : {K : Type 0} → ℕ → List MemberTurn → List (TurnEntry K) → Type 0
AreDrawn x last [] = Unit {0}
AreDrawn x last (e ∷ log) = (e.station ≡ chosen (next_draw x) (open_from 1 last))
    × AreDrawn (next_draw x) (set last (e.station - 1) e.answer) log

-- the number that is reached by so many draws
abbrev pub reached : {K : Type 0} → ℕ → List (TurnEntry K) → ℕ
reached x [] = x
reached x (e ∷ log) = reached (next_draw x) log

-- the station of the last turn
abbrev pub last_station : {K : Type 0} → List (TurnEntry K) → Option ℕ
last_station [] = None
last_station (e ∷ []) = Some e.station
last_station (e ∷ f ∷ log) = last_station (f ∷ log)

-- whether the station is not that of the turn before
abbrev pub is_switch : Option ℕ → ℕ → Bool
is_switch None station = false
is_switch (Some before) station = not (before == station)

-- how often that is so
abbrev pub switches_after : {K : Type 0} → Option ℕ → List (TurnEntry K) → ℕ
switches_after before [] = 0
switches_after before (e ∷ log) =
    (if is_switch before e.station then 1 else 0) + switches_after (Some e.station) log

abbrev pub switches_in : {K : Type 0} → List (TurnEntry K) → ℕ
switches_in log = switches_after None log

-- how many turns may be left of stations that have not ended: those of each, and the one that ends it
abbrev pub turns_left : {M : Type 0} → Turning M → List M → List MemberTurn → ℕ
turns_left turning [] last = 0
turns_left turning (m ∷ members) [] = 0
turns_left turning (m ∷ members) (answer ∷ last) =
    (if is_more answer then turning.left m + 1 else 0) + turns_left turning members last

-- no station was cut off
abbrev pub IsUncut : List MemberTurn → Type 0
IsUncut last = (k : ℕ) → (slice_index_or last k Ended ≢ WriteFault) × (slice_index_or last k Ended ≢ OutOfMemory)
