-- The station that a fleet names for an unseen delivery is one of its members.
use Rattle.std.proofs.Common.{ℕ, suc, ◌≡◌, ◌≤◌, ◌+◌, ◌-◌, Bool, true, false, List, [], ◌∷◌, length, Some, None, refl, sym, ap, subst, ◌∙◌, arith}
use Rattle.std.specs.Prelude.{nat_le, slice_index_or}
use Rattle.std.proofs.lemmas.Bool.Decides.{nat_tests}
use Rattle.station_io.specs.Sink.{Outlet}
use Rattle.fleet.specs.declared.member.MemberTurn.{MemberTurn}
use Rattle.fleet.specs.declared.member.MemberTurn.TheVariants.{More, Ended, Unseen, WriteFault, OutOfMemory}
use Rattle.fleet.specs.declared.run.FleetEnd.TheVariants as fleet
use Rattle.fleet.specs.Crew.{Crew, CrewIsReady, OneTurn}
use Rattle.fleet.specs.FleetEnds.{IsUnseenMember, RunsFleet}
use Rattle.fleet.specs.Log.{Along}
use Rattle.fleet.specs.MemberTurns.{Turning}
use Rattle.fleet.specs.OpenStations.{least_unseen}
use Rattle.fleet.specs.TurnText.{TurnEntry}

-- the last answer of the station is Unseen, where the first of these is that of station n
abbrev Found : ℕ → List MemberTurn → ℕ → Type 0
Found n last s = (n ≤ s) × (slice_index_or last (s - n) Ended ≡ Unseen)

shift : (n : ℕ) (a : MemberTurn) (last : List MemberTurn) (s : ℕ) → Found (n + 1) last s → Found n (a ∷ last) s
shift n a last s found =
    let there : s - n ≡ suc (s - (n + 1)) = omega (arith, found.0) in
    (omega (arith, found.0), ap (λ (k : ℕ). slice_index_or (a ∷ last) k Ended) there ∙ found.1)

here : (n : ℕ) (last : List MemberTurn) (s : ℕ) → Some n ≡ Some s → Found n (Unseen ∷ last) s
here n last s is =
    let same : n ≡ s = cc in
    let at : s - n ≡ 0 = omega (arith, same) in
    (omega (arith, same), ap (λ (k : ℕ). slice_index_or (Unseen ∷ last) k Ended) at)

found_at : (n : ℕ) (last : List MemberTurn) (s : ℕ) → least_unseen n last ≡ Some s → Found n last s
found_at n [] s is = absurd (let bad : None ≡ Some s = is in cc)
found_at n (More ∷ last) s is = shift n More last s (found_at (n + 1) last s is)
found_at n (Ended ∷ last) s is = shift n Ended last s (found_at (n + 1) last s is)
found_at n (Unseen ∷ last) s is = here n last s is
found_at n (WriteFault ∷ last) s is = shift n WriteFault last s (found_at (n + 1) last s is)
found_at n (OutOfMemory ∷ last) s is = shift n OutOfMemory last s (found_at (n + 1) last s is)

-- the places behind the members have ended
abbrev AreAbsent : {M : Type 0} → Crew M → Type 0
AreAbsent crew = (k : ℕ) → length crew.members ≤ k → slice_index_or crew.last k Ended ≡ Ended

module _ {M K : Type 0} (turning : Turning M) (outlet : Outlet K) where
  absent_after : (old new : Crew M) (e : TurnEntry K) → OneTurn turning outlet old e new → AreAbsent old → AreAbsent new
  absent_after old new e one absent k past =
      one.answers k (λ at. absurd (omega (arith, past, at, one.as_many, one.is_open.from, one.is_open.to)))
      ∙ absent k (omega (arith, past, one.as_many))

  absent_along : (old new : Crew M) (before after : K) (log : List (TurnEntry K)) → Along turning outlet old before log new after
      → AreAbsent old → AreAbsent new
  absent_along old new before after [] along absent = subst (λ (crew : Crew M). AreAbsent crew) (sym along.0) absent
  absent_along old new before after (e ∷ log) along absent =
      absent_along along.mid new e.after after log along.later (absent_after old along.mid e along.turn absent)

  within : (crew : Crew M) (s : ℕ) → AreAbsent crew → Found 1 crew.last s → (test : Bool) → nat_le s (length crew.members) ≡ test
      → s ≤ length crew.members
  within crew s absent found true below = grind (arith, nat_tests)
  within crew s absent found false above =
      let past : length crew.members ≤ s - 1 = grind (arith, nat_tests) in
      absurd (let bad : Unseen ≡ Ended = sym found.1 ∙ absent (s - 1) past in cc)

  opening_absent : (crew : Crew M) → CrewIsReady turning crew → AreAbsent crew
  opening_absent crew ready = ready.absent

  pub unseen_member : (seed : ℕ) (old new : Crew M) (before after : K) (station : ℕ) → CrewIsReady turning old
      → RunsFleet turning outlet seed old before (fleet.Unseen station) new after → IsUnseenMember new station
  unseen_member seed old new before after station ready ran =
      let absent = absent_along old new before after ran.log ran.turns (opening_absent old ready) in
      let found = found_at 1 new.last station ran.ends.least in
      record {
        from = found.0;
        to = within new station absent found _ refl;
        unseen = found.1;
      }
