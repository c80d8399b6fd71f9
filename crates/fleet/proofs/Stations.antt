-- Which stations have not ended.
use Rattle.std.proofs.Common.{ℕ, suc, zero, ◌≡◌, ◌<◌, ◌≤◌, ◌+◌, ◌-◌, ◌==◌, Bool, true, false, List, [], ◌∷◌, length, refl, sym, ap, subst, ◌∙◌, arith, if◌then◌else◌}
use Rattle.std.specs.Prelude.{slice_index_or, nat_le}
use Rattle.std.proofs.lemmas.Bool.Decides.{nat_tests}
use Rattle.fleet.specs.declared.member.MemberTurn.{MemberTurn}
use Rattle.fleet.specs.declared.member.MemberTurn.TheVariants.{More, Ended, Unseen, WriteFault, OutOfMemory}
use Rattle.fleet.specs.Crew.{Crew, StationIsOpen, CrewIsReady}
use Rattle.fleet.specs.OpenStations.{is_more, open_from}
use Rattle.fleet.specs.MemberTurns.{Turning}

-- the last answer of the station, where the first of these is that of station n
abbrev pub Found : ℕ → List MemberTurn → ℕ → Type 0
Found n last s = (n ≤ s) × (slice_index_or last (s - n) Ended ≡ More)

shift : (n : ℕ) (a : MemberTurn) (last : List MemberTurn) (s : ℕ) → Found (n + 1) last s → Found n (a ∷ last) s
shift n a last s found =
    let there : s - n ≡ suc (s - (n + 1)) = omega (arith, found.0) in
    (omega (arith, found.0), ap (λ (k : ℕ). slice_index_or (a ∷ last) k Ended) there ∙ found.1)

here : (n : ℕ) (a : MemberTurn) (last : List MemberTurn) → is_more a ≡ true → Found n (a ∷ last) n
here n More last is =
    let at : n - n ≡ 0 = omega arith in
    (omega arith, ap (λ (k : ℕ). slice_index_or (More ∷ last) k Ended) at)
here n Ended last is = absurd (let bad : false ≡ true = is in cc)
here n Unseen last is = absurd (let bad : false ≡ true = is in cc)
here n WriteFault last is = absurd (let bad : false ≡ true = is in cc)
here n OutOfMemory last is = absurd (let bad : false ≡ true = is in cc)

-- the first of them, by whether it has not ended
open_more : (n : ℕ) (a : MemberTurn) (last : List MemberTurn)
    (rest : (k : ℕ) → k < length (open_from (n + 1) last) → Found (n + 1) last (slice_index_or (open_from (n + 1) last) k 0))
    (k : ℕ) (test : Bool) → is_more a ≡ test → k < length (open_from n (a ∷ last))
    → Found n (a ∷ last) (slice_index_or (open_from n (a ∷ last)) k 0)
open_more n a last rest zero true is within = rw is (here n a last is)
open_more n a last rest (suc k) true is within =
    let P : Bool → Type 0 = λ (b : Bool). suc k < length (if b then n ∷ open_from (n + 1) last else open_from (n + 1) last) in
    let more : suc k < length (n ∷ open_from (n + 1) last) = subst P is within in
    let less : k < length (open_from (n + 1) last) = omega (arith, more) in
    rw is (shift n a last (slice_index_or (open_from (n + 1) last) k 0) (rest k less))
open_more n a last rest k false is within =
    let P : Bool → Type 0 = λ (b : Bool). k < length (if b then n ∷ open_from (n + 1) last else open_from (n + 1) last) in
    let less : k < length (open_from (n + 1) last) = subst P is within in
    rw is (shift n a last (slice_index_or (open_from (n + 1) last) k 0) (rest k less))

pub open_at : (n : ℕ) (last : List MemberTurn) (k : ℕ) → k < length (open_from n last)
    → Found n last (slice_index_or (open_from n last) k 0)
open_at n [] k within = absurd (omega (arith, within))
open_at n (a ∷ last) k within = open_more n a last (open_at (n + 1) last) k _ refl within

-- a station that has not ended is one of the members
inside : {M : Type 0} (turning : Turning M) (crew : Crew M) (s : ℕ) → CrewIsReady turning crew → Found 1 crew.last s
    → (test : Bool) → nat_le s (length crew.members) ≡ test → s ≤ length crew.members
inside turning crew s ready found true below = grind (arith, nat_tests)
inside turning crew s ready found false above =
    let past : length crew.members ≤ s - 1 = grind (arith, nat_tests) in
    absurd (let bad : More ≡ Ended = sym found.1 ∙ ready.absent (s - 1) past in cc)

pub is_open_at : {M : Type 0} (turning : Turning M) (crew : Crew M) (s : ℕ) → CrewIsReady turning crew → Found 1 crew.last s
    → StationIsOpen crew s
is_open_at turning crew s ready found = record {
  from = found.0;
  to = inside turning crew s ready found _ refl;
  more = found.1;
}

pub some_of : (n : ℕ) → false ≡ (n == 0) → 0 < n
some_of n e = grind (arith, nat_tests)
