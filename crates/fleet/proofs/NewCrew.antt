-- Stations that have not taken a turn.
use Rattle.std.proofs.Common.{ℕ, ◌≡◌, ◌≢◌, ◌<◌, ◌≤◌, ◌+◌, ◌*◌, Bool, true, false, List, [], ◌∷◌, length, refl, sym, ◌∙◌, arith, if◌then◌else◌}
use Rattle.std.specs.Prelude.{All, nat_lt, slice_index_or}
use Rattle.std.proofs.lemmas.Bool.Decides.{nat_tests}
use Rattle.std.proofs.lemmas.List.Elements.{All-head, All-tail}
use Rattle.fleet.specs.declared.member.MemberTurn.{MemberTurn}
use Rattle.fleet.specs.declared.member.MemberTurn.TheVariants.{More, Ended, WriteFault, OutOfMemory}
use Rattle.fleet.specs.Log.{IsUncut, turns_left}
use Rattle.fleet.specs.MemberTurns.{Turning}
use Rattle.fleet.specs.OpenStations.{is_more}

one_few : (test : Bool) (left most rest bound : ℕ) → left < most → rest ≤ bound
    → (if test then left + 1 else 0) + rest ≤ bound + most
one_few true left most rest bound less few = omega (arith, less, few)
one_few false left most rest bound less few = omega (arith, less, few)

-- where each member has fewer turns left than so many
pub left_few : {M : Type 0} (turning : Turning M) (most : ℕ) (members : List M) (last : List MemberTurn)
    → All (λ m. turning.left m < most) members → turns_left turning members last ≤ length members * most
left_few turning most [] last few = omega arith
left_few turning most (m ∷ members) [] few = omega arith
left_few turning most (m ∷ members) (answer ∷ last) few =
    let rest = left_few turning most members last (All-tail (λ m. turning.left m < most) m members few) in
    let one = one_few (is_more answer) (turning.left m) most (turns_left turning members last) (length members * most)
    (All-head (λ m. turning.left m < most) m members few) rest in
    omega (arith, one)

by_answer : (answer : MemberTurn) (is : MemberTurn) → answer ≡ is → is ≢ WriteFault → is ≢ OutOfMemory
    → (answer ≢ WriteFault) × (answer ≢ OutOfMemory)
by_answer answer is same fits found = (λ e. fits (sym same ∙ e), λ e. found (sym same ∙ e))

uncut_at : (last : List MemberTurn) (n k : ℕ) → ((k : ℕ) → k < n → slice_index_or last k Ended ≡ More)
    → ((k : ℕ) → n ≤ k → slice_index_or last k Ended ≡ Ended) → (test : Bool) → nat_lt k n ≡ test
    → (slice_index_or last k Ended ≢ WriteFault) × (slice_index_or last k Ended ≢ OutOfMemory)
uncut_at last n k more ended true below =
    by_answer (slice_index_or last k Ended) More (more k (grind (arith, nat_tests)))
    (λ e. absurd (let bad : More ≡ WriteFault = e in cc)) (λ e. absurd (let bad : More ≡ OutOfMemory = e in cc))
uncut_at last n k more ended false above =
    by_answer (slice_index_or last k Ended) Ended (ended k (grind (arith, nat_tests)))
    (λ e. absurd (let bad : Ended ≡ WriteFault = e in cc)) (λ e. absurd (let bad : Ended ≡ OutOfMemory = e in cc))

-- no station was cut off yet
pub uncut_new : (last : List MemberTurn) (n : ℕ) → ((k : ℕ) → k < n → slice_index_or last k Ended ≡ More)
    → ((k : ℕ) → n ≤ k → slice_index_or last k Ended ≡ Ended) → IsUncut last
uncut_new last n more ended = λ k. uncut_at last n k more ended _ refl
