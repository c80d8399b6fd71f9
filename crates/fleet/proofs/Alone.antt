-- What turns of all stations are for one of them.
use Rattle.std.proofs.Common.{ℕ, ◌≡◌, ◌≢◌, ◌-◌, ◌==◌, ◌≤◌, Bool, true, false, List, [], ◌∷◌, Some, refl, sym, ap, subst, ◌∙◌, arith}
use Rattle.std.specs.Prelude.{slice_get}
use Rattle.std.proofs.lemmas.Bool.Decides.{nat_tests}
use Rattle.station_io.specs.Sink.{Outlet}
use Rattle.fleet.specs.Crew.{Crew, OneTurn}
use Rattle.fleet.specs.Log.{Along, IsAlone, WrittenBy, answers_of}
use Rattle.fleet.specs.MemberTurns.{Turning}
use Rattle.fleet.specs.TurnText.{TurnEntry, WritesTurn}

same_some : {A : Type 0} (a b : A) → Some a ≡ Some b → a ≡ b
same_some a b e = cc

station_is : (n k : ℕ) → (n == k) ≡ true → n - 1 ≡ k - 1
station_is n k e = grind (arith, nat_tests)

station_other : (n k : ℕ) → 1 ≤ n → 1 ≤ k → (n == k) ≡ false → k - 1 ≢ n - 1
station_other n k from too e = grind (arith, nat_tests)

module _ {M K : Type 0} (turning : Turning M) (outlet : Outlet K) where
  -- a turn of this station, or of another one, in front
  alone_more : (old mid new : Crew M) (e : TurnEntry K) (log : List (TurnEntry K)) (station : ℕ) → 1 ≤ station
      → OneTurn turning outlet old e mid → IsAlone turning outlet mid log new station → (test : Bool)
      → (e.station == station) ≡ test → IsAlone turning outlet old (e ∷ log) new station
  alone_more old mid new e log station from one rest true equal before after was is =
      let here : e.station - 1 ≡ station - 1 = station_is e.station station equal in
      let begins : one.before ≡ before =
      same_some one.before before (sym one.was ∙ (ap (λ (k : ℕ). slice_get old.members k) here ∙ was)) in
      let behind : slice_get mid.members (station - 1) ≡ Some one.after =
      ap (λ (k : ℕ). slice_get mid.members k) (sym here) ∙ one.is in
      let turned = subst (λ (m : M). turning.turned m (e.answer ∷ []) (WritesTurn outlet e) one.after) begins one.turned in
      rw equal (turning.turned_joins before one.after after (e.answer ∷ []) (answers_of station log) (WritesTurn outlet e)
      (WrittenBy outlet station log) turned (rest one.after after behind is))
  alone_more old mid new e log station from one rest false other before after was is =
      let apart = station_other e.station station one.is_open.from from other in
      rw other (rest before after (one.others (station - 1) apart ∙ was) is)

  pub alone : (old new : Crew M) (before after : K) (log : List (TurnEntry K)) (station : ℕ) → 1 ≤ station
      → Along turning outlet old before log new after → IsAlone turning outlet old log new station
  alone old new before after [] station from same = λ a b was is.
      let here : a ≡ b = same_some a b (sym was ∙ (ap (λ (c : Crew M). slice_get c.members (station - 1)) (sym same.0) ∙ is)) in
      subst (λ (m : M). turning.turned a [] (λ text. text ≡ []) m) here (turning.turned_none a)
  alone old new before after (e ∷ log) station from along =
      alone_more old along.mid new e log station from along.turn
      (alone along.mid new e.after after log station from along.later) _ refl
