-- What turns of all stations write.
use Rattle.std.proofs.Common.{ℕ, List, [], ◌∷◌, ◌++◌, refl, sym, subst}
use Rattle.station_io.specs.Sink.{Outlet}
use Rattle.fleet.specs.Crew.{Crew}
use Rattle.fleet.specs.Lines.{with_station_number}
use Rattle.fleet.specs.Log.{Along}
use Rattle.fleet.specs.MemberTurns.{Turning, texts_join}
use Rattle.fleet.specs.TurnText.{AreTextsOf, TurnEntry, IsTextOf}

module _ {M K : Type 0} (turning : Turning M) (outlet : Outlet K) where
  -- the text of a turn was written in it
  wrote_turn : (e : TurnEntry K) (text : List ℕ) → IsTextOf outlet e text → outlet.wrote e.before text e.after
  wrote_turn e text is = subst (λ (t : List ℕ). outlet.wrote e.before t e.after) (sym is.2) is.1.wrote

  -- whatever the turns wrote was written
  pub wrote_along : (old new : Crew M) (before after : K) (log : List (TurnEntry K)) (text : List ℕ)
      → Along turning outlet old before log new after → AreTextsOf outlet log text → outlet.wrote before text after
  wrote_along old new before after [] text same is =
      subst (λ (t : List ℕ). outlet.wrote before t after) (sym is)
      (subst (λ (k : K). outlet.wrote before [] k) (sym same.1) (outlet.wrote_none before))
  wrote_along old new before after (e ∷ log) text along both =
      let first : outlet.wrote before both.first e.after =
      subst (λ (k : K). outlet.wrote k both.first e.after) along.begins (wrote_turn e both.first both.first_is) in
      let later : outlet.wrote e.after both.later after =
      wrote_along along.mid new e.after after log both.later along.later both.later_is in
      subst (λ (t : List ℕ). outlet.wrote before t after) (sym both.whole)
      (outlet.wrote_joins before e.after after both.first both.later first later)

  -- they wrote something
  pub text_along : (old new : Crew M) (before after : K) (log : List (TurnEntry K))
      → Along turning outlet old before log new after → (text : List ℕ) × AreTextsOf outlet log text
  text_along old new before after [] same = ([], refl)
  text_along old new before after (e ∷ log) along =
      let later = text_along along.mid new e.after after log along.later in
      let one = along.turn in
      let first = with_station_number e.station one.written ++ one.writes.part in
      (first ++ later.0, texts_join first later.0 (one.written, one.writes, refl) later.1)
