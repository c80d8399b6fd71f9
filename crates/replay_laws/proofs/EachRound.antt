-- What is so of each round by the rules is so of each round of a run.
use Rattle.std.proofs.Common.{ℕ, Bool, true, false, inl, inr, List, [], ◌∷◌, ◌++◌, Option, Some, None, sym, subst}
use Rattle.settings_file.specs.StationSettings.{StationSettings}
use Rattle.schedule_file.specs.Fates.{FatesByNumber}
use Rattle.schedule_file.specs.declared.schedule.step.Stop.{Stop}
use Rattle.replay_laws.specs.Schedule.{ReplayStep}
use Rattle.replay_laws.specs.Replay.{Rounded, Item, Stage, IsRound, Does, Runs, Opens, IsReplay, RunIsBegun, opening_if_closed, opened, stops_opening, closing_items}
use Rattle.replay_laws.specs.Acknowledged.{AllRounds}

module _ (settings : StationSettings) (P : Rounded → Type 0) (law : (f : FatesByNumber) (left : ℕ → List (List ℕ)) (stop : Option Stop) (s : Stage) (x : Rounded) (u : Stage) → IsRound settings f left stop s x u → P x) where
  joined : (xs ys : List Item) → AllRounds P xs → AllRounds P ys → AllRounds P (xs ++ ys)
  joined [] ys h k = k
  joined (Item.Opened rows n ∷ xs) ys h k = joined xs ys h k
  joined (Item.OpenStopped c rows ∷ xs) ys h k = joined xs ys h k
  joined (Item.Ran x ∷ xs) ys h k = (h.0, joined xs ys h.1 k)
  joined (Item.Unsaid n u ∷ xs) ys h k = joined xs ys h k
  joined (Item.Ended rows ∷ xs) ys h k = joined xs ys h k

  -- an opening is no round
  behind_first : (t : Bool) (s : Stage) (o : List Item) → AllRounds P o → AllRounds P (opening_if_closed t s ++ o)
  behind_first true s o h = h
  behind_first false s o h = h

  in_first : (t : Bool) (s : Stage) → AllRounds P (opening_if_closed t s)
  in_first true s = tt
  in_first false s = tt

  in_opening : (t : Bool) (k : Stop) (s : Stage) (is : List Item) (u : Stage) → Opens t k s is u → AllRounds P is
  in_opening true k s is u (i, n) = subst (AllRounds P) (sym i) tt
  in_opening false k s is u (i, n) = subst (AllRounds P) (sym i) tt

  in_step : (x : ReplayStep) (s : Stage) (is : List Item) (u : Stage) → Does settings x s is u → AllRounds P is
  in_step (ReplayStep.Due rs) s is u (i, n) = subst (AllRounds P) (sym i) tt
  in_step (ReplayStep.Idle n) s is u (i, e) = subst (AllRounds P) (sym i) tt
  in_step (ReplayStep.Open None) s is u (i, n) = subst (AllRounds P) (sym i) tt
  in_step (ReplayStep.Open (Some k)) s is u h = in_opening (stops_opening k.change s.archive.size) k s is u h
  in_step (ReplayStep.Round f left stop) s is u (x, k, i) = subst (AllRounds P) (sym i) (behind_first s.is_open s (Item.Ran x ∷ []) (law f left stop (opened s.is_open s) x u k, tt))

  in_steps : (xs : List ReplayStep) (s : Stage) (is : List Item) (u : Stage) → Runs settings xs s is u → AllRounds P is
  in_steps [] s is u (none, same) = subst (AllRounds P) (sym none) tt
  in_steps (x ∷ xs) s is u (mid, now, rest, split, does, again) = subst (AllRounds P) (sym split) (joined now rest (in_step x s now mid does) (in_steps xs mid rest u again))

  pub in_replay : (s : Stage) (steps : List ReplayStep) (o : List Item) → IsReplay settings s steps o → AllRounds P o
  in_replay s steps o (inl whole) =
      let u = whole.last in
      subst (AllRounds P) (sym whole.items_are) (joined whole.given (closing_items u) (in_steps steps s whole.given u whole.runs) (behind_first u.is_open u (Item.Ended u.archive.rows ∷ []) tt))
  in_replay s steps o (inr cut) =
      let u = cut.last in
      let i = cut.unsaid in
      let unsaid : AllRounds P (i ∷ []) = subst (λ (y : Item). AllRounds P (y ∷ [])) (sym cut.broken.is) tt in
      subst (AllRounds P) (sym cut.items_are) (joined cut.given (opening_if_closed u.is_open u ++ i ∷ []) (in_steps cut.before s cut.given u cut.runs) (behind_first u.is_open u (i ∷ []) unsaid))

  pub in_begun : (s : Stage) (steps : List ReplayStep) (o : List Item) → RunIsBegun settings s steps o → AllRounds P o
  in_begun s steps o begun =
      let u = begun.last in
      let given = in_steps begun.before s begun.given u begun.runs in
      elim begun.items_are [
        | inl same ↦ subst (AllRounds P) (sym same) given
        | inr opens ↦ subst (AllRounds P) (sym opens.1) (joined begun.given (opening_if_closed u.is_open u) given (in_first u.is_open u))
      ]
