-- A trial has one answer.
use Rattle.std.proofs.Common.{◌≡◌, ◌≢◌, ℕ, ◌<◌, List, [], ◌∷◌, ◌++◌, length, refl, sym, ◌∙◌, ap, subst, arith, append_assoc, append-nil, Option}
use Rattle.station_base.specs.CivilMinute.{CivilMinute}
use Rattle.vantage_frames.specs.StampFrame.{stamp_frame_of}
use Rattle.serial_link.specs.declared.talk.TalkItem.{TalkItem}
use Rattle.dmpaft_pump.specs.declared.pump_end.PumpEnd.{PumpEnd}
use Rattle.dmpaft_pump.specs.declared.pump_end.PumpEnd.TheVariants as pump_end
use Rattle.dmpaft_driver.specs.declared.trying.TrialEnd.{TrialEnd}
use Rattle.dmpaft_driver.specs.declared.trying.TrialEnd.TheVariants as trial_end
use Rattle.dmpaft_driver.specs.Attempt.{Attempt, End}
use Rattle.dmpaft_driver.specs.Exact.{attempt_end}
use Rattle.dmpaft_pump.specs.Pump.{Over}
use Rattle.dmpaft_driver.specs.Trial.{AttemptGoesOn, BeginsAttempt, TalkIsTried}
use Rattle.dmpaft_driver.proofs.AcknowledgedPages.{one_attempt}
use Rattle.dmpaft_driver.proofs.Exactly.{complete, whole_is, flooded_is, failed_is}
use Rattle.dmpaft_driver.proofs.Stuck.{stuck}

-- the items of a talk up to a place are the front of a longer front
longer_front : (f g : List TalkItem) (i j : TalkItem) (r s : List TalkItem) → f ++ i ∷ r ≡ g ++ j ∷ s → length f < length g → (more : List TalkItem) × (g ≡ f ++ i ∷ more)
longer_front f [] i j r s e l = absurd (omega (arith, l))
longer_front [] (x ∷ g) i j r s e l = let z : x ≡ i = cc in (g, ap (λ (y : TalkItem). y ∷ g) z)
longer_front (y ∷ f) (x ∷ g) i j r s e l =
    let z : x ≡ y = cc in
    let t : f ++ i ∷ r ≡ g ++ j ∷ s = cc in
    let m = longer_front f g i j r s t (omega (arith, l)) in
    (m.0, ap (λ (w : TalkItem). w ∷ g) z ∙ ap (λ (w : List TalkItem). y ∷ w) m.1)

module _ (a : Option CivilMinute) where
  same_end : (e f : PumpEnd) → attempt_end e ≢ End.Refused → attempt_end e ≡ attempt_end f → e ≡ f
  same_end pump_end.Whole f mild e = whole_is a f (sym e)
  same_end (pump_end.Failed trouble) f mild e = failed_is a trouble f (sym e)
  same_end pump_end.Flood f mild e = flooded_is a f (sym e)
  same_end pump_end.Full f mild e = absurd (mild refl)
  same_end pump_end.Stale f mild e = absurd (mild refl)
  same_end pump_end.DiskFault f mild e = absurd (mild refl)

  -- an attempt in which no batch is refused goes on by nothing
  no_more : (talk : List TalkItem) (place : ℕ) (taken : List (List ℕ)) (end : PumpEnd) → Attempt (stamp_frame_of a) talk place taken (attempt_end end) → attempt_end end ≢ End.Refused
      → (rest : List TalkItem) → rest ≢ [] → AttemptGoesOn a talk rest → ⊥
  no_more talk place taken end whole mild [] some on = some refl
  no_more talk place taken end whole mild (i ∷ rest) some on =
      let c = complete a talk place taken end whole (λ z. absurd (mild z)) in
      stuck a talk c.0 (Over c.1 taken end) i c.2 (c.4 mild) (λ z. cc) (λ more. refl) rest on.place on.taken on.end on.kept on.whole

  whole_goes : (talk : List TalkItem) (place : ℕ) (taken : List (List ℕ)) (end : PumpEnd) → Attempt (stamp_frame_of a) talk place taken (attempt_end end) → attempt_end end ≢ End.Refused → AttemptGoesOn a talk []
  whole_goes talk place taken end whole mild = record {
    place = place;
    taken = taken;
    end = attempt_end end;
    whole = subst (λ (y : List TalkItem). Attempt (stamp_frame_of a) y place taken (attempt_end end)) (sym (append-nil talk)) whole;
    kept = mild;
  }

  -- what begins an attempt has fronts that do
  front_begins : (talk front : List TalkItem) (i : TalkItem) (rest more : List TalkItem) → talk ≡ front ++ i ∷ rest → AttemptGoesOn a talk more → BeginsAttempt a (front ++ i ∷ [])
  front_begins talk front i rest more e on =
      let f : talk ++ more ≡ (front ++ i ∷ []) ++ (rest ++ more) = ap (λ (y : List TalkItem). y ++ more) e ∙ append_assoc front (i ∷ rest) more ∙ sym (append_assoc front (i ∷ []) (rest ++ more)) in (
        rest ++ more,
        record {
          place = on.place;
          taken = on.taken;
          end = on.end;
          whole = subst (λ (y : List TalkItem). Attempt (stamp_frame_of a) y on.place on.taken on.end) f on.whole;
          kept = on.kept;
        },
      )

  not_longer : (talk f g : List TalkItem) (i j : TalkItem) (r s : List TalkItem) → talk ≡ f ++ i ∷ r → talk ≡ g ++ j ∷ s → (BeginsAttempt a (f ++ i ∷ []) → ⊥) → BeginsAttempt a g → length f < length g → ⊥
  not_longer talk f g i j r s d e stops begins l =
      let m = longer_front f g i j r s (sym d ∙ e) l in
      stops (front_begins g f i m.0 begins.0 m.1 begins.1)

  pub one_trial : (talk : List TalkItem) (x y : TrialEnd) → TalkIsTried a talk x → TalkIsTried a talk y → x ≡ y
  one_trial talk (trial_end.Attempt e) (trial_end.Attempt f) x y =
      let z = (one_attempt (stamp_frame_of a) talk x.0 y.0 x.1 y.1 (attempt_end e) (attempt_end f) x.2 y.2).ends in
      ap (λ (w : PumpEnd). trial_end.Attempt w) (same_end e f x.3 z)
  one_trial talk (trial_end.Attempt e) trial_end.Unfinished x y = absurd (no_more talk x.0 x.1 e x.2 x.3 y.0 y.1 y.2)
  one_trial talk (trial_end.Attempt e) (trial_end.Not n) x (front, i, rest, is, l, begins, no_next) = absurd (no_next (front_begins talk front i rest [] is (whole_goes talk x.0 x.1 e x.2 x.3)))
  one_trial talk trial_end.Unfinished (trial_end.Attempt f) x y = absurd (no_more talk y.0 y.1 f y.2 y.3 x.0 x.1 x.2)
  one_trial talk trial_end.Unfinished trial_end.Unfinished x y = refl
  one_trial talk trial_end.Unfinished (trial_end.Not n) x (front, i, rest, is, l, begins, no_next) = absurd (no_next (front_begins talk front i rest x.0 is x.2))
  one_trial talk (trial_end.Not m) (trial_end.Attempt f) (front, i, rest, is, l, begins, no_next) y = absurd (no_next (front_begins talk front i rest [] is (whole_goes talk y.0 y.1 f y.2 y.3)))
  one_trial talk (trial_end.Not m) trial_end.Unfinished (front, i, rest, is, l, begins, no_next) y = absurd (no_next (front_begins talk front i rest y.0 is y.2))
  one_trial talk (trial_end.Not m) (trial_end.Not n) x y =
      let less : length x.0 < length y.0 → ⊥ = not_longer talk x.0 y.0 x.1 y.1 x.2 y.2 x.3 y.3 x.6 y.5 in
      let more : length y.0 < length x.0 → ⊥ = not_longer talk y.0 x.0 y.1 x.1 y.2 x.2 y.3 x.3 y.6 x.5 in
      ap (λ k. trial_end.Not k) (grind (arith, less, more, x.4, y.4))
