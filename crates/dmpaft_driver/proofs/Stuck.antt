-- What a pump does not allow begins no rest of an attempt.
use Rattle.std.proofs.Common.{◌≡◌, ◌≢◌, ℕ, List, [], ◌∷◌, ◌++◌, refl, sym, ◌∙◌, ap, subst, Option}
use Rattle.station_base.specs.CivilMinute.{CivilMinute}
use Rattle.vantage_frames.specs.StampFrame.{stamp_frame_of}
use Rattle.serial_link.specs.declared.talk.TalkItem.{TalkItem}
use Rattle.causes.specs.declared.stored.Stored.{Stored}
use Rattle.causes.specs.declared.stored.Stored.TheVariants as stored
use Rattle.dmpaft_pump.specs.declared.pump_end.PumpEnd.{PumpEnd}
use Rattle.dmpaft_pump.specs.declared.pump_end.PumpEnd.TheVariants as pump_end
use Rattle.dmpaft_driver.specs.Attempt.{Attempt, End}
use Rattle.dmpaft_driver.specs.Exact.{attempt_end, AllDone, RefusesGiven, Stuck}
use Rattle.dmpaft_pump.specs.Pump.{AttemptState, Saying, Hearing, Keeping, Over, Astray, Settling, begun, attempt_step, answer_taken, ungiven, onward, pump_from}
use Rattle.dmpaft_driver.proofs.Exactly.{complete, kept_done}
use Rattle.dmpaft_pump.proofs.PumpSteps.{no_astray, astray_stays}

-- a pump's end for each end of an attempt
pump_end_for : (e : End) → (x : PumpEnd) × (attempt_end x ≡ e)
pump_end_for End.Whole = (pump_end.Whole, refl)
pump_end_for (End.Failed trouble) = (pump_end.Failed trouble, refl)
pump_end_for End.Refused = (pump_end.Full, refl)
pump_end_for End.Flooded = (pump_end.Flood, refl)

module _ (a : Option CivilMinute) (p : ℕ) (ps : List (List ℕ)) (x : PumpEnd) where
  -- where each batch is kept, the talk alone says where a pump stands, but for the batch that the keeper may have now
  pub same_done : (s : AttemptState) (t u : List TalkItem) (ks js : List Stored) → AllDone ks → AllDone js → pump_from a s t ks ≢ Astray → pump_from a s (t ++ u) js ≡ Over p ps x
      → (is : List Stored) × AllDone is × (pump_from a (pump_from a s t ks) u is ≡ Over p ps x)
  same_done (Saying part i l) [] u [] js dk dj ne e = (js, dj, e)
  same_done (Saying part i l) [] u (k ∷ ks) js dk dj ne e = absurd (ne refl)
  same_done (Saying part i l) (b ∷ t) u ks js dk dj ne e = same_done (attempt_step a (Saying part i l) b) t u ks js dk dj ne e
  same_done (Hearing part bs r) [] u [] js dk dj ne e = (js, dj, e)
  same_done (Hearing part bs r) [] u (k ∷ ks) js dk dj ne e = absurd (ne refl)
  same_done (Hearing part bs r) (b ∷ t) u ks js dk dj ne e = same_done (attempt_step a (Hearing part bs r) b) t u ks js dk dj ne e
  same_done (Over at taken end) [] u [] js dk dj ne e = (js, dj, e)
  same_done (Over at taken end) [] u (k ∷ ks) js dk dj ne e = absurd (ne refl)
  same_done (Over at taken end) (b ∷ t) u ks js dk dj ne e = absurd (ne (astray_stays a t ks))
  same_done Astray [] u [] js dk dj ne e = absurd (ne refl)
  same_done Astray [] u (k ∷ ks) js dk dj ne e = absurd (ne refl)
  same_done Astray (b ∷ t) u ks js dk dj ne e = absurd (ne (astray_stays a t ks))
  same_done (Keeping more at taken page) [] u [] js dk dj ne e = (js, dj, e)
  same_done (Keeping more at taken page) [] u (k ∷ i ∷ ks) js dk dj ne e = absurd (ne refl)
  same_done (Keeping more at taken page) [] [] (k ∷ []) [] dk dj ne e = cc
  same_done (Keeping more at taken page) [] (b ∷ u) (k ∷ []) [] dk dj ne e = absurd (no_astray a u [] p ps x e)
  same_done (Keeping more at taken page) [] u (k ∷ []) (j ∷ js) dk dj ne e = (
    js,
    dj.1,
    ap (λ (y : Stored). pump_from a (pump_from a (Keeping more at taken page) [] (y ∷ [])) u js) dk.0
        ∙ sym (kept_done a more at taken page u js) ∙ ap (λ (y : Stored). pump_from a (Keeping more at taken page) u (y ∷ js)) (sym dj.0) ∙ e,
  )
  same_done (Keeping more at taken page) (b ∷ t) u [] js dk dj ne e = absurd (ne (astray_stays a t []))
  same_done (Keeping more at taken page) (b ∷ t) u (k ∷ ks) [] dk dj ne e = absurd (no_astray a (t ++ u) [] p ps x e)
  same_done (Keeping more at taken page) (b ∷ t) u (k ∷ ks) (j ∷ js) dk dj ne e =
      let go = λ (y : Stored). pump_from a (attempt_step a (answer_taken a (Keeping more at taken page) (y ∷ [])) b) t ks in
      let f : go k ≡ go stored.Done = ap go dk.0 in
      let r = same_done (attempt_step a (begun a (onward more at (taken ++ page ∷ []))) b) t u ks js dk.1 dj.1 (λ z. ne (f ∙ z)) (ap (λ (y : Stored). pump_from a (Keeping more at taken page) (b ∷ (t ++ u)) (y ∷ js)) (sym dj.0) ∙ e) in
      (r.0, r.1, ap (λ (y : AttemptState). pump_from a y u r.0) f ∙ r.2)

never_refused : (e : End) → e ≢ End.Refused → (a : Option CivilMinute) (place : ℕ) (taken : List (List ℕ)) → RefusesGiven a place taken e
never_refused e ne a place taken = λ z. absurd (ne z)

-- an item that a pump does not allow begins no rest of an attempt
pub stuck : (a : Option CivilMinute) → Stuck a
stuck a talk ks s i at done ne bad rest place taken e not_refused whole =
    let x = pump_end_for e in
    let c = complete a (talk ++ i ∷ rest) place taken x.0 (subst (λ (z : End). Attempt (stamp_frame_of a) (talk ++ i ∷ rest) place taken z) (sym x.1) whole) (subst (λ (z : End). RefusesGiven a place taken z) (sym x.1) (never_refused e not_refused a place taken)) in
    let d = same_done a c.1 taken x.0 (begun a Settling) talk (i ∷ rest) ks c.0 done (c.4 (λ z. not_refused (sym x.1 ∙ z))) (λ z. ne (sym at ∙ z)) c.2 in
    let f : pump_from a s (i ∷ rest) d.0 ≡ Over c.1 taken x.0 = ap (λ (y : AttemptState). pump_from a y (i ∷ rest) d.0) (sym at) ∙ d.2 in
    no_astray a rest (ungiven s d.0) c.1 taken x.0 (ap (λ (y : AttemptState). pump_from a y rest (ungiven s d.0)) (sym (bad d.0)) ∙ f)
