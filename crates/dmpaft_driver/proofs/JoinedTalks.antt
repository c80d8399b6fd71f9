-- A pump that takes one talk after another.
use Rattle.std.proofs.Common.{◌≡◌, ◌≢◌, ℕ, Bool, true, false, List, [], ◌∷◌, ◌++◌, refl, ◌∙◌, ap, Option}
use Rattle.station_base.specs.CivilMinute.{CivilMinute}
use Rattle.serial_link.specs.Talk.{message}
use Rattle.serial_link.specs.declared.talk.TalkItem.{TalkItem}
use Rattle.serial_link.specs.declared.talk.TalkItem.TheVariants.{Said}
use Rattle.causes.specs.declared.stored.Stored.{Stored}
use Rattle.causes.specs.declared.stored.Stored.TheVariants as stored
use Rattle.dmpaft_pump.specs.Pump.{AttemptPart, AttemptState, Saying, Hearing, Keeping, Over, Astray, saying, said_if, is_said, attempt_step, pump_from, answered_by}
use Rattle.dmpaft_pump.proofs.PumpSteps.{astray_stays, said_refl}
use Rattle.dmpaft_driver.proofs.Exactly.{kept_done}
use Rattle.dmpaft_pump.proofs.Steps.{rest_same}

module _ (a : Option CivilMinute) where
  kept_joins : (more at : ℕ) (taken : List (List ℕ)) (page : List ℕ) (k : Stored) (u : List TalkItem) (js : List Stored)
      → pump_from a (Keeping more at taken page) u (k ∷ js) ≡ pump_from a (answered_by a more at (taken ++ page ∷ []) k) u js
  kept_joins more at taken page stored.Done u js = kept_done a more at taken page u js
  kept_joins more at taken page stored.Full [] js = refl
  kept_joins more at taken page stored.Full (i ∷ u) js = refl
  kept_joins more at taken page stored.Stale [] js = refl
  kept_joins more at taken page stored.Stale (i ∷ u) js = refl
  kept_joins more at taken page stored.DiskFault [] js = refl
  kept_joins more at taken page stored.DiskFault (i ∷ u) js = refl

  -- one talk and its answers after another are one talk and its answers
  pub joins : (s : AttemptState) (t u : List TalkItem) (ks js : List Stored) → pump_from a s t ks ≢ Astray → pump_from a s (t ++ u) (ks ++ js) ≡ pump_from a (pump_from a s t ks) u js
  joins (Saying p i l) [] u [] js ne = refl
  joins (Saying p i l) [] u (k ∷ ks) js ne = absurd (ne refl)
  joins (Saying p i l) (x ∷ t) u ks js ne = joins (said_if p l (is_said i x)) t u ks js ne
  joins (Hearing p bs r) [] u [] js ne = refl
  joins (Hearing p bs r) [] u (k ∷ ks) js ne = absurd (ne refl)
  joins (Hearing p bs r) (x ∷ t) u ks js ne = joins (attempt_step a (Hearing p bs r) x) t u ks js ne
  joins (Keeping more at taken page) [] u [] js ne = refl
  joins (Keeping more at taken page) [] u (k ∷ []) js ne = kept_joins more at taken page k u js
  joins (Keeping more at taken page) [] u (k ∷ m ∷ ks) js ne = absurd (ne refl)
  joins (Keeping more at taken page) (x ∷ t) u [] js ne = absurd (ne (astray_stays a t []))
  joins (Keeping more at taken page) (x ∷ t) u (k ∷ ks) js ne = joins (attempt_step a (answered_by a more at (taken ++ page ∷ []) k) x) t u ks js ne
  joins (Over at taken end) [] u [] js ne = refl
  joins (Over at taken end) [] u (k ∷ ks) js ne = absurd (ne refl)
  joins (Over at taken end) (x ∷ t) u ks js ne = absurd (ne (astray_stays a t ks))
  joins Astray [] u [] js ne = absurd (ne refl)
  joins Astray [] u (k ∷ ks) js ne = absurd (ne refl)
  joins Astray (x ∷ t) u ks js ne = absurd (ne (astray_stays a t ks))

  nothing_left : (u v : List TalkItem) → u ++ v ≡ [] → (u ≡ []) × (v ≡ [])
  nothing_left [] v e = (refl, e)
  nothing_left (x ∷ u) v e = cc

  -- a front of a message is said, and the rest of it is one
  pub said_front : (p : AttemptPart) (bytes : List ℕ) (u v : List TalkItem) → u ++ v ≡ message bytes
      → (left : List ℕ) × (v ≡ message left) × (pump_from a (saying p (message bytes)) u [] ≡ saying p (message left))
  said_front p bytes [] v e = (bytes, e, here bytes)
    where
      here : (bytes : List ℕ) → pump_from a (saying p (message bytes)) [] [] ≡ saying p (message bytes)
      here bytes = rest_same a (saying p (message bytes))
  said_front p [] (x ∷ u) v e = cc
  said_front p (b ∷ []) (x ∷ u) v e =
      let one : x ≡ Said b true = cc in
      let rest : u ++ v ≡ [] = cc in
      let n = nothing_left u v rest in
      ([], n.1, ap (λ (y : TalkItem). pump_from a (said_if p [] (is_said (Said b true) y)) u []) one ∙ ap (λ (y : Bool). pump_from a (said_if p [] y) u []) (said_refl b true) ∙ ap (λ (y : List TalkItem). pump_from a (saying p []) y []) n.0 ∙ rest_same a (saying p []))
  said_front p (b ∷ c ∷ bs) (x ∷ u) v e =
      let one : x ≡ Said b false = cc in
      let rest : u ++ v ≡ message (c ∷ bs) = cc in
      let k = said_front p (c ∷ bs) u v rest in
      (k.0, k.1, ap (λ (y : TalkItem). pump_from a (said_if p (message (c ∷ bs)) (is_said (Said b false) y)) u []) one ∙ ap (λ (y : Bool). pump_from a (said_if p (message (c ∷ bs)) y) u []) (said_refl b false) ∙ k.2)
