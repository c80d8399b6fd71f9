-- A pump has ended exactly after an attempt.
use Rattle.std.proofs.Common.{◌≡◌, ◌≢◌, ℕ, zero, suc, ◌+◌, ◌<◌, ◌⊎◌, Bool, true, List, [], ◌∷◌, ◌++◌, length, length-append, refl, sym, ◌∙◌, ap, subst, inl, inr, arith, append-nil, Option}
use Rattle.station_base.specs.CivilMinute.{CivilMinute}
use Rattle.serial_link.specs.Talk.{message}
use Rattle.serial_link.specs.declared.talk.TalkItem.{TalkItem}
use Rattle.serial_link.specs.declared.talk.TalkItem.TheVariants.{Said}
use Rattle.wake_retry.specs.Parts.{heard}
use Rattle.causes.specs.declared.stored.Stored.{Stored}
use Rattle.causes.specs.declared.stored.Stored.TheVariants as stored
use Rattle.dmpaft_pump.specs.declared.outcome.Trouble.{Trouble}
use Rattle.dmpaft_pump.specs.declared.pump_end.PumpEnd.{PumpEnd}
use Rattle.dmpaft_pump.specs.declared.pump_end.PumpEnd.TheVariants as pump_end
use Rattle.dmpaft_driver.specs.Attempt.{End}
use Rattle.dmpaft_pump.specs.Pump.{saying, AttemptPart, Settling, Waking, Calling, Heading, Asking, Resettling, Acking, GivingUp, Next, Goes, Keeps, Empty, Floods, AttemptState, Hearing, Keeping, Over, Astray, words, quiets, most, onward, next_after_part, words_said, begun, state_at, pump_from}
use Rattle.dmpaft_driver.specs.Exact.{attempt_end, AllDone, RefusesGiven, Sound, Complete}
use Rattle.dmpaft_pump.proofs.Hears.{HearsFrom, hears_some}
use Rattle.dmpaft_pump.proofs.PumpSteps.{no_astray, over_is, said_out, Within, Passed, passes, said_in, heard_in}
use Rattle.dmpaft_driver.proofs.Rest.{Likeness, Rest, RestAt, Listens, onward_pages, pages_onward, out}
use Rattle.dmpaft_driver.proofs.FirstParts.{into}

-- the place is that of the pump
abbrev pub Exact : Likeness
Exact taken place at = place ≡ at

-- or no page was taken
abbrev Loose : Likeness
Loose taken place at = (taken ≡ []) ⊎ (place ≡ at)

pub some_quiets : (p : AttemptPart) → 0 < quiets p
some_quiets Settling = omega arith
some_quiets (Waking left) = omega arith
some_quiets Calling = omega arith
some_quiets Heading = omega arith
some_quiets (Asking more at taken left b) = omega arith
some_quiets (Resettling more at taken left b) = omega arith
some_quiets (Acking at taken) = omega arith
some_quiets (GivingUp at taken trouble) = omega arith

pub some_bytes : (p : AttemptPart) → 0 < most p
some_bytes Settling = omega arith
some_bytes (Waking left) = omega arith
some_bytes Calling = omega arith
some_bytes Heading = omega arith
some_bytes (Asking more at taken left b) = omega arith
some_bytes (Resettling more at taken left b) = omega arith
some_bytes (Acking at taken) = omega arith
some_bytes (GivingUp at taken trouble) = omega arith

pub told_is : (p : AttemptPart) → Listens p → words_said p ≡ Hearing p [] 0
told_is Settling is = refl
told_is (Waking left) is = refl
told_is Calling is = refl
told_is Heading is = refl
told_is (Asking more at taken left b) is = refl
told_is (Resettling more at taken left b) is = refl
told_is (Acking at taken) none = absurd none
told_is (GivingUp at taken trouble) none = absurd none

module _ (p q : ℕ) (ps qs : List (List ℕ)) (x y : PumpEnd) (e : Over p ps x ≡ Over q qs y) where
  pub same_place : q ≡ p
  same_place = cc

  pub same_pages : qs ≡ ps
  same_pages = cc

  pub same_end : attempt_end y ≡ attempt_end x
  same_end = let z : y ≡ x = cc in ap attempt_end z

-- what is left of a talk behind a part is shorter
pub less_left : (a : Option CivilMinute) (p : AttemptPart) (t u rest : List TalkItem) (full : Bool) (n : ℕ) → t ≡ message (words a p) ++ (u ++ rest) → HearsFrom (quiets p) (most p) 0 0 u full → length t < suc n → length rest < n
less_left a p t u rest full n f h l =
    let size : length t ≡ length (message (words a p)) + (length u + length rest) = ap length f ∙ omega (arith, length-append (message (words a p)) (u ++ rest), length-append u rest) in
    omega (arith, size, l, hears_some (quiets p) (most p) 0 0 u full h)

module _ (a : Option CivilMinute) where
  -- with its batch kept the pump goes on
  pub kept_done : (more at : ℕ) (taken : List (List ℕ)) (page : List ℕ) (t : List TalkItem) (ks : List Stored) → pump_from a (Keeping more at taken page) t (stored.Done ∷ ks) ≡ pump_from a (begun a (onward more at (taken ++ page ∷ []))) t ks
  kept_done zero at taken page [] ks = refl
  kept_done zero at taken page (i ∷ t) ks = refl
  kept_done (suc more) at taken page [] ks = refl
  kept_done (suc more) at taken page (i ∷ t) ks = refl

  over_ne : (place : ℕ) (all : List (List ℕ)) (end : PumpEnd) → Over place all end ≢ Astray
  over_ne place all end = λ z. cc

  module _ (ks : List Stored) (place : ℕ) (all : List (List ℕ)) (end : PumpEnd) where
    not_within : (p : AttemptPart) → Within a ks (Over place all end) (over_ne place all end) p → ⊥
    not_within p (inl x) = let z = x.2 in cc
    not_within p (inr x) = let z = x.2 in cc

    spoken_over : (p : AttemptPart) (l t : List TalkItem) → pump_from a (saying p l) t ks ≡ Over place all end → (u : List TalkItem) × (t ≡ l ++ u) × (pump_from a (words_said p) u ks ≡ Over place all end)
    spoken_over p l t e = go (said_out a ks (Over place all end) (over_ne place all end) p l t e)
      where
        go : Within a ks (Over place all end) (over_ne place all end) p ⊎ ((u : List TalkItem) × (t ≡ l ++ u) × (pump_from a (words_said p) u ks ≡ Over place all end)) → (u : List TalkItem) × (t ≡ l ++ u) × (pump_from a (words_said p) u ks ≡ Over place all end)
        go (inl x) = absurd (not_within p x)
        go (inr y) = y

  abbrev Holds : ℕ → Type 0
  Holds n = (p : AttemptPart) (t : List TalkItem) (ks : List Stored) (place : ℕ) (all : List (List ℕ)) (end : PumpEnd) → length t < n → pump_from a (begun a p) t ks ≡ Over place all end → Rest Exact a p t place all (attempt_end end)

  module _ (n : ℕ) (ih : Holds n) where
    refused_at : (more at : ℕ) (taken : List (List ℕ)) (page : List ℕ) (x : PumpEnd) → attempt_end x ≡ End.Refused → (t : List TalkItem) (ks : List Stored) (place : ℕ) (all : List (List ℕ)) (end : PumpEnd)
        → pump_from a (Over at (taken ++ page ∷ []) x) t ks ≡ Over place all end → RestAt Exact a (Keeps more at taken page) t place all (attempt_end end)
    refused_at more at taken page x r t ks place all end e =
        let y = over_is a at (taken ++ page ∷ []) x t ks place all end e in (
          same_place at place (taken ++ page ∷ []) all x end y.2,
          [],
          same_pages at place (taken ++ page ∷ []) all x end y.2 ∙ sym (append-nil (taken ++ page ∷ [])),
          inr (y.0, refl, same_end at place (taken ++ page ∷ []) all x end y.2 ∙ r),
        )

    sound_at : (x : Next) (t : List TalkItem) (ks : List Stored) (place : ℕ) (all : List (List ℕ)) (end : PumpEnd) → length t < n → pump_from a (state_at a x) t ks ≡ Over place all end → RestAt Exact a x t place all (attempt_end end)
    sound_at (Goes p) t ks place all end l e = ih p t ks place all end l e
    sound_at (Empty at) t ks place all end l e =
        let y = over_is a at [] pump_end.Whole t ks place all end e in
        (y.0, same_place at place [] all pump_end.Whole end y.2, same_pages at place [] all pump_end.Whole end y.2, same_end at place [] all pump_end.Whole end y.2)
    sound_at (Floods at taken) t ks place all end l e =
        let y = over_is a at taken pump_end.Flood t ks place all end e in
        (y.0, same_place at place taken all pump_end.Flood end y.2, same_pages at place taken all pump_end.Flood end y.2, same_end at place taken all pump_end.Flood end y.2)
    sound_at (Keeps more at taken page) [] [] place all end l e = cc
    sound_at (Keeps more at taken page) (i ∷ t) [] place all end l e = absurd (no_astray a t [] place all end e)
    sound_at (Keeps more at taken page) t (stored.Done ∷ ks) place all end l e =
        onward_pages Exact a more at taken page t place all (attempt_end end) (ih (onward more at (taken ++ page ∷ [])) t ks place all end l (sym (kept_done more at taken page t ks) ∙ e))
    sound_at (Keeps more at taken page) [] (stored.Full ∷ ks) place all end l e = refused_at more at taken page pump_end.Full refl [] ks place all end e
    sound_at (Keeps more at taken page) (i ∷ t) (stored.Full ∷ ks) place all end l e = refused_at more at taken page pump_end.Full refl (i ∷ t) ks place all end e
    sound_at (Keeps more at taken page) [] (stored.Stale ∷ ks) place all end l e = refused_at more at taken page pump_end.Stale refl [] ks place all end e
    sound_at (Keeps more at taken page) (i ∷ t) (stored.Stale ∷ ks) place all end l e = refused_at more at taken page pump_end.Stale refl (i ∷ t) ks place all end e
    sound_at (Keeps more at taken page) [] (stored.DiskFault ∷ ks) place all end l e = refused_at more at taken page pump_end.DiskFault refl [] ks place all end e
    sound_at (Keeps more at taken page) (i ∷ t) (stored.DiskFault ∷ ks) place all end l e = refused_at more at taken page pump_end.DiskFault refl (i ∷ t) ks place all end e

    sound_passed : (p : AttemptPart) → Listens p → (t : List TalkItem) (ks : List Stored) (place : ℕ) (all : List (List ℕ)) (end : PumpEnd) → length t < suc n
        → Within a ks (Over place all end) (over_ne place all end) p ⊎ Passed a ks (Over place all end) (over_ne place all end) p t → Rest Exact a p t place all (attempt_end end)
    sound_passed p is t ks place all end l (inl x) = absurd (not_within ks place all end p x)
    sound_passed p is t ks place all end l (inr (u, rest, full, f, h, g)) =
        out Exact (λ taken place at x. x) a t place all (attempt_end end) p is (u, rest, full, f, h, sound_at (next_after_part a p full (heard u)) rest ks place all end (less_left a p t u rest full n f h l) g)

    sound_part : (p : AttemptPart) → Listens p → (t : List TalkItem) (ks : List Stored) (place : ℕ) (all : List (List ℕ)) (end : PumpEnd) → length t < suc n → pump_from a (begun a p) t ks ≡ Over place all end → Rest Exact a p t place all (attempt_end end)
    sound_part p is t ks place all end l e = sound_passed p is t ks place all end l (passes a ks (Over place all end) (over_ne place all end) p (told_is p is) (some_quiets p) (some_bytes p) t e)

    sound_more : Holds (suc n)
    sound_more Settling t ks place all end l e = sound_part Settling tt t ks place all end l e
    sound_more (Waking left) t ks place all end l e = sound_part (Waking left) tt t ks place all end l e
    sound_more Calling t ks place all end l e = sound_part Calling tt t ks place all end l e
    sound_more Heading t ks place all end l e = sound_part Heading tt t ks place all end l e
    sound_more (Asking more at taken left b) t ks place all end l e = sound_part (Asking more at taken left b) tt t ks place all end l e
    sound_more (Resettling more at taken left b) t ks place all end l e = sound_part (Resettling more at taken left b) tt t ks place all end l e
    sound_more (Acking at taken) t ks place all end l e =
        let said = spoken_over ks place all end (Acking at taken) (Said 6 true ∷ []) t e in
        let y = over_is a at taken pump_end.Whole said.0 ks place all end said.2 in
        (said.1 ∙ ap (λ (z : List TalkItem). Said 6 true ∷ z) y.0, same_place at place taken all pump_end.Whole end y.2, same_pages at place taken all pump_end.Whole end y.2, same_end at place taken all pump_end.Whole end y.2)
    sound_more (GivingUp at taken trouble) t ks place all end l e =
        let said = spoken_over ks place all end (GivingUp at taken trouble) (Said 27 true ∷ []) t e in
        let y = over_is a at taken (pump_end.Failed trouble) said.0 ks place all end said.2 in
        (said.1 ∙ ap (λ (z : List TalkItem). Said 27 true ∷ z) y.0, same_place at place taken all (pump_end.Failed trouble) end y.2, same_pages at place taken all (pump_end.Failed trouble) end y.2, same_end at place taken all (pump_end.Failed trouble) end y.2)

  holds : (n : ℕ) → Holds n
  holds zero = λ p t ks place all end l e. absurd (omega (arith, l))
  holds (suc n) = sound_more n (holds n)

  pub sound : Sound a
  sound talk answers place taken end e = holds (suc (length talk)) Settling talk answers place taken end (omega arith) e

  -- the pump ends by some answers
  abbrev pub Found : AttemptState → List TalkItem → ℕ → List (List ℕ) → PumpEnd → Type 0
  Found s t place all end = (ks : List Stored) × (at : ℕ) × (pump_from a s t ks ≡ Over at all end) × ((all ≡ []) ⊎ (place ≡ at)) × (attempt_end end ≢ End.Refused → AllDone ks)

  pub whole_is : (end : PumpEnd) → attempt_end end ≡ End.Whole → pump_end.Whole ≡ end
  whole_is pump_end.Whole e = refl
  whole_is (pump_end.Failed trouble) e = cc
  whole_is pump_end.Full e = cc
  whole_is pump_end.Stale e = cc
  whole_is pump_end.DiskFault e = cc
  whole_is pump_end.Flood e = cc

  pub flooded_is : (end : PumpEnd) → attempt_end end ≡ End.Flooded → pump_end.Flood ≡ end
  flooded_is pump_end.Whole e = cc
  flooded_is (pump_end.Failed trouble) e = cc
  flooded_is pump_end.Full e = cc
  flooded_is pump_end.Stale e = cc
  flooded_is pump_end.DiskFault e = cc
  flooded_is pump_end.Flood e = refl

  pub failed_is : (trouble : Trouble) (end : PumpEnd) → attempt_end end ≡ End.Failed trouble → pump_end.Failed trouble ≡ end
  failed_is trouble pump_end.Whole e = cc
  failed_is trouble (pump_end.Failed other) e = let z : trouble ≡ other = cc in ap (λ (y : Trouble). pump_end.Failed y) z
  failed_is trouble pump_end.Full e = cc
  failed_is trouble pump_end.Stale e = cc
  failed_is trouble pump_end.DiskFault e = cc
  failed_is trouble pump_end.Flood e = cc

  abbrev Finds : ℕ → Type 0
  Finds n = (p : AttemptPart) (t : List TalkItem) (place : ℕ) (all : List (List ℕ)) (end : PumpEnd) → length t < n → RefusesGiven a place all (attempt_end end) → Rest Loose a p t place all (attempt_end end) → Found (begun a p) t place all end

  found_over : (at : ℕ) (taken : List (List ℕ)) (x : PumpEnd) (t : List TalkItem) (place : ℕ) (all : List (List ℕ)) (end : PumpEnd) → t ≡ [] → (taken ≡ []) ⊎ (place ≡ at) → all ≡ taken → x ≡ end → Found (Over at taken x) t place all end
  found_over at taken x t place all end e w f g =
      ([], at, ap (λ (y : List TalkItem). pump_from a (Over at taken x) y []) e ∙ ap (λ (y : PumpEnd). Over at taken y) g ∙ ap (λ (y : List (List ℕ)). Over at y end) (sym f), subst (λ (y : List (List ℕ)). (y ≡ []) ⊎ (place ≡ at)) (sym f) w, λ ne. tt)

  module _ (n : ℕ) (ih : Finds n) where
    refused_by : (more at : ℕ) (taken : List (List ℕ)) (page : List ℕ) (place : ℕ) (all : List (List ℕ)) (end : PumpEnd) → attempt_end end ≡ End.Refused → place ≡ at → all ≡ taken ++ page ∷ [] → Found (Keeping more at taken page) [] place all end
    refused_by more at taken page place all pump_end.Full r e f = (stored.Full ∷ [], at, ap (λ (y : List (List ℕ)). Over at y pump_end.Full) (sym f), inr e, λ ne. absurd (ne refl))
    refused_by more at taken page place all pump_end.Stale r e f = (stored.Stale ∷ [], at, ap (λ (y : List (List ℕ)). Over at y pump_end.Stale) (sym f), inr e, λ ne. absurd (ne refl))
    refused_by more at taken page place all pump_end.DiskFault r e f = (stored.DiskFault ∷ [], at, ap (λ (y : List (List ℕ)). Over at y pump_end.DiskFault) (sym f), inr e, λ ne. absurd (ne refl))
    refused_by more at taken page place all pump_end.Whole r e f = cc
    refused_by more at taken page place all (pump_end.Failed trouble) r e f = cc
    refused_by more at taken page place all pump_end.Flood r e f = cc

    found_at : (x : Next) (t : List TalkItem) (place : ℕ) (all : List (List ℕ)) (end : PumpEnd) → length t < n → RefusesGiven a place all (attempt_end end) → RestAt Loose a x t place all (attempt_end end) → Found (state_at a x) t place all end
    found_at (Goes p) t place all end l s x = ih p t place all end l s x
    found_at (Empty at) t place all end l s x = found_over at [] pump_end.Whole t place all end x.0 x.1 x.2 (whole_is end x.3)
    found_at (Floods at taken) t place all end l s x = found_over at taken pump_end.Flood t place all end x.0 x.1 x.2 (flooded_is end x.3)
    found_at (Keeps more at taken page) t place all end l s (e, later, f, inl pages) =
        let y = ih (onward more at (taken ++ page ∷ [])) t place all end l s (pages_onward Loose a more at taken later page t place all (attempt_end end) e f pages) in
        (stored.Done ∷ y.0, y.1, kept_done more at taken page t y.0 ∙ y.2, y.3, λ ne. (refl, y.4 ne))
    found_at (Keeps more at taken page) t place all end l s (e, later, f, inr x) =
        subst (λ (y : List TalkItem). Found (Keeping more at taken page) y place all end) (sym x.0)
        (refused_by more at taken page place all end x.2 e (f ∙ ap (λ (y : List (List ℕ)). (taken ++ page ∷ []) ++ y) x.1 ∙ append-nil (taken ++ page ∷ [])))

    found_part : (p : AttemptPart) → Listens p → (t : List TalkItem) (place : ℕ) (all : List (List ℕ)) (end : PumpEnd) → length t < suc n → RefusesGiven a place all (attempt_end end) → Rest Loose a p t place all (attempt_end end) → Found (begun a p) t place all end
    found_part p is t place all end l s x =
        let went = into Loose (λ taken place at e. inr e) (λ place. inl refl) a t place all (attempt_end end) p is s x in
        let size : length t ≡ length (message (words a p)) + (length went.0 + length went.1) = ap length went.3 ∙ omega (arith, length-append (message (words a p)) (went.0 ++ went.1), length-append went.0 went.1) in
        let less : length went.1 < n = omega (arith, size, l, hears_some (quiets p) (most p) 0 0 went.0 went.2 went.4) in
        let y = found_at (next_after_part a p went.2 (heard went.0)) went.1 place all end less s went.5 in (
          y.0,
          y.1,
          ap (λ (z : List TalkItem). pump_from a (begun a p) z y.0) went.3 ∙ said_in a p (words a p) (went.0 ++ went.1) y.0 ∙ ap (λ (z : AttemptState). pump_from a z (went.0 ++ went.1) y.0) (told_is p is) ∙ heard_in a p [] 0 went.0 went.1 went.2 y.0 went.4 ∙ y.2,
          y.3,
          y.4,
        )

    found_more : Finds (suc n)
    found_more Settling t place all end l s x = found_part Settling tt t place all end l s x
    found_more (Waking left) t place all end l s x = found_part (Waking left) tt t place all end l s x
    found_more Calling t place all end l s x = found_part Calling tt t place all end l s x
    found_more Heading t place all end l s x = found_part Heading tt t place all end l s x
    found_more (Asking more at taken left b) t place all end l s x = found_part (Asking more at taken left b) tt t place all end l s x
    found_more (Resettling more at taken left b) t place all end l s x = found_part (Resettling more at taken left b) tt t place all end l s x
    found_more (Acking at taken) t place all end l s x =
        ([], at, ap (λ (y : List TalkItem). pump_from a (begun a (Acking at taken)) y []) x.0 ∙ ap (λ (y : PumpEnd). Over at taken y) (whole_is end x.3) ∙ ap (λ (y : List (List ℕ)). Over at y end) (sym x.2), inr x.1, λ ne. tt)
    found_more (GivingUp at taken trouble) t place all end l s x =
        ([], at, ap (λ (y : List TalkItem). pump_from a (begun a (GivingUp at taken trouble)) y []) x.0 ∙ ap (λ (y : PumpEnd). Over at taken y) (failed_is trouble end x.3) ∙ ap (λ (y : List (List ℕ)). Over at y end) (sym x.2), subst (λ (y : List (List ℕ)). (y ≡ []) ⊎ (place ≡ at)) (sym x.2) x.1, λ ne. tt)

  finds : (n : ℕ) → Finds n
  finds zero = λ p t place all end l s x. absurd (omega (arith, l))
  finds (suc n) = found_more n (finds n)

  pub complete : Complete a
  complete talk place taken end x s = finds (suc (length talk)) Settling talk place taken end (omega arith) s x
