-- A page that a pump has taken was taken in a front of its talk, which is an attempt that a refusal ends.
use Rattle.std.proofs.Common.{◌≡◌, ◌≢◌, ℕ, zero, suc, ◌<◌, ◌⊎◌, Bool, true, false, List, [], ◌∷◌, ◌++◌, length, refl, sym, ◌∙◌, ap, subst, inl, inr, arith, append_assoc, append-nil, Option}
use Rattle.std.specs.Prelude.{bytes_eq}
use Rattle.station_base.specs.CivilMinute.{CivilMinute}
use Rattle.causes.specs.declared.stored.Stored.{Stored}
use Rattle.causes.specs.declared.stored.Stored.TheVariants as stored
use Rattle.vantage_frames.specs.StampFrame.{stamp_frame_of}
use Rattle.vantage_frames.specs.Slots.{page_size}
use Rattle.serial_link.specs.Talk.{message}
use Rattle.serial_link.specs.declared.talk.TalkItem.{TalkItem}
use Rattle.serial_link.specs.declared.talk.TalkItem.TheVariants.{Said}
use Rattle.wake_retry.specs.Parts.{heard, ends_awake, Awaits, answer_waits}
use Rattle.dmpaft_pump.specs.declared.pump_end.PumpEnd.{PumpEnd}
use Rattle.dmpaft_pump.specs.declared.pump_end.PumpEnd.TheVariants as pump_end
use Rattle.dmpaft_driver.specs.Attempt.{Attempt, End}
use Rattle.dmpaft_driver.specs.Outcome.{WereTaken}
use Rattle.dmpaft_pump.specs.Page.{is_page_for, is_ahead, next_said}
use Rattle.dmpaft_pump.specs.Reply.{Reply, Header, NoHeader, reply_of}
use Rattle.dmpaft_pump.specs.Pump.{AttemptPart, Settling, Waking, Calling, Heading, Asking, Resettling, Acking, GivingUp, Next, Goes, Keeps, Empty, Floods, AttemptState, Over, Astray, words, quiets, most, next_after_part, batched, woken, called, headed, asked_again, page_judged, onward, words_said, begun, state_at, batch_of, pump_from, pump_after}
use Rattle.dmpaft_driver.specs.Standing.{place_of_part, taken_in, HasTaken}
use Rattle.dmpaft_driver.proofs.Exactly.{Exact, kept_done, told_is, some_quiets, some_bytes, less_left}
use Rattle.dmpaft_pump.proofs.Hears.{HearsFrom, hears_awaits}
use Rattle.dmpaft_driver.proofs.Rest.{Rest, RestAt, Listens, onward_pages, out, taken_out}
use Rattle.dmpaft_pump.proofs.PumpSteps.{astray_stays, Within, Passed, passes, said_out}

-- the place of the header and the pages taken, at what comes next
abbrev place_at : Next → ℕ
place_at (Goes p) = place_of_part p
place_at (Keeps more at taken page) = at
place_at (Empty at) = at
place_at (Floods at taken) = at

abbrev taken_at : Next → List (List ℕ)
taken_at (Goes p) = taken_in p
taken_at (Keeps more at taken page) = taken ++ page ∷ []
taken_at (Empty at) = []
taken_at (Floods at taken) = taken

-- nothing is taken before the header
none_woken : (left : ℕ) (b : Bool) → taken_at (woken left b) ≡ []
none_woken left true = refl
none_woken zero false = refl
none_woken (suc left) false = refl

none_called : (bs : List ℕ) (b : Bool) → taken_at (called bs b) ≡ []
none_called bs true = refl
none_called bs false = refl

none_headed : (y : Reply) → taken_at (headed y) ≡ []
none_headed (Header zero place) = refl
none_headed (Header (suc more) place) = refl
none_headed (NoHeader trouble) = refl

module _ (more at : ℕ) (taken : List (List ℕ)) where
  again_at : (left b : ℕ) → (taken_at (asked_again more at taken left b) ≡ taken) × (place_at (asked_again more at taken left b) ≡ at)
  again_at zero b = (refl, refl)
  again_at (suc left) b = (refl, refl)

  onward_at : (taken_in (onward more at taken) ≡ taken) × (place_of_part (onward more at taken) ≡ at)
  onward_at = go more
    where
      go : (n : ℕ) → (taken_in (onward n at taken) ≡ taken) × (place_of_part (onward n at taken) ≡ at)
      go zero = (refl, refl)
      go (suc n) = (refl, refl)

  batched_at : (page : List ℕ) (rows : List (List ℕ)) → (taken_at (batched more at taken page rows) ≡ taken ++ page ∷ []) × (place_at (batched more at taken page rows) ≡ at)
  batched_at page [] = go more
    where
      go : (n : ℕ) → (taken_in (onward n at (taken ++ page ∷ [])) ≡ taken ++ page ∷ []) × (place_of_part (onward n at (taken ++ page ∷ [])) ≡ at)
      go zero = (refl, refl)
      go (suc n) = (refl, refl)
  batched_at page (r ∷ rows) = (refl, refl)

not_none : (taken : List (List ℕ)) (page : List ℕ) → taken ++ page ∷ [] ≡ [] → ⊥
not_none [] page e = cc
not_none (p ∷ taken) page e = cc

-- these pages, and where there are some, this place
abbrev Has : List (List ℕ) → ℕ → List (List ℕ) → ℕ → Type 0
Has all place taken at = (all ≡ taken) × ((all ≡ []) ⊎ (place ≡ at))

-- a run of a pump that ends at s, which has taken these pages
module _ (a : Option CivilMinute) (s : AttemptState) (ne : s ≢ Astray) (place : ℕ) (all : List (List ℕ)) (has : HasTaken s place all) where
  -- they were taken before, or in a front of the talk
  abbrev Had : AttemptPart → List TalkItem → Type 0
  Had p t = Has all place (taken_in p) (place_of_part p) ⊎ ((front : List TalkItem) × (back : List TalkItem) × (front ++ back ≡ t) × Rest Exact a p front place all End.Refused)

  abbrev HadAt : Next → List TalkItem → Type 0
  HadAt x t = Has all place (taken_at x) (place_at x) ⊎ ((front : List TalkItem) × (back : List TalkItem) × (front ++ back ≡ t) × RestAt Exact a x front place all End.Refused)

  at_over : (p : ℕ) (pages : List (List ℕ)) (e : PumpEnd) (t : List TalkItem) (ks : List Stored) → pump_from a (Over p pages e) t ks ≡ s → Has all place pages p
  at_over p pages e [] [] is = let h = subst (λ (x : AttemptState). HasTaken x place all) (sym is) has in (h.1, inr h.0)
  at_over p pages e [] (k ∷ ks) is = absurd (ne (sym is))
  at_over p pages e (i ∷ t) ks is = absurd (ne (sym is ∙ astray_stays a t ks))

  within_has : (ks : List Stored) (p : AttemptPart) → Within a ks s ne p → Has all place (taken_in p) (place_of_part p)
  within_has ks p (inl x) = let h = subst (λ (y : AttemptState). HasTaken y place all) x.2 has in (h.1, inr h.0)
  within_has ks p (inr x) = let h = subst (λ (y : AttemptState). HasTaken y place all) x.2 has in (h.1, inr h.0)

  as_has : (taken more : List (List ℕ)) (p q : ℕ) → taken ≡ more → p ≡ q → Has all place taken p → Has all place more q
  as_has taken more p q e f h = subst (λ (y : List (List ℕ)). Has all place y q) e (subst (λ n. Has all place taken n) f h)

  abbrev Holds : ℕ → Type 0
  Holds n = (p : AttemptPart) (t : List TalkItem) (ks : List Stored) → length t < n → pump_from a (begun a p) t ks ≡ s → Had p t

  module _ (n : ℕ) (ih : Holds n) where
    kept_at : (more at : ℕ) (taken : List (List ℕ)) (page : List ℕ) (t : List TalkItem) → Had (onward more at (taken ++ page ∷ [])) t → HadAt (Keeps more at taken page) t
    kept_at more at taken page t (inl h) =
        let o = onward_at more at (taken ++ page ∷ []) in
        inl (as_has (taken_in (onward more at (taken ++ page ∷ []))) (taken ++ page ∷ []) (place_of_part (onward more at (taken ++ page ∷ []))) at o.0 o.1 h)
    kept_at more at taken page t (inr (front, back, e, rest)) = inr (front, back, e, onward_pages Exact a more at taken page front place all End.Refused rest)

    had_at : (x : Next) (t : List TalkItem) (ks : List Stored) → length t < n → pump_from a (state_at a x) t ks ≡ s → HadAt x t
    had_at (Goes p) t ks l e = ih p t ks l e
    had_at (Empty at) t ks l e = inl (at_over at [] pump_end.Whole t ks e)
    had_at (Floods at taken) t ks l e = inl (at_over at taken pump_end.Flood t ks e)
    had_at (Keeps more at taken page) [] [] l e = let h = subst (λ (x : AttemptState). HasTaken x place all) (sym e) has in inl (h.1, inr h.0)
    had_at (Keeps more at taken page) (i ∷ t) [] l e = absurd (ne (sym e ∙ astray_stays a t []))
    had_at (Keeps more at taken page) t (stored.Done ∷ ks) l e = kept_at more at taken page t (ih (onward more at (taken ++ page ∷ [])) t ks l (sym (kept_done a more at taken page t ks) ∙ e))
    had_at (Keeps more at taken page) [] (stored.Full ∷ ks) l e = inl (at_over at (taken ++ page ∷ []) pump_end.Full [] ks e)
    had_at (Keeps more at taken page) (i ∷ t) (stored.Full ∷ ks) l e = inl (at_over at (taken ++ page ∷ []) pump_end.Full (i ∷ t) ks e)
    had_at (Keeps more at taken page) [] (stored.Stale ∷ ks) l e = inl (at_over at (taken ++ page ∷ []) pump_end.Stale [] ks e)
    had_at (Keeps more at taken page) (i ∷ t) (stored.Stale ∷ ks) l e = inl (at_over at (taken ++ page ∷ []) pump_end.Stale (i ∷ t) ks e)
    had_at (Keeps more at taken page) [] (stored.DiskFault ∷ ks) l e = inl (at_over at (taken ++ page ∷ []) pump_end.DiskFault [] ks e)
    had_at (Keeps more at taken page) (i ∷ t) (stored.DiskFault ∷ ks) l e = inl (at_over at (taken ++ page ∷ []) pump_end.DiskFault (i ∷ t) ks e)

    nothing_yet : (taken : List (List ℕ)) (p : ℕ) → taken ≡ [] → Has all place taken p → Has all place [] 0
    nothing_yet taken p e h = (h.0 ∙ e, inl (h.0 ∙ e))

    module _ (t u rest : List TalkItem) where
      judged_at : (more at : ℕ) (taken : List (List ℕ)) (left b : ℕ) → t ≡ Said b true ∷ u ++ rest → (full : Bool) → HearsFrom answer_waits page_size 0 0 u full → (x y : Bool) → is_page_for (length taken) (heard u) ≡ x
          → Has all place (taken_at (page_judged a more at taken left (heard u) x y)) (place_at (page_judged a more at taken left (heard u) x y)) → Had (Asking more at taken left b) t
      judged_at more at taken left b e full h true y p x =
          let o = batched_at more at taken (heard u) (batch_of a at taken (heard u)) in
          let is : all ≡ taken ++ heard u ∷ [] = x.0 ∙ o.0 in
          let w = hears_awaits page_size u full (omega arith) h in
          inr (Said b true ∷ u, rest, sym e, taken_page (x.1) o.1 is w)
        where
          taken_page : (all ≡ []) ⊎ (place ≡ place_at (batched more at taken (heard u) (batch_of a at taken (heard u)))) → place_at (batched more at taken (heard u) (batch_of a at taken (heard u))) ≡ at → all ≡ taken ++ heard u ∷ [] → Awaits answer_waits page_size u
              → Rest Exact a (Asking more at taken left b) (Said b true ∷ u) place all End.Refused
          taken_page (inl none) f is w = absurd (not_none taken (heard u) (sym is ∙ none))
          taken_page (inr same) f is w =
              taken_out Exact (λ taken place at. λ x. x) a (Said b true ∷ u) place all End.Refused u [] more at taken left b (ap (λ (z : List TalkItem). Said b true ∷ z) (sym (append-nil u))) w p
              (same ∙ f, [], is ∙ sym (append-nil (taken ++ heard u ∷ [])), inr (refl, refl, refl))
      judged_at more at taken left b e full h false true p x = inl x
      judged_at more at taken left b e full h false false p x =
          let o = again_at more at taken left (next_said (length taken) (heard u)) in
          inl (as_has (taken_at (asked_again more at taken left (next_said (length taken) (heard u)))) taken (place_at (asked_again more at taken left (next_said (length taken) (heard u)))) at o.0 o.1 x)

      had_next : (p : AttemptPart) → Listens p → (full : Bool) → t ≡ message (words a p) ++ (u ++ rest) → HearsFrom (quiets p) (most p) 0 0 u full
          → Has all place (taken_at (next_after_part a p full (heard u))) (place_at (next_after_part a p full (heard u))) → Had p t
      had_next Settling is true f h x = inl x
      had_next Settling is false f h x = inl (nothing_yet [] 0 refl x)
      had_next (Waking left) is true f h x = inl x
      had_next (Waking left) is false f h x = inl (nothing_yet (taken_at (woken left (ends_awake (heard u)))) (place_at (woken left (ends_awake (heard u)))) (none_woken left (ends_awake (heard u))) x)
      had_next Calling is full f h x = inl (nothing_yet (taken_at (called (heard u) (bytes_eq (heard u) (6 ∷ [])))) (place_at (called (heard u) (bytes_eq (heard u) (6 ∷ [])))) (none_called (heard u) (bytes_eq (heard u) (6 ∷ []))) x)
      had_next Heading is full f h x = inl (nothing_yet (taken_at (headed (reply_of (heard u)))) (place_at (headed (reply_of (heard u)))) (none_headed (reply_of (heard u))) x)
      had_next (Asking more at taken left b) is full f h x = judged_at more at taken left b f full h (is_page_for (length taken) (heard u)) (is_ahead (length taken) (heard u)) refl x
      had_next (Resettling more at taken left b) is true f h x = inl x
      had_next (Resettling more at taken left b) is false f h x = inl x
      had_next (Acking at taken) none full f h x = absurd none
      had_next (GivingUp at taken trouble) none full f h x = absurd none

    had_passed : (p : AttemptPart) → Listens p → (t u rest : List TalkItem) (full : Bool) → t ≡ message (words a p) ++ (u ++ rest) → HearsFrom (quiets p) (most p) 0 0 u full → HadAt (next_after_part a p full (heard u)) rest → Had p t
    had_passed p is t u rest full f h (inl x) = had_next t u rest p is full f h x
    had_passed p is t u rest full f h (inr (front, back, e, y)) =
        let whole : (message (words a p) ++ (u ++ front)) ++ back ≡ t =
        append_assoc (message (words a p)) (u ++ front) back ∙ ap (λ (z : List TalkItem). message (words a p) ++ z) (append_assoc u front back ∙ ap (λ (z : List TalkItem). u ++ z) e) ∙ sym f in
        inr (message (words a p) ++ (u ++ front), back, whole, out Exact (λ taken place at x. x) a (message (words a p) ++ (u ++ front)) place all End.Refused p is (u, front, full, refl, h, y))

    had_part : (p : AttemptPart) → Listens p → (t : List TalkItem) (ks : List Stored) → length t < suc n → Within a ks s ne p ⊎ Passed a ks s ne p t → Had p t
    had_part p is t ks l (inl x) = inl (within_has ks p x)
    had_part p is t ks l (inr (u, rest, full, f, h, g)) = had_passed p is t u rest full f h (had_at (next_after_part a p full (heard u)) rest ks (less_left a p t u rest full n f h l) g)

    had_last : (p : AttemptPart) (ks : List Stored) (end : PumpEnd) → words_said p ≡ Over (place_of_part p) (taken_in p) end → (t : List TalkItem) → Within a ks s ne p ⊎ ((u : List TalkItem) × (t ≡ message (words a p) ++ u) × (pump_from a (words_said p) u ks ≡ s)) → Had p t
    had_last p ks end is t (inl x) = inl (within_has ks p x)
    had_last p ks end is t (inr y) = inl (at_over (place_of_part p) (taken_in p) end y.0 ks (ap (λ (x : AttemptState). pump_from a x y.0 ks) (sym is) ∙ y.2))

    had_through : (p : AttemptPart) → Listens p → (t : List TalkItem) (ks : List Stored) → length t < suc n → pump_from a (begun a p) t ks ≡ s → Had p t
    had_through p is t ks l e = had_part p is t ks l (passes a ks s ne p (told_is p is) (some_quiets p) (some_bytes p) t e)

    had_more : Holds (suc n)
    had_more Settling t ks l e = had_through Settling tt t ks l e
    had_more (Waking left) t ks l e = had_through (Waking left) tt t ks l e
    had_more Calling t ks l e = had_through Calling tt t ks l e
    had_more Heading t ks l e = had_through Heading tt t ks l e
    had_more (Asking more at taken left b) t ks l e = had_through (Asking more at taken left b) tt t ks l e
    had_more (Resettling more at taken left b) t ks l e = had_through (Resettling more at taken left b) tt t ks l e
    had_more (Acking at taken) t ks l e = had_last (Acking at taken) ks pump_end.Whole refl t (said_out a ks s ne (Acking at taken) (message (words a (Acking at taken))) t e)
    had_more (GivingUp at taken trouble) t ks l e = had_last (GivingUp at taken trouble) ks (pump_end.Failed trouble) refl t (said_out a ks s ne (GivingUp at taken trouble) (message (words a (GivingUp at taken trouble))) t e)

  had : (n : ℕ) → Holds n
  had zero = λ p t ks l e. absurd (omega (arith, l))
  had (suc n) = had_more n (had n)

  -- pages that a pump has taken were taken in what was said and heard
  pub were_taken : (t : List TalkItem) (ks : List Stored) → pump_after a t ks ≡ s → WereTaken (λ u pages e. Attempt (stamp_frame_of a) u place pages e) t all
  were_taken t ks e = go (had (suc (length t)) Settling t ks (omega arith) e)
    where
      go : Had Settling t → WereTaken (λ u pages e. Attempt (stamp_frame_of a) u place pages e) t all
      go (inl x) = inl x.0
      go (inr (front, back, f, x)) = inr (front, (back, f), x)
