-- What is left of an attempt from each of its parts on, and how one part of it leads to the next.
use Rattle.std.proofs.Common.{◌≡◌, ℕ, zero, suc, ◌+◌, ◌<◌, ◌⊎◌, Bool, true, false, List, [], ◌∷◌, ◌++◌, length, length-append, refl, sym, ◌∙◌, ap, subst, inl, inr, arith, append_assoc, append-nil, Option, ◌-◌}
use Rattle.std.specs.Prelude.{slice_index, bytes_eq}
use Rattle.std.proofs.lemmas.Slice.Eq.{bytes_eq-Decides}
use Rattle.station_base.specs.CivilMinute.{CivilMinute}
use Rattle.vantage_frames.specs.StampFrame.{stamp_frame_of}
use Rattle.vantage_frames.specs.Slots.{page_size}
use Rattle.serial_link.specs.Talk.{message}
use Rattle.serial_link.specs.declared.talk.TalkItem.{TalkItem}
use Rattle.serial_link.specs.declared.talk.TalkItem.TheVariants.{Said}
use Rattle.wake_retry.specs.Parts.{heard, Still, Flooding, Awaits, Wakes, WakeFloods, ends_awake}
use Rattle.wake_retry.specs.Parts.{settled_waits, answer_waits, flood_size}
use Rattle.dmpaft_pump.specs.declared.outcome.Trouble.{Trouble}
use Rattle.dmpaft_pump.specs.declared.outcome.Trouble.TheVariants.{Asleep, PageLost, PageAhead}
use Rattle.dmpaft_pump.specs.Header.{IsHeader}
use Rattle.dmpaft_pump.specs.Page.{is_page_for, is_ahead, next_said}
use Rattle.dmpaft_driver.specs.Attempt.{TakesPage, Misses, AskFloods, Pages, Heads, Requests, Attempt, End, esc, last_said}
use Rattle.dmpaft_pump.specs.Command.{dmpaft}
use Rattle.dmpaft_pump.specs.Reply.{Reply, Header, NoHeader, reply_of}
use Rattle.dmpaft_pump.specs.Pump.{AttemptPart, Settling, Waking, Calling, Heading, Asking, Resettling, Acking, GivingUp, Next, Goes, Keeps, Empty, Floods, words, quiets, most, batch_of, onward, batched, woken, called, headed, asked_again, page_judged, next_after_part}
use Rattle.dmpaft_pump.proofs.Hears.{HearsFrom, hears_still, flood_hears, hears_flood, hears_awaits}
use Rattle.dmpaft_pump.proofs.Replies.{Replies, reply_is}
use Rattle.dmpaft_pump.specs.Pump.{most_askings}

-- after a page: so many more from page k on, or its batch is refused
abbrev pub Later : ℕ → ℕ → List TalkItem → List (List ℕ) → End → Type 0
Later more k t later end = Pages more k t later end ⊎ ((t ≡ []) × (later ≡ []) × (end ≡ End.Refused))

-- from an asking for page k on, with so many more pages after it and so many more askings
abbrev pub AskRest : ℕ → ℕ → ℕ → ℕ → List TalkItem → List (List ℕ) → End → Type 0
AskRest more k left b t fresh end =
    ((u : List TalkItem) × (rest : List TalkItem) × (bytes : List ℕ) × (later : List (List ℕ)) × (t ≡ u ++ rest) × TakesPage (suc left) k b u bytes × (fresh ≡ bytes ∷ later)
    × Later more (k + 1) rest later end)
    ⊎ ((u : List TalkItem) × (trouble : Trouble) × (t ≡ u ++ esc) × Misses (suc left) k b u trouble × (fresh ≡ []) × (end ≡ End.Failed trouble))
    ⊎ (AskFloods (suc left) k b t × (fresh ≡ []) × (end ≡ End.Flooded))

abbrev pub Woke : Option CivilMinute → Bool → List TalkItem → ℕ → List (List ℕ) → End → Type 0
Woke a awake t place all end = ((awake ≡ true) × Requests (stamp_frame_of a) t place all end) ⊎ ((awake ≡ false) × (t ≡ esc) × (all ≡ []) × (end ≡ End.Failed Asleep))

-- How a place is told by the one that a pump has.
abbrev pub Likeness : Type 1
Likeness = List (List ℕ) → ℕ → ℕ → Type 0

-- from a part on: the talk, the place, all pages of the attempt, and its end
abbrev pub Rest : Likeness → Option CivilMinute → AttemptPart → List TalkItem → ℕ → List (List ℕ) → End → Type 0
Rest W a Settling t place all end = Attempt (stamp_frame_of a) t place all end
Rest W a (Waking left) t place all end =
    ((u : List TalkItem) × (rest : List TalkItem) × (awake : Bool) × (t ≡ u ++ rest) × Wakes (suc left) u awake × Woke a awake rest place all end)
    ⊎ (WakeFloods (suc left) t × (all ≡ []) × (end ≡ End.Flooded))
Rest W a Calling t place all end = Requests (stamp_frame_of a) t place all end
Rest W a Heading t place all end = Heads (stamp_frame_of a) t place all end
Rest W a (Asking more at taken left b) t place all end = (place ≡ at) × (fresh : List (List ℕ)) × (all ≡ taken ++ fresh) × AskRest more (length taken) left b t fresh end
Rest W a (Resettling more at taken left b) t place all end = (place ≡ at) × (fresh : List (List ℕ)) × (all ≡ taken ++ fresh)
    × (((s : List TalkItem) × (rest : List TalkItem) × (t ≡ s ++ rest) × Still settled_waits s × AskRest more (length taken) left b rest fresh end)
    ⊎ (Flooding settled_waits t × (fresh ≡ []) × (end ≡ End.Flooded)))
Rest W a (Acking at taken) t place all end = (t ≡ Said 6 true ∷ []) × (place ≡ at) × (all ≡ taken) × (end ≡ End.Whole)
Rest W a (GivingUp at taken trouble) t place all end = (t ≡ esc) × W taken place at × (all ≡ taken) × (end ≡ End.Failed trouble)

-- from what is next on
abbrev pub RestAt : Likeness → Option CivilMinute → Next → List TalkItem → ℕ → List (List ℕ) → End → Type 0
RestAt W a (Goes part) t place all end = Rest W a part t place all end
RestAt W a (Keeps more at taken page) t place all end = (place ≡ at) × (later : List (List ℕ)) × (all ≡ (taken ++ page ∷ []) ++ later) × Later more (length taken + 1) t later end
RestAt W a (Empty at) t place all end = (t ≡ []) × W [] place at × (all ≡ []) × (end ≡ End.Whole)
RestAt W a (Floods at taken) t place all end = (t ≡ []) × W taken place at × (all ≡ taken) × (end ≡ End.Flooded)

-- a part says its words and hears to its end, and the rest is that of what is next
abbrev pub Unrolled : Likeness → Option CivilMinute → AttemptPart → List TalkItem → ℕ → List (List ℕ) → End → Type 0
Unrolled W a p t place all end = (u : List TalkItem) × (rest : List TalkItem) × (full : Bool) × (t ≡ message (words a p) ++ (u ++ rest)) × HearsFrom (quiets p) (most p) 0 0 u full
    × RestAt W a (next_after_part a p full (heard u)) rest place all end

-- the last parts hear nothing
abbrev pub Listens : AttemptPart → Type 0
Listens Settling = Unit {0}
Listens (Waking left) = Unit {0}
Listens Calling = Unit {0}
Listens Heading = Unit {0}
Listens (Asking more at taken left b) = Unit {0}
Listens (Resettling more at taken left b) = Unit {0}
Listens (Acking at taken) = ⊥
Listens (GivingUp at taken trouble) = ⊥

-- the pages that are left make the part that comes next
pub pages_onward : (W : Likeness) (a : Option CivilMinute) (more at : ℕ) (taken later : List (List ℕ)) (page : List ℕ) (t : List TalkItem) (place : ℕ) (all : List (List ℕ)) (end : End)
    → place ≡ at → all ≡ (taken ++ page ∷ []) ++ later → Pages more (length taken + 1) t later end → Rest W a (onward more at (taken ++ page ∷ [])) t place all end
pages_onward W a zero at taken later page t place all end e f x =
    let k : length taken + 1 ≡ suc (length taken) = omega arith in
    (x.0 ∙ ap last_said k, e, f ∙ ap (λ (y : List (List ℕ)). (taken ++ page ∷ []) ++ y) x.1 ∙ append-nil (taken ++ page ∷ []), x.2)
pages_onward W a (suc more) at taken later page t place all end e f x =
    let k : length taken + 1 ≡ length (taken ++ page ∷ []) = omega (arith, length-append taken (page ∷ [])) in
    (e, later, f, subst (λ n. AskRest more n (most_askings - 1) 6 t later end) k x)

pub onward_pages : (W : Likeness) (a : Option CivilMinute) (more at : ℕ) (taken : List (List ℕ)) (page : List ℕ) (t : List TalkItem) (place : ℕ) (all : List (List ℕ)) (end : End)
    → Rest W a (onward more at (taken ++ page ∷ [])) t place all end
    → (place ≡ at) × (later : List (List ℕ)) × (all ≡ (taken ++ page ∷ []) ++ later) × Later more (length taken + 1) t later end
onward_pages W a zero at taken page t place all end x =
    let k : length taken + 1 ≡ suc (length taken) = omega arith in
    (x.1, [], x.2 ∙ sym (append-nil (taken ++ page ∷ [])), inl (x.0 ∙ sym (ap last_said k), refl, x.3))
onward_pages W a (suc more) at taken page t place all end x =
    let k : length taken + 1 ≡ length (taken ++ page ∷ []) = omega (arith, length-append taken (page ∷ [])) in
    (x.0, x.1, x.2, inl (subst (λ n. AskRest more n (most_askings - 1) 6 t x.1 end) (sym k) x.3))

pub hears_flooding : (q : ℕ) (u : List TalkItem) → HearsFrom q flood_size 0 0 u true → Flooding q u
hears_flooding q u h = let y = hears_flood q flood_size 0 0 u h in (y.0, omega (arith, y.1))

pub flooding_hears : (q : ℕ) (u : List TalkItem) → 0 < q → Flooding q u → HearsFrom q flood_size 0 0 u true
flooding_hears q u p f = flood_hears q flood_size 0 0 u p f.0 (omega (arith, f.1))

-- nothing is left after it
nothing_after : (t u rest : List TalkItem) → t ≡ u ++ rest → rest ≡ [] → u ≡ t
nothing_after t u rest e n = sym (e ∙ ap (λ (x : List TalkItem). u ++ x) n ∙ append-nil u)

answer_size : (m : ℕ) (u : List TalkItem) → Awaits answer_waits m u → length (heard u) < m + 1
answer_size m u (inl x) = omega (arith, x.1)
answer_size m u (inr x) = omega (arith, x.1)

module _ (W : Likeness) (exact : (taken : List (List ℕ)) (place at : ℕ) → W taken place at → place ≡ at) (a : Option CivilMinute) (t : List TalkItem) (place : ℕ) (all : List (List ℕ)) (end : End) where
  module _ (u rest : List TalkItem) where
    waking_out : (left : ℕ) → t ≡ Said 10 true ∷ u ++ rest → Still answer_waits u → (x : Bool) → ends_awake (heard u) ≡ x → RestAt W a (woken left x) rest place all end → Rest W a (Waking left) t place all end
    waking_out left e still true w x = inl (Said 10 true ∷ u, rest, true, e, (u, [], ap (λ (y : List TalkItem). Said 10 true ∷ y) (sym (append-nil u)), still, inl (w, refl, refl)), inl (refl, x))
    waking_out zero e still false w x =
        inl (Said 10 true ∷ u, rest, false, e, (u, [], ap (λ (y : List TalkItem). Said 10 true ∷ y) (sym (append-nil u)), still, inr (w, (refl, refl))), inr (refl, x.0, x.2, x.3))
    waking_out (suc left) e still false w (inl x) =
        inl (Said 10 true ∷ u ++ x.0, x.1, x.2, e ∙ ap (λ (y : List TalkItem). Said 10 true ∷ u ++ y) x.3 ∙ ap (λ (y : List TalkItem). Said 10 true ∷ y) (sym (append_assoc u x.0 x.1)), (u, x.0, refl, still, inr (w, x.4)), x.5)
    waking_out (suc left) e still false w (inr x) = inr ((u, rest, e, inr (still, w, x.0)), x.1, x.2)

    calling_out : t ≡ message dmpaft ++ (u ++ rest) → Awaits answer_waits 1 u → (x : Bool) → bytes_eq (heard u) (6 ∷ []) ≡ x → RestAt W a (called (heard u) x) rest place all end → Rest W a Calling t place all end
    calling_out e w true q x = (u, rest, e, w, inl ((bytes_eq-Decides (heard u) (6 ∷ [])).0 q, x))
    calling_out e w false q x = (u, rest, e, w, inr ((λ z. (let y : true ≡ false = sym ((bytes_eq-Decides (heard u) (6 ∷ [])).1 z) ∙ q in cc)), x.0, x.2, x.3))

    heading_out : t ≡ message (stamp_frame_of a) ++ (u ++ rest) → Awaits answer_waits 7 u → (y : Reply) → Replies (heard u) y → RestAt W a (headed y) rest place all end → Rest W a Heading t place all end
    heading_out e w (Header zero at) h x = (u, rest, e, w, inl (0, subst (λ n. IsHeader (heard u) 0 n) (sym (exact [] place at x.1)) h, (x.0, x.2, x.3)))
    heading_out e w (Header (suc more) at) h x = (u, rest, e, w, inl (suc more, subst (λ n. IsHeader (heard u) (suc more) n) (sym x.0) h, subst (λ (y : List (List ℕ)). Pages (suc more) 0 rest y end) (sym x.2) x.3))
    heading_out e w (NoHeader trouble) h x = (u, rest, e, w, inr (trouble, h, x.0, x.2, x.3))

    module _ (more at : ℕ) (taken : List (List ℕ)) (left b : ℕ) (e : t ≡ Said b true ∷ u ++ rest) (w : Awaits answer_waits page_size u) where
      alone : Said b true ∷ u ≡ Said b true ∷ u ++ []
      alone = ap (λ (y : List TalkItem). Said b true ∷ y) (sym (append-nil u))

      pub taken_out : is_page_for (length taken) (heard u) ≡ true → (place ≡ at) × (later : List (List ℕ)) × (all ≡ (taken ++ heard u ∷ []) ++ later) × Later more (length taken + 1) rest later end
          → Rest W a (Asking more at taken left b) t place all end
      taken_out p x =
          (x.0, heard u ∷ x.1, x.2 ∙ append_assoc taken (heard u ∷ []) x.1, inl (Said b true ∷ u, rest, heard u, x.1, e, (u, [], alone, w, inl (p, refl, refl)), refl, x.3))

      batched_out : is_page_for (length taken) (heard u) ≡ true → (rows : List (List ℕ)) → RestAt W a (batched more at taken (heard u) rows) rest place all end → Rest W a (Asking more at taken left b) t place all end
      batched_out p [] x = taken_out p (onward_pages W a more at taken (heard u) rest place all end x)
      batched_out p (r ∷ rows) x = taken_out p x

    again_out : (more at : ℕ) (taken : List (List ℕ)) (left b : ℕ) → t ≡ Said b true ∷ u ++ rest → Awaits answer_waits page_size u → is_page_for (length taken) (heard u) ≡ false → is_ahead (length taken) (heard u) ≡ false
        → RestAt W a (asked_again more at taken left (next_said (length taken) (heard u))) rest place all end → Rest W a (Asking more at taken left b) t place all end
    again_out more at taken zero b e w p q x =
        (exact taken place at x.1, [], x.2 ∙ sym (append-nil taken), inr (inl (Said b true ∷ u, PageLost (length taken), e ∙ ap (λ (y : List TalkItem). Said b true ∷ u ++ y) x.0, (u, [], alone more at taken 0 b e w, w, p, inr (inl (q, refl, refl, refl))), refl, x.3)))
    again_out more at taken (suc left) b e w p q (pe, fresh, ea, inr (flood, fe, en)) = (pe, fresh, ea, inr (inr ((u, rest, e, w, p, q, inl ((λ z. cc), flood)), fe, en)))
    again_out more at taken (suc left) b e w p q (pe, fresh, ea, inl (s, rest2, se, still, inl (v, rest3, bytes, later, ve, takes, fe, l))) = (
      pe,
      fresh,
      ea,
      inl (
        Said b true ∷ u ++ (s ++ v),
        rest3,
        bytes,
        later,
        e ∙ ap (λ (y : List TalkItem). Said b true ∷ u ++ y) (se ∙ ap (λ (y : List TalkItem). s ++ y) ve ∙ sym (append_assoc s v rest3)) ∙ ap (λ (y : List TalkItem). Said b true ∷ y) (sym (append_assoc u (s ++ v) rest3)),
        (u, s ++ v, refl, w, inr (p, q, (s, v, refl, still, takes))),
        fe,
        l,
      ),
    )
    again_out more at taken (suc left) b e w p q (pe, fresh, ea, inl (s, rest2, se, still, inr (inl (v, trouble, ve, misses, fe, en)))) = (
      pe,
      fresh,
      ea,
      inr (inl (
        Said b true ∷ u ++ (s ++ v),
        trouble,
        e ∙ ap (λ (y : List TalkItem). Said b true ∷ u ++ y) (se ∙ ap (λ (y : List TalkItem). s ++ y) ve ∙ sym (append_assoc s v esc)) ∙ ap (λ (y : List TalkItem). Said b true ∷ y) (sym (append_assoc u (s ++ v) esc)),
        (u, s ++ v, refl, w, p, inr (inr (q, (s, v, refl, still, misses)))),
        fe,
        en,
      )),
    )
    again_out more at taken (suc left) b e w p q (pe, fresh, ea, inl (s, rest2, se, still, inr (inr (floods, fe, en)))) =
        (pe, fresh, ea, inr (inr ((u, rest, e, w, p, q, inr (s, rest2, se, still, floods)), fe, en)))

    asking_out : (more at : ℕ) (taken : List (List ℕ)) (left b : ℕ) → t ≡ Said b true ∷ u ++ rest → Awaits answer_waits page_size u → (x y : Bool) → is_page_for (length taken) (heard u) ≡ x → is_ahead (length taken) (heard u) ≡ y
        → RestAt W a (page_judged a more at taken left (heard u) x y) rest place all end → Rest W a (Asking more at taken left b) t place all end
    asking_out more at taken left b e w true y p q x = batched_out more at taken left b e w p (batch_of a at taken (heard u)) x
    asking_out more at taken left b e w false true p q x =
        (exact taken place at x.1, [], x.2 ∙ sym (append-nil taken), inr (inl (Said b true ∷ u, PageAhead (length taken) (slice_index (heard u) 0), e ∙ ap (λ (y : List TalkItem). Said b true ∷ u ++ y) x.0, (u, [], alone more at taken left b e w, w, p, inl (q, refl, refl)), refl, x.3)))
    asking_out more at taken left b e w false false p q x = again_out more at taken left b e w p q x

  -- what is unrolled is a rest
  pub out : (p : AttemptPart) → Listens p → Unrolled W a p t place all end → Rest W a p t place all end
  out Settling is (u, rest, true, e, h, x) = inr (inl (subst (λ (y : List TalkItem). Flooding settled_waits y) (nothing_after t u rest e x.0) (hears_flooding settled_waits u h), x.2, x.3))
  out Settling is (u, rest, false, e, h, inl (v, rest2, awake, ve, wakes, woke)) =
      inl (u, v, rest2, awake, e ∙ ap (λ (y : List TalkItem). u ++ y) ve, hears_still settled_waits flood_size 0 0 u refl (omega arith) (omega arith) h, wakes, woke)
  out Settling is (u, rest, false, e, h, inr x) = inr (inr (u, rest, e, hears_still settled_waits flood_size 0 0 u refl (omega arith) (omega arith) h, x.0, x.1, x.2))
  out (Waking left) is (u, rest, true, e, h, x) = inr ((u, rest, e, inl (hears_flooding answer_waits u h, x.0)), x.2, x.3)
  out (Waking left) is (u, rest, false, e, h, x) = waking_out u rest left e (hears_still answer_waits flood_size 0 0 u refl (omega arith) (omega arith) h) (ends_awake (heard u)) refl x
  out Calling is (u, rest, full, e, h, x) = calling_out u rest e (hears_awaits 1 u full (omega arith) h) (bytes_eq (heard u) (6 ∷ [])) refl x
  out Heading is (u, rest, full, e, h, x) =
      let w = hears_awaits 7 u full (omega arith) h in
      heading_out u rest e w (reply_of (heard u)) (reply_is (heard u) (omega (arith, answer_size 7 u w))) x
  out (Asking more at taken left b) is (u, rest, full, e, h, x) =
      asking_out u rest more at taken left b e (hears_awaits page_size u full (omega arith) h) (is_page_for (length taken) (heard u)) (is_ahead (length taken) (heard u)) refl refl x
  out (Resettling more at taken left b) is (u, rest, true, e, h, x) =
      (exact taken place at x.1, [], x.2 ∙ sym (append-nil taken), inr (subst (λ (y : List TalkItem). Flooding settled_waits y) (nothing_after t u rest e x.0) (hears_flooding settled_waits u h), refl, x.3))
  out (Resettling more at taken left b) is (u, rest, false, e, h, x) = (x.0, x.1, x.2, inl (u, rest, e, hears_still settled_waits flood_size 0 0 u refl (omega arith) (omega arith) h, x.3))
  out (Acking at taken) none x = absurd none
  out (GivingUp at taken trouble) none x = absurd none
