-- How what is left of an attempt begins with one part of it.
use Rattle.std.proofs.Common.{◌≡◌, ℕ, zero, suc, ◌+◌, ◌<◌, Bool, true, false, List, [], ◌∷◌, ◌++◌, length, refl, sym, ◌∙◌, ap, subst, inl, inr, arith, append_assoc, append-nil, Option}
use Rattle.std.specs.Prelude.{bytes_eq}
use Rattle.std.proofs.lemmas.Slice.Eq.{bytes_eq-Decides}
use Rattle.station_base.specs.CivilMinute.{CivilMinute}
use Rattle.vantage_frames.specs.StampFrame.{stamp_frame_of}
use Rattle.vantage_frames.specs.Slots.{page_size}
use Rattle.serial_link.specs.Talk.{message}
use Rattle.serial_link.specs.declared.talk.TalkItem.{TalkItem}
use Rattle.serial_link.specs.declared.talk.TalkItem.TheVariants.{Said}
use Rattle.wake_retry.specs.Parts.{heard, Still, Awaits, Wakes, WakeFloods}
use Rattle.wake_retry.specs.Parts.{answer_waits, settled_waits, flood_size}
use Rattle.dmpaft_pump.specs.declared.outcome.Trouble.{Trouble}
use Rattle.dmpaft_pump.specs.Header.{IsHeader}
use Rattle.dmpaft_pump.specs.Page.{is_page_for, is_ahead}
use Rattle.dmpaft_driver.specs.Attempt.{TakesPage, Misses, AskFloods, Pages, Requests, End, esc}
use Rattle.dmpaft_pump.specs.Batch.{EndsGiving}
use Rattle.dmpaft_pump.specs.Reply.{Reply}
use Rattle.dmpaft_pump.specs.Pump.{AttemptPart, Settling, Waking, Calling, Heading, Asking, Resettling, Acking, GivingUp, batch_of, batched, woken, called, headed, page_judged, next_after_part}
use Rattle.dmpaft_pump.proofs.Hears.{HearsFrom, still_hears, awaits_hears}
use Rattle.dmpaft_pump.proofs.Replies.{header_is, no_header_is}
use Rattle.dmpaft_pump.proofs.LastBatch.{gives_last}
use Rattle.dmpaft_driver.proofs.Rest.{Later, Woke, Likeness, Rest, RestAt, Unrolled, Listens, pages_onward, flooding_hears}

-- the part that is awaited after dmpaft and frame
front : (b : ℕ) (v s r rest t u : List TalkItem) → t ≡ u ++ rest → u ≡ Said b true ∷ v ++ r → t ≡ Said b true ∷ v ++ (r ++ rest)
front b v s r rest t u e f = e ∙ ap (λ (y : List TalkItem). y ++ rest) f ∙ ap (λ (y : List TalkItem). Said b true ∷ y) (append_assoc v r rest)

still_heard : (q : ℕ) (u : List TalkItem) → 0 < q → Still q u → HearsFrom q flood_size 0 0 u false
still_heard q u p s = still_hears q flood_size 0 0 u refl p (omega arith) s

module _ (W : Likeness) (same : (taken : List (List ℕ)) (place at : ℕ) → place ≡ at → W taken place at) (free : (place : ℕ) → W [] place 0)
    (a : Option CivilMinute) (t : List TalkItem) (place : ℕ) (all : List (List ℕ)) (end : End) where
  woke_true : (awake : Bool) (rest : List TalkItem) → awake ≡ true → Woke a awake rest place all end → Requests (stamp_frame_of a) rest place all end
  woke_true awake rest e (inl x) = x.1
  woke_true awake rest e (inr x) = let z : true ≡ false = sym e ∙ x.0 in cc

  waking_in : (left : ℕ) (u0 rest0 : List TalkItem) (awake : Bool) → t ≡ u0 ++ rest0 → Wakes (suc left) u0 awake → Woke a awake rest0 place all end → Unrolled W a (Waking left) t place all end
  waking_in left u0 rest0 awake e (s, r, f, still, inl (w, n, k)) woke =
      let g = front 10 s [] r rest0 t u0 e f in (
        s,
        rest0,
        false,
        g ∙ ap (λ (y : List TalkItem). Said 10 true ∷ s ++ (y ++ rest0)) n,
        still_heard answer_waits s (omega arith) still,
        subst (λ (x : Bool). RestAt W a (woken left x) rest0 place all end) (sym w) (woke_true awake rest0 k woke),
      )
  waking_in zero u0 rest0 awake e (s, r, f, still, inr (w, (n, k))) (inl x) = let z : true ≡ false = sym x.0 ∙ k in cc
  waking_in zero u0 rest0 awake e (s, r, f, still, inr (w, (n, k))) (inr x) =
      let g = front 10 s [] r rest0 t u0 e f in (
        s,
        rest0,
        false,
        g ∙ ap (λ (y : List TalkItem). Said 10 true ∷ s ++ (y ++ rest0)) n,
        still_heard answer_waits s (omega arith) still,
        subst (λ (x : Bool). RestAt W a (woken 0 x) rest0 place all end) (sym w) (x.1, free place, x.2, x.3),
      )
  waking_in (suc left) u0 rest0 awake e (s, r, f, still, inr (w, wakes)) woke = (
    s,
    r ++ rest0,
    false,
    front 10 s [] r rest0 t u0 e f,
    still_heard answer_waits s (omega arith) still,
    subst (λ (x : Bool). RestAt W a (woken (suc left) x) (r ++ rest0) place all end) (sym w) (inl (r, rest0, awake, refl, wakes, woke)),
  )

  wake_floods_in : (left : ℕ) → WakeFloods (suc left) t → all ≡ [] → end ≡ End.Flooded → Unrolled W a (Waking left) t place all end
  wake_floods_in left (u, r, e, inl (flood, n)) ea en = (u, r, true, e, flooding_hears answer_waits u (omega arith) flood, (n, free place, ea, en))
  wake_floods_in zero (u, r, e, inr (still, w, x)) ea en = absurd x
  wake_floods_in (suc left) (u, r, e, inr (still, w, x)) ea en =
      (u, r, false, e, still_heard answer_waits u (omega arith) still, subst (λ (x : Bool). RestAt W a (woken (suc left) x) r place all end) (sym w) (inr (x, ea, en)))

  heading_in : (u rest : List TalkItem) → t ≡ message (stamp_frame_of a) ++ (u ++ rest) → Awaits answer_waits 7 u → (n : ℕ) → IsHeader (heard u) n place → Pages n 0 rest all end → Unrolled W a Heading t place all end
  heading_in u rest e w zero h x =
      let k = awaits_hears 7 u w in
      (u, rest, k.0, e, k.1, subst (λ (y : Reply). RestAt W a (headed y) rest place all end) (sym (header_is (heard u) 0 place h)) (x.0, same [] place place refl, x.1, x.2))
  heading_in u rest e w (suc n) h x =
      let k = awaits_hears 7 u w in
      (u, rest, k.0, e, k.1, subst (λ (y : Reply). RestAt W a (headed y) rest place all end) (sym (header_is (heard u) (suc n) place h)) (refl, all, refl, x))

  module _ (more at : ℕ) (taken : List (List ℕ)) (b : ℕ) (pe : place ≡ at) (strict : end ≡ End.Refused → EndsGiving a place all) where
    batched_in : (page : List ℕ) (rest : List TalkItem) (later : List (List ℕ)) → all ≡ taken ++ page ∷ later → Later more (length taken + 1) rest later end → (rows : List (List ℕ)) → batch_of a at taken page ≡ rows
        → RestAt W a (batched more at taken page rows) rest place all end
    batched_in page rest later ea (inl x) [] z = pages_onward W a more at taken later page rest place all end pe (ea ∙ sym (append_assoc taken (page ∷ []) later)) x
    batched_in page rest later ea (inr x) [] z =
        let ends : EndsGiving a place (taken ++ page ∷ []) = subst (λ (y : List (List ℕ)). EndsGiving a place (taken ++ page ∷ y)) x.1 (subst (λ (y : List (List ℕ)). EndsGiving a place y) ea (strict x.2)) in
        absurd (gives_last a at taken page (subst (λ n. EndsGiving a n (taken ++ page ∷ [])) pe ends) z)
    batched_in page rest later ea l (r ∷ rows) z = (pe, later, ea ∙ sym (append_assoc taken (page ∷ []) later), l)

    module _ (left : ℕ) (v rest : List TalkItem) (w : Awaits answer_waits page_size v) (e : t ≡ Said b true ∷ v ++ rest) where
      as_heard : RestAt W a (next_after_part a (Asking more at taken left b) true (heard v)) rest place all end → Unrolled W a (Asking more at taken left b) t place all end
      as_heard x = let k = awaits_hears page_size v w in (v, rest, k.0, e, k.1, full_or_not k.0)
        where
          full_or_not : (f : Bool) → RestAt W a (next_after_part a (Asking more at taken left b) f (heard v)) rest place all end
          full_or_not true = x
          full_or_not false = x

      judged_in : (x y : Bool) → is_page_for (length taken) (heard v) ≡ x → is_ahead (length taken) (heard v) ≡ y → RestAt W a (page_judged a more at taken left (heard v) x y) rest place all end → Unrolled W a (Asking more at taken left b) t place all end
      judged_in x y p q h =
          as_heard (subst (λ (z : Bool). RestAt W a (page_judged a more at taken left (heard v) z (is_ahead (length taken) (heard v))) rest place all end) (sym p)
          (subst (λ (z : Bool). RestAt W a (page_judged a more at taken left (heard v) x z) rest place all end) (sym q) h))

    module _ (fresh : List (List ℕ)) (ea : all ≡ taken ++ fresh) where
      none_fresh : fresh ≡ [] → all ≡ taken
      none_fresh fe = ea ∙ ap (λ (y : List (List ℕ)). taken ++ y) fe ∙ append-nil taken

      takes_in : (left : ℕ) (u0 rest0 : List TalkItem) (bytes : List ℕ) (later : List (List ℕ)) → t ≡ u0 ++ rest0 → TakesPage (suc left) (length taken) b u0 bytes → fresh ≡ bytes ∷ later → Later more (length taken + 1) rest0 later end
          → Unrolled W a (Asking more at taken left b) t place all end
      takes_in left u0 rest0 bytes later e (v, r, f, w, inl (p, n, by)) fe l =
          let g = front b v [] r rest0 t u0 e f ∙ ap (λ (y : List TalkItem). Said b true ∷ v ++ (y ++ rest0)) n in
          judged_in left v rest0 w g true (is_ahead (length taken) (heard v)) p refl
          (batched_in (heard v) rest0 later (ea ∙ ap (λ (y : List (List ℕ)). taken ++ y) (fe ∙ ap (λ (y : List ℕ). y ∷ later) by)) l (batch_of a at taken (heard v)) refl)
      takes_in zero u0 rest0 bytes later e (v, r, f, w, inr (p, q, (s, m, se, still, takes))) fe l = absurd takes
      takes_in (suc left) u0 rest0 bytes later e (v, r, f, w, inr (p, q, (s, m, se, still, takes))) fe l =
          judged_in (suc left) v (r ++ rest0) w (front b v [] r rest0 t u0 e f) false false p q
          (pe, fresh, ea, inl (s, m ++ rest0, ap (λ (y : List TalkItem). y ++ rest0) se ∙ append_assoc s m rest0, still, inl (m, rest0, bytes, later, refl, takes, fe, l)))

      misses_in : (left : ℕ) (u0 : List TalkItem) (trouble : Trouble) → t ≡ u0 ++ esc → Misses (suc left) (length taken) b u0 trouble → fresh ≡ [] → end ≡ End.Failed trouble → Unrolled W a (Asking more at taken left b) t place all end
      misses_in left u0 trouble e (v, r, f, w, p, inl (q, n, k)) fe en =
          judged_in left v esc w (front b v [] r esc t u0 e f ∙ ap (λ (y : List TalkItem). Said b true ∷ v ++ (y ++ esc)) n) false true p q
          (refl, same taken place at pe, none_fresh fe, en ∙ ap (λ (y : Trouble). End.Failed y) k)
      misses_in zero u0 trouble e (v, r, f, w, p, inr (inl (q, z, n, k))) fe en =
          judged_in 0 v esc w (front b v [] r esc t u0 e f ∙ ap (λ (y : List TalkItem). Said b true ∷ v ++ (y ++ esc)) n) false false p q
          (refl, same taken place at pe, none_fresh fe, en ∙ ap (λ (y : Trouble). End.Failed y) k)
      misses_in (suc left) u0 trouble e (v, r, f, w, p, inr (inl (q, z, n, k))) fe en = absurd (omega (arith, z))
      misses_in zero u0 trouble e (v, r, f, w, p, inr (inr (q, (s, m, se, still, misses)))) fe en = absurd misses
      misses_in (suc left) u0 trouble e (v, r, f, w, p, inr (inr (q, (s, m, se, still, misses)))) fe en =
          judged_in (suc left) v (r ++ esc) w (front b v [] r esc t u0 e f) false false p q
          (pe, fresh, ea, inl (s, m ++ esc, ap (λ (y : List TalkItem). y ++ esc) se ∙ append_assoc s m esc, still, inr (inl (m, trouble, refl, misses, fe, en))))

      floods_in : (left : ℕ) → AskFloods (suc left) (length taken) b t → fresh ≡ [] → end ≡ End.Flooded → Unrolled W a (Asking more at taken left b) t place all end
      floods_in zero (v, r, e, w, p, q, inl (ne, flood)) fe en = absurd (ne refl)
      floods_in (suc left) (v, r, e, w, p, q, inl (ne, flood)) fe en = judged_in (suc left) v r w e false false p q (pe, fresh, ea, inr (flood, fe, en))
      floods_in zero (v, r, e, w, p, q, inr (s, m, se, still, floods)) fe en = absurd floods
      floods_in (suc left) (v, r, e, w, p, q, inr (s, m, se, still, floods)) fe en =
          judged_in (suc left) v r w e false false p q (pe, fresh, ea, inl (s, m, se, still, inr (inr (floods, fe, en))))

  whole : t ≡ t ++ []
  whole = sym (append-nil t)

  -- a rest can be unrolled
  pub into : (p : AttemptPart) → Listens p → (end ≡ End.Refused → EndsGiving a place all) → Rest W a p t place all end → Unrolled W a p t place all end
  into Settling is strict (inl (s, u, rest, awake, e, still, wakes, woke)) = (s, u ++ rest, false, e, still_heard settled_waits s (omega arith) still, inl (u, rest, awake, refl, wakes, woke))
  into Settling is strict (inr (inl (flood, ea, en))) = (t, [], true, whole, flooding_hears settled_waits t (omega arith) flood, (refl, free place, ea, en))
  into Settling is strict (inr (inr (s, u, e, still, floods, ea, en))) = (s, u, false, e, still_heard settled_waits s (omega arith) still, inr (floods, ea, en))
  into (Waking left) is strict (inl (u, rest, awake, e, wakes, woke)) = waking_in left u rest awake e wakes woke
  into (Waking left) is strict (inr (floods, ea, en)) = wake_floods_in left floods ea en
  into Calling is strict (u, rest, e, w, inl (h, x)) =
      let k = awaits_hears 1 u w in
      (u, rest, k.0, e, k.1, subst (λ (y : Bool). RestAt W a (called (heard u) y) rest place all end) (sym ((bytes_eq-Decides (heard u) (6 ∷ [])).1 h)) x)
  into Calling is strict (u, rest, e, w, inr (h, x, ea, en)) =
      let k = awaits_hears 1 u w in
      (u, rest, k.0, e, k.1, no_ack (bytes_eq (heard u) (6 ∷ [])) refl)
    where
      no_ack : (y : Bool) → bytes_eq (heard u) (6 ∷ []) ≡ y → RestAt W a (called (heard u) y) rest place all end
      no_ack true q = absurd (h ((bytes_eq-Decides (heard u) (6 ∷ [])).0 q))
      no_ack false q = (x, free place, ea, en)
  into Heading is strict (u, rest, e, w, inl (n, h, x)) = heading_in u rest e w n h x
  into Heading is strict (u, rest, e, w, inr (trouble, h, x, ea, en)) =
      let k = awaits_hears 7 u w in
      (u, rest, k.0, e, k.1, subst (λ (y : Reply). RestAt W a (headed y) rest place all end) (sym (no_header_is (heard u) trouble h)) (x, free place, ea, en))
  into (Asking more at taken left b) is strict (pe, fresh, ea, inl (u, rest, bytes, later, e, takes, fe, l)) = takes_in more at taken b pe strict fresh ea left u rest bytes later e takes fe l
  into (Asking more at taken left b) is strict (pe, fresh, ea, inr (inl (u, trouble, e, misses, fe, en))) = misses_in more at taken b pe strict fresh ea left u trouble e misses fe en
  into (Asking more at taken left b) is strict (pe, fresh, ea, inr (inr (floods, fe, en))) = floods_in more at taken b pe strict fresh ea left floods fe en
  into (Resettling more at taken left b) is strict (pe, fresh, ea, inl (s, rest, e, still, x)) = (s, rest, false, e, still_heard settled_waits s (omega arith) still, (pe, fresh, ea, x))
  into (Resettling more at taken left b) is strict (pe, fresh, ea, inr (flood, fe, en)) =
      (t, [], true, whole, flooding_hears settled_waits t (omega arith) flood, (refl, same taken place at pe, ea ∙ ap (λ (y : List (List ℕ)). taken ++ y) fe ∙ append-nil taken, en))
  into (Acking at taken) none strict x = absurd none
  into (GivingUp at taken trouble) none strict x = absurd none
