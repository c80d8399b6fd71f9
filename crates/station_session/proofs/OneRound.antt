-- What was said and heard in the attempts of a round tells how it ends.
use Rattle.std.proofs.Common.{◌≡◌, ◌≢◌, ◌⊎◌, ℕ, ◌+◌, List, [], ◌∷◌, ◌++◌, Option, Some, None, refl, sym, ap, subst, ◌∙◌, arith, append-nil, inl, inr}
use Rattle.causes.specs.declared.stored.Stored.{Stored}
use Rattle.causes.specs.declared.stored.Stored.TheVariants as stored
use Rattle.dmpaft_driver.specs.Attempt.{Attempt, End}
use Rattle.dmpaft_pump.specs.Batch.{batches}
use Rattle.dmpaft_driver.specs.Exact.{AllDone, RefusesGiven, attempt_end}
use Rattle.dmpaft_pump.specs.Keeper.{Handed, kept_all, last_kept}
use Rattle.dmpaft_driver.specs.OneAttempt.{IsAttempt}
use Rattle.dmpaft_pump.specs.Pump.{AttemptState, Saying, Hearing, Keeping, Over, Astray, Settling, answered_by, begun, onward, pump_from, attempt_step}
use Rattle.dmpaft_driver.specs.Turning.{dump_end_of}
use Rattle.dmpaft_pump.specs.declared.outcome.DumpEnd.{DumpEnd}
use Rattle.dmpaft_pump.specs.declared.outcome.DumpEnd.TheVariants as dump_end
use Rattle.dmpaft_pump.specs.declared.pump_end.PumpEnd.{PumpEnd}
use Rattle.dmpaft_pump.specs.declared.pump_end.PumpEnd.TheVariants as pump_end
use Rattle.dmpaft_driver.proofs.AcknowledgedPages.{one_attempt}
use Rattle.dmpaft_driver.proofs.CutTurns.{begun_not_over}
use Rattle.dmpaft_driver.proofs.Exactly.{complete}
use Rattle.dmpaft_pump.proofs.PumpSteps.{no_astray, over_is}
use Rattle.serial_link.specs.declared.talk.TalkItem.{TalkItem}
use Rattle.station_base.specs.CivilMinute.{CivilMinute}
use Rattle.station_session.specs.Attempts.{AreAttempts, EndsBefore, IsMadeAfter, MadeAttempt, all_said, batches_in, end_after, stamp_after}
use Rattle.station_session.specs.declared.round_end.RoundEnd.{RoundEnd}
use Rattle.station_session.specs.declared.round_end.RoundEnd.TheVariants as round
use Rattle.station_session.proofs.Ends.{went_on}
use Rattle.vantage_frames.specs.StampFrame.{stamp_frame_of}
use Rattle.wake_retry.proofs.Endings.{same_front}

module _ (a : Option CivilMinute) (p q : ℕ) (ps qs : List (List ℕ)) (x y : PumpEnd) where
  -- where a talk in which each batch is kept ends a pump, no longer one does, however its batches are answered
  ends_here : (s : AttemptState) (t u : List TalkItem) (js ks : List Stored) → AllDone js → pump_from a s t js ≡ Over p ps x
      → pump_from a s (t ++ u) ks ≡ Over q qs y → u ≡ []
  ends_here (Saying part i l) [] u [] ks d e f = absurd cc
  ends_here (Saying part i l) [] u (j ∷ js) ks d e f = absurd cc
  ends_here (Saying part i l) (b ∷ t) u js ks d e f = ends_here (attempt_step a (Saying part i l) b) t u js ks d e f
  ends_here (Hearing part bs r) [] u [] ks d e f = absurd cc
  ends_here (Hearing part bs r) [] u (j ∷ js) ks d e f = absurd cc
  ends_here (Hearing part bs r) (b ∷ t) u js ks d e f = ends_here (attempt_step a (Hearing part bs r) b) t u js ks d e f
  ends_here (Over at taken end) [] u js ks d e f = (over_is a at taken end u ks q qs y f).0
  ends_here (Over at taken end) (b ∷ t) u js ks d e f = absurd (no_astray a t js p ps x e)
  ends_here Astray [] u [] ks d e f = absurd cc
  ends_here Astray [] u (j ∷ js) ks d e f = absurd cc
  ends_here Astray (b ∷ t) u js ks d e f = absurd (no_astray a t js p ps x e)
  ends_here (Keeping more at taken page) [] u [] ks d e f = absurd cc
  ends_here (Keeping more at taken page) [] u (j ∷ []) ks d e f =
      let next = taken ++ page ∷ [] in
      absurd (begun_not_over a (onward more at next) p ps x (ap (λ (k : Stored). answered_by a more at next k) (sym d.0) ∙ e))
  ends_here (Keeping more at taken page) [] u (j ∷ i ∷ js) ks d e f = absurd cc
  ends_here (Keeping more at taken page) (b ∷ t) u [] ks d e f = absurd (no_astray a t [] p ps x e)
  ends_here (Keeping more at taken page) (b ∷ t) u (j ∷ js) [] d e f = absurd (no_astray a (t ++ u) [] q qs y f)
  ends_here (Keeping more at taken page) (b ∷ t) u (j ∷ js) (stored.Done ∷ ks) d e f =
      ends_here (attempt_step a (begun a (onward more at (taken ++ page ∷ []))) b) t u js ks d.1
      (ap (λ (k : Stored). pump_from a (attempt_step a (answered_by a more at (taken ++ page ∷ []) k) b) t js) (sym d.0) ∙ e) f
  ends_here (Keeping more at taken page) (b ∷ t) u (j ∷ js) (stored.Full ∷ ks) d e f = absurd (no_astray a (t ++ u) ks q qs y f)
  ends_here (Keeping more at taken page) (b ∷ t) u (j ∷ js) (stored.Stale ∷ ks) d e f = absurd (no_astray a (t ++ u) ks q qs y f)
  ends_here (Keeping more at taken page) (b ∷ t) u (j ∷ js) (stored.DiskFault ∷ ks) d e f = absurd (no_astray a (t ++ u) ks q qs y f)

-- An attempt that was not cut: how its machine ended, and that a refused batch was given last.
record Known (last : Option CivilMinute) (said : List TalkItem) (place : ℕ) (taken : List (List ℕ)) (end : DumpEnd) : Type 0 where
  by : PumpEnd
  is : end ≡ dump_end_of by
  attempt : Attempt (stamp_frame_of last) said place taken (attempt_end by)
  gives : RefusesGiven last place taken (attempt_end by)

module _ (last : Option CivilMinute) (said : List TalkItem) (place : ℕ) (taken : List (List ℕ)) where
  -- an attempt was cut, or it is known how it ended
  known : (end : DumpEnd) → IsAttempt last said place taken end
      → (end ≡ dump_end.LinkFault) ⊎ (end ≡ dump_end.OutOfMemory) ⊎ Known last said place taken end
  known dump_end.Whole it = inr (inr (record { by = pump_end.Whole; is = refl; attempt = it.ends; gives = λ never. absurd cc }))
  known (dump_end.Failed trouble) it = inr (inr (record { by = pump_end.Failed trouble; is = refl; attempt = it.ends; gives = λ never. absurd cc }))
  known dump_end.Full it = inr (inr (record { by = pump_end.Full; is = refl; attempt = it.ends; gives = λ _. it.refused (λ never. cc) }))
  known dump_end.Stale it = inr (inr (record { by = pump_end.Stale; is = refl; attempt = it.ends; gives = λ _. it.refused (λ never. cc) }))
  known dump_end.DiskFault it = inr (inr (record { by = pump_end.DiskFault; is = refl; attempt = it.ends; gives = λ _. it.refused (λ never. cc) }))
  known dump_end.Flood it = inr (inr (record { by = pump_end.Flood; is = refl; attempt = it.ends; gives = λ never. absurd cc }))
  known dump_end.LinkFault it = inl refl
  known dump_end.OutOfMemory it = inr (inl refl)

  -- one that is whole or failed was not cut, not refused and did not flood
  abbrev IsMild : DumpEnd → Type 0
  IsMild end = (k : Known last said place taken end) × (attempt_end k.by ≢ End.Refused) × (attempt_end k.by ≢ End.Flooded)

  mild : (end : DumpEnd) → IsAttempt last said place taken end → (end_after end ≡ None) ⊎ (end_after end ≡ Some round.Done) → IsMild end
  mild dump_end.Whole it how =
      (record { by = pump_end.Whole; is = refl; attempt = it.ends; gives = λ never. absurd cc }, λ never. cc, λ never. cc)
  mild (dump_end.Failed trouble) it how =
      (record { by = pump_end.Failed trouble; is = refl; attempt = it.ends; gives = λ never. absurd cc }, λ never. cc, λ never. cc)
  mild end it (inl never) = absurd cc
  mild end it (inr never) = absurd cc

module _ (last : Option CivilMinute) where
  -- an attempt that was not refused goes on as no other
  no_longer : (s u : List TalkItem) (p q : ℕ) (ps qs : List (List ℕ)) (x y : PumpEnd)
      → Attempt (stamp_frame_of last) s p ps (attempt_end x) → attempt_end x ≢ End.Refused
      → Attempt (stamp_frame_of last) (s ++ u) q qs (attempt_end y) → RefusesGiven last q qs (attempt_end y) → u ≡ []
  no_longer s u p q ps qs x y one other two gives =
      let c = complete last s p ps x one (λ never. absurd (other never)) in
      let d = complete last (s ++ u) q qs y two gives in
      ends_here last c.1 d.1 ps qs x y (begun last Settling) s u c.0 d.0 (c.4 other) c.2 d.2

  -- an attempt that was not refused
  record Goes (said : List TalkItem) : Type 0 where
    place : ℕ
    taken : List (List ℕ)
    by : PumpEnd
    attempt : Attempt (stamp_frame_of last) said place taken (attempt_end by)
    other : attempt_end by ≢ End.Refused

  goes : (t : MadeAttempt) → IsMadeAfter last t → (end_after t.end ≡ None) ⊎ (end_after t.end ≡ Some round.Done) → Goes t.said
  goes t it how = let m = mild last t.said t.place t.taken t.end it how in
      record { place = t.place; taken = t.taken; by = m.0.by; attempt = m.0.attempt; other = m.1 }

  goes_no_longer : (s u : List TalkItem) → Goes s → Goes (s ++ u) → u ≡ []
  goes_no_longer s u one two =
      no_longer s u one.place two.place one.taken two.taken one.by two.by one.attempt one.other two.attempt (λ never. absurd (two.other never))

-- a round may end so that is shown as done: it is done, or the link failed, or memory was wanting
abbrev pub MayEnd : RoundEnd → Type 0
MayEnd round.Done = Unit {0}
MayEnd round.LinkFault = Unit {0}
MayEnd round.Stale = Unit {0}
MayEnd round.OutOfMemory = Unit {0}
MayEnd other = ⊥

before : (end : RoundEnd) → EndsBefore end → MayEnd end
before round.Stale is = tt
before round.OutOfMemory is = tt
before other is = absurd is

ended : (d : DumpEnd) (end one : RoundEnd) → end_after d ≡ Some one → end_after d ≡ Some end → MayEnd one → MayEnd end
ended d end one is now may = let same : one ≡ end = (let both : Some one ≡ Some end = sym is ∙ now in cc) in subst MayEnd same may

-- the end of a last attempt that was not refused and did not flood
last_ends : (by : PumpEnd) (end : RoundEnd) → attempt_end by ≢ End.Refused → attempt_end by ≢ End.Flooded → end_after (dump_end_of by) ≡ Some end
    → MayEnd end
last_ends pump_end.Whole end other dry is = ended dump_end.Whole end round.Done refl is tt
last_ends (pump_end.Failed trouble) end other dry is = absurd cc
last_ends pump_end.Flood end other dry is = absurd (dry refl)
last_ends by end other dry is = absurd (other refl)

-- attempts that end alike both fail or neither does
both_fail : (x y : PumpEnd) → attempt_end x ≡ attempt_end y → end_after (dump_end_of x) ≡ None → end_after (dump_end_of y) ≡ None
both_fail (pump_end.Failed trouble) (pump_end.Failed other) e is = refl
both_fail (pump_end.Failed trouble) y e is = absurd cc
both_fail x y e is = absurd cc

place_same : (last : Option CivilMinute) (p q : ℕ) (ps : List (List ℕ)) → (ps ≢ [] → p ≡ q) → batches last p ps ≡ batches last q ps
place_same last p q [] same = refl
place_same last p q (page ∷ ps) same = ap (λ (n : ℕ). batches last n (page ∷ ps)) (same (λ never. cc))

-- attempts that failed alike leave one last stamp
stamps_same : (last : Option CivilMinute) (t s : MadeAttempt) → t.taken ≡ s.taken → (t.taken ≢ [] → t.place ≡ s.place) → end_after t.end ≡ None
    → end_after s.end ≡ None → stamp_after last t ≡ stamp_after last s
stamps_same last t s pages places one two =
    let given : batches last t.place t.taken ≡ batches last s.place s.taken =
    place_same last t.place s.place t.taken places ∙ ap (λ (ps : List (List ℕ)). batches last s.place ps) pages in
    let steps : batches_in last t ≡ batches_in last s = went_on last t one ∙ ap kept_all given ∙ sym (went_on last s two) in
    ap (λ (h : Handed). last_kept h last) steps

module _ (last : Option CivilMinute) (t s : MadeAttempt) (it : IsMadeAfter last t) (is : IsMadeAfter last s)
    (how : (end_after s.end ≡ None) ⊎ (end_after s.end ≡ Some round.Done)) where
  -- a last attempt whose talk begins with an attempt that is whole or failed
  last_so : (rest : List TalkItem) (end : RoundEnd) → t.said ≡ s.said ++ rest → end_after t.end ≡ Some end → MayEnd end
  last_so rest end same now =
      let m = mild last s.said s.place s.taken s.end is how in
      elim (known last t.said t.place t.taken t.end it) [
        | inl cut ↦ ended t.end end round.LinkFault (ap end_after cut) now tt
        | inr (inl cut) ↦ ended t.end end round.OutOfMemory (ap end_after cut) now tt
        | inr (inr k) ↦ (
            let Talks : List TalkItem → Type 0 = λ u. Attempt (stamp_frame_of last) u t.place t.taken (attempt_end k.by) in
            let none = no_longer last s.said rest s.place t.place s.taken t.taken m.0.by k.by m.0.attempt m.1 (subst Talks same k.attempt) k.gives in
            let whole : t.said ≡ s.said = same ∙ ap (λ (u : List TalkItem). s.said ++ u) none ∙ append-nil s.said in
            let agree = one_attempt (stamp_frame_of last) s.said t.place s.place t.taken s.taken (attempt_end k.by) (attempt_end m.0.by)
            (subst Talks whole k.attempt) m.0.attempt in
            last_ends k.by end (λ never. m.1 (sym agree.ends ∙ never)) (λ never. m.2 (sym agree.ends ∙ never)) (ap end_after (sym k.is) ∙ now)
            )
      ]

  -- the same talk made the same of both, where the one failed
  failed_so : end_after t.end ≡ None → t.said ≡ s.said → (end_after s.end ≡ None) × (stamp_after last t ≡ stamp_after last s)
  failed_so fails same =
      let k = mild last t.said t.place t.taken t.end it (inl fails) in
      let m = mild last s.said s.place s.taken s.end is how in
      let Talks : List TalkItem → Type 0 = λ u. Attempt (stamp_frame_of last) u t.place t.taken (attempt_end k.0.by) in
      let agree = one_attempt (stamp_frame_of last) s.said t.place s.place t.taken s.taken (attempt_end k.0.by) (attempt_end m.0.by)
      (subst Talks same k.0.attempt) m.0.attempt in
      let none = ap end_after m.0.is ∙ both_fail k.0.by m.0.by agree.ends (ap end_after (sym k.0.is) ∙ fails) in
      (none, stamps_same last t s agree.pages agree.places fails none)

-- attempts that are whole or failed, and begin one talk, said and heard the same
same_first : (last : Option CivilMinute) (t s : MadeAttempt) (more others : List TalkItem) → Goes last t.said → Goes last s.said
    → t.said ++ more ≡ s.said ++ others → (t.said ≡ s.said) × (more ≡ others)
same_first last t s more others = same_front {P = Goes last} {Q = Goes last} (goes_no_longer last) (goes_no_longer last) t.said s.said more others

-- how an attempt ended, whatever followed
how_it_is : {A B C D : Type 0} → (A × C) ⊎ (B × D) → A ⊎ B
how_it_is (inl (is, more)) = inl is
how_it_is (inr (is, more)) = inr is

-- a round is done whose talk is that of attempts of which the last is whole and the others failed, unless its link failed or
-- memory was wanting
pub one_round : (made : ℕ) (last : Option CivilMinute) (ts ss : List MadeAttempt) (end : RoundEnd) → AreAttempts made last ts end
    → AreAttempts made last ss round.Done → all_said ts ≡ all_said ss → MayEnd end
one_round made last ts [] end x (inl (begins, never)) same = absurd never
one_round made last ts [] end x (inr (three, never)) same = absurd cc
one_round made last [] (s ∷ ss) end (inl (begins, is)) y same = before end is
one_round made last [] (s ∷ ss) end (inr (three, is)) (few, tried, how) same = absurd (omega (arith, three, few))
one_round made last (t ∷ ts) (s ∷ ss) end (few, tried, inr (now, none)) (few', tried', how) same =
    let talk : t.said ≡ s.said ++ all_said ss = sym (append-nil t.said) ∙ ap (λ (us : List MadeAttempt). t.said ++ all_said us) (sym none) ∙ same in
    last_so last t s tried tried' (how_it_is how) (all_said ss) end talk now
one_round made last (t ∷ ts) (s ∷ ss) end (few, tried, inl (fails, more)) (few', tried', inr (whole, last_one)) same =
    let both = same_first last t s (all_said ts) (all_said ss) (goes last t tried (inl fails)) (goes last s tried' (inr whole)) same in
    let f = failed_so last t s tried tried' (inr whole) fails both.0 in
    absurd (let never : None ≡ Some round.Done = sym f.0 ∙ whole in cc)
one_round made last (t ∷ ts) (s ∷ ss) end (few, tried, inl (fails, more)) (few', tried', inl (fails', more')) same =
    let both = same_first last t s (all_said ts) (all_said ss) (goes last t tried (inl fails)) (goes last s tried' (inl fails')) same in
    let f = failed_so last t s tried tried' (inl fails') fails both.0 in
    one_round (made + 1) (stamp_after last s) ts ss end (subst (λ (l : Option CivilMinute). AreAttempts (made + 1) l ts end) f.1 more) more' both.1
