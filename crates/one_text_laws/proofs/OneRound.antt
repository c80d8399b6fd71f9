-- Two rounds from one line and one archive.
use Rattle.std.proofs.Common.{ℕ, ◌≡◌, ◌+◌, ◌<◌, ◌⊎◌, Bool, true, false, List, [], ◌∷◌, ◌++◌, length, Option, Some, None, refl, sym, ap, subst, ◌∙◌, inl, inr, arith, append_assoc, append-nil}
use Rattle.std.proofs.lemmas.Option.{same_Some}
use Rattle.station_base.specs.CivilMinute.{CivilMinute}
use Rattle.serial_link.specs.declared.talk.TalkItem.{TalkItem}
use Rattle.causes.specs.declared.stored.Stored.TheVariants as reply
use Rattle.dmpaft_pump.specs.Batch.{all_skipped, answered_batches, batches}
use Rattle.dmpaft_driver.specs.Gathered.{keeper_answer}
use Rattle.dmpaft_pump.specs.Keeper.{Handed, join, kept_all, last_kept}
use Rattle.dmpaft_pump.specs.declared.outcome.DumpEnd.{DumpEnd}
use Rattle.dmpaft_pump.specs.declared.outcome.DumpEnd.TheVariants as dump_end
use Rattle.dmpaft_pump.proofs.HandedBatches.{join_none, kept_in_all}
use Rattle.station_session.specs.declared.round_end.RoundEnd.{RoundEnd}
use Rattle.station_session.specs.declared.round_end.RoundEnd.TheVariants as round_end
use Rattle.station_session.specs.Attempts.{AreAttempts, EndsBefore, IsMadeAfter, MadeAttempt, all_batches, all_said, batches_in, end_after, most_attempts, page_count, skip_count, stamp_after}
use Rattle.station_session.specs.Batches.{Fit, kept_count, kept_records}
use Rattle.station_session.proofs.Ends.{goes_on, kept_done, last_in, went_on}
use Rattle.station_session.proofs.Parts.{count_parts, fit_parts}
use Rattle.schedule_file.specs.Fates.{FatesByNumber}
use Rattle.station_sim.specs.Joining.{talks_part}
use Rattle.station_sim.specs.Line.{Line}
use Rattle.station_sim.specs.Talk.{ConsoleTalk}
use Rattle.schedule_file.specs.declared.schedule.step.Stop.{Stop}
use Rattle.replay_laws.specs.Session.{IsKnown, NotPast}
use Rattle.replay_laws.proofs.Bridge.{not_past_less}
use Rattle.replay_laws.proofs.Rounds.{IsPlain}
use Rattle.one_text_laws.specs.SameAttempt.{SameAttempt}
use Rattle.one_text_laws.proofs.AnsweredBatches.{MayFail, are_answered}
use Rattle.one_text_laws.proofs.OneTalk.{CutShort}
use Rattle.one_text_laws.proofs.OneTried.{Tries, fault_end, plain_by, tries_meet}

-- attempts are the same one by one
abbrev pub AllSame : List MadeAttempt → List MadeAttempt → Type 0
AllSame [] [] = Unit {0}
AllSame [] (u ∷ us) = ⊥
AllSame (t ∷ ts) [] = ⊥
AllSame (t ∷ ts) (u ∷ us) = SameAttempt t u × AllSame ts us

-- a function of the place and the pages, which without pages does not depend on the place, is the same of both
by_pages : {A : Type 0} (g : ℕ → List (List ℕ) → A) → ((p q : ℕ) → g p [] ≡ g q []) → (t u : MadeAttempt) → SameAttempt t u
    → g t.place t.taken ≡ g u.place u.taken
by_pages g none t u same = go t.taken refl
  where
    go : (pages : List (List ℕ)) → t.taken ≡ pages → g t.place t.taken ≡ g u.place u.taken
    go [] is = ap (g t.place) is ∙ (none t.place u.place ∙ sym (ap (g u.place) (sym same.taken ∙ is)))
    go (page ∷ more) is =
        ap (λ (place : ℕ). g place t.taken) (same.place (λ e. absurd (let bad : page ∷ more ≡ [] = sym is ∙ e in cc)))
        ∙ ap (g u.place) same.taken

-- their batches are the same
same_handed : (last : Option CivilMinute) (t u : MadeAttempt) → SameAttempt t u → batches_in last t ≡ batches_in last u
same_handed last t u same =
    ap (answered_batches (keeper_answer t.end)) (by_pages (batches last) (λ p q. refl) t u same)
    ∙ ap (λ (end : DumpEnd). answered_batches (keeper_answer end) (batches last u.place u.taken)) same.end

pub all_handed : (last : Option CivilMinute) (ts us : List MadeAttempt) → AllSame ts us → all_batches last ts ≡ all_batches last us
all_handed last [] [] same = refl
all_handed last [] (u ∷ us) same = absurd same
all_handed last (t ∷ ts) [] same = absurd same
all_handed last (t ∷ ts) (u ∷ us) same =
    ap (λ (h : Handed). join h (all_batches (last_kept h last) ts)) (same_handed last t u same.0)
    ∙ ap (join (batches_in last u)) (all_handed (stamp_after last u) ts us same.1)

-- they are as many
pub same_number : (ts us : List MadeAttempt) → AllSame ts us → length ts ≡ length us
same_number [] [] same = refl
same_number [] (u ∷ us) same = absurd same
same_number (t ∷ ts) [] same = absurd same
same_number (t ∷ ts) (u ∷ us) same = omega (arith, same_number ts us same.1)

-- they took as many pages
pub same_pages : (ts us : List MadeAttempt) → AllSame ts us → page_count ts ≡ page_count us
same_pages [] [] same = refl
same_pages [] (u ∷ us) same = absurd same
same_pages (t ∷ ts) [] same = absurd same
same_pages (t ∷ ts) (u ∷ us) same = omega (arith, ap length same.0.taken, same_pages ts us same.1)

-- and skipped as many slots
pub same_skipped : (ts us : List MadeAttempt) → AllSame ts us → skip_count ts ≡ skip_count us
same_skipped [] [] same = refl
same_skipped [] (u ∷ us) same = absurd same
same_skipped (t ∷ ts) [] same = absurd same
same_skipped (t ∷ ts) (u ∷ us) same =
    omega (arith, by_pages all_skipped (λ p q. refl) t u same.0, same_skipped ts us same.1)

-- the ends of a round of a run, or of one with an unseen delivery
abbrev pub MayEnd : RoundEnd → Type 0
MayEnd end = IsKnown end ⊎ (end ≡ round_end.Flood)

-- so no round ends before its first attempt
not_before : (end : RoundEnd) → EndsBefore end → MayEnd end → ⊥
not_before round_end.Stale before (inl known) = known
not_before round_end.Stale before (inr flood) = cc
not_before round_end.OutOfMemory before (inl known) = known
not_before round_end.OutOfMemory before (inr flood) = cc
not_before round_end.Done before may = before
not_before round_end.GaveUp before may = before
not_before round_end.LinkFault before may = before
not_before round_end.DiskFault before may = before
not_before round_end.Flood before may = before
not_before round_end.ArchiveFull before may = before

-- neither a fault of the link nor want of memory ends it
not_link : MayEnd round_end.LinkFault → ⊥
not_link (inl known) = known
not_link (inr flood) = cc

not_shortage : MayEnd round_end.OutOfMemory → ⊥
not_shortage (inl known) = known
not_shortage (inr flood) = cc

-- by an attempt that ends so a round has one end
last_end : (d e : DumpEnd) (end ends : RoundEnd) → end_after d ≡ Some end → d ≡ e → end_after e ≡ Some ends → end ≡ ends
last_end d e end ends one is two = same_Some end ends (sym one ∙ (ap end_after is ∙ two))

-- so the last attempt is a plain one
last_plain : (d : DumpEnd) (end : RoundEnd) → end_after d ≡ Some end → MayEnd end → IsPlain d
last_plain d end ends may = plain_by d
    (λ is. not_link (subst MayEnd (last_end d dump_end.LinkFault end round_end.LinkFault ends is refl) may))
    (λ is. not_shortage (subst MayEnd (last_end d dump_end.OutOfMemory end round_end.OutOfMemory ends is refl) may))

-- and so is one behind which another is made
first_plain : (d : DumpEnd) → end_after d ≡ None → IsPlain d
first_plain d none = plain_by d
    (λ is. absurd (let bad : None ≡ Some round_end.LinkFault = sym none ∙ ap end_after is in cc))
    (λ is. absurd (let bad : None ≡ Some round_end.OutOfMemory = sym none ∙ ap end_after is in cc))

-- a talk that goes on behind a prefix
longer : (t u : MadeAttempt) (ts us : List MadeAttempt) (more : List TalkItem) → ts ≡ [] → u.said ≡ t.said ++ more
    → (rest : List TalkItem) × (all_said (u ∷ us) ≡ all_said (t ∷ ts) ++ rest)
longer t u ts us more alone is = (
  more ++ all_said us,
  ap (λ (talk : List TalkItem). talk ++ all_said us) is ∙ (append_assoc t.said more (all_said us)
      ∙ ap (λ (talk : List TalkItem). talk ++ (more ++ all_said us))
      (sym (ap (λ (l : List MadeAttempt). t.said ++ all_said l) alone ∙ append-nil t.said))),
)

-- so it does behind one attempt more
first_longer : (fails falls : Bool) (t u : MadeAttempt) (ts us : List MadeAttempt) → t.said ≡ u.said → CutShort fails falls (all_said ts) (all_said us)
    → CutShort fails falls (all_said (t ∷ ts)) (all_said (u ∷ us))
first_longer fails falls t u ts us said (inl (fault, more, is)) = inl (
  fault,
  more,
  ap (λ (talk : List TalkItem). u.said ++ talk) is ∙ (sym (append_assoc u.said (all_said ts) more)
      ∙ ap (λ (talk : List TalkItem). (talk ++ all_said ts) ++ more) (sym said)),
)
first_longer fails falls t u ts us said (inr (fault, more, is)) = inr (
  fault,
  more,
  ap (λ (talk : List TalkItem). t.said ++ talk) is ∙ (sym (append_assoc t.said (all_said us) more)
      ∙ ap (λ (talk : List TalkItem). (talk ++ all_said us) ++ more) said),
)

module _ (most : ℕ) (stop : Option Stop) (f : FatesByNumber) where
  -- The attempts of a round from here to its end, so many being made, so many batches stored and so many rows held. A fault
  -- of the disk is the stop, or may come at any batch.
  pub record RoundFrom (fails : Bool) (made stored held : ℕ) (last : Option CivilMinute) (w : Line) (ts : List MadeAttempt) (end : RoundEnd)
      (v : Line) : Type 0 where
    pub attempts : AreAttempts made last ts end
    pub may_end : MayEnd end
    pub fits : Fit most held (all_batches last ts)
    pub not_past : NotPast stop (stored + kept_count (all_batches last ts))
    pub fault : end ≡ round_end.DiskFault → MayFail most stop fails (stored + kept_count (all_batches last ts))
    pub talks : ConsoleTalk f (all_said ts) w v

  -- the attempts behind one with these batches
  abbrev pub RoundBehind : Bool → ℕ → ℕ → ℕ → Option CivilMinute → Handed → Line → List MadeAttempt → RoundEnd → Line → Type 0
  RoundBehind fails made stored held last given w ts end v =
      RoundFrom fails (made + 1) (stored + kept_count given) (held + length (kept_records given)) (last_kept given last) w ts end v

  -- behind an attempt others are made, and the disk may not fail in it; or it is the last one
  abbrev pub Behind : Bool → ℕ → ℕ → ℕ → Option CivilMinute → MadeAttempt → List MadeAttempt → RoundEnd → Line → Bool → Line → Type 0
  Behind fails made stored held last t ts end v may_fail line =
      ((may_fail ≡ false) × (end_after t.end ≡ None) × RoundBehind fails made stored held last (batches_in last t) line ts end v)
      ⊎ ((may_fail ≡ fails) × (end_after t.end ≡ Some end) × (ts ≡ []) × (v ≡ line))

  -- The first attempt of a round, and what is behind it.
  pub record First (fails : Bool) (made stored held : ℕ) (last : Option CivilMinute) (w : Line) (t : MadeAttempt) (ts : List MadeAttempt)
      (end : RoundEnd) (v : Line) : Type 0 where
    pub line : Line
    pub may_fail : Bool
    pub tries : Tries most stop f stored held last may_fail w t line
    pub behind : Behind fails made stored held last t ts end v may_fail line

  module _ (fails : Bool) (made stored held : ℕ) (last : Option CivilMinute) (w : Line) (t : MadeAttempt) (ts : List MadeAttempt) (end : RoundEnd)
      (v : Line) where
    -- only in the last one the disk may fail
    only_last : (may_fail : Bool) (line : Line) → may_fail ≡ true → Behind fails made stored held last t ts end v may_fail line
        → (fails ≡ true) × (ts ≡ [])
    only_last may_fail line may (inl (safe, none, rest)) = absurd (let bad : false ≡ true = sym safe ∙ may in cc)
    only_last may_fail line may (inr (is, ends, alone, at)) = (sym is ∙ may, alone)

    module _ (h : RoundFrom fails made stored held last w (t ∷ ts) end v) (attempt : IsMadeAfter last t) where
      goes_first : end_after t.end ≡ None → AreAttempts (made + 1) (stamp_after last t) ts end → First fails made stored held last w t ts end v
      goes_first none more =
          let bs = batches last t.place t.taken in
          let given = batches_in last t in
          let rest = all_batches (stamp_after last t) ts in
          let went : given ≡ kept_all bs = went_on last t none in
          let all : all_batches last (t ∷ ts) ≡ join (kept_all bs) rest = ap (λ (x : Handed). join x rest) went in
          let parts = fit_parts most held bs rest (subst (Fit most held) all h.fits) in
          let same : stored + kept_count (all_batches last (t ∷ ts)) ≡ stored + kept_count given + kept_count rest
          = omega (arith, ap kept_count all, count_parts bs rest, ap kept_count went, ap length (kept_in_all bs)) in
          let records = ap kept_records went ∙ kept_done bs in
          let talk = talks_part f t.said (all_said ts) w v h.talks in
          record {
            line = talk.0;
            may_fail = false;
            tries = record {
              tried = attempt;
              plain = first_plain t.end none;
              talks = talk.1;
              answered = are_answered most stop false stored held given (subst (Fit most held) (sym went) parts.0)
                  (not_past_less stop (stored + kept_count (all_batches last (t ∷ ts))) (stored + kept_count given) h.not_past
                  (omega (arith, same)))
                  (λ e. absurd (let bad : reply.Done ≡ reply.DiskFault = sym (last_in last t attempt ∙ goes_on t.end none) ∙ e in cc));
            };
            behind = inl (
              refl,
              none,
              record {
                attempts = more;
                may_end = h.may_end;
                fits = subst (λ (n : ℕ). Fit most n rest) (ap (λ (l : List (List ℕ)). held + length l) (sym records)) parts.1;
                not_past = subst (NotPast stop) same h.not_past;
                fault = λ e. subst (MayFail most stop fails) same (h.fault e);
                talks = talk.2;
              },
            );
          }

      last_first : end_after t.end ≡ Some end → ts ≡ [] → First fails made stored held last w t ts end v
      last_first ends alone =
          let given = batches_in last t in
          let one : all_batches last (t ∷ ts) ≡ given = ap (λ (l : List MadeAttempt). all_batches last (t ∷ l)) alone ∙ join_none given in
          let talk : all_said (t ∷ ts) ≡ t.said = ap (λ (l : List MadeAttempt). t.said ++ all_said l) alone ∙ append-nil t.said in
          record {
            line = v;
            may_fail = fails;
            tries = record {
              tried = attempt;
              plain = last_plain t.end end ends h.may_end;
              talks = subst (λ (x : List TalkItem). ConsoleTalk f x w v) talk h.talks;
              answered = are_answered most stop fails stored held given (subst (Fit most held) one h.fits)
                  (subst (λ (x : Handed). NotPast stop (stored + kept_count x)) one h.not_past)
                  (λ e. subst (λ (x : Handed). MayFail most stop fails (stored + kept_count x)) one
                  (h.fault (last_end t.end dump_end.DiskFault end round_end.DiskFault ends
                  (fault_end t.end (sym (last_in last t attempt) ∙ e)) refl)));
            };
            behind = inr (refl, ends, alone, refl);
          }

    first_of : RoundFrom fails made stored held last w (t ∷ ts) end v → First fails made stored held last w t ts end v
    first_of h = go h.attempts
      where
        go : AreAttempts made last (t ∷ ts) end → First fails made stored held last w t ts end v
        go (less, attempt, inl (none, more)) = goes_first h attempt none more
        go (less, attempt, inr (ends, alone)) = last_first h attempt ends alone

  -- a round of no more attempts is given up
  gave_up : (fails : Bool) (made stored held : ℕ) (last : Option CivilMinute) (w : Line) (end : RoundEnd) (v : Line)
      → RoundFrom fails made stored held last w [] end v → (made ≡ most_attempts) × (end ≡ round_end.GaveUp)
  gave_up fails made stored held last w end v h = go h.attempts
    where
      go : AreAttempts made last [] end → (made ≡ most_attempts) × (end ≡ round_end.GaveUp)
      go (inl (none, before)) = absurd (not_before end before h.may_end)
      go (inr gave) = gave

  less_made : (fails : Bool) (made stored held : ℕ) (last : Option CivilMinute) (w : Line) (t : MadeAttempt) (ts : List MadeAttempt) (end : RoundEnd)
      (v : Line) → RoundFrom fails made stored held last w (t ∷ ts) end v → made < most_attempts
  less_made fails made stored held last w t ts end v h = h.attempts.0

  -- Two rounds are the same, end alike and lead to one line.
  pub record SameRound (ts us : List MadeAttempt) (ends stops : RoundEnd) (v x : Line) : Type 0 where
    pub tried : AllSame ts us
    pub end : ends ≡ stops
    pub line : v ≡ x

  -- so they are, or the disk failed in one of them
  abbrev pub Meet : Bool → Bool → List MadeAttempt → List MadeAttempt → RoundEnd → RoundEnd → Line → Line → Type 0
  Meet fails falls ts us end stops v x = SameRound ts us end stops v x ⊎ CutShort fails falls (all_said ts) (all_said us)

  none_same : (ts us : List MadeAttempt) → ts ≡ [] → us ≡ [] → AllSame ts us
  none_same ts us none nothing = subst (λ (l : List MadeAttempt). AllSame l us) (sym none) (subst (AllSame []) (sym nothing) tt)

  -- an attempt before each of two rounds
  behind_one : (fails falls : Bool) (t u : MadeAttempt) (ts us : List MadeAttempt) (end stops : RoundEnd) (v x : Line) → SameAttempt t u
      → Meet fails falls ts us end stops v x → Meet fails falls (t ∷ ts) (u ∷ us) end stops v x
  behind_one fails falls t u ts us end stops v x same (inl rounds) =
      inl (record { tried = (same, rounds.tried); end = rounds.end; line = rounds.line })
  behind_one fails falls t u ts us end stops v x same (inr cut) = inr (first_longer fails falls t u ts us same.said cut)

  -- two rounds from one place on, wherever it is
  abbrev pub BehindMeet : List MadeAttempt → List MadeAttempt → Bool → Bool → ℕ → RoundEnd → RoundEnd → Line → Line → Type 0
  BehindMeet ts us fails falls made end stops v x = (stored held : ℕ) (last : Option CivilMinute) (w : Line)
      → RoundFrom fails made stored held last w ts end v → RoundFrom falls made stored held last w us stops x → Meet fails falls ts us end stops v x

  -- two rounds from one place on
  pub rounds_meet : (ts us : List MadeAttempt) (fails falls : Bool) (made stored held : ℕ) (last : Option CivilMinute) (w : Line)
      (end stops : RoundEnd) (v x : Line) → RoundFrom fails made stored held last w ts end v → RoundFrom falls made stored held last w us stops x
      → Meet fails falls ts us end stops v x
  rounds_meet [] [] fails falls made stored held last w end stops v x one two =
      let same : end ≡ stops = (gave_up fails made stored held last w end v one).1
      ∙ sym (gave_up falls made stored held last w stops x two).1 in
      inl (record { tried = tt; end = same; line = same_Some v x (sym one.talks ∙ two.talks) })
  rounds_meet [] (u ∷ us) fails falls made stored held last w end stops v x one two =
      absurd (omega (arith, (gave_up fails made stored held last w end v one).0, less_made falls made stored held last w u us stops x two))
  rounds_meet (t ∷ ts) [] fails falls made stored held last w end stops v x one two =
      absurd (omega (arith, (gave_up falls made stored held last w stops x two).0, less_made fails made stored held last w t ts end v one))
  rounds_meet (t ∷ ts) (u ∷ us) fails falls made stored held last w end stops v x one two =
      go (λ n m after y. rounds_meet ts us fails falls (made + 1) n m after y end stops v x)
      (tries_meet most stop f stored held last p.may_fail q.may_fail w p.line q.line t u p.tries q.tries)
    where
      p : First fails made stored held last w t ts end v
      p = first_of fails made stored held last w t ts end v one

      q : First falls made stored held last w u us stops x
      q = first_of falls made stored held last w u us stops x two

      same_behind : BehindMeet ts us fails falls (made + 1) end stops v x → SameAttempt t u → p.line ≡ q.line
          → Behind fails made stored held last t ts end v p.may_fail p.line → Behind falls made stored held last u us stops x q.may_fail q.line
          → Meet fails falls (t ∷ ts) (u ∷ us) end stops v x
      same_behind again same line (inl (safe, none, rest)) (inl (sure, also, others)) =
          behind_one fails falls t u ts us end stops v x same
          (again (stored + kept_count (batches_in last t)) (held + length (kept_records (batches_in last t))) (stamp_after last t) p.line rest
          (subst (λ (y : Line). RoundBehind falls made stored held last (batches_in last t) y us stops x) (sym line)
          (subst (λ (k : Handed). RoundBehind falls made stored held last k q.line us stops x) (sym (same_handed last t u same)) others)))
      same_behind again same line (inl (safe, none, rest)) (inr (is, ends, alone, at)) =
          absurd (let bad : None ≡ Some stops = sym none ∙ (ap end_after same.end ∙ ends) in cc)
      same_behind again same line (inr (is, ends, alone, at)) (inl (safe, none, rest)) =
          absurd (let bad : Some end ≡ None = sym ends ∙ (ap end_after same.end ∙ none) in cc)
      same_behind again same line (inr (is, ends, alone, at)) (inr (are, last_too, only, there)) = inl (record {
        tried = (same, none_same ts us alone only);
        end = same_Some end stops (sym ends ∙ (ap end_after same.end ∙ last_too));
        line = at ∙ (line ∙ sym there);
      })

      go : BehindMeet ts us fails falls (made + 1) end stops v x
          → (SameAttempt t u × (p.line ≡ q.line)) ⊎ CutShort p.may_fail q.may_fail t.said u.said → Meet fails falls (t ∷ ts) (u ∷ us) end stops v x
      go again (inl same) = same_behind again same.0 same.1 p.behind q.behind
      go again (inr (inl (fault, more, is))) =
          let cut = only_last fails made stored held last w t ts end v p.may_fail p.line fault p.behind in
          let rest = longer t u ts us more cut.1 is in inr (inl (cut.0, rest.0, rest.1))
      go again (inr (inr (fault, more, is))) =
          let cut = only_last falls made stored held last w u us stops x q.may_fail q.line fault q.behind in
          let rest = longer u t us ts more cut.1 is in inr (inr (cut.0, rest.0, rest.1))
