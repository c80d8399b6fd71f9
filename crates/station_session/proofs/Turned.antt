-- Where a round stands after a turn, or how it ended.
use Rattle.std.proofs.Common.{◌≡◌, ◌≢◌, ◌⊎◌, ℕ, ◌+◌, ◌<◌, inl, inr, List, [], ◌∷◌, ◌++◌, length, refl, sym, ◌∙◌, ap, subst, arith, append-nil, append_assoc, Option, Some, None}
use Rattle.serial_link.specs.Traffic.{Traffic}
use Rattle.disk_model.specs.Medium.{Medium}
use Rattle.serial_link.specs.declared.talk.TalkItem.{TalkItem}
use Rattle.station_base.specs.CivilMinute.{CivilMinute}
use Rattle.settings_file.specs.StationSettings.{StationSettings}
use Rattle.causes.specs.declared.stored.Stored.{Stored}
use Rattle.causes.specs.declared.stored.Stored.TheVariants as stored
use Rattle.dmpaft_driver.specs.Attempt.{End}
use Rattle.dmpaft_driver.specs.Exact.{AllDone, attempt_end}
use Rattle.dmpaft_pump.specs.Keeper.{Handed, kept_all, join, last_kept}
use Rattle.dmpaft_pump.specs.Pump.{AttemptState, Hearing, Keeping, Over, Settling, begun, pump_from, answered_by, batch_of}
use Rattle.dmpaft_pump.specs.Shown.{PumpShows, end_at}
use Rattle.dmpaft_driver.specs.Standing.{handed_over, gives}
use Rattle.dmpaft_driver.specs.Turning.{IsOneStep, DumpIsCut, EndsAt, CutsAt, dump_end_of}
use Rattle.dmpaft_pump.specs.declared.outcome.DumpEnd.{DumpEnd}
use Rattle.dmpaft_pump.specs.declared.outcome.DumpEnd.TheVariants as dump_end
use Rattle.dmpaft_pump.specs.declared.outcome.Tally.{Tally}
use Rattle.dmpaft_pump.specs.declared.outcome.Trouble.{Trouble}
use Rattle.dmpaft_pump.specs.declared.pump.Pump.{Pump}
use Rattle.dmpaft_pump.specs.declared.pump_end.PumpEnd.{PumpEnd}
use Rattle.dmpaft_pump.specs.declared.pump_end.PumpEnd.TheVariants as pump_end
use Rattle.dmpaft_driver.proofs.DumpTurns.{goes_on, handed_turn, none_given, shown_no_astray}
use Rattle.dmpaft_driver.proofs.SilentEnds.{Mild}
use Rattle.dmpaft_pump.proofs.HandedBatches.{join_assoc, join_none, kept_join}
use Rattle.dmpaft_driver.proofs.Trials.{all_done, mild_runs}
use Rattle.station_session.specs.declared.report.Report.{Report}
use Rattle.station_session.specs.declared.round.Round.{Round}
use Rattle.station_session.specs.declared.round_end.RoundEnd.{RoundEnd}
use Rattle.station_session.specs.declared.round_end.RoundEnd.TheVariants as round_end
use Rattle.station_session.specs.Attempts.{MadeAttempt, AreAttempts, end_after, stamp_behind, all_batches, all_said, most_attempts}
use Rattle.station_session.specs.Batches.{last_answer}
use Rattle.station_session.specs.Round.{IsTally}
use Rattle.station_session.specs.RoundAt.{AllFailed, HasFailed, RoundAt, tally_of}
use Rattle.station_session.specs.Stepping.{Bench, StepsAttempt, StaysAt, TriesAgain, IsRefused, Notes, refused_by, round_end_of}
use Rattle.station_session.specs.Troubles.{trouble_of, troubles_of}
use Rattle.station_session.specs.Turning.{IsOneCallOrBatch, IsOneAtMost, EndsRound}
use Rattle.station_session.proofs.Brought.{Brought, over_brought, ended_brought}
use Rattle.station_session.proofs.Rounds.{all, all_length, said_is, given_is, troubles_is, all_pages, counted, tally_is, all_failed, round_ends, gives_up, behind_is}
use Rattle.station_session.proofs.Ends.{answer_at, last_one}
use Rattle.station_session.proofs.SoFar.{end_shown, over_at_end, never_refused}

refused_after : (e : PumpEnd) (end : RoundEnd) → refused_by e ≡ Some end → end_after (dump_end_of e) ≡ Some end
refused_after pump_end.Full end h = h
refused_after pump_end.Stale end h = h
refused_after pump_end.DiskFault end h = h
refused_after pump_end.Whole end h = cc
refused_after (pump_end.Failed trouble) end h = cc
refused_after pump_end.Flood end h = cc

refused_is : (e : PumpEnd) (end : RoundEnd) → refused_by e ≡ Some end → attempt_end e ≡ End.Refused
refused_is pump_end.Full end h = refl
refused_is pump_end.Stale end h = refl
refused_is pump_end.DiskFault end h = refl
refused_is pump_end.Whole end h = cc
refused_is (pump_end.Failed trouble) end h = cc
refused_is pump_end.Flood end h = cc

refused_quietly : (e : PumpEnd) (end : RoundEnd) → refused_by e ≡ Some end → trouble_of (dump_end_of e) ≡ []
refused_quietly pump_end.Full end h = refl
refused_quietly pump_end.Stale end h = refl
refused_quietly pump_end.DiskFault end h = refl
refused_quietly pump_end.Whole end h = cc
refused_quietly (pump_end.Failed trouble) end h = cc
refused_quietly pump_end.Flood end h = cc

mild_answer : (e : PumpEnd) → attempt_end e ≢ End.Refused → answer_at (round_end_of (dump_end_of e)) ≡ stored.Done
mild_answer pump_end.Whole h = refl
mild_answer (pump_end.Failed trouble) h = refl
mild_answer pump_end.Flood h = refl
mild_answer pump_end.Full h = absurd (h refl)
mild_answer pump_end.Stale h = absurd (h refl)
mild_answer pump_end.DiskFault h = absurd (h refl)

cut_answer : (end : DumpEnd) → DumpIsCut end → answer_at (round_end_of end) ≡ stored.Done
cut_answer end (inl c) = ap (λ (x : DumpEnd). answer_at (round_end_of x)) c
cut_answer end (inr c) = ap (λ (x : DumpEnd). answer_at (round_end_of x)) c

-- an end after which none follows, but a failure, ends the round as it tells
pub fails_or_ends : (end : DumpEnd) → (end_after end ≡ None) ⊎ (end_after end ≡ Some (round_end_of end))
fails_or_ends dump_end.Whole = inr refl
fails_or_ends (dump_end.Failed trouble) = inl refl
fails_or_ends dump_end.Full = inr refl
fails_or_ends dump_end.Stale = inr refl
fails_or_ends dump_end.DiskFault = inr refl
fails_or_ends dump_end.Flood = inr refl
fails_or_ends dump_end.LinkFault = inr refl
fails_or_ends dump_end.OutOfMemory = inr refl

failed_gives_up : (end : DumpEnd) → end_after end ≡ None → round_end_of end ≡ round_end.GaveUp
failed_gives_up (dump_end.Failed trouble) h = refl
failed_gives_up dump_end.Whole h = cc
failed_gives_up dump_end.Full h = cc
failed_gives_up dump_end.Stale h = cc
failed_gives_up dump_end.DiskFault h = cc
failed_gives_up dump_end.Flood h = cc
failed_gives_up dump_end.LinkFault h = cc
failed_gives_up dump_end.OutOfMemory h = cc

failure : (e : PumpEnd) → end_after (dump_end_of e) ≡ None → (trouble : Trouble) × (e ≡ pump_end.Failed trouble)
failure (pump_end.Failed trouble) h = (trouble, refl)
failure pump_end.Whole h = cc
failure pump_end.Full h = cc
failure pump_end.Stale h = cc
failure pump_end.DiskFault h = cc
failure pump_end.Flood h = cc

not_cut : (end : DumpEnd) → DumpIsCut end → end_after end ≡ None → ⊥
not_cut end (inl c) h = let z : end_after dump_end.LinkFault ≡ None = sym (ap end_after c) ∙ h in cc
not_cut end (inr c) h = let z : end_after dump_end.OutOfMemory ≡ None = sym (ap end_after c) ∙ h in cc

-- what a refusal is at the state of the pump
refusal_at : (k : Stored) → k ≢ stored.Done → (a : Option CivilMinute) (more place : ℕ) (taken : List (List ℕ)) → (e : PumpEnd) × (end : RoundEnd) × (answered_by a more place taken k ≡ Over place taken e) × (refused_by e ≡ Some end) × (k ≡ answer_at end)
refusal_at stored.Done ne a more place taken = absurd (ne refl)
refusal_at stored.Full ne a more place taken = (pump_end.Full, round_end.ArchiveFull, refl, refl, refl)
refusal_at stored.Stale ne a more place taken = (pump_end.Stale, round_end.Stale, refl, refl, refl)
refusal_at stored.DiskFault ne a more place taken = (pump_end.DiskFault, round_end.DiskFault, refl, refl, refl)

-- batches that were kept, and more of them
pub kept_on : (kept more : List (List (List ℕ))) (given : Handed) → given ≡ kept_all more → join (kept_all kept) given ≡ kept_all (kept ++ more)
kept_on kept more given e = ap (λ (x : Handed). join (kept_all kept) x) e ∙ sym (kept_join kept more)

pub is_done : (k : Stored) → (k ≡ stored.Done) ⊎ (k ≢ stored.Done)
is_done stored.Done = inl refl
is_done stored.Full = inr (λ e. cc)
is_done stored.Stale = inr (λ e. cc)
is_done stored.DiskFault = inr (λ e. cc)

module _ (start : Tally) (a : Option CivilMinute) (s : AttemptState) (t : List TalkItem) (ks : List Stored) (pump : Pump) (shown : PumpShows start a (pump_from a s t ks) pump) where
  -- where the batch was not refused, it was kept
  pub not_refused : ((e : PumpEnd) → end_at pump.stage ≡ Some e → refused_by e ≡ None) → IsOneStep a s t ks → AllDone ks × (more : List (List (List ℕ))) × (gives a s ks ≡ kept_all more) × IsOneCallOrBatch t more
  not_refused mild (inl (none, call)) = (subst AllDone (sym none) tt, [], ap (gives a s) none ∙ none_given a s, inl (call, refl))
  not_refused mild (inr (none, k, is, more, place, taken, page, at, some)) = elim (is_done k) [
    | inl done ↦
        let one : ks ≡ stored.Done ∷ [] = is ∙ ap (λ (x : Stored). x ∷ []) done in
        let rows = batch_of a place taken page in
        (subst AllDone (sym one) (refl, tt), rows ∷ [], ap (λ (x : AttemptState). gives a x ks) at ∙ ap (gives a (Keeping more place taken page)) one, inr (none, rows, refl))
    | inr ne ↦
        let r = refusal_at k ne a more place (taken ++ page ∷ []) in
        let over : pump_from a s t ks ≡ Over place (taken ++ page ∷ []) r.0 =
        ap (λ (x : AttemptState). pump_from a x t ks) at ∙ ap (λ (x : List TalkItem). pump_from a (Keeping more place taken page) x ks) none ∙ ap (λ (x : List Stored). pump_from a (Keeping more place taken page) [] x) is ∙ r.2 in
        let z : None ≡ Some r.1 = sym (mild r.0 (end_shown start a (pump_from a s t ks) pump shown place (taken ++ page ∷ []) r.0 over)) ∙ r.3 in
        absurd cc
  ]

  -- one batch was given at most
  pub one_at_most : IsOneStep a s t ks → IsOneAtMost t (gives a s ks)
  one_at_most (inl (none, call)) = inl (ap (gives a s) none ∙ none_given a s)
  one_at_most (inr (none, k, is, more, place, taken, page, at, some)) =
      inr (none, k, batch_of a place taken page, ap (λ (x : AttemptState). gives a x ks) at ∙ ap (gives a (Keeping more place taken page)) is)

module _ {last : Option CivilMinute} {talk : List TalkItem} {kept : List (List (List ℕ))} {round : Round} (r : RoundAt last talk kept round) where
  abbrev start : Tally
  start = tally_of last r.tries

  abbrev a : Option CivilMinute
  a = stamp_behind last r.tries

  less : length r.tries < most_attempts
  less = omega (arith, r.few)

  -- the attempt that is over, behind those that failed
  module _ (t : List TalkItem) (given : Handed) (s : AttemptState) (end : DumpEnd) (tally : Tally) (b : Brought start a (r.said ++ t) end (handed_over a s) tally)
      (more_given : handed_over a s ≡ join (handed_over a r.state) given) where
    tries : List MadeAttempt
    tries = all last r.tries (r.said ++ t) end (handed_over a s) tally r.failed less b

    talk_is : talk ++ t ≡ all_said tries
    unfolding tries
    talk_is =
        ap (λ (x : List TalkItem). x ++ t) r.talk_is ∙ append_assoc (all_said r.tries) r.said t
        ∙ sym (said_is last r.tries (r.said ++ t) end (handed_over a s) tally r.failed less b)

    kept_are : join (kept_all kept) given ≡ all_batches last tries
    unfolding tries
    kept_are =
        ap (λ (x : Handed). join x given) r.kept_are ∙ join_assoc (all_batches last r.tries) (handed_over a r.state) given
        ∙ ap (λ (x : Handed). join (all_batches last r.tries) x) (sym more_given)
        ∙ sym (given_is last r.tries (r.said ++ t) end (handed_over a s) tally r.failed less b)

    troubles_are : (noted : List Trouble) → noted ≡ round.troubles.items ++ trouble_of end → noted ≡ troubles_of tries
    unfolding tries
    troubles_are noted is =
        is ∙ ap (λ (x : List Trouble). x ++ trouble_of end) r.troubles ∙ sym (troubles_is last r.tries (r.said ++ t) end (handed_over a s) tally r.failed less b)

    pub ends_round : (e : RoundEnd) → (end_after end ≡ Some e) ⊎ ((end_after end ≡ None) × (e ≡ round_end.GaveUp) × (round.more ≡ 0)) → (report : Report) → report.attempts + round.more ≡ most_attempts → report.tally ≡ tally
        → report.troubles.items ≡ round.troubles.items ++ trouble_of end → EndsRound last (talk ++ t) (join (kept_all kept) given) e report
    unfolding tries
    ends_round e how report made counts noted = record {
      tries = tries;
      attempts = ended how;
      talk_is = talk_is;
      given_are = kept_are;
      made = omega (arith, made, r.few, all_length last r.tries (r.said ++ t) end (handed_over a s) tally r.failed less b);
      some = omega (arith, made, r.few);
      few = omega (arith, ap (λ (x : Tally). x.pages) counts, b.pages, b.few, r.pages, r.few);
      tally = subst (λ (x : Tally). IsTally last tries x) (sym counts) (counted last r.tries (r.said ++ t) end (handed_over a s) tally r.failed less b);
      troubles = troubles_are report.troubles.items noted;
    }
      where
        ended : (end_after end ≡ Some e) ⊎ ((end_after end ≡ None) × (e ≡ round_end.GaveUp) × (round.more ≡ 0)) → AreAttempts 0 last tries e
        ended (inl is) = round_ends last r.tries (r.said ++ t) end (handed_over a s) tally r.failed less b e is
        ended (inr (none, is, zero)) =
            subst (λ (x : RoundEnd). AreAttempts 0 last (all last r.tries (r.said ++ t) end (handed_over a s) tally r.failed less b) x) (sym is)
            (gives_up last r.tries (r.said ++ t) end (handed_over a s) tally r.failed less b none (omega (arith, zero, r.few)))

    -- it failed, and the next one begins
    pub again : (now : List (List (List ℕ))) → given ≡ kept_all now → (mid : Round) → end_after end ≡ None → mid.more ≡ round.more → mid.pump.tally ≡ tally → (o : Option CivilMinute) → o ≡ last_kept (join (kept_all kept) given) last
        → (round' : Round) → round.more ≡ round'.more + 1 → PumpShows tally o (begun o Settling) round'.pump → round'.troubles.items ≡ round.troubles.items ++ trouble_of end → RoundAt last (talk ++ t) (kept ++ now) round'
    unfolding tries
    again now all_kept mid none more counts o is round' fewer shows noted =
        let failed : AllFailed last tries = all_failed last r.tries (r.said ++ t) end (handed_over a s) tally r.failed less b none in
        let stamp : stamp_behind last tries ≡ o = behind_is last tries failed ∙ ap (λ (x : Handed). last_kept x last) (sym kept_are) ∙ sym is in
        let same : tally ≡ tally_of last tries = tally_is last r.tries (r.said ++ t) end (handed_over a s) tally r.failed less b in
        record {
          tries = tries;
          failed = failed;
          few = omega (arith, fewer, r.few, all_length last r.tries (r.said ++ t) end (handed_over a s) tally r.failed less b);
          pages = omega (arith, r.pages, all_length last r.tries (r.said ++ t) end (handed_over a s) tally r.failed less b, all_pages last r.tries (r.said ++ t) end (handed_over a s) tally r.failed less b);
          said = [];
          answers = [];
          state = begun (stamp_behind last tries) Settling;
          stands = refl;
          done = tt;
          shows = subst (λ (x : Option CivilMinute). PumpShows (tally_of last tries) x (begun x Settling) round'.pump) (sym stamp) (subst (λ (x : Tally). PumpShows x o (begun o Settling) round'.pump) same shows);
          goes_on = λ f. let z : Hearing Settling [] 0 ≡ Over f.0 f.1 (pump_end.Failed f.2) = f.3 in cc;
          talk_is = talk_is ∙ sym (append-nil (all_said tries));
          kept_are = sym (kept_on kept now given all_kept) ∙ kept_are ∙ sym (join_none (all_batches last tries));
          troubles = troubles_are round'.troubles.items noted;
        }

  -- a step after which nothing ended
  module _ {L D : Type 0} {traffic : Traffic L} {medium : Medium D} {settings : StationSettings} {old new : Bench L D} (same : old.pump ≡ round.pump) (v : StepsAttempt traffic medium settings None start a r.state old new) where
    abbrev state : AttemptState
    state = pump_from a r.state v.said v.answers

    -- the round goes on, and what it was given was kept
    abbrev GoesOnBy : Round → Type 0
    GoesOnBy round' =
        (more : List (List (List ℕ))) × (gives a r.state v.answers ≡ kept_all more) × RoundAt last (talk ++ v.said) (kept ++ more) round' × IsOneCallOrBatch v.said more

    given_more : handed_over a (pump_from a r.state v.said v.answers) ≡ join (handed_over a r.state) (gives a r.state v.answers)
    given_more = handed_turn a r.state v.said v.answers (shown_no_astray start a state new.pump v.turns.0) v.turns.1

    at : Rattle.dmpaft_pump.specs.Pump.pump_after a (r.said ++ v.said) (r.answers ++ v.answers) ≡ pump_from a r.state v.said v.answers
    at = goes_on a r.said v.said r.answers v.answers r.state r.stands (shown_no_astray start a r.state round.pump r.shows)

    -- the attempt goes on
    pub stays : (mid round' : Round) → mid.pump ≡ new.pump → mid.more ≡ round.more → mid.troubles.items ≡ round.troubles.items → StaysAt mid round' → GoesOnBy round'
    stays mid round' pump more noted (is, mild, zero) =
        let shown : PumpShows start a state mid.pump = subst (λ (x : Pump). PumpShows start a state x) (sym pump) v.turns.0 in
        let one = not_refused start a r.state v.said v.answers mid.pump shown mild v.turns.1 in (
          one.1,
          one.2,
          subst (λ (x : Round). RoundAt last (talk ++ v.said) (kept ++ one.1) x) (sym is) (record {
            tries = r.tries;
            failed = r.failed;
            few = omega (arith, r.few, more);
            pages = r.pages;
            said = r.said ++ v.said;
            answers = r.answers ++ v.answers;
            state = state;
            stands = at;
            done = all_done a r.answers v.answers r.done one.0;
            shows = shown;
            goes_on = λ f. zero f.2 (end_shown start a state mid.pump shown f.0 f.1 (pump_end.Failed f.2) f.3);
            talk_is = ap (λ (x : List TalkItem). x ++ v.said) r.talk_is ∙ append_assoc (all_said r.tries) r.said v.said;
            kept_are =
                sym (kept_on kept one.1 (gives a r.state v.answers) one.2)
                ∙ ap (λ (x : Handed). join x (gives a r.state v.answers)) r.kept_are ∙ join_assoc (all_batches last r.tries) (handed_over a r.state) (gives a r.state v.answers)
                ∙ ap (λ (x : Handed). join (all_batches last r.tries) x) (sym given_more);
            troubles = noted ∙ r.troubles;
          }),
          one.3,
        )

    -- the attempt ended so
    brought : (e : PumpEnd) → end_at new.pump.stage ≡ Some e → Brought start a (r.said ++ v.said) (dump_end_of e) (handed_over a (pump_from a r.state v.said v.answers)) new.pump.tally
    brought e is =
        let o = over_at_end start a state new.pump v.turns.0 e is in
        over_brought start a (r.said ++ v.said) (r.answers ++ v.answers) state new.pump at v.turns.0 o.0 o.1 e o.2

    -- it failed, and the next one begins
    pub tries_again : (mid round' : Round) → mid.pump ≡ new.pump → mid.more ≡ round.more → mid.troubles.items ≡ round.troubles.items → (o : Option CivilMinute) → o ≡ last_kept (join (kept_all kept) (gives a r.state v.answers)) last → TriesAgain o mid round' → GoesOnBy round'
    tries_again mid round' pump more before o is (trouble, failed, fewer, shows, noted) =
        let ended : end_at new.pump.stage ≡ Some (pump_end.Failed trouble) = sym (ap (λ (x : Pump). end_at x.stage) pump) ∙ failed in
        let b = brought (pump_end.Failed trouble) ended in
        let mild : (e : PumpEnd) → end_at new.pump.stage ≡ Some e → refused_by e ≡ None =
        λ e k. let z : Some (pump_end.Failed trouble) ≡ Some e = sym ended ∙ k in let w : pump_end.Failed trouble ≡ e = cc in sym (ap refused_by w) in
        let one = not_refused start a r.state v.said v.answers new.pump v.turns.0 mild v.turns.1 in
        let counts : mid.pump.tally ≡ new.pump.tally = ap (λ (x : Pump). x.tally) pump in (
          one.1,
          one.2,
          again v.said (gives a r.state v.answers) state (dump_end.Failed trouble) new.pump.tally b given_more one.1 one.2 mid refl more counts o is round' (omega (arith, fewer, more))
              (subst (λ (x : Tally). PumpShows x o (begun o Settling) round'.pump) counts shows)
              (noted ∙ ap (λ (x : List Trouble). x ++ trouble ∷ []) before),
          one.3,
        )

    -- where each batch was kept the attempt is over by no refusal
    not_mild : AllDone v.answers → (e : PumpEnd) → end_at new.pump.stage ≡ Some e → (end : RoundEnd) → refused_by e ≡ Some end → ⊥
    not_mild done e is end refused =
        let o = over_at_end start a state new.pump v.turns.0 e is in
        let mild : attempt_end e ≢ End.Refused = subst Mild (at ∙ o.2) (mild_runs a (begun a Settling) (r.said ++ v.said) (r.answers ++ v.answers) tt (all_done a r.answers v.answers r.done done)) in
        mild (refused_is e end refused)

    -- the batch that was refused was answered so
    pub refused_batch : (mid round' : Round) → mid.pump ≡ new.pump → (end : RoundEnd) → IsRefused end mid round' → last_answer (gives a r.state v.answers) ≡ answer_at end
    refused_batch mid round' pump end (same, e, at_end, refused) =
        let ended : end_at new.pump.stage ≡ Some e = sym (ap (λ (x : Pump). end_at x.stage) pump) ∙ at_end in
        by_step ended v.turns.1
      where
        by_step : end_at new.pump.stage ≡ Some e → IsOneStep a r.state v.said v.answers → last_answer (gives a r.state v.answers) ≡ answer_at end
        by_step ended (inl (none, call)) = absurd (not_mild (subst AllDone (sym none) tt) e ended end refused)
        by_step ended (inr (none, k, is, more, place, taken, page, keeps, some)) = elim (is_done k) [
          | inl done ↦ absurd (not_mild (subst AllDone (sym (is ∙ ap (λ (x : Stored). x ∷ []) done)) (refl, tt)) e ended end refused)
          | inr ne ↦
              let x = refusal_at k ne a more place (taken ++ page ∷ []) in
              let over : pump_from a r.state v.said v.answers ≡ Over place (taken ++ page ∷ []) x.0 =
              ap (λ (y : AttemptState). pump_from a y v.said v.answers) keeps ∙ ap (λ (y : List TalkItem). pump_from a (Keeping more place taken page) y v.answers) none ∙ ap (λ (y : List Stored). pump_from a (Keeping more place taken page) [] y) is ∙ x.2 in
              let y : Some x.0 ≡ Some e = sym (end_shown start a state new.pump v.turns.0 place (taken ++ page ∷ []) x.0 over) ∙ ended in
              let z : x.0 ≡ e = cc in
              let w : Some x.1 ≡ Some end = sym x.3 ∙ ap refused_by z ∙ refused in
              let u : x.1 ≡ end = cc in
              ap last_answer (ap (λ (q : AttemptState). gives a q v.answers) keeps ∙ ap (gives a (Keeping more place taken page)) is) ∙ last_one k (batch_of a place taken page) ∙ x.4 ∙ ap answer_at u
        ]

    -- its batch was refused
    pub refuses : (mid round' : Round) → mid.pump ≡ new.pump → mid.more ≡ round.more → mid.troubles.items ≡ round.troubles.items → (end : RoundEnd) → IsRefused end mid round' → (report : Report) → report.attempts + round'.more ≡ most_attempts → report.tally ≡ round'.pump.tally
        → report.troubles.items ≡ round'.troubles.items → EndsRound last (talk ++ v.said) (join (kept_all kept) (gives a r.state v.answers)) end report × IsOneAtMost v.said (gives a r.state v.answers)
    refuses mid round' pump more before end (is, e, at_end, refused) report made counts noted =
        let ended : end_at new.pump.stage ≡ Some e = sym (ap (λ (x : Pump). end_at x.stage) pump) ∙ at_end in
        let b = brought e ended in
        let tallies : round'.pump.tally ≡ new.pump.tally = ap (λ (x : Round). x.pump.tally) is ∙ ap (λ (x : Pump). x.tally) pump in
        let left : round'.more ≡ round.more = ap (λ (x : Round). x.more) is ∙ more in (
          ends_round v.said (gives a r.state v.answers) state (dump_end_of e) new.pump.tally b given_more end (inl (refused_after e end refused)) report (omega (arith, made, left)) (counts ∙ tallies)
              (noted ∙ ap (λ (x : Round). x.troubles.items) is ∙ before ∙ sym (append-nil round.troubles.items) ∙ ap (λ (x : List Trouble). round.troubles.items ++ x) (sym (refused_quietly e end refused))),
          one_at_most start a r.state v.said v.answers new.pump v.turns.0 v.turns.1,
        )

  -- a step that answered the end
  module _ {L D : Type 0} {traffic : Traffic L} {medium : Medium D} {settings : StationSettings} {old new : Bench L D} (same : old.pump ≡ round.pump) (end : DumpEnd) (v : StepsAttempt traffic medium settings (Some end) start a r.state old new) where
    none_was_given : EndsAt end r.state v.said v.answers ⊎ CutsAt end a r.state v.said v.answers old.pump → gives a r.state v.answers ≡ Handed.Nothing
    none_was_given (inl (place, taken, e, is, end_is, none, noks)) = ap (gives a r.state) noks ∙ none_given a r.state
    none_was_given (inr (cut, noks, talks, stays, says)) = ap (gives a r.state) noks ∙ none_given a r.state

    has_failed : EndsAt end r.state v.said v.answers ⊎ CutsAt end a r.state v.said v.answers old.pump → end_after end ≡ None → HasFailed r.state
    has_failed (inl (place, taken, e, is, end_is, none, noks)) h = let f = failure e (sym (ap end_after end_is) ∙ h) in (place, taken, f.0, is ∙ ap (λ (x : PumpEnd). Over place taken x) f.1)
    has_failed (inr (cut, noks, talks, stays, says)) h = absurd (not_cut end cut h)

    pub no_batch : gives a r.state v.answers ≡ Handed.Nothing
    no_batch = none_was_given v.turns.1

    -- and none was refused before
    pub mild_end : answer_at (round_end_of end) ≡ stored.Done
    mild_end = by_end v.turns.1
      where
        by_end : EndsAt end r.state v.said v.answers ⊎ CutsAt end a r.state v.said v.answers old.pump → answer_at (round_end_of end) ≡ stored.Done
        by_end (inl (place, taken, e, is, end_is, none, noks)) = ap (λ (x : DumpEnd). answer_at (round_end_of x)) end_is ∙ mild_answer e (never_refused r place taken e is)
        by_end (inr (cut, noks, talks, stays, says)) = cut_answer end cut

    pub ends : (mid round' : Round) → mid.pump ≡ new.pump → mid.more ≡ round.more → mid.troubles.items ≡ round.troubles.items → Notes end mid round' → (report : Report) → report.attempts + round'.more ≡ most_attempts → report.tally ≡ round'.pump.tally
        → report.troubles.items ≡ round'.troubles.items → EndsRound last (talk ++ v.said) (join (kept_all kept) (gives a r.state v.answers)) (round_end_of end) report × IsOneAtMost v.said (gives a r.state v.answers)
    ends mid round' pump more before is report made counts noted =
        let how = subst (λ (x : Pump). EndsAt end r.state v.said v.answers ⊎ CutsAt end a r.state v.said v.answers x) same v.turns.1 in
        let b : Brought start a (r.said ++ v.said) end (handed_over a r.state) round.pump.tally = ended_brought start a r.said r.answers r.state round.pump r.stands r.shows v.said v.answers end how in
        let all_given : handed_over a r.state ≡ join (handed_over a r.state) (gives a r.state v.answers) = sym (join_none (handed_over a r.state)) ∙ ap (λ (x : Handed). join (handed_over a r.state) x) (sym no_batch) in
        let tallies : round'.pump.tally ≡ round.pump.tally = ap (λ (x : Pump). x.tally) (is.0 ∙ pump ∙ v.turns.0 ∙ same) in
        let left : round'.more ≡ round.more = is.1 ∙ more in
        let by : (end_after end ≡ Some (round_end_of end)) ⊎ ((end_after end ≡ None) × (round_end_of end ≡ round_end.GaveUp) × (round.more ≡ 0)) = elim (fails_or_ends end) [
          | inl none ↦ inr (none, failed_gives_up end none, r.goes_on (has_failed v.turns.1 none))
          | inr some ↦ inl some
        ] in (
          ends_round v.said (gives a r.state v.answers) r.state end round.pump.tally b all_given (round_end_of end) by report (omega (arith, made, left)) (counts ∙ tallies)
              (noted ∙ is.2 ∙ ap (λ (x : List Trouble). x ++ trouble_of end) before),
          inl no_batch,
        )

pub link_fault : (d : DumpEnd) → round_end_of d ≡ round_end.LinkFault → d ≡ dump_end.LinkFault
link_fault dump_end.LinkFault e = refl
link_fault dump_end.Whole e = cc
link_fault (dump_end.Failed trouble) e = cc
link_fault dump_end.Full e = cc
link_fault dump_end.Stale e = cc
link_fault dump_end.DiskFault e = cc
link_fault dump_end.Flood e = cc
link_fault dump_end.OutOfMemory e = cc

pub no_memory : (d : DumpEnd) → round_end_of d ≡ round_end.OutOfMemory → d ≡ dump_end.OutOfMemory
no_memory dump_end.OutOfMemory e = refl
no_memory dump_end.Whole e = cc
no_memory (dump_end.Failed trouble) e = cc
no_memory dump_end.Full e = cc
no_memory dump_end.Stale e = cc
no_memory dump_end.DiskFault e = cc
no_memory dump_end.Flood e = cc
no_memory dump_end.LinkFault e = cc

-- a refusal is an answer of the book
pub no_link_end : (e : PumpEnd) → (refused_by e ≡ Some round_end.LinkFault → ⊥) × (refused_by e ≡ Some round_end.OutOfMemory → ⊥)
no_link_end pump_end.Full = (λ h. cc, λ h. cc)
no_link_end pump_end.Stale = (λ h. cc, λ h. cc)
no_link_end pump_end.DiskFault = (λ h. cc, λ h. cc)
no_link_end pump_end.Whole = (λ h. cc, λ h. cc)
no_link_end (pump_end.Failed trouble) = (λ h. cc, λ h. cc)
no_link_end pump_end.Flood = (λ h. cc, λ h. cc)
