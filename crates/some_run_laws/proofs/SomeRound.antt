-- On whatever line a round goes to an end.
use Rattle.std.proofs.Common.{◌≡◌, ◌≢◌, ℕ, zero, suc, ◌+◌, ◌<◌, ◌⊎◌, inl, inr, List, [], ◌∷◌, length, Option}
use Rattle.std.proofs.Common.{Some, None, refl, sym, ◌∙◌, ap, subst, arith, append-nil}
use Rattle.station_base.specs.CivilMinute.{CivilMinute}
use Rattle.vantage_frames.specs.StampFrame.{stamp_frame_of}
use Rattle.causes.specs.declared.stored.Stored.TheVariants as stored
use Rattle.dmpaft_pump.specs.declared.pump_end.PumpEnd.{PumpEnd}
use Rattle.dmpaft_pump.specs.declared.pump_end.PumpEnd.TheVariants as pump_end
use Rattle.dmpaft_driver.specs.Attempt.{Attempt}
use Rattle.dmpaft_driver.specs.Gathered.{keeper_answer}
use Rattle.dmpaft_pump.specs.Batch.{batches}
use Rattle.dmpaft_pump.specs.Keeper.{Handed, join}
use Rattle.dmpaft_driver.specs.Turning.{dump_end_of}
use Rattle.dmpaft_driver.proofs.DumpTurns.{ended_as}
use Rattle.dmpaft_driver.proofs.Exactly.{sound}
use Rattle.dmpaft_pump.proofs.HandedBatches.{join_none, kept_in_all}
use Rattle.station_session.specs.declared.round_end.RoundEnd.{RoundEnd}
use Rattle.station_session.specs.declared.round_end.RoundEnd.TheVariants as round_end
use Rattle.station_session.specs.Attempts.{MadeAttempt, AreAttempts, IsMadeAfter, end_after, batches_in, stamp_after, most_attempts}
use Rattle.station_session.specs.Attempts.{all_batches, all_said}
use Rattle.station_session.specs.Batches.{kept_records, kept_count, Fit}
use Rattle.station_session.proofs.Ends.{went_on}
use Rattle.station_session.proofs.Parts.{count_parts}
use Rattle.schedule_file.specs.Fates.{FatesByNumber}
use Rattle.station_sim.specs.Joining.{talks_join}
use Rattle.station_sim.specs.Line.{Line}
use Rattle.station_sim.specs.Talk.{console_talk, ConsoleTalk}
use Rattle.schedule_file.specs.declared.schedule.step.Stop.{Stop}
use Rattle.replay_laws.specs.Session.{NotPast, ComesAt, IsKnown}
use Rattle.some_run_laws.proofs.KeeperAnswers.{fit_joins}
use Rattle.some_run_laws.proofs.SomeAttempt.{attempt_ends}

-- it ends as a round of a run does, or it floods
abbrev pub IsFollowed : RoundEnd → Type 0
IsFollowed end = IsKnown end ⊎ (end ≡ round_end.Flood)

module _ (most : ℕ) (stop : Option Stop) (f : FatesByNumber) where
  -- an attempt after this stamp, with so many rows held and so many batches stored before it
  pub record Tries (last : Option CivilMinute) (held before : ℕ) (w : Line) : Type 0 where
    pub tried : MadeAttempt
    pub made : IsMadeAfter last tried
    pub end : PumpEnd
    pub end_is : tried.end ≡ dump_end_of end
    pub line : Line
    pub talks : ConsoleTalk f tried.said w line
    pub fresh : keeper_answer tried.end ≢ stored.Stale
    pub fits : Fit most held (batches_in last tried)
    pub not_past : NotPast stop (before + kept_count (batches_in last tried))
    pub at : keeper_answer tried.end ≡ stored.DiskFault → ComesAt stop (before + kept_count (batches_in last tried))

  -- there is one on whatever line
  tries : (last : Option CivilMinute) (held before : ℕ) (w : Line) → NotPast stop before → Tries last held before w
  tries last held before w not_past =
      let y = attempt_ends last most held before stop f not_past w in
      record {
        tried = record { said = y.talk; place = y.place; taken = y.taken; end = dump_end_of y.end };
        made = record {
          ends = ended_as (λ t pages e. Attempt (stamp_frame_of last) t y.place pages e) y.end y.talk y.taken
              (sound last y.talk y.answers y.place y.taken y.end y.over);
          refused = y.kept.gives;
        };
        end = y.end;
        end_is = refl;
        line = y.line;
        talks = y.talks;
        fresh = y.kept.fresh;
        fits = y.kept.fits;
        not_past = y.kept.not_past;
        at = y.kept.at;
      }

  -- a round from here, so many attempts being made
  pub record Rounds (made : ℕ) (last : Option CivilMinute) (held before : ℕ) (w : Line) : Type 0 where
    pub tried : List MadeAttempt
    pub end : RoundEnd
    pub line : Line
    pub attempts : AreAttempts made last tried end
    pub followed : IsFollowed end
    pub talks : ConsoleTalk f (all_said tried) w line
    pub fits : Fit most held (all_batches last tried)
    pub not_past : NotPast stop (before + kept_count (all_batches last tried))
    pub at : end ≡ round_end.DiskFault → ComesAt stop (before + kept_count (all_batches last tried))

  -- `most_attempts` attempts were made
  three_made : (made : ℕ) (last : Option CivilMinute) (held before : ℕ) (w : Line) → made ≡ most_attempts → NotPast stop before
      → Rounds made last held before w
  three_made made last held before w three not_past =
      let same : before ≡ before + 0 = omega arith in
      record {
        tried = [];
        end = round_end.GaveUp;
        line = w;
        attempts = inr (three, refl);
        followed = inl tt;
        talks = refl;
        fits = tt;
        not_past = subst (NotPast stop) same not_past;
        at = λ e. cc;
      }

  -- a round ends with an attempt
  last_one : (made : ℕ) (last : Option CivilMinute) (held before : ℕ) (w : Line) → made < most_attempts
      → (x : Tries last held before w) (end : RoundEnd) → end_after x.tried.end ≡ Some end → IsFollowed end
      → (end ≡ round_end.DiskFault → keeper_answer x.tried.end ≡ stored.DiskFault) → Rounds made last held before w
  last_one made last held before w less x end ends followed fault =
      let same = sym (join_none (batches_in last x.tried)) in
      record {
        tried = x.tried ∷ [];
        end = end;
        line = x.line;
        attempts = (less, x.made, inr (ends, refl));
        followed = followed;
        talks = ap (λ t. console_talk f t w) (append-nil x.tried.said) ∙ x.talks;
        fits = subst (λ (ss : Handed). Fit most held ss) same x.fits;
        not_past = subst (λ (ss : Handed). NotPast stop (before + kept_count ss)) same x.not_past;
        at = λ e. subst (λ (ss : Handed). ComesAt stop (before + kept_count ss)) same (x.at (fault e));
      }

  -- a round goes on after an attempt that failed
  one_more : (made : ℕ) (last : Option CivilMinute) (held before : ℕ) (w : Line) → made < most_attempts
      → (x : Tries last held before w) → end_after x.tried.end ≡ None
      → Rounds (made + 1) (stamp_after last x.tried) (held + length (kept_records (batches_in last x.tried)))
      (before + kept_count (batches_in last x.tried)) x.line → Rounds made last held before w
  one_more made last held before w less x ends y =
      let here = batches_in last x.tried in
      let rest = all_batches (stamp_after last x.tried) y.tried in
      let bs = batches last x.tried.place x.tried.taken in
      let all = went_on last x.tried ends in
      let both = ap (λ (ss : Handed). kept_count (join ss rest)) all in
      let count : before + kept_count here + kept_count rest ≡ before + kept_count (join here rest)
      = omega (arith, both, count_parts bs rest, ap kept_count all, ap length (kept_in_all bs)) in
      record {
        tried = x.tried ∷ y.tried;
        end = y.end;
        line = y.line;
        attempts = (less, x.made, inl (ends, y.attempts));
        followed = y.followed;
        talks = talks_join f x.tried.said (all_said y.tried) w x.line y.line x.talks y.talks;
        fits = fit_joins most held here rest x.fits y.fits;
        not_past = subst (NotPast stop) count y.not_past;
        at = λ e. subst (ComesAt stop) count (y.at e);
      }

  -- what an attempt that ends so makes of a round
  ends_with : (made : ℕ) (last : Option CivilMinute) (held before : ℕ) (w : Line) → made < most_attempts
      → (x : Tries last held before w) → (end : PumpEnd) → x.tried.end ≡ dump_end_of end
      → Rounds (made + 1) (stamp_after last x.tried) (held + length (kept_records (batches_in last x.tried)))
      (before + kept_count (batches_in last x.tried)) x.line → Rounds made last held before w
  ends_with made last held before w less x pump_end.Whole is later =
      last_one made last held before w less x round_end.Done (ap end_after is) (inl tt) (λ e. cc)
  ends_with made last held before w less x (pump_end.Failed trouble) is later =
      one_more made last held before w less x (ap end_after is) later
  ends_with made last held before w less x pump_end.Full is later =
      last_one made last held before w less x round_end.ArchiveFull (ap end_after is) (inl tt) (λ e. cc)
  ends_with made last held before w less x pump_end.Stale is later = absurd (x.fresh (ap keeper_answer is))
  ends_with made last held before w less x pump_end.DiskFault is later =
      last_one made last held before w less x round_end.DiskFault (ap end_after is) (inl tt) (λ e. ap keeper_answer is)
  ends_with made last held before w less x pump_end.Flood is later =
      last_one made last held before w less x round_end.Flood (ap end_after is) (inr refl) (λ e. cc)

  -- a round from here, with so many attempts more at most
  rounds : (left made : ℕ) → made + left ≡ most_attempts → (last : Option CivilMinute) (held before : ℕ) (w : Line)
      → NotPast stop before → Rounds made last held before w
  rounds zero made count last held before w not_past =
      three_made made last held before w (omega (arith, count)) not_past
  rounds (suc left) made count last held before w not_past =
      let x = tries last held before w not_past in
      ends_with made last held before w (omega (arith, count)) x x.end x.end_is
      (rounds left (made + 1) (omega (arith, count)) (stamp_after last x.tried)
      (held + length (kept_records (batches_in last x.tried))) (before + kept_count (batches_in last x.tried)) x.line
      x.not_past)

  -- a round on whatever line
  pub round_ends : (last : Option CivilMinute) (held : ℕ) (w : Line) → Rounds 0 last held 0 w
  round_ends last held w = rounds most_attempts 0 (omega arith) last held 0 w (none_past stop)
    where
      none_past : (s : Option Stop) → NotPast s 0
      none_past None = tt
      none_past (Some s) = omega arith
