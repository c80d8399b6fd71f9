-- What an attempt brought, where it is over or the link failed.
use Rattle.std.proofs.Common.{◌≡◌, ◌⊎◌, ℕ, ◌+◌, ◌≤◌, true, inl, inr, List, ◌++◌, length, sym, ◌∙◌, ap, subst, append-nil, Option}
use Rattle.station_base.specs.CivilMinute.{CivilMinute}
use Rattle.serial_link.specs.declared.talk.TalkItem.{TalkItem}
use Rattle.vantage_frames.specs.StampFrame.{stamp_frame_of}
use Rattle.causes.specs.declared.stored.Stored.{Stored}
use Rattle.vantage_frames.specs.Header.{most_pages}
use Rattle.dmpaft_driver.specs.Attempt.{End, Attempt}
use Rattle.dmpaft_pump.specs.Batch.{batches, answered_batches, all_skipped}
use Rattle.dmpaft_driver.specs.Gathered.{dump_batches}
use Rattle.dmpaft_pump.specs.Keeper.{Handed, last_kept}
use Rattle.dmpaft_driver.specs.OneAttempt.{IsAttempt}
use Rattle.dmpaft_pump.specs.Pump.{AttemptState, Over, pump_after}
use Rattle.dmpaft_pump.specs.Shown.{pump_answer, PumpShows, talks_at}
use Rattle.dmpaft_driver.specs.Standing.{handed_over}
use Rattle.dmpaft_driver.specs.Turning.{dump_end_of, DumpIsCut, AttemptStays, SaysLast, EndsAt, CutsAt}
use Rattle.dmpaft_pump.specs.declared.outcome.DumpEnd.{DumpEnd}
use Rattle.dmpaft_pump.specs.declared.outcome.Tally.{Tally}
use Rattle.dmpaft_pump.specs.declared.pump.Pump.{Pump}
use Rattle.dmpaft_pump.specs.declared.pump_end.PumpEnd.{PumpEnd}
use Rattle.dmpaft_driver.proofs.DumpTurns.{over_shown, cut_shown, ended_as, ended_cut, cut_answer, answer_same, shown_no_astray, cut_front}
use Rattle.dmpaft_driver.proofs.Exactly.{sound}
use Rattle.dmpaft_pump.proofs.HandedBatches.{kept_answered}

-- the attempt of this talk, the batches that it gave, and its part of the tally
pub record Brought (start : Tally) (a : Option CivilMinute) (talk : List TalkItem) (end : DumpEnd) (given : Handed) (tally : Tally) : Type 0 where
  pub place : ℕ
  pub taken : List (List ℕ)
  pub attempt : IsAttempt a talk place taken end
  pub given_are : dump_batches end a place taken ≡ given
  pub few : length taken ≤ most_pages
  pub pages : tally.pages ≡ start.pages + length taken
  pub skipped : tally.skipped ≡ start.skipped + all_skipped place taken
  pub newest : tally.last ≡ last_kept given start.last

abbrev grammar : Option CivilMinute → ℕ → List TalkItem → List (List ℕ) → End → Type 0
grammar a place u pages x = Attempt (stamp_frame_of a) u place pages x

module _ (start : Tally) (a : Option CivilMinute) (t : List TalkItem) (ks : List Stored) (s : AttemptState) (pump : Pump) (at : pump_after a t ks ≡ s) (shown : PumpShows start a s pump) where
  -- it is over
  pub over_brought : (place : ℕ) (taken : List (List ℕ)) (e : PumpEnd) → s ≡ Over place taken e → Brought start a t (dump_end_of e) (handed_over a s) pump.tally
  over_brought place taken e is =
      let tells = over_shown start a s place taken e pump shown is in
      let answer = answer_same e in
      let given : handed_over a s ≡ answered_batches (pump_answer e) (batches a place taken) = ap (handed_over a) is in
      record {
        place = place;
        taken = taken;
        attempt = record {
          ends = ended_as (grammar a place) e t taken (sound a t ks place taken e (at ∙ is));
          refused = λ ne. tells.1 (λ z. ne (sym answer ∙ z));
        };
        given_are = ap (λ (y : Stored). answered_batches y (batches a place taken)) (sym answer) ∙ sym given;
        few = tells.0.bounded;
        pages = tells.0.pages;
        skipped = tells.0.skipped;
        newest = tells.0.last ∙ ap (λ (y : Handed). last_kept y start.last) (sym given);
      }

  -- the link failed
  pub cut_brought : (u : List TalkItem) (end : DumpEnd) → DumpIsCut end → talks_at pump.stage ≡ true → AttemptStays a s u → SaysLast a s u → Brought start a (t ++ u) end (handed_over a s) pump.tally
  cut_brought u end cut talks stays says =
      let c = cut_shown start a s pump shown talks in
      let f = cut_front a t u ks s c.0 c.1 at (shown_no_astray start a s pump shown) (stays c.0 c.1 c.2) says in
      record {
        place = c.0;
        taken = c.1;
        attempt = record {
          ends = ended_cut (grammar a c.0) end cut (t ++ u) c.1 f;
          refused = λ ne. absurd (ne (cut_answer end cut));
        };
        given_are = ap (λ (y : Stored). answered_batches y (batches a c.0 c.1)) (cut_answer end cut) ∙ kept_answered (batches a c.0 c.1) ∙ sym c.4;
        few = c.3.bounded;
        pages = c.3.pages;
        skipped = c.3.skipped;
        newest = c.3.last ∙ ap (λ (y : Handed). last_kept y start.last) (sym c.4);
      }

  -- nothing more is to be done, or the link failed
  pub ended_brought : (u : List TalkItem) (answers : List Stored) (end : DumpEnd) → EndsAt end s u answers ⊎ CutsAt end a s u answers pump → Brought start a (t ++ u) end (handed_over a s) pump.tally
  ended_brought u answers end (inl (place, taken, e, is, end_is, none, noks)) =
      let talk : t ≡ t ++ u = sym (append-nil t) ∙ ap (λ (y : List TalkItem). t ++ y) (sym none) in
      subst (λ (y : List TalkItem). Brought start a y end (handed_over a s) pump.tally) talk
      (subst (λ (y : DumpEnd). Brought start a t y (handed_over a s) pump.tally) (sym end_is) (over_brought place taken e is))
  ended_brought u answers end (inr (cut, noks, talks, stays, says)) = cut_brought u end cut talks stays says
