-- How a dump ends.
use Rattle.std.proofs.Common.{◌≡◌, ◌≢◌, ℕ, ◌+◌, ◌≤◌, ◌⊎◌, List, [], ◌++◌, sym, ◌∙◌, ap, subst, inl, inr, arith, append-nil, Option, Some, ◌*◌}
use Rattle.station_base.specs.CivilMinute.{CivilMinute}
use Rattle.vantage_frames.specs.StampFrame.{stamp_frame_of}
use Rattle.serial_link.specs.Talk.{Adds}
use Rattle.serial_link.specs.declared.talk.TalkItem.{TalkItem}
use Rattle.serial_link.proofs.GrownTalk.{adds_joins}
use Rattle.causes.specs.declared.stored.Stored.{Stored}
use Rattle.causes.specs.declared.stored.Stored.TheVariants as stored
use Rattle.vantage_frames.specs.Header.{most_pages}
use Rattle.dmpaft_pump.specs.declared.outcome.DumpEnd.{DumpEnd}
use Rattle.dmpaft_pump.specs.declared.outcome.Tally.{Tally}
use Rattle.dmpaft_pump.specs.declared.pump.Pump.{Pump}
use Rattle.dmpaft_driver.specs.Attempt.{Attempt}
use Rattle.dmpaft_pump.specs.Batch.{batches, answered_batches, EndsGiving}
use Rattle.dmpaft_pump.specs.Keeper.{Handed, count, last_kept}
use Rattle.dmpaft_driver.specs.Outcome.{Ended}
use Rattle.dmpaft_driver.specs.Gathered.{Gathers, keeper_answer, dump_batches}
use Rattle.dmpaft_driver.specs.Dump.{host, Dumped}
use Rattle.dmpaft_pump.specs.Ledger.{Ledger}
use Rattle.serial_link.specs.Traffic.{Traffic}
use Rattle.dmpaft_pump.specs.Pump.{AttemptState, Over, pump_after}
use Rattle.dmpaft_pump.specs.Shown.{Tallied, all_kept, pump_answer, PumpShows}
use Rattle.dmpaft_driver.specs.Standing.{handed_over, gives}
use Rattle.dmpaft_driver.specs.Turning.{DumpDesk, Turns, EndsAt, CutsAt}
use Rattle.dmpaft_driver.proofs.DumpTurns.{none_given, batches_few, kept_few, over_shown, cut_shown, ended_as, ended_cut, cut_answer, answer_same, shown_no_astray, cut_front}
use Rattle.dmpaft_driver.proofs.Exactly.{sound}
use Rattle.dmpaft_pump.proofs.HandedBatches.{kept_answered, count_kept}
use Rattle.dmpaft_pump.proofs.PagesSoFar.{all_few}

-- A dump under way: where its attempt stands after what was said, heard and answered, and what the keeper was given.
pub record DumpSoFar {L K : Type 0} (traffic : Traffic L) (ledger : Ledger K) (start : Tally) (a : Option CivilMinute) (l0 : L) (k0 : K)
    (now : DumpDesk L K) : Type 0 where
  pub said : List TalkItem
  pub answers : List Stored
  pub state : AttemptState
  pub stands : pump_after a said answers ≡ state
  pub adds : Adds traffic l0 said now.link
  pub shown : PumpShows start a state now.pump
  pub handed : ledger.keeps k0 (handed_over a state) now.keeper
  pub newest : ledger.last now.keeper ≡ last_kept (handed_over a state) (ledger.last k0)
  pub few : ledger.room k0 ≤ ledger.room now.keeper + count (handed_over a state)

module _ {L K : Type 0} (traffic : Traffic L) (ledger : Ledger K) (start : Tally) (a : Option CivilMinute) (l0 : L) (k0 : K) (old new : DumpDesk L K)
    (i : DumpSoFar traffic ledger start a l0 k0 old) (end : DumpEnd) (v : Turns traffic ledger (Some end) start a i.state old new) where
  -- where nothing is answered, that is with the keeper which was handed over before
  given_now : (steps : Handed) → v.answers ≡ [] → handed_over a i.state ≡ steps → ledger.keeps k0 steps new.keeper
  given_now steps none e = subst (λ (y : Handed). ledger.keeps k0 y new.keeper) e (subst (λ (y : K). ledger.keeps k0 (handed_over a i.state) y) (sym (v.still (ap (gives a i.state) none ∙ none_given a i.state))) i.handed)

  gathered : (place : ℕ) (taken : List (List ℕ)) (steps : Handed) → steps ≡ dump_batches end a place taken → v.answers ≡ [] → handed_over a i.state ≡ steps → new.pump ≡ old.pump → Tallied start a place taken steps old.pump
      → (keeper_answer end ≢ stored.Done → EndsGiving a place taken) → Gathers ledger end a place taken k0 start new.keeper new.pump.tally
  gathered place taken steps e none h same tallied refused = record {
    handed = given_now (dump_batches end a place taken) none (h ∙ e);
    refused = refused;
    pages = ap (λ (x : Pump). x.tally.pages) same ∙ tallied.pages;
    skipped = ap (λ (x : Pump). x.tally.skipped) same ∙ tallied.skipped;
    last = ap (λ (x : Pump). x.tally.last) same ∙ tallied.last ∙ ap (λ (y : Handed). last_kept y start.last) e;
  }

  dumped_by : (new.pump ≡ old.pump) × (EndsAt end i.state v.said v.answers ⊎ CutsAt end a i.state v.said v.answers old.pump) → Dumped (Attempt (stamp_frame_of a)) traffic ledger a end (host l0 k0 start) (host new.link new.keeper new.pump.tally)
  dumped_by (same, inl (place, taken, e, is, end_is, none, noks)) =
      let tells = over_shown start a i.state place taken e old.pump i.shown is in
      let whole : pump_after a (i.said ++ v.said) i.answers ≡ Over place taken e = ap (λ (y : List TalkItem). pump_after a (i.said ++ y) i.answers) none ∙ ap (λ (y : List TalkItem). pump_after a y i.answers) (append-nil i.said) ∙ i.stands ∙ is in
      let answer : pump_answer e ≡ keeper_answer end = answer_same e ∙ ap keeper_answer (sym end_is) in
      record {
        said = i.said ++ v.said;
        place = place;
        taken = taken;
        ends = subst (λ (y : DumpEnd). Ended (λ u pages x. Attempt (stamp_frame_of a) u place pages x) y (i.said ++ v.said) taken) (sym end_is)
            (ended_as (λ u pages x. Attempt (stamp_frame_of a) u place pages x) e (i.said ++ v.said) taken (sound a (i.said ++ v.said) i.answers place taken e whole));
        adds = adds_joins i.adds v.adds;
        gathers = gathered place taken (answered_batches (pump_answer e) (batches a place taken)) (ap (λ (y : Stored). answered_batches y (batches a place taken)) answer) noks (ap (handed_over a) is) same tells.0 (λ ne. tells.1 (λ z. ne (sym answer ∙ z)));
      }
  dumped_by (same, inr (cut, noks, talks, stays, says)) =
      let c = cut_shown start a i.state old.pump i.shown talks in
      let f = cut_front a i.said v.said i.answers i.state c.0 c.1 i.stands (shown_no_astray start a i.state old.pump i.shown) (stays c.0 c.1 c.2) says in
      record {
        said = i.said ++ v.said;
        place = c.0;
        taken = c.1;
        ends = ended_cut (λ u pages x. Attempt (stamp_frame_of a) u c.0 pages x) end cut (i.said ++ v.said) c.1 f;
        adds = adds_joins i.adds v.adds;
        gathers = gathered c.0 c.1 (all_kept a c.0 c.1) (sym (kept_answered (batches a c.0 c.1)) ∙ ap (λ (y : Stored). answered_batches y (batches a c.0 c.1)) (sym (cut_answer end cut))) noks c.4 same c.3 (λ ne. absurd (ne (cut_answer end cut)));
      }

  pub dumped : Dumped (Attempt (stamp_frame_of a)) traffic ledger a end (host l0 k0 start) (host new.link new.keeper new.pump.tally)
  dumped = dumped_by v.turns

  Few : Type 0
  Few = (ledger.room k0 ≤ ledger.room new.keeper + most_pages) × (new.pump.tally.pages ≤ start.pages + most_pages) × (new.pump.tally.skipped ≤ start.skipped + 5 * most_pages)

  few_by : (new.pump ≡ old.pump) × (EndsAt end i.state v.said v.answers ⊎ CutsAt end a i.state v.said v.answers old.pump) → Few
  unfolding Few
  few_by (same, inl (place, taken, e, is, end_is, none, noks)) =
      let tells = over_shown start a i.state place taken e old.pump i.shown is in (
        omega (arith, i.few, v.few, ap count (ap (λ (y : List Stored). gives a i.state y) noks ∙ none_given a i.state), ap count (ap (handed_over a) is), kept_few (pump_answer e) a place taken, tells.0.bounded),
        omega (arith, ap (λ (x : Pump). x.tally.pages) same, tells.0.pages, tells.0.bounded),
        omega (arith, ap (λ (x : Pump). x.tally.skipped) same, tells.0.skipped, all_few place taken, tells.0.bounded),
      )
  few_by (same, inr (cut, noks, talks, stays, says)) =
      let c = cut_shown start a i.state old.pump i.shown talks in (
        omega (arith, i.few, v.few, ap count (ap (λ (y : List Stored). gives a i.state y) noks ∙ none_given a i.state), ap count c.4, count_kept (batches a c.0 c.1), batches_few a c.0 c.1, c.3.bounded),
        omega (arith, ap (λ (x : Pump). x.tally.pages) same, c.3.pages, c.3.bounded),
        omega (arith, ap (λ (x : Pump). x.tally.skipped) same, c.3.skipped, all_few c.0 c.1, c.3.bounded),
      )

  -- one dump takes no more than one dump can
  pub few : (ledger.room k0 ≤ ledger.room new.keeper + most_pages) × (new.pump.tally.pages ≤ start.pages + most_pages) × (new.pump.tally.skipped ≤ start.skipped + 5 * most_pages)
  unfolding Few
  few = few_by v.turns
